use Rattle.std.proofs.Common.{rules}
use Rattle.std.proofs.lemmas.Int.{wraps}
use Rattle.moo_builtin_operator.proofs.arithmetic.sum.Goals as goal

pub returns : goal.returns
returns c = search (rules, wraps)
