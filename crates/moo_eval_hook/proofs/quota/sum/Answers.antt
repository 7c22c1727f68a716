use Rattle.std.proofs.Common.{rules}
use Rattle.std.proofs.lemmas.Int.{wraps}
use Rattle.moo_eval_hook.proofs.quota.sum.Goals as goal

pub returns : goal.returns
returns c = search (rules, wraps)
