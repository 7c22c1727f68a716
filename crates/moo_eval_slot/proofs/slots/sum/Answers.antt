use Rattle.std.proofs.Common.{rules}
use Rattle.std.proofs.lemmas.Int.{wraps}
use Rattle.moo_eval_slot.proofs.slots.sum.Goals as goal

pub returns : goal.returns
returns c = search (rules, wraps)
