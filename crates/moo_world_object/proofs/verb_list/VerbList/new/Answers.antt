use Rattle.std.proofs.Common.{arith}
use Rattle.moo_world_object.proofs.verb_list.VerbList.new.Goals as goal

pub invariant_of-result : goal.invariant_of-result
invariant_of-result c = rw (c.new-2.ensures.items, c.new-3.ensures.items) (tt, tt, λ i v low. absurd (omega (arith, low)))
