use Rattle.moo_world_table.proofs.WellFormed.{empty_counted}
use Rattle.moo_world.proofs.World.empty.Goals as goal

pub invariant_of-result : goal.invariant_of-result
invariant_of-result c = rw (c.new.ensures.items, c.new-2.ensures, c.new-3.ensures, c.new-4.ensures.items) empty_counted
