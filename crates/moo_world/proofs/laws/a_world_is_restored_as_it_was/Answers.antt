use Rattle.moo_world_table.proofs.Restored.{restored_same}
use Rattle.moo_world.proofs.laws.a_world_is_restored_as_it_was.Goals as goal

pub returns : goal.returns
returns c = restored_same c.args.world.now c.is_well_formed.ensures
