use Rattle.moo_world_table.proofs.Restored.{restored_well_formed}
use Rattle.moo_world.proofs.laws.what_is_restored_is_well_formed.Goals as goal

pub returns : goal.returns
returns c = restored_well_formed c.args.objects.now c.args.parents.now c.args.places.now c.args.players.now c.requires
