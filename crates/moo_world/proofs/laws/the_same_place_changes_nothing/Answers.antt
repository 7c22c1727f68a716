use Rattle.moo_world_table.proofs.Staying.{place_stays}
use Rattle.moo_world.proofs.Raising.{left_there}
use Rattle.moo_world.proofs.laws.the_same_place_changes_nothing.Goals as goal

pub returns : goal.returns
returns c = record {
  raises = left_there c.args.world.now c.args.x c.args.to c.is_well_formed.ensures c.requires;
  world = place_stays c.args.world.now c.args.x c.args.to c.is_well_formed.ensures c.requires;
}
