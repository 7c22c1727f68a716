use Rattle.moo_world_table.proofs.Staying.{world_stays}
use Rattle.moo_world.proofs.Raising.{unmoved}
use Rattle.moo_world.proofs.laws.the_same_parent_changes_nothing.Goals as goal

pub returns : goal.returns
returns c = record {
  raises = unmoved c.args.world.now c.args.x c.args.p c.is_well_formed.ensures c.requires;
  world = world_stays c.args.world.now c.args.x c.args.p c.is_well_formed.ensures c.requires;
}
