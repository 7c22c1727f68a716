use Rattle.moo_world.proofs.Contents.{contents_fit}
use Rattle.moo_world.proofs.laws.contents_are_within_the_limits.Goals as goal

pub returns : goal.returns
returns c = contents_fit c.args.world.now c.is_well_formed.ensures c.args.x
