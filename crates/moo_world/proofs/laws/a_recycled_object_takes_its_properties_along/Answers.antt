use Rattle.moo_world.proofs.Lost.{without}
use Rattle.moo_world.proofs.laws.a_recycled_object_takes_its_properties_along.Goals as goal

pub returns : goal.returns
returns c = without c.args.world.now c.args.x c.requires
