use Rattle.moo_value.specs.Compare.{folded}
use Rattle.moo_world.proofs.Lost.{undefined}
use Rattle.moo_world.proofs.laws.a_deleted_property_is_gone_below.Goals as goal

pub returns : goal.returns
returns c = undefined c.args.world.now c.args.x c.requires (folded c.args.name.now)
