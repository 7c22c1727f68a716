use Rattle.moo_value.specs.Compare.{folded}
use Rattle.moo_value.specs.View.{tree}
use Rattle.moo_world.proofs.Values.{value_set_where}
use Rattle.moo_world.proofs.laws.a_set_value_is_read.Goals as goal

pub returns : goal.returns
returns c = value_set_where c.args.world.now c.args.x (folded c.args.name.now) (tree c.args.value.now) c.is_well_formed.ensures c.requires.object c.requires.defined
