use Rattle.moo_value.specs.Compare.{folded}
use Rattle.moo_world_table.proofs.Valued.{read_defined}
use Rattle.moo_world.proofs.laws.a_defined_property_has_a_value.Goals as goal

pub returns : goal.returns
returns c = read_defined c.args.world.now c.args.x (folded c.args.name.now) c.is_well_formed.ensures
