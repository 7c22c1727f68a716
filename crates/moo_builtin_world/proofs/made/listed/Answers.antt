use Rattle.moo_builtin_value.proofs.Making.{weaker}
use Rattle.moo_builtin_world.proofs.made.listed.Goals as goal

pub returns : goal.returns
returns c = weaker _ _ c.list.ensures
