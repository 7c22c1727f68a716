use Rattle.std.proofs.Common.{sym, ◌∙◌, arith}
use Rattle.moo_world_object.proofs.Names.{prefix_same}
use Rattle.moo_world_object.proofs.name.is_same_part.Goals as goal

pub returns : goal.returns
returns c = λ begins. prefix_same c.args.one.now c.args.other.now (omega arith) (sym c.starts_with.ensures.value ∙ begins)
