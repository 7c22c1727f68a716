use Rattle.std.proofs.Common.{refl}
use Rattle.moo_syntax_node.proofs.Rows.{row_items}
use Rattle.moo_eval_access.proofs.target.root_alone.Goals as goal

pub returns-in-List : goal.returns-in-List
returns-in-List c = rw (c.in-List.is, row_items, ← c.deref.ensures.value) refl

pub returns-in-Constant : goal.returns-in-Constant
returns-in-Constant c = rw c.in-Constant.is refl
