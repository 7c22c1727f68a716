use Rattle.std.proofs.Common.{refl}
use Rattle.moo_syntax_node.proofs.Rows.{row_items}
use Rattle.moo_syntax_lower.proofs.expression.list_node.Goals as goal

pub returns-in-None : goal.returns-in-None
returns-in-None c = rw (row_items) refl
