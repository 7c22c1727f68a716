use Rattle.std.proofs.Common.{refl}
use Rattle.moo_syntax_ast.proofs.Rows.{row_items}
use Rattle.moo_syntax_lower.proofs.assignment.as_list.Goals as goal

pub returns-in-List : goal.returns-in-List
returns-in-List c = rw (c.in-List.is, row_items, ← c.deref.ensures.value) refl
