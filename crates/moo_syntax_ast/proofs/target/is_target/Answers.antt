use Rattle.moo_syntax_ast.proofs.Rows.{row_items}
use Rattle.moo_syntax_ast.proofs.target.is_target.Goals as goal

pub returns-in-List : goal.returns-in-List
returns-in-List c = rw (c.in-List.is, row_items) (rw c.deref-in-List.ensures.value at c.is_scatter.ensures)
