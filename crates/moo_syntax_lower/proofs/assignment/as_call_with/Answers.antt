use Rattle.std.proofs.Common.{refl}
use Rattle.moo_syntax_ast.proofs.Rows.{row_items}
use Rattle.moo_syntax_lower.proofs.assignment.as_call_with.Goals as goal

pub returns-then-is_spelled_as : goal.returns-then-is_spelled_as
returns-then-is_spelled_as c = rw (c.in-Call.is, row_items, ← c.deref-then-is_spelled_as.ensures.value) refl
