use Rattle.std.proofs.Common.{refl}
use Rattle.moo_syntax_node.proofs.Rows.{row_items}
use Rattle.moo_eval_access.proofs.form.list_form.Goals as goal

pub returns-in-List : goal.returns-in-List
returns-in-List c = rw (c.in-List.is, row_items, ← c.deref.ensures.value) c.items_form.ensures

pub returns-in-Call : goal.returns-in-Call
returns-in-Call c = rw (c.in-Call.is, row_items, ← c.deref-in-Call.ensures.value) refl
