use Rattle.std.proofs.Common.{refl}
use Rattle.moo_syntax_node.proofs.StatementRows.{row_block}
use Rattle.moo_eval_control.proofs.handling.handler_parts.Goals as goal

pub returns-in-Except : goal.returns-in-Except
returns-in-Except c = λ hs. rw (c.in-Except.is, row_block, ← c.deref.ensures.value) refl

pub returns-in-ExceptAs : goal.returns-in-ExceptAs
returns-in-ExceptAs c = λ hs. rw (c.in-ExceptAs.is, row_block, ← c.deref-in-ExceptAs.ensures.value) refl
