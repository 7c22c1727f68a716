use Rattle.std.proofs.Common.{position, ap, ◌∙◌}
use Rattle.moo_syntax_ast.specs.Slots.{slots}
use Rattle.moo_eval_slot.proofs.Names.{is_own}
use Rattle.moo_eval_slot.proofs.slots.searched_slot.Goals as goal

pub returns : goal.returns
returns c = c.in_ok-slot.ensures ∙ ap (λ n. position (is_own n) (slots c.args.program.now)) c.as_bytes.ensures.value

pub returns-in_err-slot : goal.returns-in_err-slot
returns-in_err-slot c = rw c.from_residual.ensures (c.in_err-slot.ensures ∙ ap (λ n. position (is_own n) (slots c.args.program.now)) c.as_bytes.ensures.value)
