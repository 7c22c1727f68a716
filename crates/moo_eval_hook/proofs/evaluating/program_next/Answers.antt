use Rattle.std.proofs.Common.{◌∙◌, sym}
use Rattle.moo_eval_access.specs.SeenCalled.{entered_of}
use Rattle.moo_eval_hook.specs.SeenByHooks.{calling_of}
use Rattle.moo_eval_hook.proofs.Evaluated.{has_room}
use Rattle.moo_eval_hook.proofs.evaluating.program_next.Goals as goal

pub returns : goal.returns
returns c =
    let left = sym c.has_frame_left.ensures ∙ c.if-not-has_frame_left.false in
    λ k. has_room (calling_of c.args.stack.now c.args.active.now) c.args.program (entered_of c.in_ok-called.called) left c.in_ok-called.ensures ∙ sym c.in_ok-verb_next.ensures
