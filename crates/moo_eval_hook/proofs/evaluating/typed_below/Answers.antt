use Rattle.std.proofs.Common.{rules, w32}
use mir.Val.{SFits}
use Rattle.std.proofs.lemmas.Int.{to_z-of_z}
use Rattle.moo_eval_access.specs.SeenCalled.{entered_of}
use Rattle.moo_eval_hook.specs.SeenByHooks.{calling_of}
use Rattle.moo_eval_hook.proofs.Evaluated.{typed_so}
use Rattle.moo_eval_hook.proofs.evaluating.typed_below.Goals as goal

pub returns : goal.returns
returns c =
    let f : SFits w32 c.args.active.now.programmer = search rules in
    let g : SFits w32 c.args.stack.now.running.player = search rules in
    let h : SFits w32 c.args.stack.now.running.this = search rules in
    typed_so (entered_of c.through.result) (calling_of c.args.stack.now c.args.active.now) c.args.program (entered_of c.in_ok-called.called) c.in_ok-frame.frame _ _ _ c.through.ensures c.in_ok-called.ensures c.in_ok-frame.ensures
    (to_z-of_z w32 c.args.active.now.programmer f) (to_z-of_z w32 c.args.stack.now.running.player g) (to_z-of_z w32 c.args.stack.now.running.this h)
