use Rattle.std.proofs.Common.{◌∙◌, sym, rules, w32}
use mir.Val.{SFits}
use Rattle.std.proofs.lemmas.Int.{to_z-of_z}
use Rattle.std.proofs.lemmas.Result.{err_from_is_err_and}
use Rattle.moo_eval_semantics.specs.Evaluating.{forbidden}
use Rattle.moo_eval_hook.specs.SeenByHooks.{calling_of}
use Rattle.moo_eval_hook.proofs.Evaluated.{runs, tells}
use Rattle.moo_eval_hook.proofs.evaluating.evaluate_text.Goals as goal

pub returns-then-not-is_programmer : goal.returns-then-not-is_programmer
returns-then-not-is_programmer c =
    let f : SFits w32 c.args.active.now.programmer = search rules in
    let programmer = to_z-of_z w32 c.args.active.now.programmer f in
    λ k. forbidden (simp programmer at (sym c.is_programmer.ensures ∙ c.if-not-is_programmer.true))

pub returns-in-Ok : goal.returns-in-Ok
returns-in-Ok c =
    let f : SFits w32 c.args.active.now.programmer = search rules in
    let programmer = to_z-of_z w32 c.args.active.now.programmer f in
    let may = simp programmer at (sym c.is_programmer.ensures ∙ c.if-not-is_programmer.false) in
    λ k. runs (calling_of c.args.stack.now c.args.active.now) c.args.world.now c.args.text.now c.in_ok-text.text c.in_ok-text.ensures may c.in-Ok.program _ c.in-Ok.ensures.program (c.program_next.ensures k)

pub returns : goal.returns
returns c =
    let f : SFits w32 c.args.active.now.programmer = search rules in
    let programmer = to_z-of_z w32 c.args.active.now.programmer f in
    let may = simp programmer at (sym c.is_programmer.ensures ∙ c.if-not-is_programmer.false) in
    λ k. tells (calling_of c.args.stack.now c.args.active.now) c.args.world.now c.args.text.now c.in_ok-text.text c.in_ok-text.ensures may c.in-Err.fault _ c.in-Err.ensures.fault (c.in_ok-no_program-in-Err.ensures.kind tt) (c.in_ok-no_program-in-Err.ensures.text tt)

pub returns-in_err-no_program-in-Err : goal.returns-in_err-no_program-in-Err
returns-in_err-no_program-in-Err c =
    let f : SFits w32 c.args.active.now.programmer = search rules in
    let programmer = to_z-of_z w32 c.args.active.now.programmer f in
    let may = simp programmer at (sym c.is_programmer.ensures ∙ c.if-not-is_programmer.false) in
    let p = err_from_is_err_and c.from_residual-in_err-no_program-in-Err.result c.from_residual-in_err-no_program-in-Err.ensures.1 in
    rw (p.1, p.2) (λ k. tells (calling_of c.args.stack.now c.args.active.now) c.args.world.now c.args.text.now c.in_ok-text.text c.in_ok-text.ensures may c.in-Err.fault _ c.in-Err.ensures.fault (c.in_err-no_program-in-Err.ensures.kind k) (c.in_err-no_program-in-Err.ensures.text k))
