use Rattle.std.proofs.Common.{◌∙◌, ap, sym, rules, w32}
use mir.Val.{SFits}
use Rattle.std.proofs.lemmas.Int.{to_z-of_z}
use Rattle.std.proofs.lemmas.Result.{err_from_is_err_and}
use Rattle.moo_eval_semantics.specs.declared.stage.Stage.TheVariants.{Passed}
use Rattle.moo_eval_semantics.specs.Passing.{run_by, passing}
use Rattle.moo_eval_hook.proofs.passing.pass.Goals as goal

pub returns-in_err-called : goal.returns-in_err-called
unfolding passing
returns-in_err-called c =
    let f : SFits w32 c.args.stack.now.running.definer = search rules in
    let definer = to_z-of_z w32 c.args.stack.now.running.definer f in
    let g : SFits w32 c.args.stack.now.running.this = search rules in
    let this = to_z-of_z w32 c.args.stack.now.running.this g in
    let h : SFits w32 c.parent-from.result = search rules in
    let from = to_z-of_z w32 c.parent-from.result h ∙ simp definer at c.parent-from.ensures in
    let p = err_from_is_err_and c.from_residual.result c.from_residual.ensures.1 in
    rw (p.1, p.2) (λ k. ap (run_by Passed) (simp (this, from) at (c.in_err-called.ensures k)))

pub returns : goal.returns
unfolding passing
returns c =
    let f : SFits w32 c.args.stack.now.running.definer = search rules in
    let definer = to_z-of_z w32 c.args.stack.now.running.definer f in
    let g : SFits w32 c.args.stack.now.running.this = search rules in
    let this = to_z-of_z w32 c.args.stack.now.running.this g in
    let h : SFits w32 c.parent-from.result = search rules in
    let from = to_z-of_z w32 c.parent-from.result h ∙ simp definer at c.parent-from.ensures in
    λ k. ap (run_by Passed) (simp (this, from) at (c.in_ok-called.ensures tt)) ∙ sym c.in_ok-verb_next.ensures
