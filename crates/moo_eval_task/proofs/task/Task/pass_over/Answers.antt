use Rattle.std.proofs.Common.{◌∙◌, None, sym, subst}
use Rattle.std.proofs.lemmas.Result.{err_from_is_err_and}
use Rattle.moo_eval_frame.specs.Seen.{context_of}
use Rattle.moo_builtin.specs.Telling.{Faults}
use Rattle.moo_eval_semantics.specs.Meaning.{Proceeds}
use Rattle.moo_eval_task.proofs.Hooking.{passed_over, same_step}
use Rattle.moo_eval_task.proofs.task.Task.pass_over.Goals as goal

pub returns-in_err-next-in-Ok-clause-meaning : goal.returns-in_err-next-in-Ok-clause-meaning
returns-in_err-next-in-Ok-clause-meaning c =
    let p = err_from_is_err_and c.from_residual.result c.from_residual.ensures.1 in
    rw (p.1, p.2) (λ k r u d. c.idle.invariant.rest r u (passed_over c.idle.next c.in-Ok.stage r u c.in-Ok.ensures.ok (subst (λ x. Proceeds Faults (context_of c.args.stack.now None) x.0 x.1 r u) (sym (c.in_err-next-in-Ok.ensures.call k)) d)))

pub idle-preserved : goal.idle-preserved
idle-preserved c =
    record { ticks = c.in_ok-next-in-Ok.ensures.ticks ∙ c.idle.invariant.ticks; rest = λ r u d. c.idle.invariant.rest r u (passed_over c.idle.next c.in-Ok.stage r u c.in-Ok.ensures.ok (subst (λ x. Proceeds Faults (context_of c.args.stack.now None) x.0 x.1 r u) (sym (c.in_ok-next-in-Ok.ensures.call tt)) d)) }

pub returns-in-Err-clause-meaning : goal.returns-in-Err-clause-meaning
returns-in-Err-clause-meaning c =
    λ k r u d. c.idle.invariant.rest r u (same_step c.in-Err.ensures.same d)
