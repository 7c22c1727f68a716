use Rattle.std.proofs.Common.{Err, sym, refl, subst}
use Rattle.std.proofs.lemmas.Result.{err_from_is_err_and}
use Rattle.moo_value.specs.View.{tree}
use Rattle.moo_eval_frame.specs.Seen.{failure_of}
use Rattle.moo_eval_access.specs.Target.{named}
use Rattle.moo_eval_access.specs.SeenTarget.{steps_of}
use Rattle.moo_builtin.specs.Telling.{Faults}
use Rattle.moo_eval_semantics.specs.Meaning.{Stores, no_store, stores, puts_variable}
use Rattle.moo_eval_task.proofs.Exits.{same_state}
use Rattle.moo_eval_task.specs.Seen.{state_of}
use Rattle.moo_eval_task.proofs.task.Task.store_variable.Goals as goal

pub returns : goal.returns
returns c =
    let h = c.in_ok-set_variable.ensures.ok in
    λ k w m. stores h.1 (puts_variable (same_state (sym h.2) refl))

pub returns-in_err-set_variable : goal.returns-in_err-set_variable
returns-in_err-set_variable c =
    let p = err_from_is_err_and c.from_residual.result c.from_residual.ensures.1 in
    rw (p.1, p.2) (λ k w m. subst (λ s. Stores Faults k (named c.args.name.now) (steps_of c.args.steps.items) (tree c.args.value) (state_of c.args.self.now w c.args.active.now) (Err (failure_of c.in_err-set_variable.field-0.0)) s) (same_state (sym (c.in_err-set_variable.ensures.kept m)) refl) (no_store (c.in_err-set_variable.ensures.err m)))
