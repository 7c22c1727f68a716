use Rattle.std.proofs.Common.{◌∷◌, []}
use Rattle.moo_value.specs.View.{tree}
use Rattle.moo_eval_slot.specs.Bindings.{bind}
use Rattle.moo_eval_frame.specs.Seen.{failure_of}
use Rattle.moo_eval_control.proofs.Told.{bound_ok, bound_fails}
use Rattle.moo_eval_control.proofs.handling.set_caught.Goals as goal

pub returns-in_ok-set-in-Ok-clause-ok : goal.returns-in_ok-set-in-Ok-clause-ok
returns-in_ok-set-in-Ok-clause-ok c =
    (bind c.in-Some.name.now (tree c.in-Ok.value) ∷ [], rw c.in-Some.is (bound_ok c.in-Some.name.now _ _ (c.in-Ok.ensures tt)), c.in_ok-set-in-Ok.ensures)

pub returns-in-Err-clause-err : goal.returns-in-Err-clause-err
returns-in-Err-clause-err c =
    λ k. (failure_of c.in-Err.failure, rw c.in-Some.is (bound_fails c.in-Some.name.now _ _ (c.in-Err.ensures (c.raised.ensures.known k))), c.raised.ensures.stop k)
