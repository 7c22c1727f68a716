-- Measuring takes no memory.
use Rattle.std.proofs.Common.{◌≡◌, Err, ap}
use Rattle.moo_value.specs.Tree.{Tree, integer, object, error, string, list}
use Rattle.moo_builtin_operator.specs.declared.fault.OperationFault.{OperationFault}
use Rattle.moo_builtin_operator.specs.declared.fault.OperationFault.TheVariants as fault
use Rattle.moo_builtin_operator.specs.Answer.{IsRefused}
use Rattle.moo_builtin_operator.specs.Places.{length_of}
use Rattle.moo_eval_frame.specs.Outcome.{answers}
use Rattle.moo_eval_frame.specs.Fault.{failed}
use Rattle.moo_eval_frame.specs.Seen.{failure_of}

never_lacks : (t : Tree) → IsRefused fault.Memory (length_of t) → ⊥
never_lacks (integer i) h = h
never_lacks (object o) h = h
never_lacks (error code) h = h
never_lacks (string s) h = h
never_lacks (list es) h = h

-- what has no length is refused with an error
pub unmeasured : (f : OperationFault) (t : Tree) → IsRefused f (length_of t) → answers (length_of t) ≡ Err (failure_of (failed f))
unmeasured (fault.Raise code) t h = ap answers h
unmeasured fault.Memory t h = absurd (never_lacks t h)
