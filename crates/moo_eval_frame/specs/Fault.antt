-- What the fault of an operation, or of a list, is in the evaluator.
use Rattle.moo_builtin_operator.specs.declared.fault.OperationFault.{OperationFault}
use Rattle.moo_builtin_operator.specs.declared.fault.OperationFault.TheVariants.{Raise, Memory}
use Rattle.moo_value.specs.declared.error_code.ErrorCode.TheVariants.{Quota}
use Rattle.moo_value.specs.declared.list.ListLimit.{ListLimit}
use Rattle.moo_value.specs.declared.list.ListLimit.TheVariants as list
use Rattle.moo_eval_frame.specs.declared.outcome.Stop.TheVariants as stop
use Rattle.moo_eval_frame.specs.declared.outcome.Failure.{Failure}
use Rattle.moo_eval_frame.specs.declared.outcome.Failure.TheVariants.{Fails, Stops}

abbrev pub failed : OperationFault → Failure
failed (Raise code) = Fails code
failed Memory = Stops stop.Memory

-- values that make no list
abbrev pub refused : ListLimit → Failure
refused list.TooLarge = Fails Quota
refused list.Memory = Stops stop.Memory
