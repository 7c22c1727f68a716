-- The meaning of the program's result for a task.
pub use Rattle.moo_eval_control.specs.Traceback.{texts}
pub use Rattle.moo_eval_semantics.specs.Notices.{LeavesNotices, IsBegunBy}
use Rattle.moo_value.specs.View.{tree}
use Rattle.moo_eval.specs.declared.task.Ended as code
use Rattle.moo_eval.specs.declared.task.Ended.TheVariants as ended
use Rattle.moo_eval_semantics.specs.Task.{End, value, uncaught, out_of_ticks}

-- what holds of the end; of lack of memory nothing is said
abbrev pub IfEnded : code.Ended → (End → Type 0) → Type 0
IfEnded (ended.Value v) P = P (value (tree v))
IfEnded (ended.Uncaught lines) P = P (uncaught (texts lines.items))
IfEnded (ended.OutOfTicks lines) P = P (out_of_ticks (texts lines.items))
IfEnded ended.Memory P = Unit {0}
