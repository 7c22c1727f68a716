-- The meaning of the program's steps.
use Rattle.std.specs.Prelude.{ℤ, List, [], ◌∷◌, Option, None, Some, Result, Ok, Err}
use Rattle.moo_value.specs.Tree.{Tree, object}
use Rattle.moo_value.specs.View.{tree}
use Rattle.moo_eval_frame.specs.declared.frame.CallStack.{CallStack}
use Rattle.moo_eval_frame.specs.declared.frame.Activation.{Activation}
use Rattle.moo_eval_frame.specs.declared.outcome.Failure as code_failure
use Rattle.moo_world.specs.declared.fault.WorldFault.{WorldFault}
use Rattle.moo_eval_frame.specs.Seen.{context_of, variables_of, failure_of}
use Rattle.moo_eval_access.specs.Fault.{failed}
use Rattle.moo_eval_access.specs.SeenCalled.{entered_of}
use Rattle.moo_eval_hook.specs.declared.progress.Progress as code_progress
use Rattle.moo_eval_hook.specs.declared.progress.Progress.TheVariants as progress_case
use Rattle.moo_eval_semantics.specs.Progressing.{Calling, Progress, done, verb_next, stage_next}

abbrev pub calling_of : CallStack → Activation → Calling
calling_of stack active = record { context = context_of stack None; variables = variables_of active.variables; programmer = active.programmer }

abbrev pub progress_of : code_progress.Progress → Progress
progress_of (progress_case.Done v) = done (Ok (tree v))
progress_of (progress_case.VerbNext called stage) = verb_next (entered_of called.value) stage
progress_of (progress_case.StageNext stage) = stage_next stage

abbrev pub seen_progress : Result code_progress.Progress code_failure.Failure → Progress
seen_progress (Ok step) = progress_of step
seen_progress (Err failure) = done (Err (failure_of failure))

-- For private clauses: the arguments of a verb: an object, or nothing.
abbrev pub arguments_of : Option ℤ → List Tree
arguments_of None = []
arguments_of (Some o) = object o ∷ []

-- For private clauses: a result of the world, as the outcome of a function.
abbrev pub as_outcome : {T : Type 0} → Result T WorldFault → Result T code_failure.Failure
as_outcome (Ok v) = Ok v
as_outcome (Err fault) = Err (failed fault)
