-- The verbs that a function calls, one after another.
use Rattle.std.specs.Prelude.{◌≡◌, ◌≢◌, Result, Ok, Err}
use Rattle.moo_value.specs.Tree.{Tree}
use Rattle.moo_value.specs.View.{tree}
use Rattle.moo_syntax_ast.specs.Tree.{no_statement}
use Rattle.moo_eval_frame.specs.declared.outcome.Failure as code_failure
use Rattle.moo_eval_frame.specs.Outcome.{Stop, Failure, Flow}
use Rattle.moo_eval_frame.specs.State.{Context}
use Rattle.moo_eval_frame.specs.Seen.{failure_of}
use Rattle.moo_eval_access.specs.State.{State}
use Rattle.moo_eval_access.specs.Entering.{Entered}
use Rattle.moo_eval_access.specs.SeenCalled.{entered_of}
use Rattle.moo_builtin.specs.Telling.{Telling}
use Rattle.moo_eval_semantics.specs.declared.stage.Stage.{Stage}
use Rattle.moo_eval_hook.specs.declared.progress.Progress as code_progress
use Rattle.moo_eval_hook.specs.declared.progress.Progress.TheVariants as progress_case
use Rattle.moo_eval_semantics.specs.Progressing.{Progress, done, verb_next}
use Rattle.moo_eval_task.specs.declared.hooks.Pending.{Pending}
use Rattle.moo_eval_task.specs.declared.hooks.Pending.TheVariants as pending_case
use Rattle.moo_eval_semantics.specs.Operands.{answered, begun, left}
use Rattle.moo_eval_semantics.specs.Meaning.{RunsAll, Proceeds}

-- a verb that was entered runs to its end, and its caller goes on in this state
pub record RunsCalled (T : Telling) (e : Entered) (s : State) (r : Result Tree Failure) (s' : State) : Type 0 where
  pub outcome : Result Flow Stop
  pub last : State
  pub runs : RunsAll T e.context e.context.frame.program (begun e s) outcome last
  pub leaves : left s last ≡ s'
  pub gives : answered outcome ≡ r

-- what a function does from the second step on, it does from the first
abbrev pub LeadsTo : (T : Telling) → Context → Progress → State → Progress → State → Type 0
LeadsTo T c p s q t = (r : Result Tree Failure) (u : State) → Proceeds T c q t r u → Proceeds T c p s r u

-- no statement runs before this stage
abbrev pub IsIdle : code_progress.Progress → Stage → Type 0
IsIdle (progress_case.Done v) stage = ⊥
IsIdle (progress_case.VerbNext called at) stage = (called.value.stack.running.program ≡ no_statement) × (at ≡ stage)
IsIdle (progress_case.StageNext at) stage = at ≡ stage

abbrev pub HasStatements : Pending → Type 0
HasStatements (pending_case.Answer v) = Unit {0}
HasStatements (pending_case.Verb called stage) = called.value.stack.running.program ≢ no_statement

abbrev pub pending_progress : Pending → Progress
pending_progress (pending_case.Answer v) = done (Ok (tree v))
pending_progress (pending_case.Verb called stage) = verb_next (entered_of called.value) stage

abbrev pub seen_pending : Result Pending code_failure.Failure → Progress
seen_pending (Ok pending) = pending_progress pending
seen_pending (Err failure) = done (Err (failure_of failure))
