-- How a function that calls verbs goes on, step by step.
use Rattle.std.specs.Prelude.{ℕ, ℤ, Bool, true, false, List, ◌∷◌, Option, Some, None, Result, Ok, Err, if◌then◌else◌}
use Rattle.moo_value.specs.declared.error_code.ErrorCode.{ErrorCode}
use Rattle.moo_value.specs.declared.error_code.ErrorCode.TheVariants as error
use Rattle.moo_value.specs.Tree.{Tree, object, string}
use Rattle.moo_world_table.specs.World.{World}
use Rattle.moo_eval_frame.specs.declared.frame.TraceEntry.TheVariants.{BuiltIn}
use Rattle.moo_eval_frame.specs.Outcome.{Failure, fails, stops, answers}
use Rattle.moo_eval_frame.specs.State.{Context}
use Rattle.moo_eval_access.specs.State.{State}
use Rattle.moo_eval_access.specs.Entering.{Entered, entered_verb}
use Rattle.moo_eval_semantics.specs.declared.stage.Stage.{Stage}

-- the running frame, from which the function is called
pub record Calling : Type 0 where
  pub context : Context
  -- by their folded names
  pub variables : List ℕ → Option Tree
  pub programmer : ℤ

abbrev pub calling : Context → State → Calling
calling c s = record { context = c; variables = s.variables; programmer = s.programmer }

pub data Progress : Type 0 where
  -- the call of the function ends
  done : Result Tree Failure → Progress
  -- a verb runs, and what it returns goes to the stage
  verb_next : Entered → Stage → Progress
  -- the stage comes at once, as after a verb that returns 0
  stage_next : Stage → Progress

-- the function returns this
abbrev pub gives : Tree → Progress
gives v = done (Ok v)

-- the function fails with an error of its own
abbrev pub refuses : ErrorCode → Progress
refuses code = done (Err (fails code))

-- what the world raises comes first, and changes nothing
abbrev pub after_raise : World → Option ErrorCode → Progress × World → Progress × World
after_raise w None next = next
after_raise w (Some code) next = (refuses code, w)

-- a built-in function enters the verb; its entry is between the verb and its caller
abbrev pub through : List ℕ → Entered → Entered
through function e = record e { context = record e.context { callers = BuiltIn function ∷ e.context.callers } }

-- the error of a call that has no verb to run: nothing is there, or no verb of that name that can be executed
abbrev pub is_missing : ErrorCode → Bool
is_missing error.InvalidIndirection = true
is_missing error.VerbNotFound = true
is_missing _ = false

abbrev pub or_passed_over : Stage → ErrorCode → Progress
or_passed_over stage code = if is_missing code then stage_next stage else refuses code

-- a verb that is missing is passed over; without a frame for it the function fails
abbrev pub hooked : List ℕ → Stage → Result Entered Failure → Progress
hooked function stage (Ok e) = verb_next (through function e) stage
hooked function stage (Err (fails code)) = or_passed_over stage code
hooked function stage (Err (stops stop)) = done (Err (stops stop))

-- a function calls a verb of an object, and then comes the stage
unfoldable pub hook : Calling → World → List ℕ → ℤ → List ℕ → List Tree → Stage → Progress
hook k w function o name vs stage = hooked function stage (answers (entered_verb w k.context k.variables k.programmer (object o) (string name) vs))
