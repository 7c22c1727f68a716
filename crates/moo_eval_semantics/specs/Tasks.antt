-- What the functions that inspect the running task give, and what they change.
use Rattle.std.specs.Prelude.{ℕ, pos, Bool, List, [], ◌∷◌, Result, Ok, Err, if◌then◌else◌}
use Rattle.moo_value.specs.declared.error_code.ErrorCode.TheVariants.{TypeMismatch, Permission}
use Rattle.moo_value.specs.Tree.{Tree, integer, object, error}
use Rattle.moo_world.specs.Rights.{controls}
use Rattle.moo_builtin_value.specs.Calls.{Raised}
use Rattle.moo_eval_frame.specs.declared.frame.TraceEntry.{TraceEntry}
use Rattle.moo_eval_frame.specs.Outcome.{raised, Failure, fails, stops}
use Rattle.moo_eval_access.specs.State.{State}

-- how a call ends, and the state after it
abbrev pub Reply : Type 0
Reply = Result Tree Failure × State

-- how many ticks a task has
abbrev pub most_ticks : ℕ
most_ticks = 100000

-- the running frame gets another programmer, if its own programmer is that one or a wizard
abbrev pub set_task_perms : List Tree → State → Reply
set_task_perms (object o ∷ []) s =
    if controls s.world s.programmer o then (Ok (integer (pos 0)), record s { programmer = o }) else (Err (fails Permission), s)
set_task_perms _ s = (Err (fails TypeMismatch), s)

-- an error is raised with the entries from here; without the d bit it is the value of the call
abbrev pub raised_here : Bool → List TraceEntry → Raised → Result Tree Failure
raised_here d trace r = if d then Err (stops (raised (record { code = r.code; message = r.message; value = r.value; trace = trace }))) else Ok (error r.code)

-- the reply of a call: its result, or its error, which is raised here
abbrev pub replied : Bool → List TraceEntry → Result Tree Raised → Result Tree Failure
replied d trace (Ok v) = Ok v
replied d trace (Err r) = raised_here d trace r
