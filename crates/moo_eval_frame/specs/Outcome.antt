-- How evaluation ends.
use Rattle.std.specs.Prelude.{ℕ, pos, Bool, true, false, List, Option, Some, None, Result, Ok, Err}
use Rattle.moo_value.specs.declared.error_code.ErrorCode.{ErrorCode}
use Rattle.moo_value.specs.Errors.{error_message}
use Rattle.moo_value.specs.Tree.{Tree, integer, error}
use Rattle.moo_eval_frame.specs.declared.frame.TraceEntry.{TraceEntry}

-- an error that was raised, and the entries from where it was raised
pub record Raise : Type 0 where
  pub code : ErrorCode
  pub message : List ℕ
  pub value : Tree
  pub trace : List TraceEntry

-- why an expression or a statement does not end normally
pub data Stop : Type 0 where
  raised : Raise → Stop
  out_of_ticks : List TraceEntry → Stop

-- why a node gives no value: an error of its own, or a stop of a part of it
pub data Failure : Type 0 where
  fails : ErrorCode → Failure
  stops : Stop → Failure

-- where execution continues after a statement
pub data Flow : Type 0 where
  next : Flow
  returned : Tree → Flow
  -- out of the loop of this name, or out of the innermost
  broken : Option (List ℕ) → Flow
  -- to the next turn of the loop of this name, or of the innermost
  continued : Option (List ℕ) → Flow

-- a value, or the error if there is none
abbrev pub or_error : {A : Type 0} → Option A → ErrorCode → Result A ErrorCode
or_error None code = Err code
or_error (Some v) code = Ok v

-- an error of an operation is an error of its expression
abbrev pub answers : {A : Type 0} → Result A ErrorCode → Result A Failure
answers (Ok v) = Ok v
answers (Err code) = Err (fails code)

-- a stop of a part is a stop of the whole
abbrev pub passes : {A : Type 0} → Result A Stop → Result A Failure
passes (Ok v) = Ok v
passes (Err stop) = Err (stops stop)

-- an error as it is raised: with its message, and 0 as its value
abbrev pub plain_raise : ErrorCode → List TraceEntry → Raise
plain_raise code trace = record { code = code; message = error_message code; value = integer (pos 0); trace = trace }

-- a stop, or the error as it is raised
abbrev pub raised_by : List TraceEntry → Failure → Stop
raised_by trace (stops stop) = stop
raised_by trace (fails code) = raised (plain_raise code trace)

-- with the d bit an error is raised, and without it the error is the value
abbrev pub settled : Bool → List TraceEntry → Result Tree Failure → Result Tree Stop
settled d trace (Ok v) = Ok v
settled d trace (Err (stops stop)) = Err stop
settled true trace (Err (fails code)) = Err (raised (plain_raise code trace))
settled false trace (Err (fails code)) = Ok (error code)

-- the value of a returned expression leaves the frame
abbrev pub goes_out : Result Tree Stop → Result Flow Stop
goes_out (Ok v) = Ok (returned v)
goes_out (Err stop) = Err stop

-- after an expression comes the next statement
abbrev pub goes_next : Result Tree Stop → Result Flow Stop
goes_next (Ok v) = Ok next
goes_next (Err stop) = Err stop

-- the next statement is to run
abbrev pub goes_on : Result Flow Stop → Bool
goes_on (Ok next) = true
goes_on (Ok (returned v)) = false
goes_on (Ok (broken name)) = false
goes_on (Ok (continued name)) = false
goes_on (Err stop) = false
