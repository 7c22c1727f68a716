-- The control flow of loops and cleanups.
use Rattle.std.specs.Prelude.{ℕ, ℤ, Bool, true, false, List, Option, Some, None, Result, Ok, Err, if◌then◌else◌}
use Rattle.std.specs.Str.{bytes_eq}
use Rattle.moo_value.specs.declared.error_code.ErrorCode.{ErrorCode}
use Rattle.moo_value.specs.declared.error_code.ErrorCode.TheVariants.{TypeMismatch}
use Rattle.moo_value.specs.Tree.{Tree, integer, object}
use Rattle.moo_value.specs.Compare.{folded}
use Rattle.moo_eval_frame.specs.declared.frame.TraceEntry.{TraceEntry}
use Rattle.moo_eval_control.specs.declared.leading.Span.{Span}
use Rattle.moo_eval_frame.specs.Outcome.{Stop, raised, out_of_ticks, plain_raise, Flow, next, returned, broken, continued}

-- the loop of this name is meant: without a name any is
abbrev pub is_meant : Option (List ℕ) → Option (List ℕ) → Bool
is_meant own None = true
is_meant None (Some meant) = false
is_meant (Some own) (Some meant) = bytes_eq (folded own) (folded meant)

-- how a loop of this name ends after its statements had this flow, or none if it goes on
abbrev pub after_turn : Option (List ℕ) → Result Flow Stop → Option (Result Flow Stop)
after_turn own (Err stop) = Some (Err stop)
after_turn own (Ok next) = None
after_turn own (Ok (returned v)) = Some (Ok (returned v))
after_turn own (Ok (broken name)) = Some (Ok (if is_meant own name then next else broken name))
after_turn own (Ok (continued name)) = if is_meant own name then None else Some (Ok (continued name))

-- a `for` that raises an error before its first turn: the error, or without the d bit no turn
abbrev pub no_turn : Bool → List TraceEntry → ErrorCode → Result Flow Stop
no_turn true trace code = Err (raised (plain_raise code trace))
no_turn false trace code = Ok next

-- a cleanup runs unless the ticks have run out
abbrev pub runs_finally : Result Flow Stop → Bool
runs_finally (Ok flow) = true
runs_finally (Err (raised raise)) = true
runs_finally (Err (out_of_ticks trace)) = false

-- the flow of the cleanup, unless it ends normally: then that of the statements before it
abbrev pub after_finally : Result Flow Stop → Result Flow Stop → Result Flow Stop
after_finally body (Ok next) = body
after_finally body (Ok (returned v)) = Ok (returned v)
after_finally body (Ok (broken name)) = Ok (broken name)
after_finally body (Ok (continued name)) = Ok (continued name)
after_finally body (Err stop) = Err stop

-- the integers or objects from one up to another
abbrev pub span_of : Tree → Tree → Result Span ErrorCode
span_of (integer i) (integer j) = Ok (record { low = i; high = j; are_objects = false })
span_of (object i) (object j) = Ok (record { low = i; high = j; are_objects = true })
span_of _ _ = Err TypeMismatch

abbrev pub numbered : Bool → ℤ → Tree
numbered false n = integer n
numbered true n = object n
