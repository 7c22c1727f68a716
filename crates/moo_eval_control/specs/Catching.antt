-- Which errors a catch handles.
use Rattle.std.specs.Prelude.{List, [], Bool, true, false, Option, Some, None, if◌then◌else◌, Result, Ok, Err}
use Rattle.std.specs.List.{list_any}
use Rattle.moo_value.specs.declared.error_code.ErrorCode.{ErrorCode}
use Rattle.moo_value.specs.Tree.{Tree, error}
use Rattle.moo_syntax_ast.specs.Tree.{Items, no_items, Codes, any_error, listed_errors}
use Rattle.moo_builtin_operator.specs.Truth.{same_tree}
use Rattle.moo_eval_frame.specs.declared.frame.TraceEntry.{TraceEntry}
use Rattle.moo_eval_frame.specs.Outcome.{Stop, raised, out_of_ticks, Failure, fails, stops, plain_raise}

-- what is evaluated for the errors that are caught
abbrev pub guards : Codes → Items
guards any_error = no_items
guards (listed_errors items) = items

-- A catch of these codes takes the error: any error, or one that is among these values.
abbrev pub is_caught : Codes → List Tree → ErrorCode → Bool
is_caught any_error vs code = true
is_caught (listed_errors items) vs code = list_any (same_tree (error code)) vs

-- the error that is caught, if one is: an end of the ticks passes
abbrev pub caught : Codes → List Tree → Result Tree Stop → Option ErrorCode
caught codes vs (Ok v) = None
caught codes vs (Err (out_of_ticks trace)) = None
caught codes vs (Err (raised raise)) = if is_caught codes vs raise.code then Some raise.code else None

-- The errors that a handler of a `try` names. Without the d bit a list of them that fails names none.
abbrev pub coded : Bool → List TraceEntry → Result (List Tree) Failure → Result (List Tree) Stop
coded d trace (Ok vs) = Ok vs
coded d trace (Err (stops stop)) = Err stop
coded true trace (Err (fails code)) = Err (raised (plain_raise code trace))
coded false trace (Err (fails code)) = Ok []
