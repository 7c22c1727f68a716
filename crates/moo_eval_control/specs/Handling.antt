-- What handlers of a `try` take, and what their variables are set to.
use Rattle.std.specs.Prelude.{ℕ, ◌-◌, List, [], ◌∷◌, ◌++◌, length, take, Option, Some, None, Result, Ok, Err}
use Rattle.std.specs.List.{find}
use Rattle.moo_value.specs.declared.error_code.ErrorCode.{ErrorCode}
use Rattle.moo_value.specs.Tree.{Tree, error, object, string}
use Rattle.moo_builtin_operator.specs.Places.{made_list}
use Rattle.moo_syntax_ast.specs.Tree.{Codes, Block}
use Rattle.moo_eval_frame.specs.declared.frame.TraceFrame.{TraceFrame}
use Rattle.moo_eval_frame.specs.declared.frame.TraceEntry.{TraceEntry}
use Rattle.moo_eval_frame.specs.declared.frame.TraceEntry.TheVariants.{Verb, BuiltIn}
use Rattle.moo_eval_slot.specs.Bindings.{Binding, bind}
use Rattle.moo_eval_control.specs.Catching.{is_caught}
use Rattle.moo_eval_frame.specs.Outcome.{Stop, Raise}

-- a handler with the values of its codes
pub record Guarded : Type 0 where
  pub name : Option (List ℕ)
  pub codes : Codes
  pub values : List Tree
  pub body : Block

abbrev pub guarded : Option (List ℕ) → Codes → Block → List Tree → Guarded
guarded name codes body values = record { name = name; codes = codes; values = values; body = body }

-- these before the others
abbrev pub guarded_before : List Guarded → Result (List Guarded) Stop → Result (List Guarded) Stop
guarded_before gs (Ok hs) = Ok (gs ++ hs)
guarded_before gs (Err stop) = Err stop

-- the first handler that takes the error
abbrev pub chosen : List Guarded → ErrorCode → Option Guarded
chosen all code = find (λ g. is_caught g.codes g.values code) all

-- `{this, verb, programmer, definer, player}`
abbrev pub frame_list : TraceFrame → Result Tree ErrorCode
frame_list f = made_list (object f.this ∷ string f.verb ∷ object f.programmer ∷ object f.definer ∷ object f.player ∷ [])

abbrev pub alone : Result Tree ErrorCode → Result (List Tree) ErrorCode
alone (Ok t) = Ok (t ∷ [])
alone (Err code) = Err code

-- A built-in function has no frame in the list.
abbrev pub entry_lists : TraceEntry → Result (List Tree) ErrorCode
entry_lists (Verb f) = alone (frame_list f)
entry_lists (BuiltIn name) = Ok []

abbrev pub joined : Result (List Tree) ErrorCode → Result (List Tree) ErrorCode → Result (List Tree) ErrorCode
joined (Err code) r = Err code
joined (Ok ts) (Err code) = Err code
joined (Ok ts) (Ok us) = Ok (ts ++ us)

-- the frames of a trace, the one that raised first
abbrev pub frame_lists : List TraceEntry → Result (List Tree) ErrorCode
frame_lists [] = Ok []
frame_lists (entry ∷ callers) = joined (entry_lists entry) (frame_lists callers)

abbrev pub listed : Result (List Tree) ErrorCode → Result Tree ErrorCode
listed (Err code) = Err code
listed (Ok ts) = made_list ts

abbrev pub told_with : Raise → Result Tree ErrorCode → Result Tree ErrorCode
told_with raise (Err code) = Err code
told_with raise (Ok frames) = made_list (error raise.code ∷ string raise.message ∷ raise.value ∷ frames ∷ [])

-- the entries of a trace down to the frame that has these callers
abbrev pub above : List TraceEntry → List TraceEntry → List TraceEntry
above callers trace = take (length trace - length callers) trace

-- `{code, message, value, frames}`, within the limits. The frames are those from the raising one to the handler's own,
-- which has these callers.
abbrev pub told : List TraceEntry → Raise → Result Tree ErrorCode
told callers raise = told_with raise (listed (frame_lists (above callers raise.trace)))

abbrev pub bound_to : List ℕ → Result Tree ErrorCode → Result (List Binding) ErrorCode
bound_to name (Ok v) = Ok (bind name v ∷ [])
bound_to name (Err code) = Err code

-- what a handler sets
abbrev pub told_as : List TraceEntry → Option (List ℕ) → Raise → Result (List Binding) ErrorCode
told_as callers None raise = Ok []
told_as callers (Some name) raise = bound_to name (told callers raise)
