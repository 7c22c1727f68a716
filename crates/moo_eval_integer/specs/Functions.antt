-- Functions that give integers.
use Rattle.std.specs.Prelude.{◌≡◌, ℕ, ℤ, List, [], ◌∷◌, None, Some, Ok}
use Rattle.moo_value.specs.Tree.{Tree, integer}
use Rattle.moo_syntax_function.specs.declared.function.Function.{Function}
use Rattle.moo_syntax_function.specs.Names.{function_of}
use Rattle.moo_builtin.specs.Telling.{Faults}
use Rattle.moo_eval_frame.specs.State.{Context}
use Rattle.moo_eval_access.specs.State.{State}
use Rattle.moo_eval_semantics.specs.Calls.{CallsFunction}
use Rattle.moo_eval_semantics.specs.VerbCalls.{caller_of}

-- the function calls no verb, and gives this integer for this value in every state, which stays
abbrev pub GivesFor : Function → Tree → ℤ → Type 0
GivesFor f x i = (name : List ℕ) → function_of name ≡ Some f → (caller_of name ≡ None) × ((c : Context) (s : State) → CallsFunction Faults c name (x ∷ []) s (Ok (integer i)) s)
