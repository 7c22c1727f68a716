-- Calls of the functions that call verbs.
use Rattle.std.specs.Prelude.{◌≡◌, ℕ, List, [], ◌∷◌, Bool, true, false, Option, Some, None, if◌then◌else◌}
use Rattle.moo_value.specs.declared.error_code.ErrorCode.{ErrorCode}
use Rattle.moo_value.specs.declared.error_code.ErrorCode.TheVariants.{TypeMismatch}
use Rattle.moo_value.specs.Tree.{Tree, object}
use Rattle.moo_syntax_function.specs.declared.function.Function.{Function}
use Rattle.moo_syntax_function.specs.declared.function.Function.TheVariants as function
use Rattle.moo_syntax_function.specs.Table.{row}
use Rattle.moo_syntax_function.specs.Names.{function_of}
use Rattle.moo_syntax_function.specs.Check.{refusal}
use Rattle.moo_world_table.specs.World.{World}
use Rattle.moo_eval_frame.specs.State.{Context}
use Rattle.moo_eval_access.specs.State.{State}
use Rattle.moo_builtin.specs.Telling.{Telling}
use Rattle.moo_eval_semantics.specs.Progressing.{Calling, calling, Progress, refuses}
use Rattle.moo_builtin_world.specs.Objects.{is_valid}
use Rattle.moo_eval_semantics.specs.Passing.{passing}
use Rattle.moo_eval_semantics.specs.Evaluating.{EvalBegins}
use Rattle.moo_eval_semantics.specs.Moving.{moving}
use Rattle.moo_eval_semantics.specs.Creating.{creating}
use Rattle.moo_eval_semantics.specs.Recycling.{recycling}

-- they call verbs, or run a program as one
abbrev pub calls_verbs : Function → Bool
calls_verbs function.Pass = true
calls_verbs function.Move = true
calls_verbs function.Create = true
calls_verbs function.Recycle = true
calls_verbs function.Eval = true
calls_verbs _ = false

abbrev pub verb_caller : Option Function → Option Function
verb_caller None = None
verb_caller (Some f) = if calls_verbs f then Some f else None

-- the function that a name calls, if it is one that calls verbs
abbrev pub caller_of : List ℕ → Option Function
caller_of name = verb_caller (function_of name)

abbrev pub move_begins : Calling → World → List Tree → Progress × World
move_begins k w (object what ∷ object to ∷ []) = moving k w what to
move_begins k w _ = (refuses TypeMismatch, w)

-- the owner is the programmer, if no other is given
abbrev pub create_begins : Calling → World → List Tree → Progress × World
create_begins k w (object up ∷ []) = creating k w up k.programmer
create_begins k w (object up ∷ object owner ∷ []) = creating k w up owner
create_begins k w _ = (refuses TypeMismatch, w)

abbrev pub recycle_begins : Calling → World → List Tree → Progress × World
recycle_begins k w (object o ∷ []) = recycling k w o
recycle_begins k w _ = (refuses TypeMismatch, w)

-- the first step of a function, for arguments that fit
abbrev pub first_progress : Function → Calling → World → List Tree → Progress × World
first_progress function.Pass k w vs = (passing k w vs, w)
first_progress function.Move k w vs = move_begins k w vs
first_progress function.Create k w vs = create_begins k w vs
first_progress function.Recycle k w vs = recycle_begins k w vs
first_progress _ k w vs = (refuses TypeMismatch, w)

-- what a function begins with, for arguments that fit, and the world then; T allows the faults that `eval` may report
abbrev pub Begins : Telling → Function → Calling → World → List Tree → Progress → World → Type 0
Begins T function.Eval k w vs step after = EvalBegins T k w vs step × (after ≡ w)
Begins T f k w vs step after = first_progress f k w vs ≡ (step, after)

-- A call begins with the number of its arguments, then their types, then whether their objects are valid.
pub data Starts (T : Telling) : Context → Function → List Tree → State → Progress → State → Type 0 where
  refused : {c : Context} {f : Function} {vs : List Tree} {s : State} {code : ErrorCode} →
      refusal (is_valid s.world) (row f) vs ≡ Some code →
      Starts T c f vs s (refuses code) s
  starts : {c : Context} {f : Function} {vs : List Tree} {s s' : State} {step : Progress} {w : World} →
      refusal (is_valid s.world) (row f) vs ≡ None → Begins T f (calling c s) s.world vs step w → record s { world = w } ≡ s' →
      Starts T c f vs s step s'
