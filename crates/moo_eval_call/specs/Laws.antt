-- The laws of calls.
use Rattle.std.specs.Prelude.{◌≡◌, ℕ, List, Result, Err}
use Rattle.moo_value.specs.Tree.{Tree}
use Rattle.moo_eval_frame.specs.Outcome.{Failure}
use Rattle.moo_eval_frame.specs.State.{Context}
use Rattle.moo_eval_access.specs.State.{State}
use Rattle.moo_builtin.specs.Telling.{Faults, Choice, PassesPrograms, chosen_by}
use Rattle.moo_eval_semantics.specs.Calls.{CallsFunction}

-- for one input a call has at most one result, whichever faults are chosen for texts that are no programs
abbrev pub OneResultOfCalls : Type 0
OneResultOfCalls = (choice : Choice) → PassesPrograms choice → (c : Context) (name : List ℕ) (args : List Tree) (s s' t : State) (r q : Result Tree Failure) → CallsFunction (chosen_by choice) c name args s r s' → CallsFunction (chosen_by choice) c name args s q t → (r ≡ q) × (s' ≡ t)

-- a call that raises leaves the state as it is
abbrev pub RaisesChangeNothing : Type 0
RaisesChangeNothing = (c : Context) (name : List ℕ) (args : List Tree) (s s' : State) (f : Failure) → CallsFunction Faults c name args s (Err f) s' → s' ≡ s
