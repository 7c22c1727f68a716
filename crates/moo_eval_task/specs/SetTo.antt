-- Variables that are set to the value of an expression.
use Rattle.std.specs.Prelude.{◌≡◌, ℕ, List, [], ◌∷◌, Ok}
use Rattle.moo_value.specs.Tree.{Tree}
use Rattle.moo_syntax_ast.specs.Tree.{Expr}
use Rattle.moo_eval_slot.specs.Bindings.{bind}
use Rattle.moo_eval_frame.specs.State.{Context}
use Rattle.moo_eval_access.specs.State.{State, bound}
use Rattle.moo_builtin.specs.Telling.{Telling}
use Rattle.moo_eval_semantics.specs.Meaning.{Computes}

-- an expression has a value, and then the variable is set to it
pub record IsSetTo (T : Telling) (c : Context) (name : List ℕ) (e : Expr) (s t : State) : Type 0 where
  pub value : Tree
  pub between : State
  pub computes : Computes T c e s (Ok value) between
  pub sets : bound (bind name value ∷ []) between ≡ t
