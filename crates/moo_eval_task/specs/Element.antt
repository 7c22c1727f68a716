-- Assignments to a place of the list or string in a variable or in a property.
use Rattle.std.specs.Prelude.{ℕ, List, Ok}
use Rattle.moo_value.specs.Tree.{Tree}
use Rattle.moo_syntax_ast.specs.declared.tree.Literal.TheVariants.{Str}
use Rattle.moo_syntax_ast.specs.Tree.{Expr, literal, variable, property, index, assign}
use Rattle.moo_eval_frame.specs.State.{Context}
use Rattle.moo_eval_access.specs.State.{State}
use Rattle.moo_builtin.specs.Telling.{Telling}
use Rattle.moo_eval_semantics.specs.Meaning.{Computes}

-- `name[place] = e`
abbrev pub sets_place : List ℕ → Expr → Expr → Expr
sets_place name place e = assign (index (variable name) place) e

-- `name[outer][inner] = e`
abbrev pub sets_inner : List ℕ → Expr → Expr → Expr → Expr
sets_inner name outer inner e = assign (index (index (variable name) outer) inner) e

-- `base.name[place] = e`
abbrev pub sets_part : Expr → List ℕ → Expr → Expr → Expr
sets_part base name place e = assign (index (property base (literal (Str name))) place) e

-- the assignment comes to its end, with some value
pub record IsPut (T : Telling) (c : Context) (name : List ℕ) (place e : Expr) (s t : State) : Type 0 where
  pub value : Tree
  pub computes : Computes T c (sets_place name place e) s (Ok value) t
