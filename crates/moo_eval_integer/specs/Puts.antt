-- Assignments to places of lists in variables, by integers.
use Rattle.std.specs.Prelude.{◌≡◌, ℕ, ℤ, List, Option, Some, Ok}
use Rattle.moo_value.specs.Tree.{Tree, integer}
use Rattle.moo_value.specs.Compare.{folded}
use Rattle.moo_syntax_ast.specs.Tree.{Expr}
use Rattle.moo_builtin_operator.specs.Places.{index_of}
use Rattle.moo_builtin_operator.specs.Assignment.{with_index_of}
use Rattle.moo_eval_slot.specs.Bindings.{bind, with_variable}
use Rattle.moo_eval_integer.specs.Integers.{GivesInteger}

-- `name[place] = e` with integers: with these variables the place and then the value give integers. The container in
-- the variable takes the value at the place. So many ticks are left before and after them.
pub record PutsInteger (variables : List ℕ → Option Tree) (n : ℕ) (name : List ℕ) (place e : Expr) (m : ℕ) (after : List ℕ → Option Tree) : Type 0 where
  pub index : ℤ
  pub number : ℤ
  -- the ticks that are left after the place, before the value
  pub between : ℕ
  pub container : Tree
  pub new : Tree
  pub placed : GivesInteger variables n place index between
  pub valued : GivesInteger variables between e number m
  pub held : variables (folded name) ≡ Some container
  pub made : with_index_of container (integer index) (integer number) ≡ Ok new
  pub sets : after ≡ with_variable variables (bind name new)

-- `name[outer][inner] = e` with integers: with these variables the places and then the value give integers. The
-- container in the variable has another container at `outer`, which takes the value at `inner`. So many ticks are left
-- before and after them.
pub record PutsInner (variables : List ℕ → Option Tree) (n : ℕ) (name : List ℕ) (outer inner e : Expr) (m : ℕ) (after : List ℕ → Option Tree) : Type 0 where
  pub first : ℤ
  pub second : ℤ
  pub number : ℤ
  -- the ticks that are left after the first place, and after the second
  pub after_first : ℕ
  pub after_second : ℕ
  pub container : Tree
  pub element : Tree
  pub new_element : Tree
  pub new : Tree
  pub placed : GivesInteger variables n outer first after_first
  pub placed_inside : GivesInteger variables after_first inner second after_second
  pub valued : GivesInteger variables after_second e number m
  pub held : variables (folded name) ≡ Some container
  pub there : index_of container (integer first) ≡ Ok element
  pub made_inside : with_index_of element (integer second) (integer number) ≡ Ok new_element
  pub made : with_index_of container (integer first) new_element ≡ Ok new
  pub sets : after ≡ with_variable variables (bind name new)
