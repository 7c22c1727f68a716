-- What an assignment sets.
use Rattle.std.specs.Prelude.{ℕ, ℤ, List, [], ◌∷◌, ◌++◌, Option, Result, Ok, Err}
use Rattle.moo_value.specs.declared.error_code.ErrorCode.{ErrorCode}
use Rattle.moo_value.specs.declared.error_code.ErrorCode.TheVariants.{TypeMismatch, VariableNotFound}
use Rattle.moo_value.specs.Tree.{Tree}
use Rattle.moo_value.specs.Compare.{folded}
use Rattle.moo_syntax_ast.specs.Tree as program
use Rattle.moo_syntax_ast.specs.Tree.{Expr, variable, index, range, property, Items, no_items, element}
use Rattle.moo_builtin_operator.specs.Places.{index_of, range_of}
use Rattle.moo_builtin_operator.specs.Assignment.{with_index_of, with_range_of}
use Rattle.moo_world_table.specs.World.{World}
use Rattle.moo_eval_access.specs.Calls.{read_property}
use Rattle.moo_eval_frame.specs.Outcome.{or_error}

-- a variable, a property of an object, or the names of a scatter
pub data Root : Type 0 where
  named : List ℕ → Root
  owned : Tree → Tree → Root
  scattered : Items → Root

-- a container, and the places in it: one for an index, two for a range
pub record Step : Type 0 where
  pub container : Tree
  pub places : List Tree

-- what is set, and the containers from the innermost out to its own
pub record Path : Type 0 where
  pub root : Root
  pub steps : List Step

-- what comes before the indexes and ranges of a target
abbrev pub root_of : Expr → Expr
root_of (index a i) = root_of a
root_of (range a i j) = root_of a
root_of e = e

-- the places of its indexes and ranges, from the root on
abbrev pub spots : Expr → List Items
spots (index a i) = spots a ++ element i no_items ∷ []
spots (range a i j) = spots a ++ element i (element j no_items) ∷ []
spots e = []

-- the base and the name of a property
abbrev pub root_parts : Expr → Items
root_parts (property a b) = element a (element b no_items)
root_parts e = no_items

-- What is set, from the values of its parts. What is no target is E_TYPE; no program has it before `=`.
abbrev pub root_from : Expr → List Tree → Result Root ErrorCode
root_from (variable x) vs = Ok (named x)
root_from (program.list items) vs = Ok (scattered items)
root_from (property a b) (x ∷ y ∷ []) = Ok (owned x y)
root_from _ _ = Err TypeMismatch

-- what has these places in a container
abbrev pub part_at : Tree → List Tree → Result Tree ErrorCode
part_at x (i ∷ []) = index_of x i
part_at x (i ∷ j ∷ []) = range_of x i j
part_at x _ = Err TypeMismatch

-- the container with another value at these places
abbrev pub with_part : Tree → List Tree → Tree → Result Tree ErrorCode
with_part x (i ∷ []) v = with_index_of x i v
with_part x (i ∷ j ∷ []) v = with_range_of x i j v
with_part x _ v = Err TypeMismatch

-- a property is read with the rights of the programmer
abbrev pub root_value : World → ℤ → Root → (List ℕ → Option Tree) → Result Tree ErrorCode
root_value w programmer (named x) variables = or_error (variables (folded x)) VariableNotFound
root_value w programmer (owned base name) variables = read_property w programmer base name
root_value w programmer (scattered items) variables = Err TypeMismatch

-- the value at the end of a path, which is the next container
abbrev pub held : World → ℤ → Root → List Step → (List ℕ → Option Tree) → Result Tree ErrorCode
held w programmer root [] variables = root_value w programmer root variables
held w programmer root (step ∷ steps) variables = part_at step.container step.places

-- each container with what it holds replaced, from the innermost outwards
abbrev pub rebuilt : List Step → Result Tree ErrorCode → Result Tree ErrorCode
rebuilt [] r = r
rebuilt (step ∷ steps) (Ok v) = rebuilt steps (with_part step.container step.places v)
rebuilt (step ∷ steps) (Err code) = Err code
