-- Walks down a forest: a node and all nodes below it.
use Rattle.std.specs.Prelude.{◌≡◌, ℕ, ◌<◌, List, Some, map, length, count_by, slice_index_or, nat_eq, if◌then◌else◌}
use Rattle.moo_world_tree.specs.Forest.{Links, above_of, is_within}
use Rattle.moo_world_tree.specs.declared.walk.Step.{Step}

-- the nodes of a walk, in their order
abbrev pub met : List Step → List ℕ
met walk = map (λ (s : Step). s.node) walk

abbrev pub step_at : List Step → ℕ → Step
step_at walk i = slice_index_or walk i (record { node = 0; from = 0 })

-- a walk down from x
pub record IsWalkDown (nodes : List Links) (x : ℕ) (walk : List Step) : Type 0 where
  -- each node within x occurs once, and no other
  pub once : (y : ℕ) → count_by (nat_eq y) (met walk) ≡ (if is_within nodes y x then 1 else 0)
  -- x is first
  pub begins : 0 < length walk
  pub first : (step_at walk 0).node ≡ x
  -- each other node comes after the one right above it, whose place in the walk its step holds
  pub follows : (i : ℕ) → 0 < i → i < length walk → (step_at walk i).from < i
  pub linked : (i : ℕ) → 0 < i → i < length walk → above_of nodes (step_at walk i).node ≡ Some (step_at walk (step_at walk i).from).node
