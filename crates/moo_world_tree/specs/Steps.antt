-- The steps of a move and of a dissolution.
use Rattle.std.specs.Prelude.{ℕ, List, [], ◌∷◌, ◌++◌, Option, Some, None, slice_set}
use Rattle.moo_world_tree.specs.Forest.{Links, above_of, below_of, without}

-- x is last in the list of its new place
abbrev pub with_newest : List Links → ℕ → Option ℕ → List Links
with_newest nodes x None = nodes
with_newest nodes x (Some up) = slice_set nodes up (record { above = above_of nodes up; below = below_of nodes up ++ x ∷ [] })

-- x has left the list of its old place
abbrev pub with_taken_out : List Links → ℕ → Option ℕ → List Links
with_taken_out nodes x None = nodes
with_taken_out nodes x (Some up) = slice_set nodes up (record { above = above_of nodes up; below = without x (below_of nodes up) })

-- these are last in the list of their new place, in their order
abbrev pub with_all_newest : List Links → List ℕ → Option ℕ → List Links
with_all_newest nodes ys None = nodes
with_all_newest nodes ys (Some up) = slice_set nodes up (record { above = above_of nodes up; below = below_of nodes up ++ ys })

-- these have another node right above them
abbrev pub with_all_joined : List Links → List ℕ → Option ℕ → List Links
with_all_joined nodes [] to = nodes
with_all_joined nodes (y ∷ ys) to = with_all_joined (slice_set nodes y (record { above = to; below = below_of nodes y })) ys to
