-- A part of a list is no heavier and no deeper than the list.
use Rattle.std.proofs.Common.{◌≡◌, ℕ, zero, suc, ◌-◌, ◌≤◌, List, [], ◌∷◌, take, drop, slice_range, arith, sym, ap, ◌∙◌}
use Rattle.std.proofs.lemmas.List.{take-map, drop-map}
use Rattle.moo_value.specs.declared.value.Value.{Value}
use Rattle.moo_value.specs.Tree.{Tree, list_of}
use Rattle.moo_value.specs.Size.{list_weight, list_depth, IsWithinLimits}
use Rattle.moo_value.specs.View.{tree, trees}

pub list_weight-take : (k : ℕ) (ts : List Tree) → list_weight (take k ts) ≤ list_weight ts
list_weight-take zero [] = omega arith
list_weight-take zero (t ∷ ts) = omega arith
list_weight-take (suc k) [] = omega arith
list_weight-take (suc k) (t ∷ ts) = omega (arith, list_weight-take k ts)

pub list_weight-drop : (k : ℕ) (ts : List Tree) → list_weight (drop k ts) ≤ list_weight ts
list_weight-drop zero ts = omega arith
list_weight-drop (suc k) [] = omega arith
list_weight-drop (suc k) (t ∷ ts) = omega (arith, list_weight-drop k ts)

pub list_depth-take : (k : ℕ) (ts : List Tree) → list_depth (take k ts) ≤ list_depth ts
list_depth-take zero [] = omega arith
list_depth-take zero (t ∷ ts) = omega arith
list_depth-take (suc k) [] = omega arith
list_depth-take (suc k) (t ∷ ts) = omega (arith, list_depth-take k ts)

pub list_depth-drop : (k : ℕ) (ts : List Tree) → list_depth (drop k ts) ≤ list_depth ts
list_depth-drop zero ts = omega arith
list_depth-drop (suc k) [] = omega arith
list_depth-drop (suc k) (t ∷ ts) = omega (arith, list_depth-drop k ts)

pub part_within : (ts : List Tree) (low high : ℕ) → IsWithinLimits (list_of ts) → IsWithinLimits (list_of (slice_range ts low high))
part_within ts low high limits = record {
  weight = omega (arith, list_weight-take (high - low) (drop low ts), list_weight-drop low ts, limits.weight);
  depth = omega (arith, list_depth-take (high - low) (drop low ts), list_depth-drop low ts, limits.depth);
}

-- the trees of a part of some values
pub trees_part : (vs : List Value) (ts : List Tree) (low high : ℕ) → trees vs ≡ ts → trees (take (high - low) (drop low vs)) ≡ slice_range ts low high
trees_part vs ts low high is =
    sym (take-map tree (high - low) (drop low vs)) ∙ ap (take (high - low)) (sym (drop-map tree low vs)) ∙ ap (λ us. slice_range us low high) is
