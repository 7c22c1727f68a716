-- A list of trees with one more at a place, and with one less: its weight, its depth and its elements.
use Rattle.std.proofs.Common.{◌≡◌, ℕ, zero, suc, ◌+◌, ◌-◌, ◌≤◌, ◌<◌, max, List, [], ◌∷◌, ◌++◌, length, take, drop, set, get_or, refl, sym, ap, ◌∙◌, arith, ◌⊎◌, inl, inr}
use Rattle.std.specs.Prelude.{insert, remove}
use Rattle.std.proofs.lemmas.List.{map-append, take-map, drop-map}
use Rattle.moo_value.specs.declared.value.Value.{Value}
use Rattle.moo_value.specs.Tree.{Tree, list_of, IsValue}
use Rattle.moo_value.specs.Size.{weight, depth, list_weight, list_depth, weight_limit, depth_limit, IsWithinLimits}
use Rattle.moo_value.specs.Inner.{IsMeasuredList}
use Rattle.moo_value.specs.View.{tree, trees}
use Rattle.moo_value.proofs.Parts.{list_depth-drop}
use Rattle.moo_value.proofs.Replaced.{depth_around, list_depth-set}

list_weight-insert : (ts : List Tree) (i : ℕ) (t : Tree) → list_weight (insert ts i t) ≡ list_weight ts + weight t
list_weight-insert [] zero t = omega arith
list_weight-insert [] (suc i) t = omega arith
list_weight-insert (u ∷ ts) zero t = omega arith
list_weight-insert (u ∷ ts) (suc i) t = omega (arith, list_weight-insert ts i t)

list_depth-insert : (ts : List Tree) (i : ℕ) (t : Tree) → list_depth (insert ts i t) ≡ max (list_depth ts) (depth t + 1)
list_depth-insert [] zero t = omega arith
list_depth-insert [] (suc i) t = omega arith
list_depth-insert (u ∷ ts) zero t = omega arith
list_depth-insert (u ∷ ts) (suc i) t = omega (arith, list_depth-insert ts i t)

list_is_value-insert : (ts : List Tree) (i : ℕ) (t : Tree) → IsValue (list_of ts) → IsValue t → IsValue (list_of (insert ts i t))
list_is_value-insert [] zero t h k = (k, tt)
list_is_value-insert [] (suc i) t h k = (k, tt)
list_is_value-insert (u ∷ ts) zero t h k = (k, h)
list_is_value-insert (u ∷ ts) (suc i) t h k = (h.0, list_is_value-insert ts i t h.1 k)

-- a measured list with one more element is measured
pub measured-insert : (ts : List Tree) (i : ℕ) (t : Tree) (w d : ℕ) → IsMeasuredList w d ts → IsValue t → w + weight t ≤ weight_limit → max d (depth t + 1) ≤ depth_limit
    → IsMeasuredList (w + weight t) (max d (depth t + 1)) (insert ts i t)
measured-insert ts i t w d m value heavy deep =
    let w_is : w + weight t ≡ list_weight (insert ts i t) = omega (arith, m.weight_is, list_weight-insert ts i t) in
    let d_is : max d (depth t + 1) ≡ list_depth (insert ts i t) = omega (arith, m.depth_is, list_depth-insert ts i t) in
    record {
      weight_is = w_is;
      depth_is = d_is;
      is_value = list_is_value-insert ts i t m.is_value value;
      limits = record { weight = omega (arith, w_is, heavy); depth = omega (arith, d_is, deep) };
    }

-- it is past a limit where its weight or its depth is
pub too_large-insert : (ts : List Tree) (i : ℕ) (t : Tree) (w d : ℕ) → IsMeasuredList w d ts → (weight_limit < w + weight t) ⊎ (depth_limit < max d (depth t + 1)) → IsWithinLimits (list_of (insert ts i t)) → ⊥
too_large-insert ts i t w d m past limits =
    elim past [
      | inl heavy ↦ omega (arith, heavy, m.weight_is, list_weight-insert ts i t, limits.weight)
      | inr deep ↦ omega (arith, deep, m.depth_is, list_depth-insert ts i t, limits.depth)
    ]

list_weight-remove : (ts : List Tree) (i : ℕ) (t : Tree) → i < length ts → list_weight (remove ts i) + weight (get_or ts i t) ≡ list_weight ts
list_weight-remove [] i t h = absurd (omega arith)
list_weight-remove (u ∷ ts) zero t h = omega arith
list_weight-remove (u ∷ ts) (suc i) t h = omega (arith, list_weight-remove ts i t (omega arith))

list_is_value-remove : (ts : List Tree) (i : ℕ) → IsValue (list_of ts) → IsValue (list_of (remove ts i))
list_is_value-remove [] zero h = h
list_is_value-remove [] (suc i) h = h
list_is_value-remove (u ∷ ts) zero h = h.1
list_is_value-remove (u ∷ ts) (suc i) h = (h.0, list_is_value-remove ts i h.1)

-- a measured list with one element less is measured
pub measured-remove : (ts us : List Tree) (i w d new : ℕ) (old : Tree) → us ≡ ts → IsMeasuredList w d us → i < length ts → old ≡ get_or ts i old → new ≡ list_depth (remove ts i) → new ≤ depth_limit
    → IsMeasuredList (w - weight old) new (remove ts i)
measured-remove ts us i w d new old view m h at deep limit =
    let weighs : list_weight us ≡ list_weight ts = ap list_weight view in
    let old_is : weight old ≡ weight (get_or ts i old) = ap weight at in
    let w_is : w - weight old ≡ list_weight (remove ts i) = omega (arith, m.weight_is, weighs, old_is, list_weight-remove ts i old h) in
    record {
      weight_is = w_is;
      depth_is = deep;
      is_value = list_is_value-remove ts i (rw (← view) m.is_value);
      limits = record { weight = omega (arith, w_is, m.weight_is, m.limits.weight); depth = omega (arith, deep, limit) };
    }

list_depth-remove : (ts : List Tree) (i : ℕ) → list_depth (remove ts i) ≡ depth_around ts i
list_depth-remove [] zero = omega arith
list_depth-remove [] (suc i) = omega arith
list_depth-remove (u ∷ ts) zero = omega arith
list_depth-remove (u ∷ ts) (suc i) = omega (arith, list_depth-remove ts i)

-- the depth without an element, from the elements on both sides of it
pub depth_of_sides : (vs : List Value) (ts : List Tree) (i a b : ℕ) → trees vs ≡ ts → a ≡ list_depth (trees (take i vs)) → b ≡ list_depth (trees (drop (i + 1) vs)) → max a b ≡ list_depth (remove ts i)
depth_of_sides vs ts i a b is before after =
    let left : list_depth (trees (take i vs)) ≡ list_depth (take i ts) = ap list_depth (sym (take-map tree i vs) ∙ ap (take i) is) in
    let right : list_depth (trees (drop (suc i) vs)) ≡ list_depth (drop (suc i) ts) = ap list_depth (sym (drop-map tree (suc i) vs) ∙ ap (drop (suc i)) is) in
    let on : b ≡ list_depth (trees (drop (suc i) vs)) = after ∙ ap (λ k. list_depth (trees (drop k vs))) add_one_is in
    omega (arith, list_depth-remove ts i, left, right, before, on)
  where
    add_one_is : i + 1 ≡ suc i
    add_one_is = omega arith

-- if the elements before a place make the list as deep as it is, so they do without the element there
pub depth_of_front : (vs : List Value) (ts : List Tree) (i a : ℕ) → trees vs ≡ ts → a ≡ list_depth (trees (take i vs)) → a ≡ list_depth ts → a ≡ list_depth (remove ts i)
depth_of_front vs ts i a is before whole =
    let left : list_depth (trees (take i vs)) ≡ list_depth (take i ts) = ap list_depth (sym (take-map tree i vs) ∙ ap (take i) is) in
    omega (arith, list_depth-remove ts i, left, before, whole, list_depth-drop (suc i) ts)

-- the depth with a new element, from that without the old one
pub depth_anew : (ts : List Tree) (i : ℕ) (t : Tree) → i < length ts → max (list_depth (remove ts i)) (depth t + 1) ≡ list_depth (set ts i t)
depth_anew ts i t h = omega (arith, list_depth-set ts i t h, list_depth-remove ts i)

-- no part of a list is deeper
pub depth-take : (vs : List Value) (ts : List Tree) (i : ℕ) → trees vs ≡ ts → list_depth (trees (take i vs)) ≤ list_depth ts
depth-take [] ts zero is = omega (arith, ap list_depth is)
depth-take [] ts (suc i) is = omega (arith, ap list_depth is)
depth-take (v ∷ vs) ts zero is = omega (arith, ap list_depth is)
depth-take (v ∷ vs) ts (suc i) is = omega (arith, ap list_depth is, depth-take vs (trees vs) i refl)

pub depth-drop : (vs : List Value) (ts : List Tree) (i : ℕ) → trees vs ≡ ts → list_depth (trees (drop i vs)) ≤ list_depth ts
depth-drop [] ts zero is = omega (arith, ap list_depth is)
depth-drop [] ts (suc i) is = omega (arith, ap list_depth is)
depth-drop (v ∷ vs) ts zero is = omega (arith, ap list_depth is)
depth-drop (v ∷ vs) ts (suc i) is = omega (arith, ap list_depth is, depth-drop vs (trees vs) i refl)

-- the trees of values with one put in, and with one taken out
pub trees_insert : (vs : List Value) (k : ℕ) (v : Value) → trees (insert vs k v) ≡ insert (trees vs) k (tree v)
trees_insert vs k v = map-append tree (take k vs) (v ∷ drop k vs) ∙ ap (λ us. us ++ tree v ∷ trees (drop k vs)) (sym (take-map tree k vs)) ∙ ap (λ us. take k (trees vs) ++ tree v ∷ us) (sym (drop-map tree k vs))

pub trees_remove : (vs : List Value) (k : ℕ) → trees (remove vs k) ≡ remove (trees vs) k
trees_remove vs k = map-append tree (take k vs) (drop (suc k) vs) ∙ ap (λ us. us ++ trees (drop (suc k) vs)) (sym (take-map tree k vs)) ∙ ap (λ us. take k (trees vs) ++ us) (sym (drop-map tree (suc k) vs))
