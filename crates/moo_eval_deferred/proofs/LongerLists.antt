-- Lists with several values after their elements, within the limits and past them.
use Rattle.std.proofs.Common.{◌≡◌, ℕ, ◌+◌, ◌≤◌, ◌<◌, max, length, take, drop, get_or, List, [], ◌∷◌, ◌++◌, sym, ap, ◌∙◌, arith}
use Rattle.std.proofs.lemmas.List.{append_assoc, take-append-drop, map-append}
use Rattle.moo_value.specs.declared.value.Value.{Value}
use Rattle.moo_value.specs.Tree.{Tree, list_of}
use Rattle.moo_value.specs.View.{tree, trees}
use Rattle.moo_value.specs.Size.{weight, depth, list_weight, list_depth, weight_limit, depth_limit, IsWithinLimits}
use Rattle.moo_eval_access.specs.Bounds.{IsWithin}
use Rattle.moo_value.proofs.Lists.{list_weight-push, list_depth-push, list_weight-append, trees-take_more}

list_depth-append : (ts us : List Tree) → list_depth ts ≤ list_depth (ts ++ us)
list_depth-append [] us = omega arith
list_depth-append (t ∷ ts) us = omega (arith, list_depth-append ts us)

-- one value more after the first ones
pub next_value : (ts : List Tree) (vs : List Value) (i : ℕ) (v : Value) → i < length vs → v ≡ get_or vs i v → ts ++ trees (take (i + 1) vs) ≡ (ts ++ trees (take i vs)) ++ tree v ∷ []
next_value ts vs i v low is = ap (λ us. ts ++ us) (trees-take_more vs i v low is) ∙ sym (append_assoc ts (trees (take i vs)) (tree v ∷ []))

-- the weight and the depth with one value more
pub next_weight : (ts : List Tree) (vs : List Value) (i : ℕ) (v : Value) (w : ℕ) → i < length vs → v ≡ get_or vs i v → w ≡ list_weight (ts ++ trees (take i vs)) → w + weight (tree v) ≡ list_weight (ts ++ trees (take (i + 1) vs))
next_weight ts vs i v w low is e = rw (next_value ts vs i v low is) (omega (arith, e, list_weight-push (ts ++ trees (take i vs)) (tree v)))

pub next_depth : (ts : List Tree) (vs : List Value) (i : ℕ) (v : Value) (d : ℕ) → i < length vs → v ≡ get_or vs i v → d ≡ list_depth (ts ++ trees (take i vs)) → max d (depth (tree v) + 1) ≡ list_depth (ts ++ trees (take (i + 1) vs))
next_depth ts vs i v d low is e = rw (next_value ts vs i v low is) (omega (arith, e, list_depth-push (ts ++ trees (take i vs)) (tree v)))

-- the first values are a part of all
part_of : (ts : List Tree) (vs : List Value) (k : ℕ) → (us : List Tree) × (ts ++ trees vs ≡ (ts ++ trees (take k vs)) ++ us)
part_of ts vs k =
    (trees (drop k vs), ap (λ xs. ts ++ trees xs) (sym (take-append-drop k vs)) ∙ ap (λ us. ts ++ us) (map-append tree (take k vs) (drop k vs)) ∙ sym (append_assoc ts (trees (take k vs)) (trees (drop k vs))))

-- too heavy with the first values
pub too_heavy_by : (ts : List Tree) (vs : List Value) (k w : ℕ) → w ≡ list_weight (ts ++ trees (take k vs)) → weight_limit < w → ¬ IsWithinLimits (list_of (ts ++ trees vs))
too_heavy_by ts vs k w e h =
    let p = part_of ts vs k in
    λ limits. let l = limits.weight in let m = list_weight-append (ts ++ trees (take k vs)) p.0 in absurd (omega (arith, e, h, l, m, ap list_weight p.1))

module _ (ts : List Tree) (vs : List Value) (k w d : ℕ) (all : take k vs ≡ vs) (e : w ≡ list_weight (ts ++ trees (take k vs))) (f : d ≡ list_depth (ts ++ trees (take k vs))) where
  weighs_all : w ≡ list_weight (ts ++ trees vs)
  weighs_all = e ∙ ap (λ xs. list_weight (ts ++ trees xs)) all

  nests_all : d ≡ list_depth (ts ++ trees vs)
  nests_all = f ∙ ap (λ xs. list_depth (ts ++ trees xs)) all

  -- the bounds with all values
  pub measured_by : IsWithin w d (list_of (ts ++ trees vs))
  measured_by = record { weighs = omega (arith, weighs_all); nests = omega (arith, nests_all) }

  pub fits_by : w ≤ weight_limit → d ≤ depth_limit → IsWithinLimits (list_of (ts ++ trees vs))
  fits_by h l = record { weight = omega (arith, weighs_all, h); depth = omega (arith, nests_all, l) }

  pub too_deep_by : depth_limit < d → ¬ IsWithinLimits (list_of (ts ++ trees vs))
  too_deep_by h = λ limits. let l = limits.depth in absurd (omega (arith, nests_all, h, l))

-- a list with one value more is within the limits if it is with further ones
pub part_fits : (us : List Tree) (t : Tree) (rest whole : List Tree) → us ++ t ∷ rest ≡ whole → IsWithinLimits (list_of whole) → IsWithinLimits (list_of (us ++ t ∷ []))
part_fits us t rest whole is limits =
    let same : (us ++ t ∷ []) ++ rest ≡ whole = append_assoc us (t ∷ []) rest ∙ is in
    let m = list_weight-append (us ++ t ∷ []) rest in
    let n = list_depth-append (us ++ t ∷ []) rest in
    let l = limits.weight in
    let k = limits.depth in
    record { weight = omega (arith, m, l, ap list_weight same); depth = omega (arith, n, k, ap list_depth same) }
