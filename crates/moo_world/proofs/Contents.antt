-- What is in an object is within the limits of a list.
use Rattle.std.proofs.Common.{◌≡◌, ℕ, ◌<◌, ◌≤◌, List, [], ◌∷◌, Option, Some, None, true, false, cond, eqb, refl, sym, ◌∙◌, ap, ⊎_elim, arith, length}
use Rattle.std.specs.List.{list_any, count_by, IsDistinct, AllByRecursion}
use Rattle.std.proofs.lemmas.List.{get_or_past}
use Rattle.moo_world_tree.proofs.Counting.{count-cons}
use Rattle.std.proofs.lemmas.Map.Steps.{length-le_from_distinct_below}
use Rattle.std.proofs.lemmas.Bool.{cases_Bool, cases_lt, eqb-true, eq-eqb, or_left, or_cases, false≢true}
use Rattle.moo_value.specs.Size.{weight_limit}
use Rattle.moo_world_tree.specs.Forest.{Links, IsForest, alone, above_of, below_of, is_within, ancestors, times_below}
use Rattle.moo_world_tree.proofs.Walking.{any_counted}
use Rattle.moo_world_tree.proofs.Dissolving.{above_apart}
use Rattle.moo_world_table.specs.World.{World, IsWellFormed}

absent : (x : ℕ) (ys : List ℕ) → count_by (eqb x) ys ≡ 0 → AllByRecursion (λ y. eqb x y ≡ false) ys
absent x [] none = tt
absent x (y ∷ ys) none =
    let more = count-cons x y ys in
    ⊎_elim
    (λ e. absurd (let one : ◌≡◌ {A = ℕ} (cond (eqb x y) 1 0) 1 = (rw e refl) in omega (arith, more, one)))
    (λ e. (e, absent x ys (omega (arith, more))))
    (cases_Bool (eqb x y))

-- a list in which no number occurs twice
once_distinct : (ys : List ℕ) → ((y : ℕ) → count_by (eqb y) ys ≤ 1) → IsDistinct eqb ys
unfolding IsDistinct
once_distinct [] few = tt
once_distinct (y ∷ ys) few =
    let more = count-cons y y ys in
    let one : ◌≡◌ {A = ℕ} (cond (eqb y y) 1 0) 1 = (let same = eq-eqb y y refl in rw same refl) in
    let here = few y in
    let none : count_by (eqb y) ys ≡ 0 = omega (arith, more, one, here) in
    (absent y ys none, once_distinct ys (λ z. let step = count-cons z y ys in let whole = few z in omega (arith, step, whole)))

at_most_once : (r : Option ℕ) (x : ℕ) → times_below r x ≤ 1
at_most_once None x = omega arith
at_most_once (Some up) x = ⊎_elim (λ e. rw e (omega arith)) (λ e. rw e (omega arith)) (cases_Bool (eqb x up))

module _ (nodes : List Links) (f : IsForest nodes) (x : ℕ) where
  -- nothing is right below itself
  not_own : count_by (eqb x) (below_of nodes x) ≡ 0
  not_own = f.exact x x ∙ over (above_of nodes x) refl
    where
      over : (r : Option ℕ) → above_of nodes x ≡ r → times_below (above_of nodes x) x ≡ 0
      over None e = rw e refl
      over (Some up) e =
          ⊎_elim
          (λ same.
          let here : is_within nodes up x ≡ true = or_left (eqb x up) (list_any (eqb x) (ancestors nodes up)) same in
          absurd (false≢true (sym (above_apart nodes f x up e) ∙ here)))
          (λ other. rw e (rw other refl))
          (cases_Bool (eqb x up))

  each_once : (y : ℕ) → count_by (eqb y) (x ∷ below_of nodes x) ≤ 1
  each_once y =
      let more = count-cons y x (below_of nodes x) in
      ⊎_elim
      (λ e.
      let one : ◌≡◌ {A = ℕ} (cond (eqb y x) 1 0) 1 = (rw e refl) in
      let none : count_by (eqb y) (below_of nodes x) ≡ 0 = ap (λ n. count_by (eqb n) (below_of nodes x)) (eqb-true y x e) ∙ not_own in
      omega (arith, more, one, none))
      (λ e.
      let zero_here : ◌≡◌ {A = ℕ} (cond (eqb y x) 1 0) 0 = (rw e refl) in
      let count = f.exact x y in
      let few = at_most_once (above_of nodes y) x in
      omega (arith, more, zero_here, count, few))
      (cases_Bool (eqb y x))

  listed_low : (q : ℕ) → list_any (eqb q) (below_of nodes x) ≡ true → q < length nodes
  listed_low q on =
      ⊎_elim
      (λ low. low)
      (λ past.
      let top : above_of nodes q ≡ None = ap (λ (n : Links). n.above) (get_or_past nodes q alone past) in
      let count = f.exact x q in
      let none : times_below (above_of nodes q) x ≡ 0 = (rw top refl) in
      let some = any_counted q (below_of nodes x) on in
      absurd (omega (arith, count, none, some)))
      (cases_lt q (length nodes))

  fewer_below : x < length nodes → length (below_of nodes x) < length nodes
  fewer_below low =
      let n = length-le_from_distinct_below (x ∷ below_of nodes x) (length nodes) (once_distinct (x ∷ below_of nodes x) each_once)
      (λ q on. ⊎_elim (λ same. (let is = eqb-true q x same in omega (arith, is, low))) (listed_low q) (or_cases (eqb q x) (list_any (eqb q) (below_of nodes x)) on)) in
      omega (arith, n)

pub contents_fit : (w : World) → IsWellFormed w → (x : ℕ) → length (below_of w.containment x) < weight_limit
contents_fit w f x =
    let many = f.places.many in
    let few = f.few in
    ⊎_elim
    (λ low. let n = fewer_below w.containment f.places.forest x low in omega (arith, n, many, few))
    (λ past. let none : length (below_of w.containment x) ≡ 0 = ap (λ (n : Links). length n.below) (get_or_past w.containment x alone past) in omega (arith, none))
    (cases_lt x (length w.containment))
