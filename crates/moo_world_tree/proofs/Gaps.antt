-- The contents of slots.
use Rattle.std.proofs.Common.{◌≡◌, ℕ, zero, suc, ◌+◌, ◌<◌, ◌≤◌, List, [], ◌∷◌, ◌++◌, Option, Some, None, true, false, cond, eqb, refl, sym, ◌∙◌, ap, ⊎_elim, arith, length, get_or, set, map, take}
use Rattle.std.specs.Prelude.{filter, MatchOption}
use Rattle.std.specs.List.{count_by}
use Rattle.std.specs.Option.{is_some}
use Rattle.std.proofs.lemmas.List.{take_more, append-nil}
use Rattle.std.proofs.lemmas.List.Sums.{sum_by-append}
use Rattle.std.proofs.lemmas.Bool.{cases_Bool, eq-eqb, ne_eqb, false≢true}
use Rattle.moo_world_tree.specs.Forest.{without}
use Rattle.moo_world_tree.specs.Gapped.{present}
use Rattle.moo_world_tree.proofs.Counting.{count-cons, zero_if, one_if, without_absent}

pub present-append : (slots others : List (Option ℕ)) → present (slots ++ others) ≡ present slots ++ present others
present-append [] others = refl
present-append (None ∷ slots) others = present-append slots others
present-append (Some x ∷ slots) others = ap (λ ys. x ∷ ys) (present-append slots others)

pub present_all : (xs : List ℕ) → present (map (λ x. Some x) xs) ≡ xs
present_all [] = refl
present_all (x ∷ xs) = ap (λ ys. x ∷ ys) (present_all xs)

-- without the empty slots the contents are the same
pub present_filled : (slots : List (Option ℕ)) → present (filter (λ s. is_some s) slots) ≡ present slots
present_filled [] = refl
present_filled (None ∷ slots) = present_filled slots
present_filled (Some x ∷ slots) = ap (λ ys. x ∷ ys) (present_filled slots)

-- the contents of a slot are in the list
counted_at : (slots : List (Option ℕ)) (i x : ℕ) → get_or slots i None ≡ Some x → 0 < count_by (eqb x) (present slots)
counted_at [] i x is = absurd cc
counted_at (None ∷ slots) zero x is = absurd cc
counted_at (None ∷ slots) (suc i) x is = counted_at slots i x is
counted_at (Some y ∷ slots) zero x is =
    let same : y ≡ x = cc in
    let one = one_if (eqb x y) (eq-eqb x y (sym same)) in
    omega (arith, count-cons x y (present slots), one)
counted_at (Some y ∷ slots) (suc i) x is =
    omega (arith, count-cons x y (present slots), counted_at slots i x is)

-- after its slot is emptied, a node that occurred once is gone
pub cleared : (slots : List (Option ℕ)) (i x : ℕ) → get_or slots i None ≡ Some x → count_by (eqb x) (present slots) ≤ 1 → present (set slots i None) ≡ without x (present slots)
cleared [] i x is once = absurd cc
cleared (None ∷ slots) zero x is once = absurd cc
cleared (None ∷ slots) (suc i) x is once = cleared slots i x is once
cleared (Some y ∷ slots) zero x is once =
    let same : y ≡ x = cc in
    let e = eq-eqb x y (sym same) in
    let one = one_if (eqb x y) e in
    rw e (sym (without_absent x (present slots) (omega (arith, count-cons x y (present slots), one, once))))
cleared (Some y ∷ slots) (suc i) x is once =
    let rest = counted_at slots i x is in
    let all = count-cons x y (present slots) in
    ⊎_elim
    (λ e. absurd (let one = one_if (eqb x y) e in omega (arith, all, one, rest, once)))
    (λ e. let none = zero_if (eqb x y) e in rw e (ap (λ ys. y ∷ ys) (cleared slots i x is (omega (arith, all, none, once)))))
    (cases_Bool (eqb x y))

-- one more slot is looked at, which does not hold x
pub absent_more : (slots : List (Option ℕ)) (i x : ℕ) → i < length slots → (get_or slots i None ≡ Some x → ⊥) → count_by (eqb x) (present (take i slots)) ≡ 0 → count_by (eqb x) (present (take (i + 1) slots)) ≡ 0
absent_more slots i x low other none =
    let step = ap present (take_more slots i None low) ∙ present-append (take i slots) (get_or slots i None ∷ []) in
    let parts = sum_by-append (λ k. cond (eqb x k) 1 0) (present (take i slots)) (present (get_or slots i None ∷ [])) in
    let here = absent_one (get_or slots i None) x other in
    ap (count_by (eqb x)) step ∙ parts ∙ omega (arith, none, here)
  where
    absent_one : (slot : Option ℕ) (x : ℕ) → (slot ≡ Some x → ⊥) → count_by (eqb x) (present (slot ∷ [])) ≡ 0
    absent_one None x other = refl
    absent_one (Some y) x other =
        let e = ne_eqb x y (λ same. other (ap (λ z. Some z) (sym same))) in
        let none = zero_if (eqb x y) e in
        omega (arith, count-cons x y [], none)

-- the last slot is passed over where it is empty
pub last_passed : (slots others : List (Option ℕ)) (slot : Option ℕ) → slots ≡ others ++ slot ∷ [] → is_some slot ≡ false → present slots ≡ present others
last_passed slots others None is none = ap present is ∙ present-append others (None ∷ []) ∙ append-nil (present others)
last_passed slots others (Some x) is none = absurd (false≢true (sym none))

-- and else gives the last one
pub last_given : (slots others : List (Option ℕ)) (slot : Option ℕ) (whole : List ℕ) → slots ≡ others ++ slot ∷ [] → present slots ≡ whole → is_some slot ≡ true →
    MatchOption slot ((whole ≡ []) × (present others ≡ [])) (λ x. whole ≡ present others ++ x ∷ [])
last_given slots others None whole is all some = absurd (false≢true some)
last_given slots others (Some x) whole is all some = sym all ∙ ap present is ∙ present-append others (Some x ∷ [])
