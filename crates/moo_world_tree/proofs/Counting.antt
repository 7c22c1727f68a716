-- How often a number occurs in a list.
use Rattle.std.proofs.Common.{◌≡◌, ℕ, ◌+◌, ◌<◌, List, [], ◌∷◌, Bool, true, false, cond, eqb, refl, sym, ◌∙◌, ap, ⊎_elim, arith}
use Rattle.std.specs.List.{count_by, list_any}
use Rattle.std.proofs.lemmas.List.Sums.{sum_by-cons}
use Rattle.std.proofs.lemmas.Bool.{cases_Bool, eqb-true, eqb-false, ne_eqb, or_left, or_right}
use Rattle.moo_world_tree.specs.Forest.{without}

-- how often x occurs in a list with y at its head
pub count-cons : (x y : ℕ) (ys : List ℕ) → count_by (eqb x) (y ∷ ys) ≡ cond (eqb x y) 1 0 + count_by (eqb x) ys
count-cons x y ys = sum_by-cons (λ z. cond (eqb x z) 1 0) y ys

pub zero_if : (b : Bool) → b ≡ false → ◌≡◌ {A = ℕ} (cond b 1 0) 0
zero_if b e = rw e refl

pub one_if : (b : Bool) → b ≡ true → ◌≡◌ {A = ℕ} (cond b 1 0) 1
one_if b e = rw e refl

-- x is not in the list without it
pub count_without_itself : (x : ℕ) (ys : List ℕ) → count_by (eqb x) (without x ys) ≡ 0
count_without_itself x [] = refl
count_without_itself x (y ∷ ys) =
    let here = count-cons x y (without x ys) in
    let rest = count_without_itself x ys in
    ⊎_elim (λ e. rw e rest) (λ e. rw e (here ∙ (let step = zero_if (eqb x y) e in omega (arith, rest, step)))) (cases_Bool (eqb x y))

-- other numbers stay
pub count_without_other : (x z : ℕ) (ys : List ℕ) → eqb x z ≡ false → count_by (eqb z) (without x ys) ≡ count_by (eqb z) ys
count_without_other x z [] ne = refl
count_without_other x z (y ∷ ys) ne =
    let rest = count_without_other x z ys ne in
    let there = count-cons z y (without x ys) in
    let whole = count-cons z y ys in
    ⊎_elim
    (λ e. let other : eqb z y ≡ false = ne_eqb z y (λ zy. eqb-false x z ne (eqb-true x y e ∙ sym zy)) in let step = zero_if (eqb z y) other in rw e (omega (arith, rest, whole, step)))
    (λ e. rw e (there ∙ (ap (λ n. cond (eqb z y) 1 0 + n) rest ∙ sym whole)))
    (cases_Bool (eqb x y))

-- an element of a list occurs at least once
pub counted_if_any : (x : ℕ) (ys : List ℕ) → 0 < count_by (eqb x) ys → list_any (eqb x) ys ≡ true
counted_if_any x [] h = absurd (omega arith)
counted_if_any x (y ∷ ys) h =
    ⊎_elim
    (λ e. or_left (eqb x y) (list_any (eqb x) ys) e)
    (λ e. or_right (eqb x y) (list_any (eqb x) ys) (counted_if_any x ys (let step = zero_if (eqb x y) e in omega (arith, count-cons x y ys, step))))
    (cases_Bool (eqb x y))

-- a list that has no x is itself without it
pub without_absent : (x : ℕ) (ys : List ℕ) → count_by (eqb x) ys ≡ 0 → without x ys ≡ ys
without_absent x [] none = refl
without_absent x (y ∷ ys) none =
    ⊎_elim
    (λ e. absurd (let one = one_if (eqb x y) e in omega (arith, count-cons x y ys, one)))
    (λ e. let rest = without_absent x ys (let step = zero_if (eqb x y) e in omega (arith, count-cons x y ys, step)) in rw (e, rest) refl)
    (cases_Bool (eqb x y))
