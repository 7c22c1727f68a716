-- The next number after each one in the lists of a tree, stored list after list.
use Rattle.std.proofs.Common.{◌≡◌, ℕ, zero, suc, ◌+◌, ◌<◌, List, [], ◌∷◌, ◌++◌, length, Option, Some, None, nat_lt, cond, eqb, refl, sym, ap, subst, ◌∙◌, ⊎_elim, arith, get_or, set}
use Rattle.std.specs.List.{All, count_by, slice_get}
use Rattle.std.proofs.lemmas.Bool.{cases_Bool, cases_lt, cases_eq, eq-eqb, eqb-true, eqb-false, ne_eqb, lt-ltb, le-ltb}
use Rattle.std.proofs.lemmas.List.{get_or_past, get_or-set_same, get_or-set_other}
use Rattle.std.proofs.lemmas.List.Elements.{All-head, All-tail}
use Rattle.moo_world_tree.specs.Forest.{Links, alone, above_of, below_of, times_below, IsForest}
use Rattle.moo_world_tree.proofs.Counting.{count-cons}
use Rattle.moo_dbtext_restore.specs.Recorded.{first_in, next_in, next_below}
use Rattle.moo_dbtext.specs.Nexts.{next_or}

-- the number after y in the list of the number above it, if that is below n
abbrev pub next_until : List Links → ℕ → Option ℕ → ℕ → Option ℕ
next_until tree n None y = None
next_until tree n (Some up) y = cond (nat_lt up n) (next_in y (below_of tree up)) None

one_here : (y z : ℕ) → y ≡ z → ◌≡◌ {A = ℕ} (cond (eqb y z) 1 0) 1
one_here y z same = let e = eq-eqb y z same in rw e refl

counted : (ys : List ℕ) (k d : ℕ) → k < length ys → 0 < count_by (eqb (get_or ys k d)) ys
counted [] k d low = absurd (omega arith)
counted (z ∷ zs) zero d low =
    let parts = count-cons z z zs in
    let one = one_here z z refl in
    omega (arith, parts, one)
counted (z ∷ zs) (suc k) d low =
    let parts = count-cons (get_or zs k d) z zs in
    let rest = counted zs k d (omega arith) in
    omega (arith, parts, rest)

-- a number below another is a number of the tree
pub below_low : (tree : List Links) → IsForest tree → (x : ℕ) → All (λ y. y < length tree) (below_of tree x)
below_low tree f x k d low = ⊎_elim
    (λ inside. inside)
    (λ past.
    let y = get_or (below_of tree x) k d in
    let some = counted (below_of tree x) k d low in
    let count = f.exact x y in
    let none : times_below (above_of tree y) x ≡ 0 = ap (λ (l : Links). times_below l.above x) (get_or_past tree y alone past) in
    absurd (omega (arith, some, count, none)))
    (cases_lt (get_or (below_of tree x) k d) (length tree))

-- a number that has one below it is a number of the tree
pub above_inside : (tree : List Links) → IsForest tree → (y up : ℕ) → above_of tree y ≡ Some up → up < length tree
above_inside tree f y up above = ⊎_elim
    (λ inside. inside)
    (λ past.
    let count = f.exact up y in
    let none : count_by (eqb y) (below_of tree up) ≡ 0 = ap (λ (l : Links). count_by (eqb y) l.below) (get_or_past tree up alone past) in
    let one : times_below (above_of tree y) up ≡ 1 = (ap (λ u. times_below u up) above ∙ one_here up up refl) in
    absurd (omega (arith, count, none, one)))
    (cases_lt up (length tree))

absent : (ys : List ℕ) (given : Option ℕ) (y : ℕ) → count_by (eqb y) ys ≡ 0 → next_or ys given y ≡ given
absent [] given y none = refl
absent (z ∷ zs) given y none =
    let parts = count-cons y z zs in
    ⊎_elim
    (λ same. absurd (let one = one_here y z (sym same) in omega (arith, parts, one, none)))
    (λ other. let e = ne_eqb z y other in rw e (absent zs given y (omega (arith, parts, none))))
    (cases_eq z y)

there : (ys : List ℕ) (given : Option ℕ) (y : ℕ) → 0 < count_by (eqb y) ys → next_or ys given y ≡ next_in y ys
there [] given y some = absurd (omega arith)
there (z ∷ zs) given y some =
    let parts = count-cons y z zs in
    ⊎_elim
    (λ same. let e = eq-eqb z y same in rw e refl)
    (λ other.
    let e = ne_eqb z y other in
    let d = ne_eqb y z (λ same. other (sym same)) in
    let none : ◌≡◌ {A = ℕ} (cond (eqb y z) 1 0) 0 = (rw d refl) in
    rw e (there zs given y (omega (arith, parts, none, some))))
    (cases_eq z y)

-- one list more
pub next_step : (tree : List Links) (x y : ℕ) (up : Option ℕ) → count_by (eqb y) (below_of tree x) ≡ times_below up x
    → next_or (below_of tree x) (next_until tree x up y) y ≡ next_until tree (x + 1) up y
next_step tree x y None count = absent (below_of tree x) None y count
next_step tree x y (Some up) count = ⊎_elim
    (λ same.
    let one = one_here x up same in
    let low = lt-ltb up (x + 1) (omega arith) in
    there (below_of tree x) (next_until tree x (Some up) y) y (omega (arith, count, one)) ∙ (ap (λ z. next_in y (below_of tree z)) same ∙ sym (rw low refl)))
    (λ other.
    let e = ne_eqb x up other in
    let none : times_below (Some up) x ≡ 0 = (rw e refl) in
    absent (below_of tree x) (next_until tree x (Some up) y) y (count ∙ none) ∙ alike other)
    (cases_eq x up)
  where
    alike : (x ≡ up → ⊥) → next_until tree x (Some up) y ≡ next_until tree (x + 1) (Some up) y
    alike other = ⊎_elim
        (λ low.
        let now = lt-ltb up x low in
        let then = lt-ltb up (x + 1) (omega arith) in
        rw now (rw then refl))
        (λ high.
        let apart : x < up = ⊎_elim (λ less. less) (λ more. absurd (other (omega arith))) (cases_lt x up) in
        let now = le-ltb up x high in
        let then = le-ltb up (x + 1) (omega arith) in
        rw now (rw then refl))
        (cases_lt up x)

-- no list
pub next_none : (tree : List Links) (y : ℕ) (up : Option ℕ) → next_until tree 0 up y ≡ None
next_none tree y None = refl
next_none tree y (Some up) = let none = le-ltb up 0 (omega arith) in rw none refl

-- all lists
pub next_all : (tree : List Links) → IsForest tree → (n y : ℕ) → length tree ≡ n → next_until tree n (above_of tree y) y ≡ next_below tree (above_of tree y) y
next_all tree f n y all = over (above_of tree y) refl
  where
    over : (up : Option ℕ) → above_of tree y ≡ up → next_until tree n up y ≡ next_below tree up y
    over None above = refl
    over (Some up) above =
        let inside = above_inside tree f y up above in
        let low = lt-ltb up n (omega (arith, inside, all)) in
        rw low refl

none_is_no : (z : ℕ) → ◌≡◌ {A = Option ℕ} None (Some z) → ⊥
none_is_no z e = cc

some_same : (y z : ℕ) → ◌≡◌ {A = Option ℕ} (Some y) (Some z) → y ≡ z
some_same y z e = cc

first_low : (P : ℕ → Type 0) (ys : List ℕ) (z : ℕ) → All P ys → first_in ys ≡ Some z → P z
first_low P [] z all is = absurd (none_is_no z is)
first_low P (y ∷ ys) z all is = subst P (some_same y z is) (all 0 0 (omega arith))

next_low : (P : ℕ → Type 0) (ys : List ℕ) (x z : ℕ) → All P ys → next_in x ys ≡ Some z → P z
next_low P [] x z all is = absurd (none_is_no z is)
next_low P (y ∷ ys) x z all is =
    let rest : All P ys = All-tail P y ys all in
    ⊎_elim
    (λ e. first_low P ys z rest (sym (let found : next_in x (y ∷ ys) ≡ first_in ys = (rw e refl) in found) ∙ is))
    (λ e. next_low P ys x z rest (sym (let on : next_in x (y ∷ ys) ≡ next_in x ys = (rw e refl) in on) ∙ is))
    (cases_Bool (eqb y x))

-- what the links of a number name are numbers of the tree
pub first_inside : (tree : List Links) → IsForest tree → (x z : ℕ) → first_in (below_of tree x) ≡ Some z → z < length tree
first_inside tree f x z is = first_low (λ y. y < length tree) (below_of tree x) z (below_low tree f x) is

pub next_inside : (tree : List Links) → IsForest tree → (x z : ℕ) (up : Option ℕ) → next_below tree up x ≡ Some z → z < length tree
next_inside tree f x z None is = absurd (none_is_no z is)
next_inside tree f x z (Some up) is = next_low (λ y. y < length tree) (below_of tree up) x z (below_low tree f up) is

-- a number among others is as low as they are
pub among : (n : ℕ) (left done : List ℕ) (x : ℕ) → All (λ y. y < n) (left ++ x ∷ done) → x < n
among n [] done x all = All-head (λ y. y < n) x done all
among n (z ∷ left) done x all = among n left done x (All-tail (λ y. y < n) z (left ++ x ∷ done) all)

-- the numbers after those of one list more are stored
pub put_one : (next old : List (Option ℕ)) (following : Option ℕ) (x : ℕ) (done : List ℕ) → x < length next → following ≡ first_in done →
    ((y : ℕ) → get_or next y None ≡ next_or done (get_or old y None) y) → (y : ℕ) → get_or (set next x following) y None ≡ next_or (x ∷ done) (get_or old y None) y
put_one next old following x done low is each y = ⊎_elim
    (λ e. rw e (ap (λ k. get_or (set next x following) k None) (sym (eqb-true x y e)) ∙ get_or-set_same next x following None low ∙ is))
    (λ e. rw e (get_or-set_other next x y following None (λ same. eqb-false x y e (sym same)) ∙ each y))
    (cases_Bool (eqb x y))

pub first_got : (ys : List ℕ) → slice_get ys 0 ≡ first_in ys
first_got [] = refl
first_got (y ∷ ys) = refl
