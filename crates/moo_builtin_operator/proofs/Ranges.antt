-- Proofs of the laws on ranges.
use Rattle.std.proofs.Common.{◌≡◌, ℕ, zero, suc, ◌+◌, ◌-◌, ◌<◌, ◌≤◌, ℤ, pos, negsuc, ◌+ℤ◌, List, [], ◌∷◌, length, take, drop, Bool, true, false, cond, leb, Option, Some, None, Ok, refl, sym, ap, ◌∙◌, arith}
use Rattle.std.specs.Prelude.{slice_get, slice_range, int_lt, int_le, unsigned_abs, ◌&&◌}
use Rattle.std.proofs.lemmas.Int.{ints}
use Rattle.std.proofs.lemmas.Bool.{false≢true}
use Rattle.std.proofs.lemmas.Bool.Decides.{nat_tests}
use Rattle.std.proofs.lemmas.List.{length-take, length-drop}
use Rattle.moo_value.specs.Tree.{Tree, integer, object, error, string, list, list_of, trees_of}
use Rattle.moo_value.specs.TreeCode.{trees_of-elements_of}
use Rattle.moo_builtin_operator.specs.Places.{or_range, at_place, part, index_of, length_of}
use Rattle.moo_builtin_operator.specs.Laws.{IndexesRange, MeasuresRange}

slice_get-take : {X : Type 0} (xs : List X) (m i : ℕ) → i < m → slice_get (take m xs) i ≡ slice_get xs i
slice_get-take [] zero i h = refl
slice_get-take [] (suc m) i h = refl
slice_get-take (x ∷ xs) zero i h = absurd (omega arith)
slice_get-take (x ∷ xs) (suc m) zero h = refl
slice_get-take (x ∷ xs) (suc m) (suc i) h = slice_get-take xs m i (omega arith)

slice_get-drop : {X : Type 0} (xs : List X) (l i : ℕ) → slice_get (drop l xs) i ≡ slice_get xs (l + i)
slice_get-drop xs zero i = ap (slice_get xs) (omega arith)
slice_get-drop [] (suc l) i = refl
slice_get-drop (x ∷ xs) (suc l) i = slice_get-drop xs l i ∙ next x xs (l + i) (suc l + i) (omega arith)
  where
    next : {X : Type 0} (x : X) (xs : List X) (j k : ℕ) → k ≡ suc j → slice_get xs j ≡ slice_get (x ∷ xs) k
    next x xs j k e = ap (slice_get (x ∷ xs)) (sym e)

-- a part that is found is not empty, and lies inside
record IsInside {X : Type 0} (xs : List X) (low : ℤ) (n : ℕ) (ys : List X) : Type 0 where
  before : ℕ
  low_is : low ≡ pos (suc before)
  fits : suc before + n ≤ length xs
  part_is : ys ≡ take (suc n) (drop before xs)

not_above : (low : ℤ) (n : ℕ) → int_lt (low +ℤ pos n) low ≡ false
not_above low n = grind (arith, ints)

chosen : {X : Type 0} (p q : Bool) (us ys : List X) → p ≡ false → cond p (Some []) (cond q (Some us) None) ≡ Some ys → (q ≡ true) × (us ≡ ys)
chosen true q us ys e h = cc
chosen false true us ys e h = (refl, cc)
chosen false false us ys e h = cc

both : (p q : Bool) → (p && q) ≡ true → (p ≡ true) × (q ≡ true)
both true true h = (refl, refl)
both true false h = cc
both false q h = cc

tested : {X : Type 0} (xs : List X) (low : ℤ) (n : ℕ) (ys : List X) → part xs low (low +ℤ pos n) ≡ Some ys
    → ((int_le (pos 1) low && int_le (low +ℤ pos n) (pos (length xs))) ≡ true) × (slice_range xs (unsigned_abs low - 1) (unsigned_abs (low +ℤ pos n)) ≡ ys)
tested xs low n ys h =
    chosen (int_lt (low +ℤ pos n) low) (int_le (pos 1) low && int_le (low +ℤ pos n) (pos (length xs))) (slice_range xs (unsigned_abs low - 1) (unsigned_abs (low +ℤ pos n))) ys (not_above low n) h

inside : {X : Type 0} (xs : List X) (low : ℤ) (n : ℕ) (ys : List X) → part xs low (low +ℤ pos n) ≡ Some ys → IsInside xs low n ys
inside xs (pos zero) n ys h = absurd (false≢true (tested xs (pos 0) n ys h).0)
inside xs (negsuc m) n ys h = absurd (false≢true (tested xs (negsuc m) n ys h).0)
inside xs (pos (suc l)) n ys h =
    let c = tested xs (pos (suc l)) n ys h in
    let last : leb (suc l + n) (length xs) ≡ true = (both (int_le (pos 1) (pos (suc l))) (leb (suc l + n) (length xs)) c.0).1 in
    let one : suc l - 1 ≡ l = omega arith in
    let all : suc l + n - l ≡ suc n = omega arith in
    record {
      before = l;
      low_is = refl;
      fits = grind (arith, nat_tests);
      part_is = sym c.1 ∙ ap (λ k. take (suc l + n - k) (drop k xs)) one ∙ ap (λ k. take k (drop l xs)) all;
    }

found_in_part : {X : Type 0} (xs ys : List X) (low : ℤ) (i n : ℕ) → IsInside xs low n ys → i ≤ n → at_place ys (pos (suc i)) ≡ at_place xs (low +ℤ pos i)
found_in_part xs ys low i n p h =
    let at : low +ℤ pos i ≡ pos (suc (p.before + i)) = ap (λ z. z +ℤ pos i) p.low_is ∙ ap pos (omega arith) in
    ap (λ zs. slice_get zs i) p.part_is
    ∙ slice_get-take (drop p.before xs) (suc n) i (omega arith)
    ∙ slice_get-drop xs p.before i
    ∙ ap (at_place xs) (sym at)

length_of_part : {X : Type 0} (xs ys : List X) (low : ℤ) (n : ℕ) → IsInside xs low n ys → length ys ≡ suc n
length_of_part xs ys low n p = ap length p.part_is ∙ simp (length-take, length-drop) (omega (arith, p.fits))

made : {A : Type 0} (o : Option A) (f : A → Tree) (t : Tree) → or_range o (λ x. Ok (f x)) ≡ Ok t → (x : A) × (o ≡ Some x) × (f x ≡ t)
made None f t h = cc
made (Some x) f t h = (x, refl, cc)

pub indexes_range : IndexesRange
indexes_range (integer j) cut low i n h less = cc
indexes_range (object o) cut low i n h less = cc
indexes_range (error e) cut low i n h less = cc
indexes_range (string s) cut low i n h less =
    let found = made (part s low (low +ℤ pos n)) string cut h in
    ap (λ t. index_of t (integer (pos (suc i)))) (sym found.2)
    ∙ ap (λ o. or_range o (λ b. Ok (string (b ∷ [])))) (found_in_part s found.0 low i n (inside s low n found.0 found.1) less)
indexes_range (list es) cut low i n h less =
    let found = made (part (trees_of es) low (low +ℤ pos n)) list_of cut h in
    ap (λ t. index_of t (integer (pos (suc i)))) (sym found.2)
    ∙ ap (λ us. or_range (at_place us (pos (suc i))) (λ t. Ok t)) (trees_of-elements_of found.0)
    ∙ ap (λ o. or_range o (λ t. Ok t)) (found_in_part (trees_of es) found.0 low i n (inside (trees_of es) low n found.0 found.1) less)

pub measures_range : MeasuresRange
measures_range (integer j) cut low n h = cc
measures_range (object o) cut low n h = cc
measures_range (error e) cut low n h = cc
measures_range (string s) cut low n h =
    let found = made (part s low (low +ℤ pos n)) string cut h in
    ap length_of (sym found.2) ∙ ap (λ k. Ok (integer (pos k))) (length_of_part s found.0 low n (inside s low n found.0 found.1))
measures_range (list es) cut low n h =
    let found = made (part (trees_of es) low (low +ℤ pos n)) list_of cut h in
    ap length_of (sym found.2)
    ∙ ap (λ us. Ok (integer (pos (length us)))) (trees_of-elements_of found.0)
    ∙ ap (λ k. Ok (integer (pos k))) (length_of_part (trees_of es) found.0 low n (inside (trees_of es) low n found.0 found.1))
