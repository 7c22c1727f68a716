-- A string gives the number that it spells, and 0 if it spells none.
use Rattle.std.proofs.Common.{◌≡◌, ℕ, suc, ◌+◌, ℤ, pos, Bool, true, false, cond, List, [], ◌∷◌, ◌++◌, length, take, drop, refl, sym, ap, subst, ◌∙◌, arith, append-nil}
use Rattle.std.specs.Prelude.{◌≢◌, ◌==◌, ◌&&◌, ◌||◌}
use Rattle.std.specs.List.{AllByRecursion, prefix_len}
use Rattle.std.proofs.Math.Seq.{take-append_seam, drop-append_seam}
use Rattle.std.proofs.lemmas.List.{take-append-drop, take_all}
use Rattle.std.proofs.lemmas.Bool.Decides.{nat_tests}
use Rattle.moo_value.specs.Digits.{is_digit, wrapped}
use Rattle.moo_builtin_value.specs.Numerals.{is_blank, past, begins, past_byte, past_sign, is_blank_text, may_end, with_sign, number_at, signed_number, integer_number, object_number}
use Rattle.moo_builtin_value.specs.Spelling.{AreBlanks, AreDigits, IsSign, minus, plus, no_sign, IsFraction, no_fraction, fraction, IsMark, mark, no_mark, IsSigned, SpellsInteger, ReadsIntegers, ReadsObjects}

abbrev Passes : (ℕ → Bool) → List ℕ → Type 0
Passes test s = AllByRecursion (λ b. test b ≡ true) s

-- the test goes no further than here
abbrev Stops : (ℕ → Bool) → List ℕ → Type 0
Stops test [] = Unit {0}
Stops test (b ∷ s) = test b ≡ false

stopped : (test : ℕ → Bool) (s : List ℕ) → Stops test s → prefix_len test s ≡ 0
stopped test [] h = refl
stopped test (b ∷ s) h = ap (λ r. cond r (1 + prefix_len test s) 0) h

front_length : (test : ℕ → Bool) (s t : List ℕ) → Passes test s → Stops test t → prefix_len test (s ++ t) ≡ length s
front_length test [] t h stop = stopped test t stop
front_length test (b ∷ s) t h stop = ap (λ r. cond r (1 + prefix_len test (s ++ t)) 0) h.0 ∙ lengthened (front_length test s t h.1 stop)
  where
    lengthened : prefix_len test (s ++ t) ≡ length s → 1 + prefix_len test (s ++ t) ≡ length (b ∷ s)
    lengthened e = omega (arith, e)

past_front : (test : ℕ → Bool) (s t : List ℕ) → Passes test s → Stops test t → past test (s ++ t) ≡ t
past_front test s t h stop = ap (λ n. drop n (s ++ t)) (front_length test s t h stop) ∙ drop-append_seam s t

front_is : (test : ℕ → Bool) (s t : List ℕ) → Passes test s → Stops test t → take (prefix_len test (s ++ t)) (s ++ t) ≡ s
front_is test s t h stop = ap (λ n. take n (s ++ t)) (front_length test s t h stop) ∙ take-append_seam s t

-- blanks, digits, signs and points are different bytes
digit_no_blank : (b : ℕ) → is_digit b ≡ true → is_blank b ≡ false
digit_no_blank b h = grind (arith, nat_tests)

blank_no_digit : (b : ℕ) → is_blank b ≡ true → is_digit b ≡ false
blank_no_digit b h = grind (arith, nat_tests)

blank_no_point : (b : ℕ) → is_blank b ≡ true → (b == 46) ≡ false
blank_no_point b h = grind (arith, nat_tests)

blank_no_minus : (b : ℕ) → is_blank b ≡ true → (b == 45) ≡ false
blank_no_minus b h = grind (arith, nat_tests)

blank_no_plus : (b : ℕ) → is_blank b ≡ true → (b == 43) ≡ false
blank_no_plus b h = grind (arith, nat_tests)

digit_no_minus : (b : ℕ) → is_digit b ≡ true → (b == 45) ≡ false
digit_no_minus b h = grind (arith, nat_tests)

digit_no_plus : (b : ℕ) → is_digit b ≡ true → (b == 43) ≡ false
digit_no_plus b h = grind (arith, nat_tests)

digit_no_mark : (b : ℕ) → is_digit b ≡ true → (b == 35) ≡ false
digit_no_mark b h = grind (arith, nat_tests)

blank_no_mark : (b : ℕ) → is_blank b ≡ true → (b == 35) ≡ false
blank_no_mark b h = grind (arith, nat_tests)

blanks_stop_digits : (s : List ℕ) → AreBlanks s → Stops is_digit s
blanks_stop_digits [] h = tt
blanks_stop_digits (b ∷ s) h = blank_no_digit b h.0

all_blank : (s : List ℕ) → AreBlanks s → is_blank_text s ≡ true
all_blank s h = same (prefix_len is_blank s) (length s) (ap (prefix_len is_blank) (sym (append-nil s)) ∙ front_length is_blank s [] h tt)
  where
    same : (m n : ℕ) → m ≡ n → (m == n) ≡ true
    same m n e = grind (arith, nat_tests)

no_point_in_blanks : (s : List ℕ) → AreBlanks s → begins 46 s ≡ false
no_point_in_blanks [] h = refl
no_point_in_blanks (b ∷ s) h = blank_no_point b h.0

chosen_false : (point test : Bool) (s t : List ℕ) → test ≡ false → cond (point && test) s t ≡ t
chosen_false true test s t h = ap (λ r. cond r s t) h
chosen_false false test s t h = refl

-- what may come after the digits
ends_well : (point : Bool) (part after : List ℕ) → IsFraction point part → AreBlanks after → may_end point (part ++ after) ≡ true
ends_well point _ after no_fraction blank =
    ap is_blank_text (chosen_false point (begins 46 after) (past is_digit (drop 1 after)) after (no_point_in_blanks after blank)) ∙ all_blank after blank
ends_well _ _ after (fraction {digits = ds} are) blank = ap is_blank_text (past_front is_digit ds after are (blanks_stop_digits after blank)) ∙ all_blank after blank

digits_stop : (point : Bool) (part after : List ℕ) → IsFraction point part → AreBlanks after → Stops is_digit (part ++ after)
digits_stop point _ after no_fraction blank = blanks_stop_digits after blank
digits_stop _ _ after (fraction are) blank = refl

-- at the first digit
at_digits : (point is_minus : Bool) (d : ℕ) (ds tail : List ℕ) → AreDigits (d ∷ ds) → Stops is_digit tail → may_end point tail ≡ true
    → number_at point is_minus (d ∷ ds ++ tail) ≡ with_sign is_minus (wrapped (d ∷ ds))
at_digits point is_minus d ds tail are stop ends =
    let all = d ∷ ds in
    let long : prefix_len is_digit (all ++ tail) ≡ length all = front_length is_digit all tail are stop in
    ap (λ n. cond (n == 0) (pos 0) (cond (may_end point (drop n (all ++ tail))) (with_sign is_minus (wrapped (take n (all ++ tail)))) (pos 0))) long
    ∙ ap (λ r. cond r (pos 0) (cond (may_end point (drop (length all) (all ++ tail))) (with_sign is_minus (wrapped (take (length all) (all ++ tail)))) (pos 0))) some
    ∙ ap (λ t. cond (may_end point t) (with_sign is_minus (wrapped (take (length all) (all ++ tail)))) (pos 0)) (drop-append_seam all tail)
    ∙ ap (λ r. cond r (with_sign is_minus (wrapped (take (length all) (all ++ tail)))) (pos 0)) ends
    ∙ ap (λ t. with_sign is_minus (wrapped t)) (take-append_seam all tail)
  where
    some : (length (d ∷ ds) == 0) ≡ false
    some = grind (arith, nat_tests)

-- after the sign
no_sign_here : (between tail : List ℕ) (d : ℕ) → AreBlanks between → is_digit d ≡ true → (begins 45 (between ++ d ∷ tail) ≡ false) × (begins 43 (between ++ d ∷ tail) ≡ false) × (begins 35 (between ++ d ∷ tail) ≡ false)
no_sign_here [] tail d h k = (digit_no_minus d k, digit_no_plus d k, digit_no_mark d k)
no_sign_here (b ∷ s) tail d h k = (blank_no_minus b h.0, blank_no_plus b h.0, blank_no_mark b h.0)

unsigned : (p q : Bool) (s t : List ℕ) → p ≡ false → q ≡ false → cond (p || q) s t ≡ t
unsigned true q s t h k = cc
unsigned false q s t h k = ap (λ r. cond r s t) k

signed_parts : (is_minus : Bool) (sign between tail : List ℕ) (d : ℕ) → IsSign is_minus sign → AreBlanks between → is_digit d ≡ true
    → (begins 45 (sign ++ (between ++ d ∷ tail)) ≡ is_minus) × (past_sign (sign ++ (between ++ d ∷ tail)) ≡ between ++ d ∷ tail)
signed_parts _ _ between tail d minus h k = (refl, refl)
signed_parts _ _ between tail d plus h k = (refl, refl)
signed_parts _ _ between tail d no_sign h k =
    let none = no_sign_here between tail d h k in
    (none.0, unsigned (begins 45 (between ++ d ∷ tail)) (begins 43 (between ++ d ∷ tail)) (drop 1 (between ++ d ∷ tail)) (between ++ d ∷ tail) none.0 none.1)

pub signed_is : (point : Bool) (s : List ℕ) (i : ℤ) → IsSigned point s i → signed_number point s ≡ i
signed_is point s i h =
    let tail = h.digits ++ (h.part ++ h.after) in
    let digits = h.first ∷ tail in
    let parts = signed_parts h.is_minus h.sign h.between tail h.first h.sign_is h.between_is h.digits_are.0 in
    let stop : Stops is_blank digits = digit_no_blank h.first h.digits_are.0 in
    ap (signed_number point) h.whole
    ∙ ap (λ r. number_at point r (past is_blank (past_sign (h.sign ++ (h.between ++ digits))))) parts.0
    ∙ ap (λ t. number_at point h.is_minus (past is_blank t)) parts.1
    ∙ ap (number_at point h.is_minus) (past_front is_blank h.between digits h.between_is stop)
    ∙ at_digits point h.is_minus h.first h.digits (h.part ++ h.after) h.digits_are (digits_stop point h.part h.after h.part_is h.after_is) (ends_well point h.part h.after h.part_is h.after_is)
    ∙ sym h.number

-- more blanks at the front make no difference
past_more : (test : ℕ → Bool) (s t : List ℕ) → Passes test s → past test (s ++ t) ≡ past test t
past_more test [] t h = refl
past_more test (b ∷ s) t h = ap (λ r. drop (cond r (1 + prefix_len test (s ++ t)) 0) (b ∷ s ++ t)) h.0 ∙ ap (λ n. drop n (b ∷ s ++ t)) next ∙ past_more test s t h.1
  where
    next : 1 + prefix_len test (s ++ t) ≡ suc (prefix_len test (s ++ t))
    next = omega arith

-- a number is spelled without the blanks before it too, and does not begin with the mark of an object
without_blanks : (point : Bool) (s : List ℕ) (i : ℤ) (is_minus : Bool) (sign between : List ℕ) (d : ℕ) (ds part after : List ℕ) → s ≡ sign ++ (between ++ (d ∷ ds ++ (part ++ after))) → IsSign is_minus sign → AreBlanks between
    → AreDigits (d ∷ ds) → IsFraction point part → AreBlanks after → i ≡ with_sign is_minus (wrapped (d ∷ ds)) → IsSigned point (past is_blank s) i × (begins 35 (past is_blank s) ≡ false)
without_blanks point s i is_minus _ between d ds part after whole minus blank are ends last n =
    let same : past is_blank s ≡ 45 ∷ between ++ (d ∷ ds ++ (part ++ after)) = ap (past is_blank) whole in (
      record { is_minus = true; sign = 45 ∷ []; between = between; first = d; digits = ds; part = part; after = after; whole = same; sign_is = minus; between_is = blank; digits_are = are; part_is = ends; after_is = last; number = n },
      ap (begins 35) same,
    )
without_blanks point s i is_minus _ between d ds part after whole plus blank are ends last n =
    let same : past is_blank s ≡ 43 ∷ between ++ (d ∷ ds ++ (part ++ after)) = ap (past is_blank) whole in (
      record { is_minus = false; sign = 43 ∷ []; between = between; first = d; digits = ds; part = part; after = after; whole = same; sign_is = plus; between_is = blank; digits_are = are; part_is = ends; after_is = last; number = n },
      ap (begins 35) same,
    )
without_blanks point s i is_minus _ between d ds part after whole no_sign blank are ends last n =
    let stop : Stops is_blank (d ∷ ds ++ (part ++ after)) = digit_no_blank d are.0 in
    let same : past is_blank s ≡ d ∷ ds ++ (part ++ after) = ap (past is_blank) whole ∙ past_front is_blank between (d ∷ ds ++ (part ++ after)) blank stop in (
      record { is_minus = false; sign = []; between = []; first = d; digits = ds; part = part; after = after; whole = same; sign_is = no_sign; between_is = tt; digits_are = are; part_is = ends; after_is = last; number = n },
      ap (begins 35) same ∙ digit_no_mark d are.0,
    )

signed_past_blanks : (point : Bool) (s : List ℕ) (i : ℤ) → IsSigned point s i → IsSigned point (past is_blank s) i × (begins 35 (past is_blank s) ≡ false)
signed_past_blanks point s i h = without_blanks point s i h.is_minus h.sign h.between h.first h.digits h.part h.after h.whole h.sign_is h.between_is h.digits_are h.part_is h.after_is h.number

integer_is : (s : List ℕ) (i : ℤ) → SpellsInteger s i → integer_number s ≡ i
integer_is s i h =
    ap (λ t. signed_number true (past is_blank t)) h.whole ∙ ap (signed_number true) (past_more is_blank h.before h.rest h.before_is)
    ∙ signed_is true (past is_blank h.rest) i (signed_past_blanks true h.rest i h.rest_is).0

unmarked : (s before hash rest : List ℕ) (o : ℤ) → s ≡ before ++ (hash ++ rest) → AreBlanks before → IsMark hash → IsSigned false rest o → object_number s ≡ o
unmarked s before _ rest o whole blank mark h =
    let stop : Stops is_blank (35 ∷ rest) = refl in
    ap (λ t. signed_number false (past_byte 35 (past is_blank t))) whole ∙ ap (λ t. signed_number false (past_byte 35 t)) (past_front is_blank before (35 ∷ rest) blank stop) ∙ signed_is false rest o h
unmarked s before _ rest o whole blank no_mark h =
    let there = signed_past_blanks false rest o h in
    ap (λ t. signed_number false (past_byte 35 (past is_blank t))) whole ∙ ap (λ t. signed_number false (past_byte 35 t)) (past_more is_blank before rest blank)
    ∙ ap (λ r. signed_number false (cond r (drop 1 (past is_blank rest)) (past is_blank rest))) there.1 ∙ signed_is false (past is_blank rest) o there.0

-- from a number to its spelling
passes_front : (test : ℕ → Bool) (s : List ℕ) → Passes test (take (prefix_len test s) s)
passes_front test [] = tt
passes_front test (b ∷ s) = step (test b) refl (passes_front test s)
  where
    next : 1 + prefix_len test s ≡ suc (prefix_len test s)
    next = omega arith

    step : (r : Bool) → test b ≡ r → Passes test (take (prefix_len test s) s) → Passes test (take (cond r (1 + prefix_len test s) 0) (b ∷ s))
    step true e later = subst (λ n. Passes test (take n (b ∷ s))) (sym next) (e, later)
    step false e later = tt

blanks_from : (s : List ℕ) → is_blank_text s ≡ true → AreBlanks s
blanks_from s e = subst AreBlanks (ap (λ n. take n s) (long (prefix_len is_blank s) (length s) e) ∙ take_all (length s) s (omega arith)) (passes_front is_blank s)
  where
    long : (m n : ℕ) → (m == n) ≡ true → m ≡ n
    long m n h = grind (arith, nat_tests)

byte_from : (b c : ℕ) → (c == b) ≡ true → c ≡ b
byte_from b c e = grind (arith, nat_tests)

abbrev Ending : Bool → List ℕ → Type 0
Ending point s = (part : List ℕ) × (after : List ℕ) × (s ≡ part ++ after) × IsFraction point part × AreBlanks after

no_part : (point : Bool) (s : List ℕ) → is_blank_text s ≡ true → Ending point s
no_part point s e = ([], s, refl, no_fraction, blanks_from s e)

ending : (point : Bool) (s : List ℕ) → may_end point s ≡ true → Ending point s
ending false s e = no_part false s e
ending true [] e = no_part true [] e
ending true (c ∷ s) e = step (c == 46) refl e
  where
    step : (r : Bool) → (c == 46) ≡ r → is_blank_text (cond r (past is_digit s) (c ∷ s)) ≡ true → Ending true (c ∷ s)
    step false is h = no_part true (c ∷ s) h
    step true is h = (
      46 ∷ take (prefix_len is_digit s) s,
      past is_digit s,
      ap (λ b. b ∷ s) (byte_from 46 c is) ∙ ap (λ t. 46 ∷ t) (sym (take-append-drop (prefix_len is_digit s) s)),
      fraction (passes_front is_digit s),
      blanks_from (past is_digit s) h,
    )

abbrev SignOf : List ℕ → Type 0
SignOf s = (sign : List ℕ) × (s ≡ sign ++ past_sign s) × IsSign (begins 45 s) sign

sign_of : (s : List ℕ) → SignOf s
sign_of [] = ([], refl, no_sign)
sign_of (c ∷ s) = step (c == 45) (c == 43) refl refl
  where
    step : (p q : Bool) → (c == 45) ≡ p → (c == 43) ≡ q → (sign : List ℕ) × (c ∷ s ≡ sign ++ cond (p || q) s (c ∷ s)) × IsSign p sign
    step true q is other = (45 ∷ [], ap (λ b. b ∷ s) (byte_from 45 c is), minus)
    step false true is other = (43 ∷ [], ap (λ b. b ∷ s) (byte_from 43 c other), plus)
    step false false is other = ([], refl, no_sign)

first_digit : (s : List ℕ) → (prefix_len is_digit s == 0) ≡ false → (d : ℕ) × (ds : List ℕ) × (take (prefix_len is_digit s) s ≡ d ∷ ds)
first_digit [] e = cc
first_digit (b ∷ s) e = step (is_digit b) e
  where
    next : 1 + prefix_len is_digit s ≡ suc (prefix_len is_digit s)
    next = omega arith

    step : (r : Bool) → (cond r (1 + prefix_len is_digit s) 0 == 0) ≡ false → (d : ℕ) × (ds : List ℕ) × (take (cond r (1 + prefix_len is_digit s) 0) (b ∷ s) ≡ d ∷ ds)
    step true h = (b, take (prefix_len is_digit s) s, ap (λ n. take n (b ∷ s)) next)
    step false h = cc

open_else : (p : Bool) (x : ℤ) → cond p (pos 0) x ≢ pos 0 → (p ≡ false) × (cond p (pos 0) x ≡ x)
open_else true x h = absurd (h refl)
open_else false x h = (refl, refl)

open_then : (p : Bool) (x : ℤ) → cond p x (pos 0) ≢ pos 0 → (p ≡ true) × (cond p x (pos 0) ≡ x)
open_then true x h = (refl, refl)
open_then false x h = absurd (h refl)

signed_from : (point : Bool) (s : List ℕ) → signed_number point s ≢ pos 0 → IsSigned point s (signed_number point s)
signed_from point s h =
    let t = past_sign s in
    let u = past is_blank t in
    let n = prefix_len is_digit u in
    let value = with_sign (begins 45 s) (wrapped (take n u)) in
    let some = open_else (n == 0) (cond (may_end point (past is_digit u)) value (pos 0)) h in
    let ended = open_then (may_end point (past is_digit u)) value (λ e. h (some.1 ∙ e)) in
    let sign = sign_of s in
    let at = first_digit u some.0 in
    let last = ending point (past is_digit u) ended.0 in
    let digits : u ≡ at.0 ∷ at.1 ++ (last.0 ++ last.1) =
    sym (take-append-drop n u) ∙ ap (λ v. v ++ past is_digit u) at.2 ∙ ap (λ v. at.0 ∷ at.1 ++ v) last.2 in
    let rest : t ≡ take (prefix_len is_blank t) t ++ (at.0 ∷ at.1 ++ (last.0 ++ last.1)) =
    sym (take-append-drop (prefix_len is_blank t) t) ∙ ap (λ v. take (prefix_len is_blank t) t ++ v) digits in
    record {
      is_minus = begins 45 s;
      sign = sign.0;
      between = take (prefix_len is_blank t) t;
      first = at.0;
      digits = at.1;
      part = last.0;
      after = last.1;
      whole = sign.1 ∙ ap (λ v. sign.0 ++ v) rest;
      sign_is = sign.2;
      between_is = passes_front is_blank t;
      digits_are = subst AreDigits at.2 (passes_front is_digit u);
      part_is = last.3;
      after_is = last.4;
      number = some.1 ∙ ended.1 ∙ ap (λ v. with_sign (begins 45 s) (wrapped v)) at.2;
    }

pub reads_integers : ReadsIntegers
reads_integers s = (
  integer_is s,
  λ h. record {
    before = take (prefix_len is_blank s) s;
    rest = past is_blank s;
    whole = sym (take-append-drop (prefix_len is_blank s) s);
    before_is = passes_front is_blank s;
    rest_is = signed_from true (past is_blank s) h;
  },
)

abbrev MarkOf : List ℕ → Type 0
MarkOf s = (hash : List ℕ) × (s ≡ hash ++ past_byte 35 s) × IsMark hash

mark_of : (s : List ℕ) → MarkOf s
mark_of [] = ([], refl, no_mark)
mark_of (c ∷ s) = step (c == 35) refl
  where
    step : (p : Bool) → (c == 35) ≡ p → (hash : List ℕ) × (c ∷ s ≡ hash ++ cond p s (c ∷ s)) × IsMark hash
    step true is = (35 ∷ [], ap (λ b. b ∷ s) (byte_from 35 c is), mark)
    step false is = ([], refl, no_mark)

pub reads_objects : ReadsObjects
reads_objects s = (
  λ o h. unmarked s h.before h.hash h.rest o h.whole h.before_is h.hash_is h.rest_is,
  λ h.
      let t = past is_blank s in
      let hash = mark_of t in
      record {
        before = take (prefix_len is_blank s) s;
        hash = hash.0;
        rest = past_byte 35 t;
        whole = sym (take-append-drop (prefix_len is_blank s) s) ∙ ap (λ v. take (prefix_len is_blank s) s ++ v) hash.1;
        before_is = passes_front is_blank s;
        hash_is = hash.2;
        rest_is = signed_from false (past_byte 35 t) h;
      },
)
