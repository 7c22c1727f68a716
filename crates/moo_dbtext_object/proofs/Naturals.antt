-- The decimal form of a number from 0 on, and its digits.
use Rattle.std.proofs.Common.{◌≡◌, ℕ, ℤ, pos, negsuc, ◌-ℤ◌, to_z, of_z, refl, ◌≢◌, Option, Result, Ok, Err, MatchOption, Some, None, true, false, eqb, drop, zero, suc, ◌+◌, ◌-◌, ◌*◌, ◌<◌, ◌≤◌, ◌^◌, List, [], ◌∷◌, length, take, get_or, sym, ap, subst, ◌∙◌, arith}
use Rattle.std.specs.Char.{digit_value}
use Rattle.std.specs.Fmt.{decimal, signed_decimal}
use Rattle.std.specs.Prelude.{FitsSigned}
use Rattle.std.specs.Borrow.{Bor}
use Rattle.std.specs.Cmp.Lexicographic.{pointwise}
use Rattle.std.proofs.lemmas.Slice.Eq.{strip_prefix_is}
use Rattle.std.proofs.lemmas.Bool.Decides.{Decides-eqb}
use Rattle.std.specs.Result.{OkIff, result_ok}
use Rattle.std.specs.Int.{IsInRange, w32, w64}
use Rattle.std.proofs.lemmas.Int.{ints, to_z_pos, to_z-of_z}
use Rattle.std.specs.Str.Parse.{AllDigits, digits_value}
use Rattle.std.proofs.lemmas.List.{take_all, length-take}
use Rattle.std.proofs.lemmas.Fmt.{decimal-digits_value, decimal_injective, decimal_digit, digits_decimal, first_decimal, length-decimal-le}
use Rattle.std.proofs.lemmas.Int.Digits.{digits_more, digits_value_more}
use Rattle.std.proofs.lemmas.Str.{digit_value_digit}
use Rattle.std.proofs.lemmas.Str.Parse.{IsNumeralModel, numerals_by_value, tells_digits, digit_at, digits_value_short}

own : IsNumeralModel (AllDigits 10) (digits_value 10)
own = numerals_by_value (AllDigits 10) tells_digits

-- ---- what isn't the decimal form of a number

pub no_zeros : (ds : List ℕ) (n : ℕ) → n < 2 ^ 32 → ds ≡ decimal n → 1 < length ds → get_or ds 0 0 ≡ 48 → ⊥
no_zeros ds zero lt e many zeros = let one : length ds ≡ 1 = ap length (e ∙ decimal_digit 0 (omega arith)) in omega (arith, one, many)
no_zeros ds (suc n) lt e many zeros =
    let first = first_decimal (suc n) (omega arith) (omega arith) in
    let same : get_or ds 0 0 ≡ get_or (decimal (suc n)) 0 0 = ap (λ (l : List ℕ). get_or l 0 0) e in
    omega (arith, first, same, zeros)

pub not_empty : (ds : List ℕ) (n : ℕ) → n < 2 ^ 32 → ds ≡ decimal n → length ds ≡ 0 → ⊥
not_empty (d ∷ ds) n lt e none = omega (arith, none)
not_empty [] zero lt e none = let one : 0 ≡ 1 = ap length (e ∙ decimal_digit 0 (omega arith)) in omega (arith, one)
not_empty [] (suc n) lt e none =
    let first = first_decimal (suc n) (omega arith) (omega arith) in
    let same : 0 ≡ get_or (decimal (suc n)) 0 0 = ap (λ (l : List ℕ). get_or l 0 0) e in
    omega (arith, first, same)

pub not_long : (ds : List ℕ) (n : ℕ) → n < 2 ^ 32 → ds ≡ decimal n → 10 < length ds → ⊥
not_long ds n lt e long =
    let most = length-decimal-le 10 n (omega arith) (omega arith) (omega arith) in
    let same = ap length e in
    omega (arith, most, same, long)

pub all_digits : (ds : List ℕ) (n i : ℕ) → n < 2 ^ 32 → ds ≡ decimal n → i < length ds → IsInRange 48 57 (get_or ds i 0)
all_digits ds n i lt e low = digit_at ds i (subst (AllDigits 10) (sym e) (digits_decimal own n (omega arith))) low

-- not that of 0 where it is one above it
pub not_zero : (ds : List ℕ) (m n : ℕ) → n < 2 ^ 31 → ds ≡ decimal (suc n) → ds ≡ decimal m → m ≡ 0 → ⊥
not_zero ds m n lt e spelled none =
    let same = decimal_injective m (suc n) (omega (arith, none)) (omega (arith, lt)) (sym spelled ∙ e) in
    omega (arith, same, none)

-- ---- numbers of 32 bits

pub narrow : {E : Type 0} (Q : Type 0) (P : ℤ → Type 0) (r : Result ℤ E) (o : Option ℤ) (z : ℤ) → OkIff r (FitsSigned w32 z) z → o ≡ result_ok r → (FitsSigned w32 z → P z) → (¬ (FitsSigned w32 z) → Q) → MatchOption o Q P
narrow Q P (Ok x) o z h e fitting wide = subst (λ (p : Option ℤ). MatchOption p Q P) (sym e) (subst P (sym h.1) (fitting h.0))
narrow Q P (Err x) o z h e fitting wide = subst (λ (p : Option ℤ). MatchOption p Q P) (sym e) (wide h)

pub not_narrow : (m n : ℕ) → m < 10 ^ 10 → n < 2 ^ 31 → decimal m ≡ decimal n → ¬ (FitsSigned w32 (pos m)) → ⊥
not_narrow m n small lt e wide =
    let same = decimal_injective m n (omega (arith, small)) (omega (arith, lt)) e in
    wide (omega (arith, ints, same, lt))

abbrev pub negated : ℕ → ℤ
negated m = to_z w64 (of_z w64 (pos 0 -ℤ to_z w64 m))

negated_is : (k : ℕ) → suc k < 10 ^ 10 → negated (suc k) ≡ negsuc k
negated_is k small =
    let less : pos 0 -ℤ pos (suc k) ≡ negsuc k = omega (arith, ints) in
    ap (λ (z : ℤ). to_z w64 (of_z w64 (pos 0 -ℤ z))) (to_z_pos w64 (suc k) (omega (arith, small)))
    ∙ ap (λ (z : ℤ). to_z w64 (of_z w64 z)) less
    ∙ to_z-of_z w64 (negsuc k) (omega (arith, ints, small))

pub below : {E : Type 0} (ds : List ℕ) (m : ℕ) (r : Result ℤ E) (o : Option ℤ) → m ≢ 0 → m < 10 ^ 10 → ds ≡ decimal m → OkIff r (FitsSigned w32 (negated m)) (negated m) → o ≡ result_ok r
    → MatchOption o ((n : ℕ) → n < 2 ^ 31 → ds ≢ decimal (suc n)) (λ z. FitsSigned w32 z × (45 ∷ ds ≡ signed_decimal z))
below ds zero r o some small spelled h e = absurd (some refl)
below ds (suc k) r o some small spelled h e =
    narrow _ _ r o (negsuc k) (subst (λ (z : ℤ). OkIff r (FitsSigned w32 z) z) (negated_is k small) h) e
    (λ fits. (fits, ap (λ (l : List ℕ). 45 ∷ l) spelled))
    (λ wide n lt f. let same = decimal_injective (suc k) (suc n) (omega (arith, small)) (omega (arith, lt)) (sym spelled ∙ f) in wide (omega (arith, ints, same, lt)))

pub after_sign : (line : List ℕ) (r : Option (Bor (List ℕ))) (x : Bor (List ℕ))
    → MatchOption r (pointwise eqb (take 1 line) (45 ∷ []) ≡ false) (λ y. (pointwise eqb (take 1 line) (45 ∷ []) ≡ true) × (y.now ≡ drop 1 line) × (length y.now + 1 ≡ length line))
    → r ≡ Some x → line ≡ 45 ∷ x.now
after_sign line r x h e = subst (λ (o : Option (Bor (List ℕ))). MatchOption o ((rest : List ℕ) → line ≢ 45 ∷ rest) (λ y. line ≡ 45 ∷ y.now)) e (strip_prefix_is Decides-eqb line (45 ∷ []) r h)

unsigned : (digits : List ℕ) (n : ℕ) → n < 2 ^ 31 → 45 ∷ digits ≢ decimal n
unsigned digits zero lt e = let same : 45 ≡ 48 = ap (λ (l : List ℕ). get_or l 0 0) (e ∙ decimal_digit 0 (omega arith)) in omega (arith, same)
unsigned digits (suc n) lt e =
    let first = first_decimal (suc n) (omega arith) (omega (arith, lt)) in
    let same : 45 ≡ get_or (decimal (suc n)) 0 0 = ap (λ (l : List ℕ). get_or l 0 0) e in
    omega (arith, first, same)

pub signed_below : (line digits : List ℕ) (o : Option ℤ) → line ≡ 45 ∷ digits
    → MatchOption o ((n : ℕ) → n < 2 ^ 31 → digits ≢ decimal (suc n)) (λ z. FitsSigned w32 z × (45 ∷ digits ≡ signed_decimal z))
    → MatchOption o ((z : ℤ) → FitsSigned w32 z → line ≢ signed_decimal z) (λ z. FitsSigned w32 z × (line ≡ signed_decimal z))
signed_below line digits (Some z) split h = (h.0, split ∙ h.1)
signed_below line digits None split h = other
  where
    other : (z : ℤ) → FitsSigned w32 z → line ≢ signed_decimal z
    other (pos n) fits e = unsigned digits n (omega (arith, ints, fits)) (sym split ∙ e)
    other (negsuc n) fits e =
        let both : 45 ∷ digits ≡ 45 ∷ decimal (suc n) = sym split ∙ e in
        let same : digits ≡ decimal (suc n) = cc in
        h n (omega (arith, ints, fits)) same

-- ---- digits so far

pub record AreRead (ds : List ℕ) (i value : ℕ) : Type 0 where
  pub digits : AllDigits 10 (take i ds)
  pub value_is : value ≡ digits_value 10 (take i ds)
  pub small : value < 10 ^ 10

pub one_more : (ds : List ℕ) (i value : ℕ) → length ds ≤ 10 → i < length ds → IsInRange 48 57 (get_or ds i 0) → AreRead ds i value → AreRead ds (i + 1) (value * 10 + (get_or ds i 0 - 48))
one_more ds i value few low range h =
    let here = digit_value_digit (get_or ds i 0) range in
    let below : digit_value (get_or ds i 0) < 10 = omega (arith, here, range) in
    let all : AllDigits 10 (take (i + 1) ds) = digits_more 10 ds i low h.digits below in
    let count = length-take (i + 1) ds in
    let is : value * 10 + (get_or ds i 0 - 48) ≡ digits_value 10 (take (i + 1) ds) = (let more = digits_value_more 10 ds i low in let so_far = h.value_is in omega (arith, more, so_far, here)) in
    let short = digits_value_short own (take (i + 1) ds) 10 all (omega (arith, count, few)) in
    record { digits = all; value_is = is; small = omega (arith, is, short) }

pub all_read : (ds : List ℕ) (i value : ℕ) → length ds ≤ i → 0 < length ds → (get_or ds 0 0 ≡ 48 → length ds ≡ 1) → AreRead ds i value → ds ≡ decimal value
all_read ds i value past some zeros h =
    let all = take_all i ds past in
    let is : value ≡ digits_value 10 ds = h.value_is ∙ ap (digits_value 10) all in
    let small = h.small in
    sym (ap decimal is ∙ decimal-digits_value own ds (subst (AllDigits 10) all h.digits) some zeros (omega (arith, is, small)))
