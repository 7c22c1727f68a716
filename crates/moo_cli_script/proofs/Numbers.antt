-- Digits that are read one after another.
use Rattle.std.proofs.Common.{◌≡◌, ℕ, ◌+◌, ◌*◌, ◌<◌, ◌≤◌, List, [], ◌∷◌, length, drop, get_or, refl, sym, ap, subst, ◌∙◌, arith, drop_of_length-le}
use Rattle.std.proofs.lemmas.List.{at_drop_more}
use Rattle.std.specs.Char.{digit_value}
use Rattle.std.specs.Str.Parse.{AllDigits, digits_value, digits_value_after}
use Rattle.moo_cli_script.specs.ScriptLines.{IsNumber}

-- digits up to a place were read as a number
pub record IsReadSoFar (most : ℕ) (digits : List ℕ) (i n : ℕ) : Type 0 where
  pub good : AllDigits 10 (drop i digits) → AllDigits 10 digits
  pub rest : AllDigits 10 digits → AllDigits 10 (drop i digits)
  pub value : digits_value_after 10 n (drop i digits) ≡ digits_value 10 digits
  pub fits : n ≤ most

pub nothing_read : (most : ℕ) (digits : List ℕ) → IsReadSoFar most digits 0 0
nothing_read most digits = record { good = λ h. h; rest = λ h. h; value = refl; fits = omega arith }

next : (digits : List ℕ) (i : ℕ) → i < length digits → drop i digits ≡ get_or digits i 0 ∷ drop (i + 1) digits
next digits i lt = at_drop_more (λ (r : List ℕ). r) digits i 0 lt

pub one_more_read : (most : ℕ) (digits : List ℕ) (i n byte d m : ℕ) → i < length digits → byte ≡ get_or digits i 0 → d ≡ digit_value byte → d < 10 → m ≡ n * 10 + d → m ≤ most
    → IsReadSoFar most digits i n → IsReadSoFar most digits (i + 1) m
one_more_read most digits i n byte d m lt is digit below value fits so =
    let here : digit_value (get_or digits i 0) ≡ d = sym (digit ∙ ap digit_value is) in
    record {
      good = λ h. so.good (subst (AllDigits 10) (sym (next digits i lt)) (subst (λ v. v < 10) (sym here) below, h));
      rest = λ h. (subst (AllDigits 10) (next digits i lt) (so.rest h)).1;
      value = ap (λ v. digits_value_after 10 v (drop (i + 1) digits)) (value ∙ ap (λ v. n * 10 + v) (sym here))
          ∙ sym (ap (digits_value_after 10 n) (next digits i lt)) ∙ so.value;
      fits = fits;
    }

-- a digit that is none
pub no_digit : (most : ℕ) (digits : List ℕ) (i n byte : ℕ) → i < length digits → byte ≡ get_or digits i 0 → (¬ (digit_value byte < 10)) → IsReadSoFar most digits i n
    → (m : ℕ) → ¬ IsNumber most digits m
no_digit most digits i n byte lt is none so m number =
    none (subst (λ b. digit_value b < 10) (sym is) (subst (AllDigits 10) (next digits i lt) (so.rest number.numeral.1)).0)

at_least : (n : ℕ) (ds : List ℕ) → n ≤ digits_value_after 10 n ds
at_least n [] = omega arith
at_least n (d ∷ ds) = omega (arith, at_least (n * 10 + digit_value d) ds)

-- the number is past the most already
pub too_large : (most : ℕ) (digits : List ℕ) (i n byte d : ℕ) → i < length digits → byte ≡ get_or digits i 0 → d ≡ digit_value byte → most < n * 10 + d
    → IsReadSoFar most digits i n → (m : ℕ) → ¬ IsNumber most digits m
too_large most digits i n byte d lt is digit past so m number =
    let value : n * 10 + d ≤ digits_value_after 10 (n * 10 + d) (drop (i + 1) digits) = at_least (n * 10 + d) (drop (i + 1) digits) in
    let here : digits_value_after 10 (n * 10 + d) (drop (i + 1) digits) ≡ digits_value 10 digits =
    ap (λ v. digits_value_after 10 (n * 10 + v) (drop (i + 1) digits)) (digit ∙ ap digit_value is) ∙ sym (ap (digits_value_after 10 n) (next digits i lt)) ∙ so.value in
    omega (arith, past, value, here, number.is, number.fits)

-- all digits were read
pub all_read : (most : ℕ) (digits : List ℕ) (i n : ℕ) → 0 < length digits → length digits ≤ i → IsReadSoFar most digits i n → IsNumber most digits n
all_read most digits i n some end so =
    let none : drop i digits ≡ [] = drop_of_length-le digits end in
    record {
      numeral = (some, so.good (subst (AllDigits 10) (sym none) tt));
      is = sym (ap (digits_value_after 10 n) none) ∙ so.value;
      fits = so.fits;
    }
