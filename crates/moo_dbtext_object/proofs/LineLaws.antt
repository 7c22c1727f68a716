-- Numbers and strings on a line: what is read is spelled so, and what is spelled so is read.
use Rattle.std.proofs.Common.{◌≡◌, ◌≢◌, ℕ, ℤ, pos, negsuc, zero, suc, ◌<◌, ◌^◌, Bool, true, false, ◌&&◌, cond, List, [], ◌∷◌, Ok, Err, refl, subst, arith, eqb, get_or}
use Rattle.std.specs.Prelude.{FitsSigned}
use Rattle.std.specs.Int.{w32}
use Rattle.std.specs.Fmt.{signed_decimal, decimal}
use Rattle.std.specs.Str.{bytes_eq, IsUtf8}
use Rattle.std.proofs.lemmas.Bool.{ltb-true, lt-ltb, ne_eqb}
use Rattle.std.proofs.lemmas.Int.{ints}
use Rattle.std.proofs.lemmas.Slice.Eq.{bytes_eq-Decides}
use Rattle.std.proofs.lemmas.Fmt.{IsAscii-signed, decimal_digit, first_decimal, decimal_is_IsNumeral}
use Rattle.std.proofs.lemmas.Str.{IsUtf8-from_ascii}
use lib.Signed.{mag}
use Rattle.std.specs.List.{list_all}
use Rattle.std.proofs.lemmas.List.Elements.{All-nil, All-cons, All-head, All-tail}
use Rattle.moo_value.specs.Tree.{IsTextByte, IsText}
use Rattle.moo_dbtext_object.specs.Lines.{Line, fits, value_of, number_of, is_text_byte}
use Rattle.moo_dbtext_object.specs.declared.fault.LineFault.{LineFault}
use Rattle.moo_dbtext_object.specs.declared.fault.LineFault.TheVariants.{BadNumber}

pub mag_small : (z : ℤ) → FitsSigned w32 z → mag z < 2 ^ 63
mag_small (pos n) h = omega (arith, ints)
mag_small (negsuc n) h = omega (arith, ints)

fits_is : (z : ℤ) → FitsSigned w32 z → fits z ≡ true
fits_is (pos n) h = lt-ltb _ _ (omega (arith, ints))
fits_is (negsuc n) h = lt-ltb _ _ (omega (arith, ints))

pub FitsSigned-fits : (z : ℤ) → fits z ≡ true → FitsSigned w32 z
FitsSigned-fits (pos n) h = let lt = ltb-true _ _ h in omega (arith, ints)
FitsSigned-fits (negsuc n) h = let lt = ltb-true _ _ h in omega (arith, ints)

pub IsUtf8-signed : (z : ℤ) → FitsSigned w32 z → IsUtf8 (signed_decimal z)
IsUtf8-signed z h = IsUtf8-from_ascii _ (IsAscii-signed z (mag_small z h))

value_of-signed : (z : ℤ) → FitsSigned w32 z → value_of (signed_decimal z) ≡ z
value_of-signed (pos zero) h = rw (decimal_digit 0 (omega arith)) refl
value_of-signed (pos (suc n)) h =
    let lt : suc n < 2 ^ 64 = omega (arith, ints) in
    let first = first_decimal (suc n) (omega arith) lt in
    let test : eqb (get_or (decimal (suc n)) 0 0) 45 ≡ false = ne_eqb _ _ (omega (arith, first)) in
    rw (test, (decimal_is_IsNumeral (suc n) lt).1) refl
value_of-signed (negsuc n) h =
    let lt : suc n < 2 ^ 64 = omega (arith, ints) in
    rw (decimal_is_IsNumeral (suc n) lt).1 refl

pub number_is : (line : Line) (z : ℤ) → FitsSigned w32 z → line ≡ signed_decimal z → number_of line ≡ Ok z
unfolding number_of
number_is line z h e =
    let same = (bytes_eq-Decides (signed_decimal z) (signed_decimal z)).1 refl in
    rw (e, value_of-signed z h, fits_is z h, same) refl

-- a test that chooses between a value and a fault
pub chosen_ok : {A : Type 0} (b : Bool) (x y : A) (f : LineFault) → cond b (Ok x) (Err f) ≡ Ok y → (b ≡ true) × (x ≡ y)
chosen_ok true x y f e = (refl, cc)
chosen_ok false x y f e = absurd cc

pub both_true : (a b : Bool) → (a && b) ≡ true → (a ≡ true) × (b ≡ true)
both_true true true e = (refl, refl)
both_true true false e = absurd cc
both_true false b e = absurd cc

pub number_found : (line : Line) (z : ℤ) → number_of line ≡ Ok z → FitsSigned w32 z × (line ≡ signed_decimal z)
unfolding number_of
number_found line z e =
    let v = value_of line in
    let p = chosen_ok (fits v && bytes_eq line (signed_decimal v)) v z BadNumber e in
    let q = both_true (fits v) (bytes_eq line (signed_decimal v)) p.0 in
    subst (λ (w : ℤ). FitsSigned w32 w × (line ≡ signed_decimal w)) p.1 (FitsSigned-fits v q.0, (bytes_eq-Decides line (signed_decimal v)).0 q.1)

chosen_err : {A : Type 0} (b : Bool) (x : A) (f : LineFault) → (b ≡ true → ⊥) → cond b (Ok x) (Err f) ≡ Err f
chosen_err true x f refuted = absurd (refuted refl)
chosen_err false x f refuted = refl

pub number_is_not : (line : Line) → ((z : ℤ) → FitsSigned w32 z → line ≢ signed_decimal z) → number_of line ≡ Err BadNumber
unfolding number_of
number_is_not line h =
    chosen_err (fits (value_of line) && bytes_eq line (signed_decimal (value_of line))) (value_of line) BadNumber
    (λ both. let q = both_true (fits (value_of line)) (bytes_eq line (signed_decimal (value_of line))) both in h (value_of line) (FitsSigned-fits _ q.0) ((bytes_eq-Decides line _).0 q.1))

-- ---- strings

text_byte : (b : ℕ) → is_text_byte b ≡ true → IsTextByte b
text_byte b e = grind arith

text_byte_is : (b : ℕ) → IsTextByte b → is_text_byte b ≡ true
text_byte_is b h = grind arith

pub text_true : (s : List ℕ) → list_all is_text_byte s ≡ true → IsText s
text_true [] e = All-nil IsTextByte
text_true (b ∷ s) e = let p = both_true (is_text_byte b) (list_all is_text_byte s) e in All-cons IsTextByte b s (text_byte b p.0) (text_true s p.1)

pub text_is_true : (s : List ℕ) → IsText s → list_all is_text_byte s ≡ true
text_is_true [] h = refl
text_is_true (b ∷ s) h = rw (text_byte_is b (All-head IsTextByte b s h), text_is_true s (All-tail IsTextByte b s h)) refl
