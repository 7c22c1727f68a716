-- What the machine's operations leave of a quotient and of a power.
use Rattle.std.proofs.Common.{◌≡◌, ℕ, zero, suc, ◌-◌, ◌*◌, ◌/◌, ◌%◌, ◌^◌, ◌<◌, ◌≤◌, ℤ, pos, negsuc, ◌*ℤ◌, neg_ℤ, true, false, eqb, FitsSigned, refl, sym, ap, ◌∙◌, arith, ◌⊎◌, inl, inr}
use Rattle.std.specs.Prelude.{unsigned_abs, int_div}
use Rattle.std.specs.Int.{cast_signed, cast_unsigned, int_wrap, int_wrapping_div, int_wrapping_pow, int_pow, w32}
use Rattle.std.proofs.Math.Nat.{pow-zero, pow-succ', div-le_self, mod-eq_of_lt, mod-lt}
use Rattle.std.proofs.lemmas.Int.{to_z-of_z, wrapping_mul-bits, int_wrap-mul_right}
use Rattle.std.proofs.lemmas.Nat.{mul-mod_second}
use Rattle.std.proofs.lemmas.Bool.Decides.{nat_tests}

abs_neg : (n : ℕ) → unsigned_abs (neg_ℤ (pos n)) ≡ n
abs_neg zero = refl
abs_neg (suc n) = refl

quotient_abs : (a b : ℤ) → unsigned_abs (int_div a b) ≤ unsigned_abs a
quotient_abs (pos a) (pos b) = div-le_self a b
quotient_abs (pos a) (negsuc b) = omega (arith, abs_neg (a / suc b), div-le_self a (suc b))
quotient_abs (negsuc a) (pos b) = omega (arith, abs_neg (suc a / b), div-le_self (suc a) b)
quotient_abs (negsuc a) (negsuc b) = div-le_self (suc a) (suc b)

abs_fits : (a : ℤ) → FitsSigned w32 a → unsigned_abs a ≤ 2 ^ 31
abs_fits (pos a) f = omega (arith, f.sfits)
abs_fits (negsuc a) f = omega (arith, f.sfits)

-- the bits of a number that fits, or that is 2^31, read as a number again
read_again : (z : ℤ) → unsigned_abs z ≤ 2 ^ 31 → cast_signed w32 (cast_unsigned w32 z) ≡ int_wrap w32 z
unfolding int_wrap
read_again (pos n) h =
    let small : n < 2 ^ 32 = omega (arith, h) in
    ap (cast_signed w32) (sym (mod-eq_of_lt small))
read_again (negsuc n) h =
    let small : n < 2 ^ 32 = omega (arith, h) in
    let same : 2 ^ 32 - suc n ≡ 2 ^ 32 - 1 - n % 2 ^ 32 = omega (arith, mod-eq_of_lt small) in
    ap (cast_signed w32) same

pub wrapping_div_is : (a b : ℤ) → FitsSigned w32 a → int_wrapping_div w32 a b ≡ int_wrap w32 (int_div a b)
wrapping_div_is a b f = read_again (int_div a b) (omega (arith, quotient_abs a b, abs_fits a f))

parity : (n : ℕ) → ((eqb (n % 2) 0 ≡ true) × (eqb (suc n % 2) 0 ≡ false)) ⊎ ((eqb (n % 2) 0 ≡ false) × (eqb (suc n % 2) 0 ≡ true))
parity n = grind (arith, nat_tests)

below_times : (a n : ℕ) → negsuc a *ℤ neg_ℤ (pos n) ≡ pos (suc a * n)
below_times a zero = let none : suc a * 0 ≡ 0 = omega arith in rw none refl
below_times a (suc n) = refl

int_pow-suc : (a : ℤ) (n : ℕ) → int_pow a (suc n) ≡ a *ℤ int_pow a n
int_pow-suc (pos a) n = ap pos (pow-succ' a n)
int_pow-suc (negsuc a) n = elim (parity n) [
  | inl p ↦ rw (p.0, p.1, pow-succ' (suc a) n) refl
  | inr p ↦ rw (p.0, p.1, pow-succ' (suc a) n) (sym (below_times a (suc a ^ n)))
]

int_pow-zero : (a : ℤ) → int_pow a 0 ≡ pos 1
int_pow-zero (pos a) = ap pos (pow-zero a)
int_pow-zero (negsuc a) = ap pos (pow-zero (suc a))

one_wraps : cast_signed w32 (1 % 2 ^ 32) ≡ int_wrap w32 (pos 1)
unfolding int_wrap
one_wraps = refl

bits_below : (a : ℤ) → FitsSigned w32 a → cast_unsigned w32 a < 2 ^ 32
bits_below (pos a) f = omega (arith, f.sfits)
bits_below (negsuc a) f = omega (arith, f.sfits)

pub wrapping_pow_is : (a : ℤ) → FitsSigned w32 a → (n : ℕ) → int_wrapping_pow w32 a n ≡ int_wrap w32 (int_pow a n)
wrapping_pow_is a f zero = ap (λ m. cast_signed w32 (m % 2 ^ 32)) (pow-zero (cast_unsigned w32 a)) ∙ one_wraps ∙ ap (int_wrap w32) (sym (int_pow-zero a))
wrapping_pow_is a f (suc n) =
    let u : ℕ = cast_unsigned w32 a in
    let k : ℕ = (cast_unsigned w32 a ^ n) % 2 ^ 32 in
    let below : k < 2 ^ 32 = mod-lt (cast_unsigned w32 a ^ n) (omega arith) in
    ap (cast_signed w32) (ap (λ m. m % 2 ^ 32) (pow-succ' (cast_unsigned w32 a) n) ∙ sym (mul-mod_second (cast_unsigned w32 a) (cast_unsigned w32 a ^ n) (2 ^ 32)))
    ∙ wrapping_mul-bits w32 (cast_unsigned w32 a) ((cast_unsigned w32 a ^ n) % 2 ^ 32) (bits_below a f) below
    ∙ ap (λ x. int_wrap w32 (x *ℤ cast_signed w32 ((cast_unsigned w32 a ^ n) % 2 ^ 32))) (to_z-of_z w32 a f)
    ∙ ap (λ x. int_wrap w32 (a *ℤ x)) (wrapping_pow_is a f n)
    ∙ int_wrap-mul_right w32 a (int_pow a n)
    ∙ ap (int_wrap w32) (sym (int_pow-suc a n))
