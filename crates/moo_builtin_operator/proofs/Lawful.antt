-- Proofs of the laws.
use Rattle.std.proofs.Common.{◌≡◌, ℕ, zero, suc, ◌+◌, ◌-◌, ◌*◌, ◌/◌, ◌%◌, ◌^◌, ◌<◌, ◌≤◌, ℤ, pos, negsuc, ◌+ℤ◌, ◌*ℤ◌, neg_ℤ, Bool, true, false, cond, ltb, leb, FitsSigned, refl, sym, ap, subst, ◌∙◌, arith, [], ◌∷◌, Decides, IsTrue, ◌↔◌, Ok, Err, inl, inr}
use Rattle.std.specs.Prelude.{◌&&◌, ◌≢◌, unsigned_abs, int_div, int_rem}
use Rattle.std.specs.Int.{cast_signed, int_wrap, w32}
use lib.Signed.{mag}
use Rattle.std.proofs.Math.Nat.{div-le_self}
use Rattle.std.proofs.lemmas.Int.{ints, int_wrap_fits, SFits-int_wrap, quot-rem, rem_below, quot_fits}
use Rattle.std.proofs.lemmas.Nat.{div-add-mod', div_below, mod_below}
use Rattle.std.proofs.lemmas.Bool.Decides.{nat_tests, Decides-int_eq, Decides-not, Decides-like, Decides-and}
use Rattle.std.proofs.lemmas.Bool.{false≢true, cases_lt}
use Rattle.moo_value.specs.declared.error_code.ErrorCode.TheVariants.{Quota}
use Rattle.moo_value.specs.Tree.{Tree, integer, object, error, string, list, no_elements, element}
use Rattle.moo_value.specs.Size.{weight, depth, weight_limit, depth_limit, IsWithinLimits}
use Rattle.moo_value.specs.Compare.{IsTruthy}
use Rattle.moo_builtin_operator.specs.Answer.{limited}
use Rattle.moo_builtin_operator.specs.Truth.{is_true}
use Rattle.moo_builtin_operator.specs.Laws.{IsWrapped, IsDivision, HasSignOf, IsLeastByMinusOne, DividesTowardsZero}

-- bits m of a number that is q turns of 2^32 above them
turned : (z q : ℤ) (m : ℕ) → m < 2 ^ 31 → z ≡ pos m +ℤ q *ℤ pos (2 ^ 32) → (k : ℤ) × (z ≡ cast_signed w32 m +ℤ k *ℤ pos (2 ^ 32))
turned z q m h e = (q, omega (arith, ints))

above : (z : ℤ) (a b n : ℕ) → z ≡ pos n → n + suc a ≡ b → z ≡ negsuc a +ℤ pos b
above z a b n e h = omega (arith, ints)

below : (z : ℤ) (a b c n : ℕ) → z ≡ pos n +ℤ neg_ℤ (pos b) → n + suc a + c ≡ b → z ≡ negsuc a +ℤ neg_ℤ (pos c)
below z a b c n e h = omega (arith, ints)

above_or_below : (z : ℤ) (m : ℕ) → m < 2 ^ 32 → z ≡ pos m +ℤ negsuc zero *ℤ pos (2 ^ 32) → z ≡ negsuc (2 ^ 32 - suc m) +ℤ pos 0 *ℤ pos (2 ^ 32)
above_or_below z m high e = below z (2 ^ 32 - suc m) (2 ^ 32) 0 m e (omega arith)

next_turn : (z q : ℤ) (m : ℕ) → m < 2 ^ 32 → z ≡ pos m +ℤ q *ℤ pos (2 ^ 32) → (k : ℤ) × (z ≡ negsuc (2 ^ 32 - suc m) +ℤ k *ℤ pos (2 ^ 32))
next_turn z (pos q) m high e = (pos (q + 1), above z (2 ^ 32 - suc m) ((q + 1) * 2 ^ 32) (m + q * 2 ^ 32) e (omega arith))
next_turn z (negsuc zero) m high e = (pos 0, above_or_below z m high e)
next_turn z (negsuc (suc q)) m high e = (negsuc q, below z (2 ^ 32 - suc m) (suc (suc q) * 2 ^ 32) (suc q * 2 ^ 32) m e (omega arith))

turned_below : (z q : ℤ) (m : ℕ) → 2 ^ 31 ≤ m → m < 2 ^ 32 → z ≡ pos m +ℤ q *ℤ pos (2 ^ 32) → (k : ℤ) × (z ≡ cast_signed w32 m +ℤ k *ℤ pos (2 ^ 32))
turned_below z q m low high e =
    let high_bit : ltb m (2 ^ 31) ≡ false = grind (arith, nat_tests) in
    let negative : cast_signed w32 m ≡ negsuc (2 ^ 32 - suc m) = rw high_bit refl in
    let k = next_turn z q m high e in
    (k.0, k.1 ∙ ap (λ w. w +ℤ k.0 *ℤ pos (2 ^ 32)) (sym negative))

residue : (z : ℤ) → (m : ℕ) × (q : ℤ) × (m < 2 ^ 32) × (int_wrap w32 z ≡ cast_signed w32 m) × (z ≡ pos m +ℤ q *ℤ pos (2 ^ 32))
unfolding int_wrap
residue (pos n) = (n % 2 ^ 32, pos (n / 2 ^ 32), omega (arith, mod_below n (2 ^ 32)), refl, omega (arith, ints, div-add-mod' n (2 ^ 32)))
residue (negsuc n) = (
  2 ^ 32 - 1 - n % 2 ^ 32,
  negsuc (n / 2 ^ 32),
  omega arith,
  refl,
  omega (arith, ints, div-add-mod' n (2 ^ 32), mod_below n (2 ^ 32)),
)

pub wrapped_is : (z : ℤ) → IsWrapped z (int_wrap w32 z)
wrapped_is z =
    let r = residue z in
    let k : (k : ℤ) × (z ≡ cast_signed w32 r.0 +ℤ k *ℤ pos (2 ^ 32)) =
    elim (cases_lt r.0 (2 ^ 31)) [ inl low ↦ turned z r.1 r.0 low r.4 | inr high ↦ turned_below z r.1 r.0 high r.2 r.4 ] in
    record { fits = SFits-int_wrap w32 z; turns = k.0; differs = k.1 ∙ ap (λ w. w +ℤ k.0 *ℤ pos (2 ^ 32)) (sym r.3) }

-- truth
pub truthy : (t : Tree) → IsTrue (is_true t) ↔ IsTruthy t
truthy (integer i) = Decides-not _ (Decides-int_eq i (pos 0))
truthy (object o) = (false≢true, λ h. absurd h)
truthy (error e) = (false≢true, λ h. absurd h)
truthy (string []) = (λ h. absurd (false≢true h), λ h. absurd (h refl))
truthy (string (b ∷ s)) = (λ _ e. cc, λ _. refl)
truthy (list no_elements) = (λ h. absurd (false≢true h), λ h. absurd (h refl))
truthy (list (element t es)) = (λ _ e. cc, λ _. refl)

-- limits
pub limited_within : (t : Tree) → IsWithinLimits t → limited t ≡ Ok t
limited_within t h = let w : weight t ≤ weight_limit = h.weight in let d : depth t ≤ depth_limit = h.depth in grind (arith, nat_tests)

leb_decides : (a b : ℕ) → Decides (leb a b) (a ≤ b)
leb_decides a b = (λ h. grind (arith, nat_tests), λ h. grind (arith, nat_tests))

pub limits_decide : (t : Tree) → Decides (leb (weight t) weight_limit && leb (depth t) depth_limit) (IsWithinLimits t)
limits_decide t =
    Decides-like _ (λ p. record { weight = p.0; depth = p.1 }) (λ h. (h.weight, h.depth))
    (Decides-and _ _ (leb_decides (weight t) weight_limit) (leb_decides (depth t) depth_limit))

refused : {P : Type 0} (t : Tree) (b : Bool) → Decides b P → (¬ P) → cond b (Ok t) (Err Quota) ≡ Err Quota
refused t true d h = absurd (h (d.0 refl))
refused t false d h = refl

pub limited_past : (t : Tree) → (¬ IsWithinLimits t) → limited t ≡ Err Quota
limited_past t h = refused t (leb (weight t) weight_limit && leb (depth t) depth_limit) (limits_decide t) h

-- division
mag_neg : (n : ℕ) → mag (neg_ℤ (pos n)) ≤ n
mag_neg zero = omega arith
mag_neg (suc n) = omega arith

fits_below : (a n : ℕ) → a < 2 ^ 31 → (¬ IsLeastByMinusOne (negsuc a) (negsuc n)) → suc a / suc n < 2 ^ 31
fits_below a zero f h = elim (cases_lt a (2 ^ 31 - 1)) [
  | inl low ↦ omega (arith, div-le_self (suc a) 1)
  | inr high ↦ let same : a ≡ 2 ^ 31 - 1 = omega arith in absurd (h (ap negsuc same, refl))
]
fits_below a (suc n) f h = div_below (suc a) (suc (suc n)) (2 ^ 31) (omega arith) (omega arith)

quotient_fits : (a b : ℤ) → FitsSigned w32 a → (¬ IsLeastByMinusOne a b) → b ≢ pos 0 → FitsSigned w32 (int_div a b)
quotient_fits a (pos zero) f h e = absurd (e refl)
quotient_fits a (pos (suc n)) f h e = quot_fits w32 a (pos (suc n)) f (omega (arith, ints))
quotient_fits (pos a) (negsuc n) f h e = record { sfits = omega (arith, mag_neg (a / suc n), div-le_self a (suc n), f.sfits) }
quotient_fits (negsuc a) (negsuc n) f h e = record { sfits = fits_below a n f.sfits h }

remainder_sign : (a b : ℤ) → HasSignOf (int_rem a b) a
remainder_sign (pos a) b = omega (arith, ints)
remainder_sign (negsuc a) b = omega (arith, ints)

not_zero : (b : ℤ) → b ≢ pos 0 → 0 < unsigned_abs b
not_zero (pos zero) e = absurd (e refl)
not_zero (pos (suc n)) e = omega arith
not_zero (negsuc n) e = omega arith

divided : (a b q r : ℤ) → FitsSigned w32 a → (¬ IsLeastByMinusOne a b) → b ≢ pos 0 → int_wrap w32 (int_div a b) ≡ q → int_rem a b ≡ r → IsDivision a b q r
divided a b q r f h e p m =
    let is : int_div a b ≡ q = sym (int_wrap_fits w32 (int_div a b) (quotient_fits a b f h e)) ∙ p in
    let some : 0 < unsigned_abs b = not_zero b e in
    record {
      whole = sym (quot-rem a b) ∙ ap (λ x. x *ℤ b +ℤ int_rem a b) is ∙ ap (λ x. q *ℤ b +ℤ x) m;
      smaller = rw (← m) (rem_below a b some);
      sign = subst (λ s. HasSignOf s a) m (remainder_sign a b);
    }

not_pos : (n : ℕ) → pos (suc n) ≢ pos 0
not_pos n e = cc

not_below : (n : ℕ) → negsuc n ≢ pos 0
not_below n e = cc

pub division : DividesTowardsZero
division a (pos zero) q r f g h p m = cc
division a (pos (suc n)) q r f g h p m =
    let is : int_wrap w32 (int_div a (pos (suc n))) ≡ q = cc in
    let left : int_rem a (pos (suc n)) ≡ r = cc in
    divided a (pos (suc n)) q r f h (not_pos n) is left
division a (negsuc n) q r f g h p m =
    let is : int_wrap w32 (int_div a (negsuc n)) ≡ q = cc in
    let left : int_rem a (negsuc n) ≡ r = cc in
    divided a (negsuc n) q r f h (not_below n) is left
