-- A number that counts from `low` up to `high`: it fits if they do, and the number after it fits the wider type.
use Rattle.std.proofs.Common.{◌≡◌, ℤ, pos, negsuc, ◌+ℤ◌, Bool, true, sym, ap, ◌∙◌, arith}
use Rattle.std.specs.Prelude.{◌≤ℤ◌, int_le}
use Rattle.std.proofs.lemmas.Int.{to_z-of_z, ints}
use Rattle.std.proofs.Math.Facts.{sfits_widen}
use mir.Syntax.{w32, w64}
use mir.Val.{SFits, to_z, of_z}

pub between : (low high n : ℤ) → SFits w32 low → SFits w32 high → low ≤ℤ n → int_le n high ≡ true → SFits w32 n
between (pos a) (pos b) (pos n) f g h k = grind (arith, ints)
between (pos a) (negsuc b) (pos n) f g h k = grind (arith, ints)
between (negsuc a) (pos b) (pos n) f g h k = grind (arith, ints)
between (negsuc a) (negsuc b) (pos n) f g h k = grind (arith, ints)
between (pos a) (pos b) (negsuc n) f g h k = grind (arith, ints)
between (pos a) (negsuc b) (negsuc n) f g h k = grind (arith, ints)
between (negsuc a) (pos b) (negsuc n) f g h k = grind (arith, ints)
between (negsuc a) (negsuc b) (negsuc n) f g h k = grind (arith, ints)

pub after : (n : ℤ) → SFits w32 n → SFits w64 (n +ℤ pos 1)
after (pos n) f = record { sfits = omega (arith, ints, f) }
after (negsuc n) f = grind (arith, ints)

pub narrow : (low high n : ℤ) → SFits w32 low → SFits w32 high → low ≤ℤ n → int_le n high ≡ true → to_z w32 (of_z w32 n) ≡ n
narrow low high n f g h k = to_z-of_z w32 n (between low high n f g h k)

pub next_number : (low high n : ℤ) → SFits w32 low → SFits w32 high → low ≤ℤ n → int_le n high ≡ true → to_z w64 (of_z w64 (n +ℤ pos 1)) ≡ n +ℤ pos 1
next_number low high n f g h k = to_z-of_z w64 (n +ℤ pos 1) (after n (between low high n f g h k))

pub not_below : (low n : ℤ) → low ≤ℤ n → low ≤ℤ (n +ℤ pos 1)
not_below low n h = omega (arith, ints)

-- the test that the loop makes, in the wider type
pub reached : (n m high : ℤ) (b : Bool) → SFits w32 high → m ≡ to_z w32 (of_z w32 high) → int_le n (to_z w64 (of_z w64 m)) ≡ b → int_le n high ≡ b
reached n m high b g q t = sym (ap (λ x. int_le n (to_z w64 (of_z w64 x))) (q ∙ to_z-of_z w32 high g) ∙ ap (int_le n) (to_z-of_z w64 high (sfits_widen tt g))) ∙ t
