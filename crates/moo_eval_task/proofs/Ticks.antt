-- The ticks that are left, as they are counted.
use Rattle.std.proofs.Common.{◌≡◌, ℕ, ℤ, pos, ap, ◌∙◌}
use Rattle.std.proofs.lemmas.Int.{to_z-of_z}
use mir.Syntax.{w32}
use mir.Val.{SFits, to_z, of_z}
use lib.IntN.{nat_abs}

pub ticks_seen : (z : ℤ) (n : ℕ) → SFits w32 z → z ≡ pos n → nat_abs (to_z w32 (of_z w32 z)) ≡ n
ticks_seen z n f e = ap nat_abs (to_z-of_z w32 z f ∙ e)
