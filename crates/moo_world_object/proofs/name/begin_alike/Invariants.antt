-- The letters so far are the same.
use Rattle.std.proofs.Common.{◌≡◌, ℕ, ◌<◌, get_or}
use Rattle.std.specs.Char.{to_ascii_lowercase}
use Rattle.moo_world_object.proofs.name.begin_alike.Given as goal

abbrev pub invariant-loop-i : goal.invariant-loop-i
invariant-loop-i l = (k : ℕ) → k < l.i → to_ascii_lowercase (get_or l.one k 0) ≡ to_ascii_lowercase (get_or l.other k 0)
