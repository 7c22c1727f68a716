-- The bytes so far are the same, without a star or a blank.
use Rattle.std.proofs.Common.{ℕ, ◌<◌}
use Rattle.moo_world_object.proofs.Alone.{IsPlain}
use Rattle.moo_world_object.proofs.pattern.are_just.Given as goal

abbrev pub invariant-loop-i : goal.invariant-loop-i
invariant-loop-i l = (k : ℕ) → k < l.i → IsPlain l.names l.name k
