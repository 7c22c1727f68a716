-- The letters of the bytes so far are folded.
use Rattle.std.proofs.Common.{◌≡◌, take}
use Rattle.moo_value.specs.Compare.{folded}
use Rattle.moo_syntax_lower.proofs.slots.is_folded.Given as goal

abbrev pub invariant-loop-byte : goal.invariant-loop-byte
invariant-loop-byte l = folded (take l.byte-index l.name) ≡ take l.byte-index l.name
