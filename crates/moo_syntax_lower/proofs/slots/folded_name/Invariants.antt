-- The bytes so far are those of the name, letters folded.
use Rattle.std.proofs.Common.{◌≡◌, take}
use Rattle.moo_value.specs.Compare.{folded}
use Rattle.moo_syntax_lower.proofs.slots.folded_name.Given as goal

abbrev pub invariant-loop-byte : goal.invariant-loop-byte
invariant-loop-byte l = l.bytes.items ≡ folded (take l.byte-index l.byte-items)
