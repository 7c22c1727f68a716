use Rattle.std.proofs.Common.{◌≡◌, take}
use Rattle.moo_world_object.specs.Patterns.{base}
use Rattle.moo_world_object.proofs.verb_index.base_of.Given as goal

abbrev pub invariant-loop-byte : goal.invariant-loop-byte
invariant-loop-byte l = l.letters.items ≡ base (take l.byte-index l.pattern)
