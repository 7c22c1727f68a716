use Rattle.std.proofs.Common.{IsTrue, ◌↔◌, take}
use Rattle.moo_value.specs.Tree.{IsText}
use Rattle.moo_value.proofs.string.is_text.Given as goal

abbrev pub invariant-loop-byte : goal.invariant-loop-byte
invariant-loop-byte l = IsTrue l.all ↔ IsText (take l.byte-index l.bytes)
