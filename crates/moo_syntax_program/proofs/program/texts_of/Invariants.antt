-- The texts so far are those of the names before.
use Rattle.std.proofs.Common.{◌≡◌, take}
use Rattle.moo_syntax_program.proofs.program.texts_of.Given as goal

abbrev pub invariant-loop-name : goal.invariant-loop-name
invariant-loop-name l = l.texts.items ≡ take l.name-index l.names
