use Rattle.moo_world_object.proofs.Fitting.{IsMatched}
use Rattle.moo_world_object.proofs.pattern.fits.Given as goal

abbrev pub invariant-loop-byte : goal.invariant-loop-byte
invariant-loop-byte l = IsMatched l.pattern l.name l.byte-index l.matched
