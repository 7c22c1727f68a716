use Rattle.std.proofs.Common.{refl}
use Rattle.std.proofs.lemmas.List.{take_more}
use Rattle.moo_syntax_token.proofs.Strings.{begins, puts, closes}
use Rattle.moo_syntax_token.proofs.scan.plain_length.Goals as goal

pub loop-index-init : goal.loop-index-init
loop-index-init c = begins _ _ refl

pub loop-index-preserved : goal.loop-index-preserved
loop-index-preserved c = puts _ _ _ _ _ c.loop-index-test.true refl c.if-byte-eq34.false c.if-byte-eq92.false (take_more _ _ _ c.loop-index-test.true) c.loop-index.invariant

pub returns-then-byte-eq34-clause-is : goal.returns-then-byte-eq34-clause-is
returns-then-byte-eq34-clause-is c = closes _ _ _ _ _ c.loop-index-test.true refl c.if-byte-eq34.true refl c.loop-index.invariant
