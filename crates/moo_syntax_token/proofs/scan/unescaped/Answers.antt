use Rattle.moo_syntax_token.proofs.Strings.{begins, takes, puts, escapes, closes, unclosed}
use Rattle.moo_syntax_token.proofs.Parts.{keeps_none, keeps, keeps_on, string_of_kept}
use Rattle.moo_syntax_token.proofs.scan.unescaped.Goals as goal

pub loop-index-init : goal.loop-index-init
loop-index-init c = (begins _ _ c.new-text.ensures.items, keeps_none _ c.new-text.ensures.items)

pub loop-index-preserved-then-taken : goal.loop-index-preserved-then-taken
loop-index-preserved-then-taken c = (
  takes _ _ _ _ _ c.loop-index-test.true c.if-taken.true c.in_ok-push.ensures.items c.loop-index.invariant.0,
  keeps _ _ _ _ c.requires c.loop-index-test.true c.in_ok-push.ensures.items c.loop-index.invariant.1,
)

pub from_text-requires : goal.from_text-requires
from_text-requires c = string_of_kept _ _ _ c.requires c.loop-index-test.true c.loop-index.invariant.1

pub returns-then-byte-eq34-clause-is : goal.returns-then-byte-eq34-clause-is
returns-then-byte-eq34-clause-is c = closes _ _ _ _ _ c.loop-index-test.true c.if-taken.false c.if-byte-eq34.true c.in_ok-from_text.ensures c.loop-index.invariant.0

pub loop-index-preserved-then-byte-eq92 : goal.loop-index-preserved-then-byte-eq92
loop-index-preserved-then-byte-eq92 c = (
  escapes _ _ _ _ c.loop-index-test.true c.if-taken.false c.if-byte-eq34.false c.if-byte-eq92.true c.loop-index.invariant.0,
  keeps_on _ _ c.loop-index.invariant.1,
)

pub loop-index-preserved : goal.loop-index-preserved
loop-index-preserved c = (
  puts _ _ _ _ _ c.loop-index-test.true c.if-taken.false c.if-byte-eq34.false c.if-byte-eq92.false c.in_ok-push-2.ensures.items c.loop-index.invariant.0,
  keeps _ _ _ _ c.requires c.loop-index-test.true c.in_ok-push-2.ensures.items c.loop-index.invariant.1,
)

pub returns-clause-is : goal.returns-clause-is
returns-clause-is c = unclosed _ _ _ _ c.loop-index-test.false c.loop-index.invariant.0
