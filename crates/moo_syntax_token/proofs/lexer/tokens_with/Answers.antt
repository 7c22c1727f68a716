use Rattle.moo_syntax_token.proofs.Steps.{starts, line_passed, line_stops, ends_unclosed, ends}
use Rattle.moo_syntax_token.proofs.lexer.tokens_with.Goals as goal

pub loop-line-init : goal.loop-line-init
loop-line-init c = starts _ _ c.in_ok-spots.ensures.items

pub returns-then-not-branch : goal.returns-then-not-branch
returns-then-not-branch c = line_stops _ _ _ _ _ _ c.line-item.result _ c.loop-line-test.true c.line-item.is c.as_bytes.ensures.value c.loop-line.invariant (rw c.if-not-branch.true at c.in_ok-pass_line.ensures)

pub loop-line-preserved : goal.loop-line-preserved
loop-line-preserved c = line_passed _ _ _ _ _ _ _ c.line-item.result _ c.loop-line-test.true c.line-item.is c.as_bytes.ensures.value c.loop-line.invariant (rw c.if-not-branch.false at c.in_ok-pass_line.ensures)

pub returns-in_default : goal.returns-in_default
returns-in_default c = ends _ _ _ _ _ c.loop-line-test.false c.loop-line.invariant c.in_default.is

pub returns : goal.returns
returns c = ends_unclosed _ _ _ _ c.in-Some.line _ _ c.loop-line-test.false c.loop-line.invariant c.in-Some.is c.in_ok-keep.ensures
