use Rattle.moo_syntax_token.proofs.Parts.{string_of_rest}
use Rattle.moo_syntax_token.proofs.Steps.{stays, goes_rest, stops_later, at_line_end}
use Rattle.moo_syntax_token.proofs.lexer.pass_line.Goals as goal

pub loop-rest-init : goal.loop-rest-init
loop-rest-init c = (stays _ _ _ _, c.requires)

pub loop-rest-preserved : goal.loop-rest-preserved
loop-rest-preserved c = (
  goes_rest _ _ c.loop-rest.invariant.0 (rw c.in-Some.is at c.in_ok-length.ensures.reads),
  string_of_rest _ _ c.loop-rest.invariant.1,
)

pub returns-in_default : goal.returns-in_default
returns-in_default c = stops_later c.loop-rest.invariant.0 (rw c.in_default.is at c.in_ok-length.ensures.reads)

pub returns : goal.returns
returns c = at_line_end c.loop-rest-test.ensures c.loop-rest.invariant.0
