use Rattle.moo_syntax_token.proofs.Steps.{IsAt}
use Rattle.moo_syntax_token.proofs.lexer.tokens_with.Given as goal

abbrev pub invariant-loop-line : goal.invariant-loop-line
invariant-loop-line l = IsAt l.lines l.line-index l.number l.opened l.spots.items
