-- Whatever tokens are still to come decide.
use Rattle.std.proofs.Common.{List, ◌≤◌, ◌<◌, ◌++◌, take}
use Rattle.moo_syntax_token.specs.declared.token.Token.{Token}
use Rattle.moo_syntax_ast.specs.Limits.{most_brackets}
use Rattle.moo_syntax_grammar.specs.Tokens.{words}
use Rattle.moo_syntax_grammar.specs.Brackets.{most_open_after, most_open}
use Rattle.moo_syntax.proofs.brackets.bracket_too_many.Given as goal

abbrev pub invariant-loop-at : goal.invariant-loop-at
invariant-loop-at l = record {
  opened : l.opened ≤ most_brackets;
  within : (ts : List Token) → most_open_after l.opened ts ≤ most_brackets → most_open (words (take l.at l.spots) ++ ts) ≤ most_brackets;
  outside : (ts : List Token) → most_brackets < most_open_after l.opened ts → most_brackets < most_open (words (take l.at l.spots) ++ ts);
}
