-- Each call leaves fewer tokens to read, or goes to a tighter level of the grammar.
use Rattle.std.proofs.Common.{◌+◌, ◌-◌, ◌*◌, ◌≤◌, length}
use Rattle.moo_syntax_ast.specs.View.{root, in_front}
use Rattle.moo_syntax.specs.Cursor.{left}
use Rattle.moo_syntax_grammar.specs.Grammar.{more, members}
use Rattle.moo_syntax.specs.Outcome.{Moves, GoesOn}
use Rattle.moo_syntax.proofs.+parser.Given as goal

abbrev pub decreases-members::arguments : goal.decreases-members::arguments
decreases-members::arguments l = 40 * (length l.tokens.now.spots.now - l.tokens.now.at) + 29

abbrev pub decreases-postfix::after_bracket : goal.decreases-postfix::after_bracket
decreases-postfix::after_bracket l = 40 * (length l.tokens.now.spots.now - l.tokens.now.at) + 30

abbrev pub decreases-postfix::after_colon : goal.decreases-postfix::after_colon
decreases-postfix::after_colon l = 40 * (length l.tokens.now.spots.now - l.tokens.now.at) + 30

abbrev pub decreases-primary::after_dollar : goal.decreases-primary::after_dollar
decreases-primary::after_dollar l = 40 * (length l.tokens.now.spots.now - l.tokens.now.at) + 31

abbrev pub decreases-postfix::after_dot : goal.decreases-postfix::after_dot
decreases-postfix::after_dot l = 40 * (length l.tokens.now.spots.now - l.tokens.now.at) + 30

abbrev pub decreases-members::after_question : goal.decreases-members::after_question
decreases-members::after_question l = 40 * (length l.tokens.now.spots.now - l.tokens.now.at) + 30

abbrev pub decreases-primary::braced : goal.decreases-primary::braced
decreases-primary::braced l = 40 * (length l.tokens.now.spots.now - l.tokens.now.at) + 9

abbrev pub decreases-primary::codes : goal.decreases-primary::codes
decreases-primary::codes l = 40 * (length l.tokens.now.spots.now - l.tokens.now.at) + 30

abbrev pub decreases-levels::conditional : goal.decreases-levels::conditional
decreases-levels::conditional l = 40 * (length l.tokens.now.spots.now - l.tokens.now.at) + 25

abbrev pub decreases-primary::dollar : goal.decreases-primary::dollar
decreases-primary::dollar l = 40 * (length l.tokens.now.spots.now - l.tokens.now.at) + 8

abbrev pub decreases-levels::expression : goal.decreases-levels::expression
decreases-levels::expression l = 40 * (length l.tokens.now.spots.now - l.tokens.now.at) + 26

abbrev pub decreases-primary::guarded : goal.decreases-primary::guarded
decreases-primary::guarded l = 40 * (length l.tokens.now.spots.now - l.tokens.now.at) + 7

abbrev pub decreases-members::member : goal.decreases-members::member
decreases-members::member l = 40 * (length l.tokens.now.spots.now - l.tokens.now.at) + 27

abbrev pub decreases-postfix::member_name : goal.decreases-postfix::member_name
decreases-postfix::member_name l = 40 * (length l.tokens.now.spots.now - l.tokens.now.at) + 29

abbrev pub decreases-members::members : goal.decreases-members::members
decreases-members::members l = 40 * (length l.tokens.now.spots.now - l.tokens.now.at) + 28

abbrev pub decreases-primary::named : goal.decreases-primary::named
decreases-primary::named l = 40 * (length l.tokens.now.spots.now - l.tokens.now.at) + 31

abbrev pub decreases-postfix::postfix : goal.decreases-postfix::postfix
decreases-postfix::postfix l = 40 * (length l.tokens.now.spots.now - l.tokens.now.at) + 11

abbrev pub decreases-levels::power : goal.decreases-levels::power
decreases-levels::power l = 40 * (length l.tokens.now.spots.now - l.tokens.now.at) + 14

abbrev pub decreases-levels::raised : goal.decreases-levels::raised
decreases-levels::raised l = 40 * (length l.tokens.now.spots.now - l.tokens.now.at) + 15

abbrev pub decreases-primary::primary : goal.decreases-primary::primary
decreases-primary::primary l = 40 * (length l.tokens.now.spots.now - l.tokens.now.at) + 10

abbrev pub decreases-postfix::suffixes : goal.decreases-postfix::suffixes
decreases-postfix::suffixes l = 40 * (length l.tokens.now.spots.now - l.tokens.now.at) + 6

abbrev pub decreases-levels::unary : goal.decreases-levels::unary
decreases-levels::unary l = 40 * (length l.tokens.now.spots.now - l.tokens.now.at) + 13

abbrev pub decreases-levels::unsigned : goal.decreases-levels::unsigned
decreases-levels::unsigned l = 40 * (length l.tokens.now.spots.now - l.tokens.now.at) + 12

abbrev pub decreases-levels::logic : goal.decreases-levels::logic
decreases-levels::logic l = 40 * (length l.tokens.now.spots.now - l.tokens.now.at) + 24

abbrev pub decreases-levels::relation : goal.decreases-levels::relation
decreases-levels::relation l = 40 * (length l.tokens.now.spots.now - l.tokens.now.at) + 23

abbrev pub decreases-levels::sum : goal.decreases-levels::sum
decreases-levels::sum l = 40 * (length l.tokens.now.spots.now - l.tokens.now.at) + 22

abbrev pub decreases-levels::product : goal.decreases-levels::product
decreases-levels::product l = 40 * (length l.tokens.now.spots.now - l.tokens.now.at) + 21

abbrev pub decreases-levels::more : goal.decreases-levels::more
decreases-levels::more l = 40 * (length l.tokens.now.spots.now - l.tokens.now.at) + 16

abbrev pub decreases-levels::further : goal.decreases-levels::further
decreases-levels::further l = 40 * (length l.tokens.now.spots.now - l.tokens.now.at) + 15

abbrev pub decreases-levels::operand : goal.decreases-levels::operand
decreases-levels::operand l = 40 * (length l.tokens.now.spots.now - l.tokens.now.at) + 24

abbrev pub invariant-levels::further-loop-operator : goal.invariant-levels::further-loop-operator
invariant-levels::further-loop-operator l = record {
  moves : Moves l.fn.tokens l.tokens;
  goes_on : GoesOn l.place.names (more l.place.inside l.level (root l.fn.front.tree)) (more l.place.inside l.level (root l.joined.tree)) (λ e. e) (left l.fn.tokens) (left l.tokens);
  fits : l.joined.height ≤ l.room;
  tokens : l.fn.tokens.at + l.joined.height ≤ l.tokens.at + l.fn.front.height;
}

abbrev pub decreases-levels::further-loop-operator : goal.decreases-levels::further-loop-operator
decreases-levels::further-loop-operator l = length l.tokens.spots.now - l.tokens.at

abbrev pub invariant-members::members-loop-found : goal.invariant-members::members-loop-found
invariant-members::members-loop-found l = record {
  moves : Moves l.fn.tokens l.tokens;
  goes_on : GoesOn l.place.names (members l.place.inside l.optional) (members l.place.inside l.optional) (in_front l.found.items.items) (left l.fn.tokens) (left l.tokens);
  fits : l.found.height ≤ l.room;
  tokens : l.fn.tokens.at + l.found.height ≤ l.tokens.at;
}

abbrev pub decreases-members::members-loop-found : goal.decreases-members::members-loop-found
decreases-members::members-loop-found l = length l.tokens.spots.now - l.tokens.at
