-- Each call leaves fewer tokens to read, or goes to a part of what its caller reads; and what is read so far in each loop.
use Rattle.std.proofs.Common.{◌+◌, ◌-◌, ◌*◌, ◌≤◌, ◌≡◌, length, reverse}
use Rattle.moo_syntax_ast.specs.Limits.{block_height, arms_height, handlers_height}
use Rattle.moo_syntax_ast.specs.View.{block, arms_of, handlers_of}
use Rattle.moo_syntax_grammar.specs.Grammar.{statements, arms, handlers}
use Rattle.moo_syntax.specs.Cursor.{left}
use Rattle.moo_syntax.specs.Outcome.{Moves, GoesOn}
use Rattle.moo_syntax.specs.Statements.{before, arms_before, handlers_before}
use Rattle.moo_syntax.proofs.statement.+statements.Given as goal

abbrev pub decreases-arms : goal.decreases-arms
decreases-arms l = 8 * (length l.tokens.now.spots.now - l.tokens.now.at) + 1

abbrev pub decreases-attempt : goal.decreases-attempt
decreases-attempt l = 8 * (length l.tokens.now.spots.now - l.tokens.now.at) + 4

abbrev pub decreases-branches : goal.decreases-branches
decreases-branches l = 8 * (length l.tokens.now.spots.now - l.tokens.now.at) + 4

abbrev pub decreases-for_loop : goal.decreases-for_loop
decreases-for_loop l = 8 * (length l.tokens.now.spots.now - l.tokens.now.at) + 4

abbrev pub decreases-for_range : goal.decreases-for_range
decreases-for_range l = 8 * (length l.tokens.now.spots.now - l.tokens.now.at) + 4

abbrev pub decreases-handler : goal.decreases-handler
decreases-handler l = 8 * (length l.tokens.now.spots.now - l.tokens.now.at) + 1

abbrev pub decreases-handlers : goal.decreases-handlers
decreases-handlers l = 8 * (length l.tokens.now.spots.now - l.tokens.now.at) + 2

abbrev pub decreases-statement : goal.decreases-statement
decreases-statement l = 8 * (length l.tokens.now.spots.now - l.tokens.now.at) + 1

abbrev pub decreases-statements : goal.decreases-statements
decreases-statements l = 8 * (length l.tokens.now.spots.now - l.tokens.now.at) + 2

abbrev pub decreases-while_loop : goal.decreases-while_loop
decreases-while_loop l = 8 * (length l.tokens.now.spots.now - l.tokens.now.at) + 4

abbrev pub decreases-within : goal.decreases-within
decreases-within l = 8 * (length l.tokens.now.spots.now - l.tokens.now.at) + 3

abbrev pub invariant-arms-loop-tokens : goal.invariant-arms-loop-tokens
invariant-arms-loop-tokens l = record {
  moves : Moves l.fn.tokens l.tokens;
  loops : l.loops.items ≡ l.fn.loops.items;
  goes_on : GoesOn l.names (arms (reverse l.fn.loops.items)) (arms (reverse l.fn.loops.items)) (arms_before l.found.items) (left l.fn.tokens) (left l.tokens);
  fits : arms_height (arms_of l.found.items) ≤ l.room;
  tokens : l.fn.tokens.at + arms_height (arms_of l.found.items) ≤ l.tokens.at;
}

abbrev pub decreases-arms-loop-tokens : goal.decreases-arms-loop-tokens
decreases-arms-loop-tokens l = length l.tokens.spots.now - l.tokens.at

abbrev pub invariant-handlers-loop-found : goal.invariant-handlers-loop-found
invariant-handlers-loop-found l = record {
  moves : Moves l.fn.tokens l.tokens;
  loops : l.loops.items ≡ l.fn.loops.items;
  goes_on : GoesOn l.names (handlers (reverse l.fn.loops.items)) (handlers (reverse l.fn.loops.items)) (handlers_before l.found.items) (left l.fn.tokens) (left l.tokens);
  fits : handlers_height (handlers_of l.found.items) ≤ l.room;
  tokens : l.fn.tokens.at + handlers_height (handlers_of l.found.items) ≤ l.tokens.at;
}

abbrev pub decreases-handlers-loop-found : goal.decreases-handlers-loop-found
decreases-handlers-loop-found l = length l.tokens.spots.now - l.tokens.at

abbrev pub invariant-statements-loop-alloc : goal.invariant-statements-loop-alloc
invariant-statements-loop-alloc l = record {
  moves : Moves l.fn.tokens l.tokens;
  loops : l.loops.items ≡ l.fn.loops.items;
  goes_on : GoesOn l.names (statements (reverse l.fn.loops.items)) (statements (reverse l.fn.loops.items)) (before l.found.items) (left l.fn.tokens) (left l.tokens);
  fits : block_height (block l.found.items) ≤ l.room;
  tokens : l.fn.tokens.at + block_height (block l.found.items) ≤ l.tokens.at;
}

abbrev pub decreases-statements-loop-alloc : goal.decreases-statements-loop-alloc
decreases-statements-loop-alloc l = length l.tokens.spots.now - l.tokens.at
