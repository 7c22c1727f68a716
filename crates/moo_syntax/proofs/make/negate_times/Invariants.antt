use Rattle.std.proofs.Common.{◌≡◌, ◌≤◌}
use Rattle.moo_syntax_ast.specs.View.{root}
use Rattle.moo_syntax_grammar.specs.Minuses.{negations}
use Rattle.moo_syntax.proofs.make.negate_times.Given as goal

abbrev pub invariant-loop : goal.invariant-loop
invariant-loop l = record {
  negated : root l.operand.tree ≡ negations l.counter (root l.fn.operand.tree);
  fits : l.operand.height ≤ l.room;
}
