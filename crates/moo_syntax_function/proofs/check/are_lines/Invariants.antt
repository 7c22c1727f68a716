use Rattle.std.proofs.Common.{◌≡◌, drop}
use Rattle.moo_value.specs.View.{trees}
use Rattle.moo_syntax_function.specs.Check.{are_lines}
use Rattle.moo_syntax_function.proofs.check.are_lines.Given as goal

abbrev pub invariant-loop-element : goal.invariant-loop-element
invariant-loop-element l = are_lines (trees l.elements) ≡ are_lines (trees (drop l.element-index l.elements))
