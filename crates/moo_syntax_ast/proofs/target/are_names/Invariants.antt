-- The items that are left decide the result.
use Rattle.std.proofs.Common.{◌≡◌, false, drop}
use Rattle.moo_syntax_ast.specs.View.{items_of}
use Rattle.moo_syntax_ast.specs.Target.{are_names}
use Rattle.moo_syntax_ast.proofs.target.are_names.Given as goal

abbrev pub invariant-loop-item : goal.invariant-loop-item
invariant-loop-item l = are_names l.spliced (items_of (drop l.item-index l.items)) ≡ are_names false (items_of l.items)
