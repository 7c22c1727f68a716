-- The variables so far with the items that are left are all of them.
use Rattle.std.proofs.Common.{◌≡◌, drop}
use Rattle.moo_syntax_ast.specs.View.{items_of}
use Rattle.moo_syntax_node.proofs.Items.{named_before}
use Rattle.moo_syntax_lower.proofs.assignment.names_of.Given as goal

abbrev pub invariant-loop-item : goal.invariant-loop-item
invariant-loop-item l = named_before l.names.items (items_of (drop l.item-index l.items)) ≡ items_of l.items
