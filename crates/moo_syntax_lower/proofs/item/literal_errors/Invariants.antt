-- The errors so far with the items that are left are all of them.
use Rattle.std.proofs.Common.{◌≡◌, drop}
use Rattle.moo_syntax_ast.specs.View.{items_of}
use Rattle.moo_syntax_node.proofs.Items.{errors_before}
use Rattle.moo_syntax_lower.proofs.item.literal_errors.Given as goal

abbrev pub invariant-loop-item : goal.invariant-loop-item
invariant-loop-item l = errors_before l.errors.items (items_of (drop l.item-index l.items)) ≡ items_of l.items
