-- The values so far with the items that are left are all of them. The nodes are those of the list so far.
use Rattle.std.proofs.Common.{◌≡◌, ◌+◌, drop}
use Rattle.moo_value.specs.Tree.{elements_of}
use Rattle.moo_value.specs.View.{trees}
use Rattle.moo_syntax_node.specs.Source.{source_items}
use Rattle.moo_syntax_node.specs.Spelling.{nodes_in}
use Rattle.moo_syntax_node.proofs.Constants.{spelled_before}
use Rattle.moo_syntax_node.proofs.constant.constant_list.Given as goal

abbrev pub invariant-loop-item : goal.invariant-loop-item
invariant-loop-item l =
    (spelled_before (trees l.values.items) (source_items (drop l.item-index l.items)) ≡ source_items l.items) × (l.nodes ≡ 1 + nodes_in (elements_of (trees l.values.items)))
