-- The contents of a `Vec` in a variant of a node.
use Rattle.std.proofs.Common.{◌≡◌, refl, ap, ◌∙◌, Vec, Global}
use Rattle.moo_syntax_node.specs.declared.node.Node.{Row_of-NodeItem, end_of-NodeItem, more_of-NodeItem, items-the_row-NodeItem, items_hidden-the_row-NodeItem-0}
use Rattle.moo_syntax_node.specs.declared.node.Node.TheBlock.{hidden-the_row-NodeItem-0}
use Rattle.moo_syntax_node.specs.declared.node.NodeItem.{NodeItem}
use Rattle.moo_syntax_node.specs.Source.{source_row, with_source, source_items}

row_of_items : (n : _) (r : Row_of-NodeItem n) → source_row r ≡ source_items (items-the_row-NodeItem n r)
row_of_items n end_of-NodeItem = refl
row_of_items n (more_of-NodeItem x r) = ap (with_source x) (row_of_items _ r)

-- the source of a list's items
pub row_items : (v : Vec NodeItem Global) → source_row (hidden-the_row-NodeItem-0 v) ≡ source_items v.items
row_items v = row_of_items _ (hidden-the_row-NodeItem-0 v) ∙ ap source_items (items_hidden-the_row-NodeItem-0 v)
