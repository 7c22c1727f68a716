-- The height of an item.
use Rattle.std.specs.Prelude.{ℕ}
use Rattle.moo_syntax_ast.specs.declared.tree.Item.{Item, Element', Splice', Optional, Defaulted'}
use Rattle.moo_syntax_ast.specs.Limits.{height}
use Rattle.moo_syntax_ast.specs.View.{tree}

abbrev pub item_height : Item → ℕ
item_height (Element' p e) = height (tree e)
item_height (Splice' p e) = height (tree e)
item_height (Optional s) = 1
item_height (Defaulted' s p e) = height (tree e)
