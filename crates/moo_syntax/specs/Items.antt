-- The kind of an item.
use Rattle.std.specs.Prelude.{Bool, true}
use Rattle.moo_syntax_ast.specs.declared.tree.Item.{Item, Element', Splice', Optional, Defaulted'}

-- whether a `?` piece is among the items, after one item more
abbrev pub optional_with : Bool → Item → Bool
optional_with b (Element' p e) = b
optional_with b (Splice' p e) = b
optional_with b (Optional s) = true
optional_with b (Defaulted' s p e) = true
