-- The text of an item of a list.
use Rattle.std.specs.Prelude.{ℕ, List, ◌++◌, codes}
use Rattle.moo_syntax_ast.specs.View.{tree}
use Rattle.moo_syntax_ast.specs.declared.tree.Item.{Item, Element', Splice', Optional, Defaulted'}
use Rattle.moo_unparse.specs.declared.form.Parentheses.{Parentheses}
use Rattle.moo_unparse.specs.Listings.{listed}

abbrev pub listed_item : Parentheses → Item → List ℕ
listed_item f (Element' p e) = listed f (tree e)
listed_item f (Splice' p e) = codes "@" ++ listed f (tree e)
listed_item f (Optional s) = codes "?" ++ s.value
listed_item f (Defaulted' s p e) = codes "?" ++ s.value ++ codes " = " ++ listed f (tree e)
