-- The texts of items, one after another.
use Rattle.std.proofs.Common.{ℕ, List, ◌∷◌, ◌++◌, ◌≡◌, refl, codes}
use Rattle.moo_syntax_ast.specs.declared.tree.Item.{Item, Element', Splice', Optional, Defaulted'}
use Rattle.moo_syntax_ast.specs.View.{items_of}
use Rattle.moo_syntax_ast.specs.Listing.{further}
use Rattle.moo_unparse.specs.declared.form.Parentheses.{Parentheses}
use Rattle.moo_unparse.specs.Listings.{listed_items}
use Rattle.moo_unparse.specs.Items.{listed_item}

-- a comma before each of these
abbrev pub rest : Parentheses → List Item → List ℕ
rest f xs = further (items_of xs) (listed_items f (items_of xs))

pub first_item : (f : Parentheses) (x : Item) (xs : List Item) → listed_items f (items_of (x ∷ xs)) ≡ listed_item f x ++ rest f xs
first_item f (Element' p e) xs = refl
first_item f (Splice' p e) xs = refl
first_item f (Optional s) xs = refl
first_item f (Defaulted' s p e) xs = refl

pub next_item : (f : Parentheses) (x : Item) (xs : List Item) → rest f (x ∷ xs) ≡ codes ", " ++ listed_item f x ++ rest f xs
next_item f (Element' p e) xs = refl
next_item f (Splice' p e) xs = refl
next_item f (Optional s) xs = refl
next_item f (Defaulted' s p e) xs = refl
