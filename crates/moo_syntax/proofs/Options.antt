-- Whether there is a `?` piece among items, one item more.
use Rattle.std.proofs.Common.{List, [], ◌∷◌, ◌++◌, ◌≡◌, refl, true}
use Rattle.moo_syntax_ast.specs.declared.tree.Item.{Item, Element', Splice', Optional, Defaulted'}
use Rattle.moo_syntax_ast.specs.View.{items_of}
use Rattle.moo_syntax_grammar.specs.Grammar.{has_optional}
use Rattle.moo_syntax.specs.Items.{optional_with}

with_true : (x : Item) → true ≡ optional_with true x
with_true (Element' p e) = refl
with_true (Splice' p e) = refl
with_true (Optional s) = refl
with_true (Defaulted' s p e) = refl

pub optional_push : (xs : List Item) (x : Item) → has_optional (items_of (xs ++ x ∷ [])) ≡ optional_with (has_optional (items_of xs)) x
optional_push [] (Element' p e) = refl
optional_push [] (Splice' p e) = refl
optional_push [] (Optional s) = refl
optional_push [] (Defaulted' s p e) = refl
optional_push (Element' p e ∷ xs) x = optional_push xs x
optional_push (Splice' p e ∷ xs) x = optional_push xs x
optional_push (Optional s ∷ xs) x = with_true x
optional_push (Defaulted' s p e ∷ xs) x = with_true x
