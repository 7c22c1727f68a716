use Rattle.std.proofs.Common.{◌≡◌, List, [], ◌∷◌, length, refl, false, ◌∙◌, sym}
use Rattle.std.specs.Prelude.{◌==◌}
use Rattle.moo_syntax_ast.specs.declared.tree.Item.{Item, Element', Splice', Optional, Defaulted'}
use Rattle.moo_syntax_ast.specs.View.{items_of}
use Rattle.moo_syntax_ast.specs.Target.{are_names, is_scatter}
use Rattle.moo_syntax_ast.proofs.target.is_scatter.Goals as goal

some : (xs : List Item) → (length xs == 0) ≡ false → are_names false (items_of xs) ≡ is_scatter (items_of xs)
some [] h = absurd cc
some (Element' p e ∷ xs) h = refl
some (Splice' p e ∷ xs) h = refl
some (Optional s ∷ xs) h = refl
some (Defaulted' s p e ∷ xs) h = refl

pub returns-then-not-is_empty : goal.returns-then-not-is_empty
returns-then-not-is_empty c = c.are_names.ensures ∙ some c.args.items.now (sym c.is_empty.ensures ∙ c.if-not-is_empty.true)
