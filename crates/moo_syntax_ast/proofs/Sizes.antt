-- How many nodes a tree has, which falls from a call to those within it.
use Rattle.std.proofs.Common.{ℕ, zero, suc, List, [], ◌∷◌, ◌≡◌, ◌+◌, ◌<◌, ◌≤◌, refl, ap, length, get_or, arith}
use Rattle.moo_syntax_ast.specs.Tree
use Rattle.moo_syntax_ast.specs.Tree.{Expr, Items, Codes}
use Rattle.moo_syntax_ast.specs.View.{tree, items_of}
use Rattle.moo_syntax_ast.specs.declared.tree.Item.{Item, Element', Splice', Optional, Defaulted'}

abbrev mutual
  pub size : Expr → ℕ
  size (Tree.literal l) = 1
  size (Tree.variable s) = 1
  size Tree.length_mark = 1
  size (Tree.unary o a) = 1 + size a
  size (Tree.binary o a b) = 1 + size a + size b
  size (Tree.logic o a b) = 1 + size a + size b
  size (Tree.conditional a b c) = 1 + size a + size b + size c
  size (Tree.index a b) = 1 + size a + size b
  size (Tree.range a b c) = 1 + size a + size b + size c
  size (Tree.list xs) = 1 + items_size xs
  size (Tree.property a b) = 1 + size a + size b
  size (Tree.verb_call a b xs) = 1 + size a + size b + items_size xs
  size (Tree.call s xs) = 1 + items_size xs
  size (Tree.assign a b) = 1 + size a + size b
  size (Tree.catch a c) = 1 + size a + codes_size c
  size (Tree.catch_or a c b) = 1 + size a + codes_size c + size b

  pub items_size : Items → ℕ
  items_size Tree.no_items = 0
  items_size (Tree.element a xs) = 1 + size a + items_size xs
  items_size (Tree.splice a xs) = 1 + size a + items_size xs
  items_size (Tree.optional s xs) = 1 + items_size xs
  items_size (Tree.defaulted s a xs) = 1 + size a + items_size xs

  pub codes_size : Codes → ℕ
  codes_size Tree.any_error = 1
  codes_size (Tree.listed_errors xs) = 1 + items_size xs

abbrev pub item_size : Item → ℕ
item_size (Element' p e) = 1 + size (tree e)
item_size (Splice' p e) = 1 + size (tree e)
item_size (Optional s) = 1
item_size (Defaulted' s p e) = 1 + size (tree e)

pub size_of_first : (x : Item) (xs : List Item) → items_size (items_of (x ∷ xs)) ≡ item_size x + items_size (items_of xs)
size_of_first (Element' p e) xs = refl
size_of_first (Splice' p e) xs = refl
size_of_first (Optional s) xs = refl
size_of_first (Defaulted' s p e) xs = refl

within : (xs : List Item) (k : ℕ) (d : Item) → k < length xs → item_size (get_or xs k d) ≤ items_size (items_of xs)
within [] k d h = absurd (omega arith)
within (x ∷ xs) zero d h = omega (arith, size_of_first x xs)
within (x ∷ xs) (suc k) d h = omega (arith, size_of_first x xs, within xs k d (omega arith))

pub size_within : (xs : List Item) (k : ℕ) (x : Item) → k < length xs → x ≡ get_or xs k x → item_size x ≤ items_size (items_of xs)
size_within xs k x h e = omega (arith, within xs k x h, ap item_size e)
