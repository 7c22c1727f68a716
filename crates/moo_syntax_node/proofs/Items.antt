-- The sources of items, one after another.
use Rattle.std.proofs.Common.{◌≡◌, refl, ap, sym, ◌∙◌, ℕ, ◌+◌, ◌<◌, List, [], ◌∷◌, ◌++◌, length, get_or, drop, Option, Some, None, IfSome}
use Rattle.std.proofs.lemmas.List.{drop_more}
use Rattle.moo_syntax_ast.specs.declared.tree.Item.{Item}
use Rattle.moo_value.specs.declared.error_code.ErrorCode.{ErrorCode}
use Rattle.moo_syntax_ast.specs.declared.tree.Literal.TheVariants.{Error}
use Rattle.moo_syntax_ast.specs.Tree.{Items, no_items, element, literal, variable}
use Rattle.moo_syntax_ast.specs.View.{with_item, items_of}
use Rattle.moo_syntax_node.specs.declared.node.NodeItem.{NodeItem}
use Rattle.moo_syntax_node.specs.Source.{error_items, with_source, sources_before}
use Rattle.moo_syntax_node.specs.Blocks.{named_items}

-- one item more before the others
pub before_last : (xs : List NodeItem) (x : NodeItem) (rest : Items) → sources_before (xs ++ x ∷ []) rest ≡ sources_before xs (with_source x rest)
before_last [] x rest = refl
before_last (y ∷ ys) x rest = ap (with_source y) (before_last ys x rest)

-- the items from one on
pub item_at : (xs : List Item) (i : ℕ) (x : Item) → i < length xs → x ≡ get_or xs i x → with_item x (items_of (drop (i + 1) xs)) ≡ items_of (drop i xs)
item_at xs i x h e = ap (λ y. with_item y (items_of (drop (i + 1) xs))) e ∙ sym (ap items_of (drop_more xs i x h))

-- the items that are these variables, before others
abbrev pub named_before : List (List ℕ) → Items → Items
named_before [] rest = rest
named_before (v ∷ vs) rest = element (variable v) (named_before vs rest)

-- one variable more before the others
pub named_last : (xs : List (List ℕ)) (x : List ℕ) (rest : Items) → named_before (xs ++ x ∷ []) rest ≡ named_before xs (element (variable x) rest)
named_last [] x rest = refl
named_last (y ∷ ys) x rest = ap (element (variable y)) (named_last ys x rest)

-- variables before no others
pub named_alone : (xs : List (List ℕ)) → named_before xs no_items ≡ named_items xs
named_alone [] = refl
named_alone (y ∷ ys) = ap (element (variable y)) (named_alone ys)

-- of an answer, if there is one
pub map_some : {A : Type 0} {P Q : A → Type 0} (r : Option A) → ((x : A) → P x → Q x) → IfSome r P → IfSome r Q
map_some None f h = tt
map_some (Some x) f h = f x h

-- the items that are these literal errors, before others
abbrev pub errors_before : List ErrorCode → Items → Items
errors_before [] rest = rest
errors_before (e ∷ es) rest = element (literal (Error e)) (errors_before es rest)

-- one error more before the others
pub errors_last : (xs : List ErrorCode) (x : ErrorCode) (rest : Items) → errors_before (xs ++ x ∷ []) rest ≡ errors_before xs (element (literal (Error x)) rest)
errors_last [] x rest = refl
errors_last (y ∷ ys) x rest = ap (element (literal (Error y))) (errors_last ys x rest)

-- errors before no others
pub errors_alone : (xs : List ErrorCode) → errors_before xs no_items ≡ error_items xs
errors_alone [] = refl
errors_alone (y ∷ ys) = ap (element (literal (Error y))) (errors_alone ys)
