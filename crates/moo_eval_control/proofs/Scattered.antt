-- The values of a scatter, item by item.
use Rattle.std.proofs.Common.{◌≡◌, ℕ, ◌+◌, ◌<◌, List, [], ◌∷◌, Bool, ◌||◌, if◌then◌else◌, Ok, Err, length, get_or, drop, map, refl, sym, ap, ◌∙◌}
use Rattle.std.specs.List.{list_any}
use Rattle.std.proofs.lemmas.List.{at_drop_more}
use Rattle.moo_value.specs.declared.error_code.ErrorCode.TheVariants.{Arguments}
use Rattle.moo_value.specs.Tree.{Tree, list_of}
use Rattle.moo_value.specs.TreeCode.{trees_of-elements_of}
use Rattle.moo_eval_control.specs.Scatter.{fits, dealt}
use Rattle.moo_syntax_node.specs.declared.node.NodeItem.{NodeItem}
use Rattle.moo_syntax_ast.specs.Tree.{Items}
use Rattle.moo_syntax_node.specs.Source.{with_source, source_items}

-- a fact of the items that are left is one of the next and of those after it
pub items_next : {X : Type 0} (f : Items → X) (items : List NodeItem) (i : ℕ) (item : NodeItem) → i < length items → item ≡ get_or items i item → f (source_items (drop i items)) ≡ f (with_source item (source_items (drop (i + 1) items)))
items_next f items i item h e = at_drop_more (λ r. f (source_items r)) items i item h ∙ ap (λ x. f (with_source x (source_items (drop (i + 1) items)))) (sym e)

pub list_any-map : {X Y : Type 0} (f : X → Y) (p : Y → Bool) (xs : List X) → list_any p (map f xs) ≡ list_any (λ x. p (f x)) xs
list_any-map f p [] = refl
list_any-map f p (x ∷ xs) = ap (λ b. p (f x) || b) (list_any-map f p xs)

-- a list that is dealt, or not
pub dealt_list : (xs : Items) (ts : List Tree) (b : Bool) → b ≡ fits xs (length ts) → dealt xs (list_of ts) ≡ (if b then Ok ts else Err Arguments)
dealt_list xs ts b h = ap (λ us. if fits xs (length us) then Ok us else Err Arguments) (trees_of-elements_of ts) ∙ ap (λ c. if c then Ok ts else Err Arguments) (sym h)
