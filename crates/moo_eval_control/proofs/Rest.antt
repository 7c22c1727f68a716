-- What is left of a list.
use Rattle.std.proofs.Common.{◌≡◌, ℕ, suc, ◌+◌, ◌<◌, List, ◌∷◌, length, get_or, drop, sym, ap, ◌∙◌, add-one}
use Rattle.std.proofs.Math.Seq.{drop-cons}
use Rattle.std.proofs.lemmas.List.{drop-map}
use Rattle.moo_value.specs.declared.value.Value.{Value}
use Rattle.moo_value.specs.View.{tree, trees}

-- what is left of a list, from the item at a place on
pub drop_next : {X : Type 0} (xs : List X) (i : ℕ) (x : X) → i < length xs → x ≡ get_or xs i x → drop i xs ≡ x ∷ drop (i + 1) xs
drop_next xs i x h e = drop-cons xs i x h ∙ ap (λ y. y ∷ drop (suc i) xs) (sym e) ∙ ap (λ n. x ∷ drop n xs) (sym (add-one i))

-- the next of several values
pub next_tree : (vs : List Value) (i : ℕ) (v : Value) → i < length vs → v ≡ get_or vs i v → drop i (trees vs) ≡ tree v ∷ drop (i + 1) (trees vs)
next_tree vs i v h e = drop-map tree i vs ∙ ap trees (drop_next vs i v h e) ∙ ap (λ r. tree v ∷ r) (sym (drop-map tree (i + 1) vs))
