-- What is moved out of an object is no longer in it.
use Rattle.std.proofs.Common.{◌≡◌, ℕ, ◌<◌, ◌≤◌, List, ◌∷◌, Option, Some, None, true, false, eqb, not, refl, sym, ◌∙◌, ap, arith, length}
use Rattle.std.specs.List.{list_any}
use Rattle.std.specs.Option.{option_eq}
use Rattle.std.proofs.lemmas.Bool.{eq-eqb}
use Rattle.std.proofs.lemmas.List.{append-nil}
use Rattle.std.proofs.lemmas.List.Filters.{length-filter_both}
use Rattle.moo_world_tree.specs.Forest.{Links, IsForest, above_of, below_of, without, moved}
use Rattle.moo_world_tree.proofs.Moving.{moved_elsewhere, below_moved}
use Rattle.moo_world_tree.proofs.Dissolving.{in_list}

somewhere : (u : Option ℕ) (x : ℕ) → option_eq eqb u (Some x) ≡ true → option_eq eqb u None ≡ false
somewhere None x h = absurd cc
somewhere (Some up) x h = refl

no_more : (y : ℕ) (ys : List ℕ) → length (without y ys) ≤ length ys
no_more y ys = let both = length-filter_both (λ z. not (eqb y z)) (λ z. not (not (eqb y z))) (λ z. refl) ys in omega (arith, both)

first_gone : (y : ℕ) (ys : List ℕ) → length (without y (y ∷ ys)) ≤ length ys
first_gone y ys = let same = eq-eqb y y refl in let more = no_more y ys in rw same more

pub fewer_inside : (nodes : List Links) → IsForest nodes → (x y : ℕ) (ys : List ℕ) → below_of nodes x ≡ y ∷ ys → length (below_of (moved nodes y None) x) < length (below_of nodes x)
fewer_inside nodes f x y ys is =
    let there : list_any (eqb y) (below_of nodes x) ≡ true = ap (list_any (eqb y)) is ∙ (let same = eq-eqb y y refl in rw same refl) in
    let above = sym (in_list nodes f.exact x y) ∙ there in
    let moves = moved_elsewhere nodes y None (above_of nodes y) refl (somewhere (above_of nodes y) x above) in
    let below : below_of (moved nodes y None) x ≡ without y (y ∷ ys) = ap (λ ns. below_of ns x) moves ∙ below_moved nodes y None x (λ up e. absurd cc) ∙ append-nil (without y (below_of nodes x)) ∙ ap (without y) is in
    let less = first_gone y ys in
    let here = ap length is in
    let left = ap length below in
    omega (arith, less, here, left)
