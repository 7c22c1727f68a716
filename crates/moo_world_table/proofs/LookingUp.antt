-- Steps of a look-up along the ancestors of an object.
use Rattle.std.proofs.Common.{◌≡◌, ℕ, suc, ◌<◌, List, Option, Some, None, refl, sym, ◌∙◌, ap, get_or, length}
use Rattle.std.specs.List.{filter_map, position}
use Rattle.std.specs.Option.{option_map, unwrap_or}
use Rattle.std.proofs.lemmas.List.{get_or_read}
use Rattle.moo_world_tree.specs.Forest.{Links, climb, above_of}
use Rattle.moo_world_object.specs.Objects.{Object}
use Rattle.moo_world_object.specs.Cells.{Key}
use Rattle.moo_world_object.specs.Verbs.{fits_verb}
use Rattle.moo_world_object.specs.declared.verb.Need.{Need}
use Rattle.moo_world_table.specs.World.{nothing}
use Rattle.moo_world_table.specs.Properties.{value_at, value_in}
use Rattle.moo_world_table.specs.Verbs.{verb_at}

-- one step up, to an object where nothing is found
step_up : {A : Type 0} (f : ℕ → Option A) (tree : List Links) (n m at up : ℕ) → n ≡ suc m → above_of tree at ≡ Some up → f up ≡ None →
    filter_map f (climb n tree (above_of tree at)) ≡ filter_map f (climb m tree (above_of tree up))
step_up f tree n m at up more above none = rw (more, above, none) refl

pub no_value_here : (objects : List (Option Object)) (tree : List Links) (k : Key) (n m at up : ℕ) (o : Option Object) → n ≡ suc m → above_of tree at ≡ Some up → up < length objects →
    o ≡ get_or objects up o → None ≡ value_in o k →
    filter_map (value_at objects k) (climb n tree (above_of tree at)) ≡ filter_map (value_at objects k) (climb m tree (above_of tree up))
no_value_here objects tree k n m at up o more above within here none =
    step_up (value_at objects k) tree n m at up more above (sym (none ∙ ap (λ p. value_in p k) (get_or_read objects up o within here None)))

pub no_verb_here : (objects : List (Option Object)) (tree : List Links) (need : Need) (name : List ℕ) (n m at up : ℕ) (o : Option Object) → n ≡ suc m → above_of tree at ≡ Some up → up < length objects →
    o ≡ get_or objects up o → None ≡ position (fits_verb need name) (unwrap_or o nothing).verbs →
    filter_map (verb_at objects need name) (climb n tree (above_of tree at)) ≡ filter_map (verb_at objects need name) (climb m tree (above_of tree up))
no_verb_here objects tree need name n m at up o more above within here none =
    step_up (verb_at objects need name) tree n m at up more above
    (ap (option_map (λ i. (up, i))) (sym (none ∙ ap (λ p. position (fits_verb need name) (unwrap_or p nothing).verbs) (get_or_read objects up o within here None))))
