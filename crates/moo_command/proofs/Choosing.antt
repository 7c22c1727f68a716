-- Steps of a choice along the ancestors of an object.
use Rattle.std.proofs.Common.{◌≡◌, ℕ, ℤ, suc, ◌<◌, Bool, true, false, cond, ltb, arith, [], ◌∷◌, List, Option, Some, None, refl, ◌∙◌, ap, get_or, length}
use Rattle.std.specs.List.{filter_map, position, position_or_len}
use Rattle.std.specs.Option.{option_map, unwrap_or}
use Rattle.std.proofs.lemmas.List.{get_or_read}
use Rattle.std.proofs.lemmas.List.Sums.{fails_before_first, position_or_len_is}
use Rattle.std.proofs.lemmas.Bool.{lt-ltb, le-ltb}
use Rattle.std.proofs.lemmas.Bool.Decides.{nat_tests}
use Rattle.moo_world_tree.specs.Forest.{Links, climb, above_of}
use Rattle.moo_world_object.specs.Objects.{Object}
use Rattle.moo_world_object.specs.Verbs.{fits_verb}
use Rattle.moo_world_object.specs.declared.verb.Need.TheVariants.{Any}
use Rattle.moo_world_object.specs.declared.verb.Verb.{Verb}
use Rattle.moo_world_table.specs.World.{nothing}
use Rattle.moo_command.specs.Commands.{Command}
use Rattle.moo_command.specs.Choice.{is_meant, meant_in}

-- the verb that agrees at a number, by the object that has it
pub meant_here : (objects : List (Option Object)) (command : Command) (looked_on : ℤ) (x : ℕ) (o : Option Object) (found : Option ℕ) → x < length objects → o ≡ get_or objects x o
    → found ≡ position (is_meant command looked_on) (unwrap_or o nothing).verbs → option_map (λ i. (x, i)) found ≡ meant_in objects command looked_on x
meant_here objects command looked_on x o found within here is =
    ap (option_map (λ i. (x, i))) (is ∙ ap (λ p. position (is_meant command looked_on) (unwrap_or p nothing).verbs) (get_or_read objects x o within here None))

-- one step up, to an object on which nothing is found
pub step_up : (f : ℕ → Option (ℕ × ℕ)) (tree : List Links) (n m at up : ℕ) → n ≡ suc m → above_of tree at ≡ Some up → f up ≡ None →
    filter_map f (climb n tree (above_of tree at)) ≡ filter_map f (climb m tree (above_of tree up))
step_up f tree n m at up more above none = rw (more, above, none) refl

-- a place of the list that is before the first one found is before its length
early : (n many k first : ℕ) → first ≡ unwrap_or (cond (ltb n many) (Some n) None) many → k < many → k < first → k < n
early n many k first is within before = grind (arith, nat_tests)

-- no verb agrees before the first one whose name matches, or at all if there is none
pub none_before : (command : Command) (looked_on : ℤ) (verbs : List Verb) (first : ℕ) → first ≡ unwrap_or (position (fits_verb Any command.verb) verbs) (length verbs) →
    (k : ℕ) (v : Verb) → k < length verbs → k < first → is_meant command looked_on (get_or verbs k v) ≡ false
none_before command looked_on verbs first is k v within before =
    let unmatched = fails_before_first (fits_verb Any command.verb) verbs k v (early (position_or_len (fits_verb Any command.verb) verbs) (length verbs) k first is within before) in
    rw unmatched refl

-- the first place at which a test passes
pub first_place : {X : Type 0} (t : X → Bool) (xs : List X) (i : ℕ) (d : X) → i < length xs → ((k : ℕ) → k < i → t (get_or xs k d) ≡ false) → t (get_or xs i d) ≡ true → Some i ≡ position t xs
first_place t xs i d low before here =
    let at : position_or_len t xs ≡ i = position_or_len_is t xs i d (omega (arith, low)) before (λ _. here) in
    rw (at, lt-ltb i (length xs) low) refl

-- no place at which a test passes
pub no_place : {X : Type 0} (t : X → Bool) (xs : List X) → ((k : ℕ) (d : X) → k < length xs → t (get_or xs k d) ≡ false) → None ≡ position t xs
no_place t [] none = refl
no_place t (x ∷ xs) none =
    let at : position_or_len t (x ∷ xs) ≡ length (x ∷ xs) = position_or_len_is t (x ∷ xs) (length (x ∷ xs)) x (omega arith) (λ k l. none k x l) (λ l. absurd (omega (arith, l))) in
    rw (at, le-ltb (length (x ∷ xs)) (length (x ∷ xs)) (omega arith)) refl
