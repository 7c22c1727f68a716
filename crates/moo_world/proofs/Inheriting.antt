-- Which properties are inherited.
use Rattle.std.proofs.Common.{◌≡◌, ℕ, List, Option, Some, None, refl, sym, ◌∙◌, ap}
use Rattle.std.specs.Option.{option_map}
use Rattle.std.proofs.lemmas.Bool.{eq-eqb, ne_eqb}
use Rattle.moo_value.specs.declared.error_code.ErrorCode.{ErrorCode}
use Rattle.moo_value.specs.declared.error_code.ErrorCode.TheVariants.{InvalidArgument, PropertyNotFound}
use Rattle.moo_world_object.specs.Cells.{Key}
use Rattle.moo_world.specs.EditCalls.{clear_definition_raises}

-- a definition found on some object
abbrev pub found_as : List ℕ → Option ℕ → Option Key
found_as name found = option_map (λ d. (let k : Key = (d, name) in k)) found

pub none_inherited : (x : ℕ) (name : List ℕ) (found : Option ℕ) (r : Option Key) → found_as name found ≡ r → found ≡ None → clear_definition_raises x r ≡ Some PropertyNotFound
none_inherited x name None r is none = rw (← is) refl
none_inherited x name (Some d) r is none = cc

pub own_not_inherited : (x : ℕ) (name : List ℕ) (found : Option ℕ) (r : Option Key) (d : ℕ) → found_as name found ≡ r → found ≡ Some d → d ≡ x → clear_definition_raises x r ≡ Some InvalidArgument
own_not_inherited x name found r d is some own =
    let there : found_as name (Some d) ≡ r = ap (found_as name) (sym some) ∙ is in
    let same = eq-eqb d x own in
    rw (← there) (rw same refl)

pub inherited_found : (x : ℕ) (name : List ℕ) (found : Option ℕ) (r : Option Key) (d : ℕ) → found_as name found ≡ r → found ≡ Some d → (d ≡ x → ⊥) →
    (clear_definition_raises x r ≡ None) × (r ≡ found_as name (Some d))
inherited_found x name found r d is some other =
    let there : found_as name (Some d) ≡ r = ap (found_as name) (sym some) ∙ is in
    let apart = ne_eqb d x other in
    (rw (← there) (rw apart refl), sym there)

pub inherited_is_other : (x : ℕ) (k : Key) (r : Option Key) → r ≡ Some k → clear_definition_raises x r ≡ None → k.0 ≡ x → ⊥
inherited_is_other x k r is h own =
    let same = eq-eqb k.0 x own in
    let raised : clear_definition_raises x r ≡ Some InvalidArgument = rw is (rw same refl) in
    some_none (sym raised ∙ h)
  where
    some_none : ◌≡◌ {A = Option ErrorCode} (Some InvalidArgument) None → ⊥
    some_none e = cc
