-- Look-ups once there is one more object.
use Rattle.std.proofs.Common.{◌≡◌, ◌≢◌, ℕ, ℤ, List, [], ◌∷◌, Option, Some, None, false, eqb, refl, sym, ◌∙◌, ap, ⊎_elim, length, map}
use Rattle.std.specs.List.{find, filter_map, list_any}
use Rattle.std.specs.Option.{unwrap_or, option_map, option_and_then}
use Rattle.std.specs.Prelude.{slice_get}
use Rattle.std.proofs.lemmas.Bool.{cases_Bool, eqb-false}
use Rattle.moo_world_tree.specs.Forest.{ancestors}
use Rattle.moo_world_object.specs.Names.{same_name}
use Rattle.moo_world_object.specs.Cells.{Cell, Key, is_key, cell_at, cleared}
use Rattle.moo_world_table.specs.World.{World, nothing, object_of, thing_of, cells_of, keys_along, IsWellFormed}
use Rattle.moo_world_table.specs.Changes.{after_create}
use Rattle.moo_world_table.specs.Properties.{definition_named, read, value_at, values_above}
use Rattle.moo_world_table.proofs.Changing.{IsValidPlace}
use Rattle.moo_world_table.proofs.Newborns.{made, way_of, object_before, object_new, off_way, same_ancestors, same_definitions, new_way, new_definitions, off_new_way}
use Rattle.moo_world_table.proofs.Refitting.{fails}
use Rattle.moo_world.specs.Lookups.{IsCreated}
use Rattle.moo_world.proofs.Fitted.{values_same}

cleared_at : (owner : ℤ) (cells : List Cell) (k : Key) → cell_at (map (cleared owner) cells) k ≡ option_map (cleared owner) (cell_at cells k)
cleared_at owner [] k = refl
cleared_at owner (c ∷ cs) k = ⊎_elim (λ on. rw on refl) (λ off. rw off (cleared_at owner cs k)) (cases_Bool (is_key k c))

no_value : (owner : ℤ) (r : Option Cell) → option_and_then (λ (c : Cell). c.value) (option_map (cleared owner) r) ≡ None
no_value owner None = refl
no_value owner (Some c) = refl

module _ (w : World) (p : Option ℕ) (owner : ℤ) (f : IsWellFormed w) (valid : IsValidPlace w.objects p) where
  abbrev after : World
  after = after_create w p owner

  abbrev born : ℕ
  born = length w.objects

  there : (y : ℕ) → y ≢ born → object_of after.objects y ≡ object_of w.objects y
  there y ne = object_before w.objects (made w p owner) y ne

  found_there : (y : ℕ) (name : List ℕ) → y ≢ born → definition_named after y name ≡ definition_named w y name
  found_there y name ne = ap (find (λ (k : Key). same_name k.1 name)) (same_definitions w f p (made w p owner) valid y ne)

  values_on : (way : List ℕ) → list_any (eqb born) way ≡ false → (k : Key) → filter_map (value_at after.objects k) way ≡ filter_map (value_at w.objects k) way
  values_on way off k = values_same w.objects after.objects k way (λ z on. there z (λ e. eqb-false born z (fails (eqb born) way z off on) (sym e)))

  values_there : (y : ℕ) → y ≢ born → (k : Key) → values_above after.objects after.inheritance k y ≡ values_above w.objects w.inheritance k y
  values_there y ne k =
      ap (λ ys. filter_map (value_at after.objects k) (y ∷ ys)) (same_ancestors w f p valid y ne) ∙ values_on (y ∷ ancestors w.inheritance y) (off_way w f y ne) k

  reads_there : (y : ℕ) (name : List ℕ) → y ≢ born → read after y name ≡ read w y name
  reads_there y name ne = over (definition_named w y name) refl
    where
      over : (d : Option Key) → definition_named w y name ≡ d → read after y name ≡ read w y name
      over None e = let now = found_there y name ne ∙ e in rw (now, e) refl
      over (Some k) e = let now = found_there y name ne ∙ e in rw (now, e) (ap (λ vs. slice_get vs 0) (values_there y ne k))

  cells_new : (thing_of after.objects born).cells ≡ map (cleared owner) (cells_of w.objects p)
  cells_new = ap (λ o. (unwrap_or o nothing).cells) (object_new w.objects (made w p owner))

  given : (k : Key) → cell_at (thing_of after.objects born).cells k ≡ option_map (cleared owner) (cell_at (cells_of w.objects p) k)
  given k = ap (λ cs. cell_at cs k) cells_new ∙ cleared_at owner (cells_of w.objects p) k

  found_new : (q : Option ℕ) → p ≡ q → (name : List ℕ) → definition_named after born name ≡ option_and_then (λ up. definition_named w up name) q
  found_new None e name = ap (find (λ (k : Key). same_name k.1 name)) (new_definitions w f p (made w p owner) refl valid) ∙ ap (λ r. find (λ (k : Key). same_name k.1 name) (keys_along w.objects (way_of w r))) e
  found_new (Some up) e name = ap (find (λ (k : Key). same_name k.1 name)) (new_definitions w f p (made w p owner) refl valid) ∙ ap (λ r. find (λ (k : Key). same_name k.1 name) (keys_along w.objects (way_of w r))) e

  values_new : (k : Key) → values_above after.objects after.inheritance k born ≡ filter_map (value_at w.objects k) (way_of w p)
  values_new k =
      let clear : value_at after.objects k born ≡ None = ap (option_and_then (λ (c : Cell). c.value)) (given k) ∙ no_value owner (cell_at (cells_of w.objects p) k) in
      let way = new_way w f p valid in
      rw clear (ap (filter_map (value_at after.objects k)) way ∙ values_on (way_of w p) (off_new_way w f p valid) k)

  reads_new : (q : Option ℕ) → p ≡ q → (name : List ℕ) → read after born name ≡ option_and_then (λ up. read w up name) q
  reads_new None e name = let none = found_new None e name in rw none refl
  reads_new (Some up) e name = over (definition_named w up name) refl
    where
      over : (d : Option Key) → definition_named w up name ≡ d → read after born name ≡ read w up name
      over None is = let now = found_new (Some up) e name ∙ is in rw (now, is) refl
      over (Some k) is =
          let now = found_new (Some up) e name ∙ is in
          rw (now, is) (ap (λ vs. slice_get vs 0) (values_new k ∙ ap (λ r. filter_map (value_at w.objects k) (way_of w r)) e))

  pub created : IsCreated w after p owner
  created = record {
    object = there;
    found = found_there;
    reads = reads_there;
    cells = given;
    inherits = found_new p refl;
    reads_as_parent = reads_new p refl;
  }
