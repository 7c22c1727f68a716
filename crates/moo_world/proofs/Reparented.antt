-- Cells and look-ups once an object has another parent, or one more definition.
use Rattle.std.proofs.Common.{◌≡◌, ◌≢◌, ℕ, List, [], ◌∷◌, ◌++◌, Option, Some, None, Bool, true, false, ◌&&◌, eqb, refl, sym, ◌∙◌, ap, subst, ⊎_elim, length, map, IsSome, is_some}
use Rattle.std.specs.List.{find, list_any}
use Rattle.std.proofs.lemmas.List.{get_or-set_same, get_or-set_other}
use Rattle.std.proofs.lemmas.Bool.{cases_Bool, ne_eqb, eqb-false, eq-eqb, or_parts, or_left, and_parts, and_from, false≢true}
use Rattle.moo_value.specs.Compare.{folded}
use Rattle.moo_value.specs.Tree.{Tree}
use Rattle.moo_world_tree.specs.Forest.{ancestors, moved, is_within}
use Rattle.moo_world_object.specs.Names.{same_name}
use Rattle.moo_world_object.specs.Cells.{Cell, Key, key_of, is_key, cell_at}
use Rattle.moo_world_object.specs.Objects.{Object}
use Rattle.moo_world_object.proofs.Names.{eq-same_name}
use Rattle.std.specs.Option.{unwrap_or}
use Rattle.moo_world_table.specs.World.{World, nothing, object_of, thing_of, clashes, crowds, with_cells, fitted_along, refitted, IsWellFormed}
use Rattle.moo_world_table.specs.Changes.{after_chparent, after_define, with_definition, with_definition_on, would_loop}
use Rattle.moo_world_table.specs.Properties.{has_name, definition_named, read}
use Rattle.moo_world_table.specs.Steps.{IsDefinable}
use Rattle.moo_world_table.proofs.FittedRows.{own_exact, already_fitted}
use Rattle.moo_world_table.proofs.Refitting.{IsFreeTree, object_refitted, keys_refitted, cells_stay, fails, none_passes}
use Rattle.moo_world_table.proofs.Changing.{IsValidPlace, parent_free, parent_changed, rejoined, valid_within}
use Rattle.moo_world_table.proofs.Definitions.{defined_well_formed, own_then, still_valid, free_of}
use Rattle.moo_world_table.proofs.Joining.{within_valid}
use Rattle.moo_world.specs.Calls.{parent_raises}
use Rattle.moo_world.specs.Lookups.{AreFitted, IsReparented, IsDefinedOn}
use Rattle.moo_world.proofs.Fitted.{all_fitted, along_same, same_outside, found_after}
use Rattle.moo_world.proofs.Seen.{seen_below, named_below}

module _ (w : World) (x : ℕ) (p : Option ℕ) (f : IsWellFormed w) (valid : IsSome (object_of w.objects x)) (p_valid : IsValidPlace w.objects p) (none : parent_raises w x p ≡ None) where
  apart : would_loop w.inheritance x p ≡ false
  apart = (parent_free (would_loop w.inheritance x p) (clashes w.objects (moved w.inheritance x p)) (crowds w.objects (moved w.inheritance x p)) none).0

  formed : IsWellFormed (after_chparent w x p)
  formed =
      let free = parent_free (would_loop w.inheritance x p) (clashes w.objects (moved w.inheritance x p)) (crowds w.objects (moved w.inheritance x p)) none in
      parent_changed w x p f valid p_valid free.0 free.1 free.2

  left_alone : IsFreeTree w.objects (moved w.inheritance x p)
  left_alone y h =
      let tree = moved w.inheritance x p in
      formed.parents.free y (object_refitted w.objects tree y ∙ ap (λ o. with_cells o (fitted_along w.objects (y ∷ ancestors tree y))) h)

  ways : (y : ℕ) → is_within w.inheritance y x ≡ false → ancestors (moved w.inheritance x p) y ≡ ancestors w.inheritance y
  ways y off = (rejoined w x p f valid p_valid apart).apart y off

  same_there : (y : ℕ) → is_within w.inheritance y x ≡ false → object_of (refitted w.objects (moved w.inheritance x p)) y ≡ object_of w.objects y
  same_there y off =
      object_refitted w.objects (moved w.inheritance x p) y ∙
      ap (λ ys. with_cells (object_of w.objects y) (fitted_along w.objects (y ∷ ys))) (ways y off) ∙
      ap (with_cells (object_of w.objects y)) (already_fitted w f y (ancestors w.inheritance y) (f.parents.forest.rooted y)) ∙
      cells_stay (object_of w.objects y)

  pub reparented : IsReparented w (after_chparent w x p) x
  reparented = record {
    cells = all_fitted w.objects (moved w.inheritance x p) formed.parents.forest left_alone (own_exact w f);
    outside = same_outside w (after_chparent w x p) x f.parents.forest ways same_there;
  }

none_named : (x : ℕ) (n : List ℕ) (cells : List Cell) → list_any (λ (k : Key). same_name k.1 n) (map key_of cells) ≡ false → cell_at cells (x, n) ≡ None
none_named x n [] none = refl
none_named x n (c ∷ cs) none =
    let parts = or_parts (same_name c.name n) (list_any (λ (k : Key). same_name k.1 n) (map key_of cs)) none in
    ⊎_elim
    (λ on. absurd (false≢true (sym parts.0 ∙ (and_parts (eqb c.definer x) (same_name c.name n) on).1)))
    (λ off. rw off (none_named x n cs parts.1))
    (cases_Bool (is_key (x, n) c))

module _ (w : World) (x : ℕ) (name : List ℕ) (cell : Cell) (f : IsWellFormed w) (valid : IsSome (object_of w.objects x)) (d : IsDefinable w x name cell) where
  abbrev with_it : List (Option Object)
  with_it = with_definition_on w.objects x name cell

  defined_formed : IsWellFormed (after_define w x name cell)
  defined_formed = defined_well_formed w x name cell f valid d

  left_free : IsFreeTree with_it w.inheritance
  left_free y h = defined_formed.parents.free y (object_refitted with_it w.inheritance y ∙ ap (λ o. with_cells o (fitted_along with_it (y ∷ ancestors w.inheritance y))) h)

  elsewhere : (z : ℕ) → eqb x z ≡ false → object_of with_it z ≡ object_of w.objects z
  elsewhere z off = get_or-set_other w.objects x z (with_definition name cell (object_of w.objects x)) None (λ same. eqb-false x z off (sym same))

  outside_there : (y : ℕ) → is_within w.inheritance y x ≡ false → object_of (refitted with_it w.inheritance) y ≡ object_of w.objects y
  outside_there y off =
      let way = y ∷ ancestors w.inheritance y in
      let parts = or_parts (eqb x y) (list_any (eqb x) (ancestors w.inheritance y)) off in
      object_refitted with_it w.inheritance y ∙
      ap (λ o. with_cells o (fitted_along with_it way)) (elsewhere y parts.0) ∙
      ap (with_cells (object_of w.objects y))
      (along_same w.objects with_it way (λ z on. elsewhere z (fails (eqb x) way z off on)) ∙ already_fitted w f y (ancestors w.inheritance y) (f.parents.forest.rooted y)) ∙
      cells_stay (object_of w.objects y)

  fitted_then : AreFitted with_it (after_define w x name cell)
  fitted_then = all_fitted with_it w.inheritance f.parents.forest left_free (own_then w x name cell f valid d)

  unnamed : cell_at (thing_of w.objects x).cells (x, folded name) ≡ None
  unnamed =
      let n = folded name in
      let passing = none_passes (λ y. is_within w.inheritance y x && has_name w.objects w.inheritance n y) (length w.objects) d.free x (valid_within w.objects x valid) in
      let here : is_within w.inheritance x x ≡ true = or_left (eqb x x) (list_any (eqb x) (ancestors w.inheritance x)) (eq-eqb x x refl) in
      let off : has_name w.objects w.inheritance n x ≡ false = right_of (is_within w.inheritance x x) (has_name w.objects w.inheritance n x) passing here in
      none_named x n (thing_of w.objects x).cells (ap (list_any (λ (k : Key). same_name k.1 n)) (f.stocked.exact_cells x) ∙ off)
    where
      right_of : (a b : Bool) → (a && b) ≡ false → a ≡ true → b ≡ false
      right_of true b h on = h
      right_of false b h on = absurd (false≢true on)

  given_there : cell_at (thing_of (refitted with_it w.inheritance) x).cells (x, folded name) ≡ Some cell
  given_there = over (object_of w.objects x) refl
    where
      mine : cell_at (cell ∷ []) (x, folded name) ≡ Some cell
      mine =
          let on : is_key (x, folded name) cell ≡ true = and_from (eqb cell.definer x) (same_name cell.name (folded name)) (eq-eqb cell.definer x (ap (λ (k : Key). k.0) d.own)) (eq-same_name cell.name (folded name) (ap (λ (k : Key). k.1) d.own)) in
          rw on refl

      over : (o : Option Object) → object_of w.objects x ≡ o → cell_at (thing_of (refitted with_it w.inheritance) x).cells (x, folded name) ≡ Some cell
      over None e = absurd (let some = subst IsSome e valid in false≢true some)
      over (Some o) e =
          let at : object_of with_it x ≡ Some (record o { defined = o.defined ++ name ∷ []; cells = o.cells ++ cell ∷ [] }) =
          get_or-set_same w.objects x (with_definition name cell (object_of w.objects x)) None (valid_within w.objects x valid) ∙ ap (with_definition name cell) e in
          let nothing_yet : cell_at o.cells (x, folded name) ≡ None = subst (λ q. cell_at (unwrap_or q nothing).cells (x, folded name) ≡ None) e unnamed in
          (fitted_then x (record o { defined = o.defined ++ name ∷ []; cells = o.cells ++ cell ∷ [] }) at).own (x, folded name) refl ∙
          found_after (x, folded name) o.cells (cell ∷ []) nothing_yet ∙ mine

  unheld_below : (y : ℕ) → is_within w.inheritance y x ≡ true → y ≢ x → cell_at (thing_of with_it y).cells (x, folded name) ≡ None
  unheld_below y on ne =
      ap (λ o. cell_at (unwrap_or o nothing).cells (x, folded name)) (elsewhere y (ne_eqb x y (λ e. ne (sym e)))) ∙
      none_named x (folded name) (thing_of w.objects y).cells (ap (list_any (λ (k : Key). same_name k.1 (folded name))) (f.stocked.exact_cells y) ∙ free_of w x name cell f valid d y on)

  reads_below : (y : ℕ) → is_within w.inheritance y x ≡ true → read (after_define w x name cell) y (folded name) ≡ cell.value
  reads_below y on = over cell.value refl d.filled
    where
      over : (r : Option Tree) → cell.value ≡ r → is_some r ≡ true → read (after_define w x name cell) y (folded name) ≡ cell.value
      over None e some = absurd (false≢true some)
      over (Some v) e some =
          let way = ancestors w.inheritance y in
          let named : definition_named (after_define w x name cell) y (folded name) ≡ Some (let k : Key = (x, folded name) in k) =
          ap (find (λ (k : Key). same_name k.1 (folded name))) (keys_refitted with_it w.inheritance (y ∷ way)) ∙
          named_below w x name cell f valid d y way (f.parents.forest.rooted y) on (free_of w x name cell f valid d y on) in
          rw named (seen_below with_it (refitted with_it w.inheritance) w.inheritance f.parents.forest x (x, folded name) cell v fitted_then
          (λ z within. still_valid w x name cell f valid d z (within_valid w.objects w.inheritance f.parents x valid z within)) unheld_below refl given_there e y on ∙ sym e)

  pub defined_on : IsDefinedOn w (after_define w x name cell) x name cell
  defined_on = record {
    cells = fitted_then;
    outside = same_outside w (after_define w x name cell) x f.parents.forest (λ y off. refl) outside_there;
    given = given_there;
    reads = reads_below;
  }
