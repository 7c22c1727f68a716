-- A new definition, seen from what inherits from it.
use Rattle.std.proofs.Common.{◌≡◌, ◌≢◌, ℕ, List, [], ◌∷◌, ◌++◌, Option, Some, None, Bool, true, false, eqb, refl, sym, ◌∙◌, ap, subst, ⊎_elim, IsSome}
use Rattle.std.specs.List.{find, filter_map, list_any}
use Rattle.std.specs.Option.{unwrap_or, option_or, option_and_then}
use Rattle.std.specs.Prelude.{slice_get}
use Rattle.std.proofs.lemmas.List.Folds.{find-append, list_any-append}
use Rattle.std.proofs.lemmas.Bool.{cases_eq, eqb-true, or_parts, or_cases, false≢true}
use Rattle.moo_value.specs.Compare.{folded}
use Rattle.moo_value.specs.Tree.{Tree}
use Rattle.moo_world_tree.specs.Forest.{Links, IsForest, IsWayUp, above_of, ancestors, is_within}
use Rattle.moo_world_tree.proofs.Climbing.{way_up_is_ancestors}
use Rattle.moo_world_object.specs.Names.{same_name}
use Rattle.moo_world_object.specs.Cells.{Cell, Key, cell_at, cleared}
use Rattle.moo_world_object.specs.Objects.{Object}
use Rattle.moo_world_object.proofs.Names.{eq-same_name}
use Rattle.moo_world_table.specs.World.{World, nothing, object_of, thing_of, cells_of, keys_defined_on, keys_along, IsWellFormed}
use Rattle.moo_world_table.specs.Changes.{with_definition_on}
use Rattle.moo_world_table.specs.Properties.{value_at}
use Rattle.moo_world_table.specs.Steps.{IsDefinable}
use Rattle.moo_world_table.proofs.Definitions.{keys_here, keys_there}
use Rattle.moo_world.specs.Lookups.{IsFitted}

-- the first value that is found on going up from y, which has a cell
record Sees (new : List (Option Object)) (k : Key) (v : Tree) (y : ℕ) (ys : List ℕ) : Type 0 where
  at : Cell
  found : cell_at (thing_of new y).cells k ≡ Some at
  first : slice_get (filter_map (value_at new k) (y ∷ ys)) 0 ≡ Some v

module _ (objects new : List (Option Object)) (tree : List Links) (forest : IsForest tree) (x : ℕ) (k : Key) (cell : Cell) (v : Tree)
    (fits : (y : ℕ) (o : Object) → object_of objects y ≡ Some o → IsFitted y o (cells_of new (above_of tree y)) (thing_of new y).cells)
    (valid : (y : ℕ) → is_within tree y x ≡ true → IsSome (object_of objects y))
    (unheld : (y : ℕ) → is_within tree y x ≡ true → y ≢ x → cell_at (thing_of objects y).cells k ≡ None)
    (own : k.0 ≡ x) (given : cell_at (thing_of new x).cells k ≡ Some cell) (valued : cell.value ≡ Some v) where
  on_definer : (ys : List ℕ) → Sees new k v x ys
  on_definer ys =
      let at : value_at new k x ≡ Some v = ap (option_and_then (λ (c : Cell). c.value)) given ∙ valued in
      record { at = cell; found = given; first = (rw at refl) }

  below : (y u : ℕ) (us : List ℕ) → IsWayUp tree y (u ∷ us) → is_within tree y x ≡ true → y ≢ x → Sees new k v u us → Sees new k v y (u ∷ us)
  below y u us way on ne rest = over (object_of objects y) refl (valid y on)
    where
      over : (o : Option Object) → object_of objects y ≡ o → IsSome o → Sees new k v y (u ∷ us)
      over None e some = absurd (false≢true some)
      over (Some o) e some =
          let parent : cell_at (cells_of new (above_of tree y)) k ≡ Some rest.at = ap (λ p. cell_at (cells_of new p) k) way.0 ∙ rest.found in
          let none : cell_at o.cells k ≡ None = subst (λ p. cell_at (unwrap_or p nothing).cells k ≡ None) e (unheld y on ne) in
          let here = (fits y o e).clear k rest.at (λ same. ne (sym same ∙ own)) parent none in
          let clear : value_at new k y ≡ None = ap (option_and_then (λ (c : Cell). c.value)) here in
          record { at = cleared o.owner rest.at; found = here; first = (rw clear rest.first) }

  sees : (y : ℕ) (ys : List ℕ) → IsWayUp tree y ys → list_any (eqb x) (y ∷ ys) ≡ true → Sees new k v y ys
  sees y [] way on = subst (λ z. Sees new k v z []) (⊎_elim (λ e. eqb-true x y e) (λ later. absurd (false≢true later)) (or_cases (eqb x y) false on)) (on_definer [])
  sees y (u ∷ us) way on = ⊎_elim
      (λ e. subst (λ z. Sees new k v z (u ∷ us)) (sym e) (on_definer (u ∷ us)))
      (λ ne. below y u us way (ap (λ zs. list_any (eqb x) (y ∷ zs)) (way_up_is_ancestors tree forest.exact y (u ∷ us) way) ∙ on) ne
      (sees u us way.1 (⊎_elim (λ e. absurd (ne (sym (eqb-true x y e)))) (λ h. h) (or_cases (eqb x y) (list_any (eqb x) (u ∷ us)) on))))
      (cases_eq y x)

  pub seen_below : (y : ℕ) → is_within tree y x ≡ true → slice_get (filter_map (value_at new k) (y ∷ ancestors tree y)) 0 ≡ Some v
  seen_below y on = (sees y (ancestors tree y) (forest.rooted y) on).first

none_found : (t : Key → Bool) (ks : List Key) → list_any t ks ≡ false → find t ks ≡ None
none_found t [] h = refl
none_found t (k ∷ ks) h = let parts = or_parts (t k) (list_any t ks) h in let off = parts.0 in rw off (none_found t ks parts.1)

module _ (w : World) (x : ℕ) (name : List ℕ) (cell : Cell) (f : IsWellFormed w) (valid : IsSome (object_of w.objects x)) (d : IsDefinable w x name cell) where
  abbrev with_it : List (Option Object)
  with_it = with_definition_on w.objects x name cell

  abbrev is_named : Key → Bool
  is_named k = same_name k.1 (folded name)

  abbrev key : Key
  key = (x, folded name)

  named_here : (ys : List ℕ) → list_any is_named (keys_along w.objects (x ∷ ys)) ≡ false → find is_named (keys_along with_it (x ∷ ys)) ≡ Some key
  named_here ys off =
      let own = keys_defined_on w.objects x in
      let rest = keys_along with_it ys in
      let parts = or_parts (list_any is_named own) (list_any is_named (keys_along w.objects ys)) (sym (list_any-append is_named own (keys_along w.objects ys)) ∙ off) in
      let mine : find is_named (key ∷ []) ≡ Some key = (let e = eq-same_name (folded name) (folded name) refl in rw e refl) in
      ap (λ ks. find is_named (ks ++ rest)) (keys_here w x name cell f valid d) ∙
      find-append is_named (own ++ key ∷ []) rest ∙
      ap (λ r. option_or r (find is_named rest)) (find-append is_named own (key ∷ []) ∙ ap (λ r. option_or r (find is_named (key ∷ []))) (none_found is_named own parts.0) ∙ mine)

  pub named_below : (y : ℕ) (ys : List ℕ) → IsWayUp w.inheritance y ys → list_any (eqb x) (y ∷ ys) ≡ true → list_any is_named (keys_along w.objects (y ∷ ys)) ≡ false → find is_named (keys_along with_it (y ∷ ys)) ≡ Some key
  named_below y [] way on off =
      let same = ⊎_elim (λ e. eqb-true x y e) (λ later. absurd (false≢true later)) (or_cases (eqb x y) false on) in
      subst (λ z. list_any is_named (keys_along w.objects (z ∷ [])) ≡ false → find is_named (keys_along with_it (z ∷ [])) ≡ Some key) same (named_here []) off
  named_below y (u ∷ us) way on off = ⊎_elim
      (λ e. subst (λ z. list_any is_named (keys_along w.objects (z ∷ u ∷ us)) ≡ false → find is_named (keys_along with_it (z ∷ u ∷ us)) ≡ Some key) (sym e) (named_here (u ∷ us)) off)
      (λ ne.
      let own = keys_defined_on w.objects y in
      let parts = or_parts (list_any is_named own) (list_any is_named (keys_along w.objects (u ∷ us))) (sym (list_any-append is_named own (keys_along w.objects (u ∷ us))) ∙ off) in
      let later = ⊎_elim (λ e. absurd (ne (sym (eqb-true x y e)))) (λ h. h) (or_cases (eqb x y) (list_any (eqb x) (u ∷ us)) on) in
      ap (λ ks. find is_named (ks ++ keys_along with_it (u ∷ us))) (keys_there w x name cell f valid d y ne) ∙
      find-append is_named own (keys_along with_it (u ∷ us)) ∙
      ap (λ r. option_or r (find is_named (keys_along with_it (u ∷ us)))) (none_found is_named own parts.0) ∙
      named_below u us way.1 later parts.1)
      (cases_eq y x)
