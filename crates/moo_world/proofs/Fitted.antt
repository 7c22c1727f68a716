-- The cells of objects that are fitted to a tree, one by one.
use Rattle.std.proofs.Common.{◌≡◌, ◌≢◌, ℕ, List, [], ◌∷◌, ◌++◌, Option, Some, None, Bool, true, false, ◌&&◌, eqb, refl, sym, ◌∙◌, ap, subst, ⊎_elim, map}
use Rattle.std.specs.List.{list_any, filter_map, find, All}
use Rattle.std.specs.Option.{unwrap_or, option_map}
use Rattle.std.specs.Prelude.{slice_get}
use Rattle.std.proofs.lemmas.List.Elements.{All-head, All-tail}
use Rattle.std.proofs.lemmas.Bool.{cases_Bool, eqb-true, eqb-false, eq-eqb, or_parts, or_cases, or_left, or_right, and_parts, false≢true}
use Rattle.moo_value.specs.Compare.{folded}
use Rattle.moo_value.specs.Tree.{Tree}
use Rattle.moo_world_tree.specs.Forest.{Links, IsForest, IsWayUp, above_of, ancestors, is_within}
use Rattle.moo_world_tree.proofs.Climbing.{way_up_is_ancestors, not_met}
use Rattle.moo_world_object.specs.Names.{same_name}
use Rattle.moo_world_object.specs.Cells.{Cell, Key, key_of, is_key, cell_at, cleared}
use Rattle.moo_world_object.specs.Objects.{Object, fitted_cell, fitted_row}
use Rattle.moo_world_table.specs.World.{World, nothing, object_of, thing_of, cells_of, keys_along, keys_defined_on, definitions, fitted_over, fitted_along, refitted}
use Rattle.moo_world_table.specs.Properties.{definition_named, read, value_at, value_in, values_above}
use Rattle.moo_world_table.proofs.FittedRows.{found_key, fitted_key, own_cells, IsOwnExact, keys_fitted}
use Rattle.moo_world_table.proofs.Refitting.{IsFreeTree, cells_refitted, definer_elsewhere, key_within}
use Rattle.moo_world.specs.Lookups.{IsFitted, IsSameOutside}

-- a cell of an own definition is found among the own cells
own_found : (y : ℕ) (k : Key) (cells : List Cell) → k.0 ≡ y → cell_at (own_cells y cells) k ≡ cell_at cells k
own_found y k [] e = refl
own_found y k (c ∷ cs) e =
    ⊎_elim
    (λ on.
    let parts = and_parts (eqb c.definer k.0) (same_name c.name k.1) on in
    let mine = eq-eqb c.definer y (eqb-true c.definer k.0 parts.0 ∙ e) in
    rw mine (rw on refl))
    (λ off. ⊎_elim
    (λ mine. rw mine (rw off (own_found y k cs e)))
    (λ other. rw other (rw off (own_found y k cs e)))
    (cases_Bool (eqb c.definer y)))
    (cases_Bool (is_key k c))

own_other : (y : ℕ) (k : Key) (cells : List Cell) → k.0 ≢ y → cell_at (own_cells y cells) k ≡ None
own_other y k [] ne = refl
own_other y k (c ∷ cs) ne =
    ⊎_elim
    (λ mine. ⊎_elim
    (λ on.
    let parts = and_parts (eqb c.definer k.0) (same_name c.name k.1) on in
    absurd (ne (sym (eqb-true c.definer k.0 parts.0) ∙ eqb-true c.definer y mine)))
    (λ off. rw mine (rw off (own_other y k cs ne)))
    (cases_Bool (is_key k c)))
    (λ other. rw other (own_other y k cs ne))
    (cases_Bool (eqb c.definer y))

pub found_after : (k : Key) (xs ys : List Cell) → cell_at xs k ≡ None → cell_at (xs ++ ys) k ≡ cell_at ys k
found_after k [] ys none = refl
found_after k (c ∷ xs) ys none =
    ⊎_elim
    (λ on. absurd (let some : Some c ≡ None = (rw on at none) in cc))
    (λ off. rw off (found_after k xs ys (rw off at none)))
    (cases_Bool (is_key k c))

found_before : (k : Key) (xs ys : List Cell) → cell_at ys k ≡ None → cell_at (xs ++ ys) k ≡ cell_at xs k
found_before k [] ys none = none
found_before k (c ∷ xs) ys none = ⊎_elim (λ on. rw on refl) (λ off. rw off (found_before k xs ys none)) (cases_Bool (is_key k c))

abbrev has_key : Key → Key → Bool
has_key k q = eqb q.0 k.0 && same_name q.1 k.1

among_fitted : (o : Object) (k : Key) (above : List Cell) → cell_at (map (fitted_cell o) above) k ≡ option_map (fitted_cell o) (cell_at above k)
among_fitted o k [] = refl
among_fitted o k (a ∷ more) =
    let same : is_key k (fitted_cell o a) ≡ is_key k a = ap (has_key k) (fitted_key o a) in
    ⊎_elim
    (λ on. let too : is_key k (fitted_cell o a) ≡ true = same ∙ on in rw too (rw on refl))
    (λ off. let too : is_key k (fitted_cell o a) ≡ false = same ∙ off in rw too (rw off (among_fitted o k more)))
    (cases_Bool (is_key k a))

pub elsewhere_none : (y : ℕ) (k : Key) (cells : List Cell) → All (λ (c : Cell). eqb (key_of c).0 y ≡ false) cells → k.0 ≡ y → cell_at cells k ≡ None
elsewhere_none y k [] all e = refl
elsewhere_none y k (c ∷ cs) all e =
    let P = λ (d : Cell). eqb (key_of d).0 y ≡ false in
    ⊎_elim
    (λ on.
    let parts = and_parts (eqb c.definer k.0) (same_name c.name k.1) on in
    absurd (eqb-false c.definer y (All-head P c cs all) (eqb-true c.definer k.0 parts.0 ∙ e)))
    (λ off. rw off (elsewhere_none y k cs (All-tail P c cs all) e))
    (cases_Bool (is_key k c))

found_cell : (o : Object) (k : Key) (a c : Cell) → key_of a ≡ k → cell_at o.cells k ≡ Some c → fitted_cell o a ≡ c
found_cell o k a c same is = ap (λ r. unwrap_or r (cleared o.owner a)) (ap (cell_at o.cells) same ∙ is)

clear_cell : (o : Object) (k : Key) (a : Cell) → key_of a ≡ k → cell_at o.cells k ≡ None → fitted_cell o a ≡ cleared o.owner a
clear_cell o k a same is = ap (λ r. unwrap_or r (cleared o.owner a)) (ap (cell_at o.cells) same ∙ is)

-- a row that is fitted to cells of other definers
row_fitted : (y : ℕ) (o : Object) (above : List Cell) → All (λ (c : Cell). eqb (key_of c).0 y ≡ false) above → IsFitted y o above (fitted_row y o above)
row_fitted y o above apart = record {
  own = λ k e. found_before k (own_cells y o.cells) (map (fitted_cell o) above) (among_fitted o k above ∙ ap (option_map (fitted_cell o)) (elsewhere_none y k above apart e)) ∙ own_found y k o.cells e;
  kept = λ k a c ne is had. following k ne ∙ ap (option_map (fitted_cell o)) is ∙ ap (λ d. Some d) (found_cell o k a c (found_key k above a is) had);
  clear = λ k a ne is none. following k ne ∙ ap (option_map (fitted_cell o)) is ∙ ap (λ d. Some d) (clear_cell o k a (found_key k above a is) none);
  lost = λ k ne none. following k ne ∙ ap (option_map (fitted_cell o)) none;
}
  where
    following : (k : Key) → k.0 ≢ y → cell_at (fitted_row y o above) k ≡ option_map (fitted_cell o) (cell_at above k)
    following k ne = found_after k (own_cells y o.cells) (map (fitted_cell o) above) (own_other y k o.cells ne) ∙ among_fitted o k above

module _ (objects : List (Option Object)) (tree : List Links) (forest : IsForest tree) (free : IsFreeTree objects tree) where
  -- the cells of the parent are those fitted along the ancestors
  above_fitted : (y : ℕ) → cells_of (refitted objects tree) (above_of tree y) ≡ fitted_along objects (ancestors tree y)
  above_fitted y = over (above_of tree y) refl
    where
      over : (r : Option ℕ) → above_of tree y ≡ r → cells_of (refitted objects tree) r ≡ fitted_along objects (ancestors tree y)
      over None e = sym (ap (fitted_along objects) (way_up_is_ancestors tree forest.exact y [] e))
      over (Some up) e =
          cells_refitted objects tree free up ∙
          sym (ap (fitted_along objects) (way_up_is_ancestors tree forest.exact y (up ∷ ancestors tree up) (e, forest.rooted up)))

  pub all_fitted : IsOwnExact objects → (y : ℕ) (o : Object) → object_of objects y ≡ Some o →
      IsFitted y o (cells_of (refitted objects tree) (above_of tree y)) (thing_of (refitted objects tree) y).cells
  all_fitted own y o is =
      let above = fitted_along objects (ancestors tree y) in
      let cells : (thing_of (refitted objects tree) y).cells ≡ fitted_row y o above = cells_refitted objects tree free y ∙ ap (λ p. fitted_over y p above) is in
      let apart : All (λ (c : Cell). eqb (key_of c).0 y ≡ false) above =
      key_within (λ (k : Key). eqb k.0 y ≡ false) above
      (let keys = keys_fitted objects own (ancestors tree y) in rw keys (definer_elsewhere objects y (ancestors tree y) (not_met tree y (ancestors tree y) (forest.rooted y)))) in
      let at_parent = above_fitted y in
      rw (cells, at_parent) (row_fitted y o above apart)

-- what is not on a way
elsewhere_on : (tree : List Links) → IsForest tree → (x y : ℕ) (ys : List ℕ) → IsWayUp tree y ys → list_any (eqb x) (y ∷ ys) ≡ false → (z : ℕ) → list_any (eqb z) (y ∷ ys) ≡ true → is_within tree z x ≡ false
elsewhere_on tree f x y [] way off z on =
    ⊎_elim
    (λ same. subst (λ n. is_within tree n x ≡ false) (sym (eqb-true z y same)) (ap (λ zs. list_any (eqb x) (y ∷ zs)) (way_up_is_ancestors tree f.exact y [] way) ∙ off))
    (λ later. absurd (false≢true later))
    (or_cases (eqb z y) (list_any (eqb z) []) on)
elsewhere_on tree f x y (up ∷ ys) way off z on =
    ⊎_elim
    (λ same. subst (λ n. is_within tree n x ≡ false) (sym (eqb-true z y same)) (ap (λ zs. list_any (eqb x) (y ∷ zs)) (way_up_is_ancestors tree f.exact y (up ∷ ys) way) ∙ off))
    (λ later. elsewhere_on tree f x up ys way.1 (or_parts (eqb x y) (list_any (eqb x) (up ∷ ys)) off).1 z later)
    (or_cases (eqb z y) (list_any (eqb z) (up ∷ ys)) on)

first : (z : ℕ) (way : List ℕ) → list_any (eqb z) (z ∷ way) ≡ true
first z way = or_left (eqb z z) (list_any (eqb z) way) (eq-eqb z z refl)

later : (q z : ℕ) (way : List ℕ) → list_any (eqb q) way ≡ true → list_any (eqb q) (z ∷ way) ≡ true
later q z way on = or_right (eqb q z) (list_any (eqb q) way) on

keys_same : (old new : List (Option Object)) (way : List ℕ) → ((z : ℕ) → list_any (eqb z) way ≡ true → object_of new z ≡ object_of old z) → keys_along new way ≡ keys_along old way
keys_same old new [] each = refl
keys_same old new (z ∷ way) each =
    ap (λ o. map (λ n. (let k : Key = (z, folded n) in k)) (unwrap_or o nothing).defined ++ keys_along new way) (each z (first z way)) ∙
    ap (λ ks. keys_defined_on old z ++ ks) (keys_same old new way (λ q on. each q (later q z way on)))

pub along_same : (old new : List (Option Object)) (way : List ℕ) → ((z : ℕ) → list_any (eqb z) way ≡ true → object_of new z ≡ object_of old z) → fitted_along new way ≡ fitted_along old way
along_same old new [] each = refl
along_same old new (z ∷ way) each =
    ap (λ o. fitted_over z o (fitted_along new way)) (each z (first z way)) ∙
    ap (fitted_over z (object_of old z)) (along_same old new way (λ q on. each q (later q z way on)))

value_step : (old new : List (Option Object)) (k : Key) (z : ℕ) (way : List ℕ) → value_at new k z ≡ value_at old k z → filter_map (value_at new k) way ≡ filter_map (value_at old k) way →
    filter_map (value_at new k) (z ∷ way) ≡ filter_map (value_at old k) (z ∷ way)
value_step old new k z way here rest = over (value_at old k z) refl
  where
    over : (r : Option Tree) → value_at old k z ≡ r → filter_map (value_at new k) (z ∷ way) ≡ filter_map (value_at old k) (z ∷ way)
    over None e = let now : value_at new k z ≡ None = here ∙ e in rw now (rw e rest)
    over (Some v) e = let now : value_at new k z ≡ Some v = here ∙ e in rw now (rw e (ap (λ vs. v ∷ vs) rest))

pub values_same : (old new : List (Option Object)) (k : Key) (way : List ℕ) → ((z : ℕ) → list_any (eqb z) way ≡ true → object_of new z ≡ object_of old z) → filter_map (value_at new k) way ≡ filter_map (value_at old k) way
values_same old new k [] each = refl
values_same old new k (z ∷ way) each =
    value_step old new k z way (ap (λ o. value_in o k) (each z (first z way))) (values_same old new k way (λ q on. each q (later q z way on)))

-- what stays outside x, with all that is above it
pub same_outside : (old new : World) (x : ℕ) → IsForest old.inheritance → ((y : ℕ) → is_within old.inheritance y x ≡ false → ancestors new.inheritance y ≡ ancestors old.inheritance y) →
    ((y : ℕ) → is_within old.inheritance y x ≡ false → object_of new.objects y ≡ object_of old.objects y) → IsSameOutside old new x
same_outside old new x f ways each = record {
  object = each;
  found = found_there;
  reads = λ y name off. over y name off (definition_named old y name) refl;
}
  where
    on_way : (y : ℕ) → is_within old.inheritance y x ≡ false → (z : ℕ) → list_any (eqb z) (y ∷ ancestors old.inheritance y) ≡ true → object_of new.objects z ≡ object_of old.objects z
    on_way y off z on = each z (elsewhere_on old.inheritance f x y (ancestors old.inheritance y) (f.rooted y) off z on)

    named : (y : ℕ) → is_within old.inheritance y x ≡ false → definitions new.objects new.inheritance y ≡ definitions old.objects old.inheritance y
    named y off = ap (λ ys. keys_along new.objects (y ∷ ys)) (ways y off) ∙ keys_same old.objects new.objects (y ∷ ancestors old.inheritance y) (on_way y off)

    found_there : (y : ℕ) (name : List ℕ) → is_within old.inheritance y x ≡ false → definition_named new y name ≡ definition_named old y name
    found_there y name off = ap (find (λ (k : Key). same_name k.1 name)) (named y off)

    values : (y : ℕ) → is_within old.inheritance y x ≡ false → (k : Key) → values_above new.objects new.inheritance k y ≡ values_above old.objects old.inheritance k y
    values y off k =
        ap (λ ys. filter_map (value_at new.objects k) (y ∷ ys)) (ways y off) ∙
        values_same old.objects new.objects k (y ∷ ancestors old.inheritance y) (on_way y off)

    over : (y : ℕ) (name : List ℕ) → is_within old.inheritance y x ≡ false → (d : Option Key) → definition_named old y name ≡ d → read new y name ≡ read old y name
    over y name off None e = let now = found_there y name off ∙ e in rw (now, e) refl
    over y name off (Some k) e = let now = found_there y name off ∙ e in rw (now, e) (ap (λ vs. slice_get vs 0) (values y off k))
