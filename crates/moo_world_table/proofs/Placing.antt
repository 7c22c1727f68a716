-- A definition put into the rows of cells in its place.
use Rattle.std.proofs.Common.{◌≡◌, ◌≢◌, ℕ, suc, ◌+◌, ◌-◌, ◌<◌, ◌≤◌, List, [], ◌∷◌, ◌++◌, Option, Some, None, true, false, ◌||◌, cond, eqb, refl, sym, ◌∙◌, ap, subst, ⊎_elim, arith, length, get_or, set, map, take, drop, IsSome}
use Rattle.std.specs.Prelude.{ℤ}
use Rattle.std.specs.List.{list_any, insert, remove, All}
use Rattle.std.specs.Option.{unwrap_or, option_or}
use Rattle.std.proofs.lemmas.List.{get_or-set_same, get_or-set_other, length-set, length-append, length-map, length-take, map-append, append_assoc, set-set, set-get_or, take_at, drop_at, take-append-drop, get_or_read, map_more}
use Rattle.std.proofs.lemmas.List.Edits.{length-insert}
use Rattle.std.proofs.lemmas.List.Elements.{All-head, All-tail, filter-append}
use Rattle.std.proofs.lemmas.List.Folds.{find-append}
use Rattle.std.proofs.lemmas.List.FromFn.{fill_by_all}
use Rattle.std.proofs.lemmas.Bool.{cases_Bool, cases_eq, eqb-true, eqb-false, eq-eqb, ne_eqb, or_left, or_cases, false≢true}
use Rattle.moo_value.specs.Compare.{folded}
use Rattle.moo_world_tree.specs.Forest.{ancestors, above_of, IsWayUp, is_within}
use Rattle.moo_world_tree.specs.Walk.{met, step_at, IsWalkDown}
use Rattle.moo_world_tree.specs.declared.walk.Step.{Step}
use Rattle.moo_world_tree.proofs.Climbing.{not_met, way_up_is_ancestors}
use Rattle.moo_world_object.specs.Names.{same_name}
use Rattle.moo_world_object.specs.Cells.{Cell, Key, key_of, is_key, cell_at, cleared}
use Rattle.moo_world_object.specs.Rows.{put_before, taken_before}
use Rattle.moo_world_object.specs.Objects.{Object, fitted_cell, fitted_row}
use Rattle.moo_world_table.specs.World.{World, nothing, object_of, thing_of, fitted_over, fitted_along, with_cells, cells_of, refitted, refitted_object, IsWellFormed}
use Rattle.moo_world_table.specs.Steps.{changed_along, with_clear_cell, with_own_cell, without_cell_before, defined_along, IsDefinable}
use Rattle.moo_world_table.specs.Changes.{with_definition, with_definition_on}
use Rattle.moo_world_table.proofs.Changing.{valid_within}
use Rattle.moo_world_table.proofs.Definitions.{here, there, fitted_apart, free_of, fitted_outside, many as many_then}
use Rattle.moo_world_table.proofs.FittedRows.{own_cells, own_exact, keys_fitted, already_fitted, unnamed_key}
use Rattle.moo_world_table.proofs.Along.{IsOnce, walk_once, length_changed, changed_at_each, walk_members}
use Rattle.moo_world_table.proofs.Refitting.{definer_elsewhere, key_within, cells_stay}
use Rattle.moo_world_table.proofs.Rowing.{walk_lists}

-- what was put in is taken out again
taken_again : (k : ℕ) (c : Cell) (cells : List Cell) → taken_before k (put_before k c cells) ≡ cells
taken_again k c cells =
    let i = length cells - k in
    let front = take i cells in
    let back = drop i cells in
    let low : i ≤ length cells = omega arith in
    let short : length front ≡ i = length-take i cells ∙ omega arith in
    let long : length (insert cells i c) ≡ length cells + 1 = length-insert cells i c low in
    let place : length (insert cells i c) - k - 1 ≡ i = omega (arith, long) in
    let most : length (front ++ c ∷ []) ≡ suc i = length-append front (c ∷ []) ∙ omega (arith, short) in
    ap (remove (insert cells i c)) place ∙
    ap (λ xs. xs ++ drop (suc i) (front ++ c ∷ back)) (take_at front (c ∷ back) i short) ∙
    ap (λ xs. front ++ drop (suc i) xs) (sym (append_assoc front (c ∷ []) back)) ∙
    ap (λ xs. front ++ xs) (drop_at (front ++ c ∷ []) back (suc i) most) ∙
    take-append-drop i cells

other_cells : (o : Object) (cells : List Cell) → cells ≡ o.cells → ◌≡◌ {A = Option Object} (Some (record o { cells = cells })) (Some o)
other_cells o cells is = ap (λ c. (let r : Object = record o { cells = c } in Some r)) is

pub cell_taken_again : (k : ℕ) (c : Cell) (o : Option Object) → without_cell_before k (with_clear_cell k c o) ≡ o
cell_taken_again k c None = refl
cell_taken_again k c (Some o) = other_cells o (taken_before k (put_before k (cleared o.owner c) o.cells)) (taken_again k (cleared o.owner c) o.cells)

-- one change more along a walk
along_last : (f : Option Object → Option Object) (objects : List (Option Object)) (ys : List ℕ) (y : ℕ) →
    changed_along f objects (ys ++ y ∷ []) ≡ set (changed_along f objects ys) y (f (object_of (changed_along f objects ys) y))
along_last f objects [] y = refl
along_last f objects (z ∷ ys) y = along_last f (set objects z (f (object_of objects z))) ys y

along_more : (f : Option Object → Option Object) (objects : List (Option Object)) (walk : List Step) (i : ℕ) → i < length walk →
    changed_along f objects (met (take (i + 1) walk)) ≡ set (changed_along f objects (met (take i walk))) (step_at walk i).node (f (object_of (changed_along f objects (met (take i walk))) (step_at walk i).node))
along_more f objects walk i low =
    ap (changed_along f objects) (map_more (λ (s : Step). s.node) walk i (record { node = 0; from = 0 }) low) ∙ along_last f objects (met (take i walk)) (step_at walk i).node

-- a change of the next object on a walk
pub step_along : (f : Option Object → Option Object) (start objects : List (Option Object)) (walk : List Step) (i : ℕ) (read slot : Option Object) → i < length walk → (step_at walk i).node < length objects →
    objects ≡ changed_along f start (met (take i walk)) → read ≡ get_or objects (step_at walk i).node read → slot ≡ f read → set objects (step_at walk i).node slot ≡ changed_along f start (met (take (i + 1) walk))
step_along f start objects walk i read slot low inside done read_is slot_is =
    let y = (step_at walk i).node in
    let at : read ≡ object_of objects y = get_or_read objects y read inside read_is None in
    ap (set objects y) (slot_is ∙ ap f at) ∙ ap (λ os. set os y (f (object_of os y))) done ∙ sym (along_more f start walk i low)

-- and the change of the last one taken back
pub step_back : (f g : Option Object → Option Object) → ((o : Option Object) → g (f o) ≡ o) → (start objects : List (Option Object)) (walk : List Step) (left i : ℕ) (read slot : Option Object) → i + 1 ≡ left → i < length walk → (step_at walk i).node < length objects →
    objects ≡ changed_along f start (met (take left walk)) → read ≡ get_or objects (step_at walk i).node read → slot ≡ g read → set objects (step_at walk i).node slot ≡ changed_along f start (met (take i walk))
step_back f g back start objects walk left i read slot one_more low inside done read_is slot_is =
    let y = (step_at walk i).node in
    let before = changed_along f start (met (take i walk)) in
    let last : objects ≡ set before y (f (object_of before y)) = done ∙ ap (λ n. changed_along f start (met (take n walk))) (sym one_more) ∙ along_more f start walk i low in
    let many : length objects ≡ length before = ap length last ∙ length-set before y (f (object_of before y)) in
    let at : read ≡ object_of objects y = get_or_read objects y read inside read_is None in
    let was : object_of objects y ≡ f (object_of before y) = ap (λ os. object_of os y) last ∙ get_or-set_same before y (f (object_of before y)) None (omega (arith, many, inside)) in
    ap (set objects y) (slot_is ∙ ap g (at ∙ was) ∙ back (object_of before y)) ∙ ap (λ os. set os y (object_of before y)) last ∙
    set-set before y (f (object_of before y)) (object_of before y) ∙ set-get_or before y None

-- a slot that is written as it was read
pub slot_stays : (objects : List (Option Object)) (y : ℕ) (read slot : Option Object) → y < length objects → read ≡ get_or objects y read → slot ≡ read → set objects y slot ≡ objects
slot_stays objects y read slot inside read_is slot_is = ap (set objects y) (slot_is ∙ get_or_read objects y read inside read_is None) ∙ set-get_or objects y None

-- what a walk meets has a place: what it meets first, and later
abbrev pub IsInside : List Step → ℕ → Type 0
IsInside walk n = (k : ℕ) → k < length walk → (step_at walk k).node < n

pub first_inside : (walk below : List Step) (first : Step) (n : ℕ) → walk ≡ first ∷ below → IsInside walk n → first.node < n
first_inside walk below first n is all = (subst (λ (ys : List Step). IsInside ys n) is all) 0 (omega arith)

pub later_inside : (walk below : List Step) (first : Step) (n : ℕ) → walk ≡ first ∷ below → IsInside walk n → IsInside below n
later_inside walk below first n is all = λ k h. (subst (λ (ys : List Step). IsInside ys n) is all) (suc k) (omega arith)

-- one cell more in a row, before its last ones
record Placed (k : ℕ) (c : Cell) (old new : List Cell) : Type 0 where
  front : List Cell
  back : List Cell
  old_is : old ≡ front ++ back
  new_is : new ≡ front ++ c ∷ back
  following : length back ≡ k

placed : (k : ℕ) (c : Cell) (old new : List Cell) → Placed k c old new → new ≡ put_before k c old
placed k c old new p =
    let n = length-append p.front p.back in
    let place : length (p.front ++ p.back) - k ≡ length p.front = omega (arith, n, p.following) in
    p.new_is ∙ sym (
    ap (put_before k c) p.old_is ∙ ap (λ i. insert (p.front ++ p.back) i c) place ∙
    ap (λ xs. xs ++ c ∷ drop (length p.front) (p.front ++ p.back)) (take_at p.front p.back (length p.front) refl) ∙
    ap (λ xs. p.front ++ c ∷ xs) (drop_at p.front p.back (length p.front) refl))

-- a clear cell made of a clear one
cleared_again : (one two : ℤ) (c : Cell) → cleared one (cleared two c) ≡ cleared one c
cleared_again one two c = ⊎_elim (λ e. rw e refl) (λ e. rw e refl) (cases_Bool c.perms.change_owner)

-- cells for other definitions are fitted as before
fitted_as_before : (o : Object) (name : List ℕ) (cell : Cell) (above : List Cell) → All (λ (c : Cell). eqb c.definer cell.definer ≡ false) above →
    map (fitted_cell (record o { defined = o.defined ++ name ∷ []; cells = o.cells ++ cell ∷ [] })) above ≡ map (fitted_cell o) above
fitted_as_before o name cell [] apart = refl
fitted_as_before o name cell (a ∷ above) apart =
    let off : eqb a.definer cell.definer ≡ false = All-head (λ (c : Cell). eqb c.definer cell.definer ≡ false) a above apart in
    let other : eqb cell.definer a.definer ≡ false = ne_eqb cell.definer a.definer (λ e. eqb-false a.definer cell.definer off (sym e)) in
    let none : cell_at (cell ∷ []) (key_of a) ≡ None = rw other refl in
    let found : cell_at (o.cells ++ cell ∷ []) (key_of a) ≡ cell_at o.cells (key_of a) = find-append (is_key (key_of a)) o.cells (cell ∷ []) ∙ ap (option_or (cell_at o.cells (key_of a))) none ∙ or_none (cell_at o.cells (key_of a)) in
    ap (λ r. unwrap_or r (cleared o.owner a) ∷ map (fitted_cell (record o { defined = o.defined ++ name ∷ []; cells = o.cells ++ cell ∷ [] })) above) found ∙
    ap (λ cs. fitted_cell o a ∷ cs) (fitted_as_before o name cell above (All-tail (λ (c : Cell). eqb c.definer cell.definer ≡ false) a above apart))
  where
    or_none : (r : Option Cell) → option_or r None ≡ r
    or_none None = refl
    or_none (Some c) = refl

-- the row of the definer: its cell is the last of its own
own_placed : (x : ℕ) (o : Option Object) (name : List ℕ) (cell : Cell) (above : List Cell) → IsSome o → cell.definer ≡ x → All (λ (c : Cell). eqb c.definer x ≡ false) above →
    Placed (length above) cell (fitted_over x o above) (fitted_over x (with_definition name cell o) above)
own_placed x None name cell above valid own apart = absurd (false≢true valid)
own_placed x (Some o) name cell above valid own apart = record {
  front = own_cells x o.cells;
  back = map (fitted_cell o) above;
  old_is = refl;
  new_is =
      ap (λ cs. own_cells x (o.cells ++ cell ∷ []) ++ cs) (fitted_as_before o name cell above (subst (λ (n : ℕ). All (λ (c : Cell). eqb c.definer n ≡ false) above) (sym own) apart)) ∙
      ap (λ cs. cs ++ map (fitted_cell o) above) (filter-append (λ (c : Cell). eqb c.definer x) o.cells (cell ∷ []) ∙ ap (λ cs. own_cells x o.cells ++ cs) mine) ∙
      append_assoc (own_cells x o.cells) (cell ∷ []) (map (fitted_cell o) above);
  following = length-map above (fitted_cell o);
}
  where
    mine : own_cells x (cell ∷ []) ≡ cell ∷ []
    mine = let e = eq-eqb cell.definer x own in rw e refl

-- the row of an object below: a clear cell if its parent has one more
below_placed : (z : ℕ) (o : Object) (k : ℕ) (c : Cell) (above above' : List Cell) → cell_at o.cells (key_of c) ≡ None → Placed k c above above' → Placed k (cleared o.owner c) (fitted_row z o above) (fitted_row z o above')
below_placed z o k c above above' none p = record {
  front = own_cells z o.cells ++ map (fitted_cell o) p.front;
  back = map (fitted_cell o) p.back;
  old_is = ap (fitted_row z o) p.old_is ∙ ap (λ cs. own_cells z o.cells ++ cs) (map-append (fitted_cell o) p.front p.back) ∙ sym (append_assoc (own_cells z o.cells) (map (fitted_cell o) p.front) (map (fitted_cell o) p.back));
  new_is =
      ap (fitted_row z o) p.new_is ∙ ap (λ cs. own_cells z o.cells ++ cs) (map-append (fitted_cell o) p.front (c ∷ p.back)) ∙
      ap (λ d. own_cells z o.cells ++ (map (fitted_cell o) p.front ++ d ∷ map (fitted_cell o) p.back)) (ap (λ r. unwrap_or r (cleared o.owner c)) none) ∙
      sym (append_assoc (own_cells z o.cells) (map (fitted_cell o) p.front) (cleared o.owner c ∷ map (fitted_cell o) p.back));
  following = length-map p.back (fitted_cell o) ∙ p.following;
}

own_then_cells : (name : List ℕ) (k : ℕ) (cell : Cell) (o : Option Object) → with_own_cell k name cell o ≡ with_cells (with_definition name cell o) (put_before k cell (unwrap_or o nothing).cells)
own_then_cells name k cell None = refl
own_then_cells name k cell (Some o) = refl

clear_then_cells : (k : ℕ) (cell : Cell) (o : Option Object) → with_clear_cell k cell o ≡ with_cells o (put_before k (cleared (unwrap_or o nothing).owner cell) (unwrap_or o nothing).cells)
clear_then_cells k cell None = refl
clear_then_cells k cell (Some o) = refl

module _ (w : World) (x : ℕ) (name : List ℕ) (cell : Cell) (f : IsWellFormed w) (valid : IsSome (object_of w.objects x)) (d : IsDefinable w x name cell) where
  -- the cell that an object within x gets
  abbrev cell_for : ℕ → Cell
  cell_for z = cond (eqb z x) cell (cleared (thing_of w.objects z).owner cell)

  -- how many cells it comes before
  abbrev cells_after : ℕ
  cells_after = length (fitted_along w.objects (ancestors w.inheritance x))

  own_for : cell_for x ≡ cell
  own_for = let e = eq-eqb x x refl in rw e refl

  other_for : (z : ℕ) → z ≢ x → cell_for z ≡ cleared (thing_of w.objects z).owner cell
  other_for z ne = let e = ne_eqb z x ne in rw e refl

  key_for : (z : ℕ) → key_of (cell_for z) ≡ (x, folded name)
  key_for z = ⊎_elim (λ e. rw e d.own) (λ e. rw e d.own) (cases_Bool (eqb z x))

  cleared_for : (z u : ℕ) → z ≢ x → cleared (thing_of w.objects z).owner (cell_for u) ≡ cell_for z
  cleared_for z u ne =
      let again : cleared (thing_of w.objects z).owner (cell_for u) ≡ cleared (thing_of w.objects z).owner cell =
      ⊎_elim (λ e. rw e refl) (λ e. rw e (cleared_again (thing_of w.objects z).owner (thing_of w.objects u).owner cell)) (cases_Bool (eqb u x)) in
      again ∙ sym (other_for z ne)

  unheld : (z : ℕ) → is_within w.inheritance z x ≡ true → cell_at (thing_of w.objects z).cells (x, folded name) ≡ None
  unheld z on = unnamed_key (thing_of w.objects z).cells (x, folded name)
      (ap (list_any (λ (k : Key). same_name k.1 (folded name))) (f.stocked.exact_cells z) ∙ free_of w x name cell f valid d z on)

  at_definer : (zs : List ℕ) → IsWayUp w.inheritance x zs → Placed (length (fitted_along w.objects zs)) cell (fitted_along w.objects (x ∷ zs)) (fitted_along (with_definition_on w.objects x name cell) (x ∷ zs))
  at_definer zs way =
      let objects = with_definition_on w.objects x name cell in
      let off = not_met w.inheritance x zs way in
      let above = fitted_along w.objects zs in
      let apart : All (λ (c : Cell). eqb c.definer x ≡ false) above = key_within (λ (k : Key). eqb k.0 x ≡ false) above
      (let keys = keys_fitted w.objects (own_exact w f) zs in rw keys (definer_elsewhere w.objects x zs off)) in
      subst (λ (o : Option Object). Placed (length above) cell (fitted_along w.objects (x ∷ zs)) (fitted_over x o (fitted_along objects zs))) (sym (here w x name cell f valid d))
      (subst (λ (cs : List Cell). Placed (length above) cell (fitted_along w.objects (x ∷ zs)) (fitted_over x (with_definition name cell (object_of w.objects x)) cs)) (sym (fitted_apart w x name cell f valid d zs off))
      (own_placed x (object_of w.objects x) name cell above valid (ap (λ (k : Key). k.0) d.own) apart))

  first_placed : (ys : List ℕ) → IsWayUp w.inheritance x ys → Placed cells_after (cell_for x) (fitted_along w.objects (x ∷ ys)) (fitted_along (with_definition_on w.objects x name cell) (x ∷ ys))
  first_placed ys way =
      subst (λ (c : Cell). Placed cells_after c (fitted_along w.objects (x ∷ ys)) (fitted_along (with_definition_on w.objects x name cell) (x ∷ ys))) (sym own_for)
      (subst (λ (zs : List ℕ). Placed (length (fitted_along w.objects zs)) cell (fitted_along w.objects (x ∷ ys)) (fitted_along (with_definition_on w.objects x name cell) (x ∷ ys)))
      (sym (way_up_is_ancestors w.inheritance f.parents.forest.exact x ys way)) (at_definer ys way))

  next_placed : (z u : ℕ) (us : List ℕ) → IsWayUp w.inheritance z (u ∷ us) → z ≢ x → is_within w.inheritance z x ≡ true →
      Placed cells_after (cell_for u) (fitted_along w.objects (u ∷ us)) (fitted_along (with_definition_on w.objects x name cell) (u ∷ us)) →
      Placed cells_after (cell_for z) (fitted_along w.objects (z ∷ u ∷ us)) (fitted_along (with_definition_on w.objects x name cell) (z ∷ u ∷ us))
  next_placed z u us way ne on p = over (object_of w.objects z) refl
    where
      over : (r : Option Object) → object_of w.objects z ≡ r → Placed cells_after (cell_for z) (fitted_along w.objects (z ∷ u ∷ us)) (fitted_along (with_definition_on w.objects x name cell) (z ∷ u ∷ us))
      over None e = absurd (let none : above_of w.inheritance z ≡ None = ap (λ n. n.above) (f.parents.free z e) in let some = way.0 in cc)
      over (Some o) e =
          let above = fitted_along w.objects (u ∷ us) in
          let after = fitted_along (with_definition_on w.objects x name cell) (u ∷ us) in
          let new : object_of (with_definition_on w.objects x name cell) z ≡ Some o = there w x name cell f valid d z ne ∙ e in
          let mine : cleared o.owner (cell_for u) ≡ cell_for z = ap (λ (r : Option Object). cleared (unwrap_or r nothing).owner (cell_for u)) (sym e) ∙ cleared_for z u ne in
          let none : cell_at o.cells (key_of (cell_for u)) ≡ None = ap (cell_at o.cells) (key_for u) ∙ ap (λ (r : Option Object). cell_at (unwrap_or r nothing).cells (x, folded name)) (sym e) ∙ unheld z on in
          subst (λ (r : Option Object). Placed cells_after (cell_for z) (fitted_over z r above) (fitted_along (with_definition_on w.objects x name cell) (z ∷ u ∷ us))) (sym e)
          (subst (λ (r : Option Object). Placed cells_after (cell_for z) (fitted_row z o above) (fitted_over z r after)) (sym new)
          (subst (λ (c : Cell). Placed cells_after c (fitted_row z o above) (fitted_row z o after)) mine
          (below_placed z o cells_after (cell_for u) above after none p)))

  -- each row within x has one cell more, at its place
  rows_placed : (z : ℕ) (ys : List ℕ) → IsWayUp w.inheritance z ys → list_any (eqb x) (z ∷ ys) ≡ true →
      Placed cells_after (cell_for z) (fitted_along w.objects (z ∷ ys)) (fitted_along (with_definition_on w.objects x name cell) (z ∷ ys))
  rows_placed z [] way on = ⊎_elim
      (λ e. at_first z [] (eqb-true x z e) way)
      (λ later. absurd (false≢true later))
      (or_cases (eqb x z) false on)
    where
      at_first : (q : ℕ) (ys : List ℕ) → x ≡ q → IsWayUp w.inheritance q ys → Placed cells_after (cell_for q) (fitted_along w.objects (q ∷ ys)) (fitted_along (with_definition_on w.objects x name cell) (q ∷ ys))
      at_first q ys e = subst (λ (n : ℕ). IsWayUp w.inheritance n ys → Placed cells_after (cell_for n) (fitted_along w.objects (n ∷ ys)) (fitted_along (with_definition_on w.objects x name cell) (n ∷ ys))) e (first_placed ys)
  rows_placed z (u ∷ us) way on = ⊎_elim
      (λ e. subst (λ (n : ℕ). IsWayUp w.inheritance n (u ∷ us) → Placed cells_after (cell_for n) (fitted_along w.objects (n ∷ u ∷ us)) (fitted_along (with_definition_on w.objects x name cell) (n ∷ u ∷ us))) e (first_placed (u ∷ us)) way)
      (λ ne. next_placed z u us way (λ e. ne (sym e)) (ap (λ ys. list_any (eqb x) (z ∷ ys)) (way_up_is_ancestors w.inheritance f.parents.forest.exact z (u ∷ us) way) ∙ on)
      (rows_placed u us way.1 (⊎_elim (λ e. absurd (ne (eqb-true x z e))) (λ h. h) (or_cases (eqb x z) (list_any (eqb x) (u ∷ us)) on))))
      (cases_eq x z)

  row_is : (z : ℕ) → is_within w.inheritance z x ≡ true → fitted_along (with_definition_on w.objects x name cell) (z ∷ ancestors w.inheritance z) ≡ put_before cells_after (cell_for z) (thing_of w.objects z).cells
  row_is z on =
      placed cells_after (cell_for z) (fitted_along w.objects (z ∷ ancestors w.inheritance z)) (fitted_along (with_definition_on w.objects x name cell) (z ∷ ancestors w.inheritance z))
      (rows_placed z (ancestors w.inheritance z) (f.parents.forest.rooted z) on) ∙
      ap (put_before cells_after (cell_for z)) (already_fitted w f z (ancestors w.inheritance z) (f.parents.forest.rooted z))

  after_is : length (cells_of w.objects (above_of w.inheritance x)) ≡ cells_after
  after_is = up_to (above_of w.inheritance x) refl
    where
      up_to : (q : Option ℕ) → above_of w.inheritance x ≡ q → length (cells_of w.objects q) ≡ cells_after
      up_to None is = ap (λ zs. length (fitted_along w.objects zs)) (sym (way_up_is_ancestors w.inheritance f.parents.forest.exact x [] is))
      up_to (Some up) is =
          ap length (sym (already_fitted w f up (ancestors w.inheritance up) (f.parents.forest.rooted up))) ∙
          ap (λ zs. length (fitted_along w.objects zs)) (sym (way_up_is_ancestors w.inheritance f.parents.forest.exact x (up ∷ ancestors w.inheritance up) (is, f.parents.forest.rooted up)))

  module _ (ys : List ℕ) (lists : (y : ℕ) → list_any (eqb y) (x ∷ ys) ≡ is_within w.inheritance y x) (apart : list_any (eqb x) ys ≡ false) (once : IsOnce ys) (low : All (λ y. y < length w.objects) ys) where
    abbrev below : List (Option Object)
    below = changed_along (with_clear_cell cells_after cell) w.objects ys

    abbrev whole : List (Option Object)
    whole = defined_along cells_after name cell w.objects (x ∷ ys)

    many_below : length below ≡ length w.objects
    many_below = length_changed (with_clear_cell cells_after cell) w.objects ys

    here_is : object_of whole x ≡ refitted_object (with_definition_on w.objects x name cell) w.inheritance x
    here_is =
        let inside = valid_within w.objects x valid in
        let on : is_within w.inheritance x x ≡ true = or_left (eqb x x) (list_any (eqb x) (ancestors w.inheritance x)) (eq-eqb x x refl) in
        let row = row_is x on ∙ ap (λ (c : Cell). put_before cells_after c (thing_of w.objects x).cells) own_for in
        let was : object_of below x ≡ object_of w.objects x = changed_at_each (with_clear_cell cells_after cell) w.objects ys once low x ∙ (rw apart refl) in
        get_or-set_same below x (with_own_cell cells_after name cell (object_of below x)) None (omega (arith, many_below, inside)) ∙
        ap (with_own_cell cells_after name cell) was ∙ own_then_cells name cells_after cell (object_of w.objects x) ∙
        ap (λ o. with_cells o (put_before cells_after cell (thing_of w.objects x).cells)) (sym (here w x name cell f valid d)) ∙
        ap (with_cells (object_of (with_definition_on w.objects x name cell) x)) (sym row)

    there_is : (y : ℕ) → y ≢ x → object_of whole y ≡ refitted_object (with_definition_on w.objects x name cell) w.inheritance y
    there_is y ne =
        let objects = with_definition_on w.objects x name cell in
        let same = there w x name cell f valid d y ne in
        let other = ne_eqb y x ne in
        get_or-set_other below x y (with_own_cell cells_after name cell (object_of below x)) None ne ∙
        changed_at_each (with_clear_cell cells_after cell) w.objects ys once low y ∙
        ⊎_elim
        (λ on.
        let met_there : list_any (eqb y) ys ≡ true = ap (λ b. b || list_any (eqb y) ys) (sym other) ∙ lists y ∙ on in
        let row = row_is y on ∙ ap (λ (c : Cell). put_before cells_after c (thing_of w.objects y).cells) (other_for y ne) in
        rw met_there (clear_then_cells cells_after cell (object_of w.objects y) ∙
        ap (λ o. with_cells o (put_before cells_after (cleared (thing_of w.objects y).owner cell) (thing_of w.objects y).cells)) (sym same) ∙
        ap (with_cells (object_of objects y)) (sym row)))
        (λ off.
        let unmet : list_any (eqb y) ys ≡ false = ap (λ b. b || list_any (eqb y) ys) (sym other) ∙ lists y ∙ off in
        rw unmet (sym (ap (with_cells (object_of objects y)) (fitted_outside w x name cell f valid d y off) ∙ cells_stay (object_of objects y) ∙ same)))
        (cases_Bool (is_within w.inheritance y x))

    whole_is : whole ≡ refitted (with_definition_on w.objects x name cell) w.inheritance
    whole_is = fill_by_all (refitted_object (with_definition_on w.objects x name cell) w.inheritance) whole (length (with_definition_on w.objects x name cell)) None
        (length-set below x (with_own_cell cells_after name cell (object_of below x)) ∙ many_below ∙ sym (many_then w x name cell f valid d))
        (λ y h. ⊎_elim (λ e. subst (λ (q : ℕ). object_of whole q ≡ refitted_object (with_definition_on w.objects x name cell) w.inheritance q) (sym e) here_is) (there_is y) (cases_eq y x))

  -- cells put in along a walk down from x are those of objects that are fitted anew
  pub defined_is : (walk : List Step) → IsWalkDown w.inheritance x walk →
      defined_along (length (cells_of w.objects (above_of w.inheritance x))) name cell w.objects (met walk) ≡ refitted (with_definition_on w.objects x name cell) w.inheritance
  defined_is [] wd = absurd (omega (arith, wd.begins))
  defined_is (s ∷ rest) wd =
      let single = walk_once w.inheritance x (s ∷ rest) wd in
      let members = walk_members w.objects w.inheritance f.parents x valid (s ∷ rest) wd w.objects refl in
      ap (λ k. defined_along k name cell w.objects (met (s ∷ rest))) after_is ∙
      ap (λ y. defined_along cells_after name cell w.objects (y ∷ met rest)) wd.first ∙
      whole_is (met rest)
      (λ y. ap (λ q. list_any (eqb y) (q ∷ met rest)) (sym wd.first) ∙ walk_lists w.inheritance x (s ∷ rest) wd y)
      (ap (λ q. list_any (eqb q) (met rest)) (sym wd.first) ∙ single.0)
      single.1
      (All-tail (λ y. y < length w.objects) s.node (met rest) members)
