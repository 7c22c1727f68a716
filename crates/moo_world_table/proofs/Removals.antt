-- A definition taken away keeps a world well formed.
use Rattle.std.proofs.Common.{◌≡◌, ℕ, ◌≤◌, List, [], ◌∷◌, ◌++◌, Option, Some, None, Bool, false, not, ◌&&◌, eqb, refl, sym, ◌∙◌, ap, ⊎_elim, arith, length, set, map, IsSome, FitsSigned, w32}
use Rattle.std.specs.List.{list_any, filter, All}
use Rattle.std.specs.Option.{unwrap_or}
use Rattle.std.proofs.lemmas.List.{get_or-set_same, get_or-set_other, length-set, length-map, get_or-map, get_or_past}
use Rattle.std.proofs.lemmas.List.Elements.{All-filter, filter-append, All-head, All-tail}
use Rattle.std.proofs.lemmas.Bool.{cases_Bool, cases_lt, cases_eq, eqb-false, eq-eqb, ne_eqb, or_parts, or_from}
use Rattle.moo_world_tree.specs.Forest.{ancestors, is_within}
use Rattle.moo_world_tree.specs.Walk.{met, IsWalkDown}
use Rattle.moo_world_tree.specs.declared.walk.Step.{Step}
use Rattle.moo_value.specs.Compare.{folded}
use Rattle.moo_value.specs.Size.{IsString}
use Rattle.moo_world_object.specs.Names.{same_name}
use Rattle.moo_world_object.proofs.Names.{same_name-true, same_name-false, eq-same_name, ne-same_name}
use Rattle.moo_world_table.specs.World.{World, nothing, object_of, thing_of, keys_defined_on, keys_along, definitions, has_twice, IsFilled, IsWellFormed, IsFine, HasStored}
use Rattle.moo_world_table.specs.Changes.{without_cell, without_name, after_undefine}
use Rattle.moo_world_table.specs.Steps.{changed_along}
use Rattle.moo_world_object.specs.Objects.{Object}
use Rattle.moo_world_object.specs.Cells.{Cell, Key, key_of, is_key}
use Rattle.moo_world_table.proofs.Counting.{programs_undefined}
use Rattle.moo_world_table.proofs.Along.{all_along, walk_members}
use Rattle.moo_world_table.proofs.Changing.{valid_within}
use Rattle.moo_world_table.proofs.Refitting.{joined_kept, definer_elsewhere, key_within}

-- whether a definition is another one
abbrev pub is_other : Key → Key → Bool
is_other k j = not (eqb j.0 k.0 && same_name j.1 k.1)

keys_kept : (k : Key) (cells : List Cell) → map key_of (filter (λ c. not (is_key k c)) cells) ≡ filter (is_other k) (map key_of cells)
keys_kept k [] = refl
keys_kept k (c ∷ cs) = ⊎_elim (λ e. rw e (keys_kept k cs)) (λ e. rw e (ap (λ ks. key_of c ∷ ks) (keys_kept k cs))) (cases_Bool (is_key k c))

names_kept : (x : ℕ) (name : List ℕ) (ns : List (List ℕ)) → map (λ n. (x, folded n)) (filter (λ n. not (same_name name (folded n))) ns) ≡ filter (is_other (x, name)) (map (λ n. (x, folded n)) ns)
names_kept x name [] = refl
names_kept x name (n ∷ ns) =
    let own = eq-eqb x x refl in
    ⊎_elim
    (λ e. let back = eq-same_name (folded n) name (sym (same_name-true name (folded n) e)) in rw (e, own, back) (names_kept x name ns))
    (λ e. let back = ne-same_name (folded n) name (λ h. same_name-false name (folded n) e (sym h)) in rw (e, own, back) (ap (λ ks. (x, folded n) ∷ ks) (names_kept x name ns)))
    (cases_Bool (same_name name (folded n)))

others_kept : (x : ℕ) (name : List ℕ) (y : ℕ) (ns : List (List ℕ)) → eqb y x ≡ false → map (λ n. (y, folded n)) ns ≡ filter (is_other (x, name)) (map (λ n. (y, folded n)) ns)
others_kept x name y [] ne = refl
others_kept x name y (n ∷ ns) ne = rw ne (ap (λ ks. (y, folded n) ∷ ks) (others_kept x name y ns ne))

absent_kept : (test : Key → Bool) (n : List ℕ) (ks : List Key) → list_any (same_name n) (map (λ (j : Key). j.1) ks) ≡ false → list_any (same_name n) (map (λ (j : Key). j.1) (filter test ks)) ≡ false
absent_kept test n [] h = refl
absent_kept test n (k ∷ ks) h =
    let parts = or_parts (same_name n k.1) (list_any (same_name n) (map (λ (j : Key). j.1) ks)) h in
    ⊎_elim (λ e. rw e (or_from (same_name n k.1) _ parts.0 (absent_kept test n ks parts.1))) (λ e. rw e (absent_kept test n ks parts.1)) (cases_Bool (test k))

pub once_kept : (test : Key → Bool) (ks : List Key) → has_twice (map (λ (j : Key). j.1) ks) ≡ false → has_twice (map (λ (j : Key). j.1) (filter test ks)) ≡ false
once_kept test [] h = refl
once_kept test (k ∷ ks) h =
    let parts = or_parts (list_any (same_name k.1) (map (λ (j : Key). j.1) ks)) (has_twice (map (λ (j : Key). j.1) ks)) h in
    ⊎_elim (λ e. rw e (or_from _ _ (absent_kept test k.1 ks parts.0) (once_kept test ks parts.1))) (λ e. rw e (once_kept test ks parts.1)) (cases_Bool (test k))

pub cells_short : (t : Cell → Bool) (cs : List Cell) → length (filter t cs) ≤ length cs
cells_short t [] = omega arith
cells_short t (c ∷ cs) =
    let rest = cells_short t cs in
    ⊎_elim (λ e. rw e (omega (arith, rest))) (λ e. rw e (omega (arith, rest))) (cases_Bool (t c))

kept_cells : (k : Key) (cs : List Cell) → All (λ (c : Cell). eqb c.definer k.0 ≡ false) cs → filter (λ c. not (is_key k c)) cs ≡ cs
kept_cells k [] all = refl
kept_cells k (c ∷ cs) all =
    let ne : eqb c.definer k.0 ≡ false = All-head (λ (d : Cell). eqb d.definer k.0 ≡ false) c cs all in
    rw ne (ap (λ ds. c ∷ ds) (kept_cells k cs (All-tail (λ (d : Cell). eqb d.definer k.0 ≡ false) c cs all)))

lost_cells : (k : Key) (o : Option Object) → (unwrap_or (without_cell k o) nothing).cells ≡ filter (λ c. not (is_key k c)) (unwrap_or o nothing).cells
lost_cells k None = refl
lost_cells k (Some o) = refl

lost_defined : (k : Key) (o : Option Object) → (unwrap_or (without_cell k o) nothing).defined ≡ (unwrap_or o nothing).defined
lost_defined k None = refl
lost_defined k (Some o) = refl

forgot_cells : (name : List ℕ) (o : Option Object) → (unwrap_or (without_name name o) nothing).cells ≡ (unwrap_or o nothing).cells
forgot_cells name None = refl
forgot_cells name (Some o) = refl

forgot_defined : (name : List ℕ) (o : Option Object) → (unwrap_or (without_name name o) nothing).defined ≡ filter (λ n. not (same_name name (folded n))) (unwrap_or o nothing).defined
forgot_defined name None = refl
forgot_defined name (Some o) = refl

lost_none : (k : Key) (o : Option Object) → without_cell k o ≡ None → o ≡ None
lost_none k None h = refl
lost_none k (Some o) h = cc

forgot_none : (name : List ℕ) (o : Option Object) → without_name name o ≡ None → o ≡ None
forgot_none name None h = refl
forgot_none name (Some o) h = cc

fine_lost : (k : Key) (o : Option Object) → IsFine (unwrap_or o nothing) → IsFine (unwrap_or (without_cell k o) nothing)
fine_lost k None f = f
fine_lost k (Some o) f = record {
  name = f.name;
  names = f.names;
  values = All-filter (λ c. not (is_key k c)) (λ (c : Cell). HasStored c.value) o.cells f.values;
  few_cells = let short = cells_short (λ c. not (is_key k c)) o.cells in let few = f.few_cells in omega (arith, short, few);
  verb_names = f.verb_names;
  few_verbs = f.few_verbs;
  numbers = record {
    owner = f.numbers.owner;
    cells = All-filter (λ c. not (is_key k c)) (λ (c : Cell). FitsSigned w32 c.owner) o.cells f.numbers.cells;
    verbs = f.numbers.verbs;
  };
}

fine_unnamed : (name : List ℕ) (o : Option Object) → IsFine (unwrap_or o nothing) → IsFine (unwrap_or (without_name name o) nothing)
fine_unnamed name None f = f
fine_unnamed name (Some o) f = record {
  name = f.name;
  names = All-filter (λ n. not (same_name name (folded n))) IsString o.defined f.names;
  values = f.values;
  few_cells = f.few_cells;
  verb_names = f.verb_names;
  few_verbs = f.few_verbs;
  numbers = record { owner = f.numbers.owner; cells = f.numbers.cells; verbs = f.numbers.verbs };
}

kept_whole : (k : Key) (o : Option Object) → All (λ (c : Cell). eqb c.definer k.0 ≡ false) (unwrap_or o nothing).cells → without_cell k o ≡ o
kept_whole k None all = refl
kept_whole k (Some o) all = ap (λ cs. Some (let r : Object = record o { cells = cs } in r)) (kept_cells k o.cells all)

module _ (w : World) (x : ℕ) (name : List ℕ) (f : IsWellFormed w) (valid : IsSome (object_of w.objects x)) where
  -- the object at each number afterwards
  at : (y : ℕ) → object_of (after_undefine w x name).objects y ≡ without_cell (x, name) (object_of (set w.objects x (without_name name (object_of w.objects x))) y)
  at y =
      let before = set w.objects x (without_name name (object_of w.objects x)) in
      ⊎_elim
      (λ h. get_or-map (without_cell (x, name)) before y None None h)
      (λ past.
      let len = length-map before (without_cell (x, name)) in
      get_or_past (map (without_cell (x, name)) before) y None (omega (arith, len)) ∙ sym (ap (without_cell (x, name)) (get_or_past before y None past)))
      (cases_lt y (length before))

  here : object_of (set w.objects x (without_name name (object_of w.objects x))) x ≡ without_name name (object_of w.objects x)
  here = get_or-set_same w.objects x (without_name name (object_of w.objects x)) None (valid_within w.objects x valid)

  there : (y : ℕ) → (y ≡ x → ⊥) → object_of (set w.objects x (without_name name (object_of w.objects x))) y ≡ object_of w.objects y
  there y other = get_or-set_other w.objects x y (without_name name (object_of w.objects x)) None other

  cells_at : (y : ℕ) → (thing_of (after_undefine w x name).objects y).cells ≡ filter (λ c. not (is_key (x, name) c)) (thing_of w.objects y).cells
  cells_at y =
      ap (λ o. (unwrap_or o nothing).cells) (at y) ∙ lost_cells (x, name) (object_of (set w.objects x (without_name name (object_of w.objects x))) y) ∙
      ap (filter (λ c. not (is_key (x, name) c))) (⊎_elim
      (λ e. rw e (ap (λ o. (unwrap_or o nothing).cells) here ∙ forgot_cells name (object_of w.objects x)))
      (λ ne. ap (λ o. (unwrap_or o nothing).cells) (there y ne))
      (cases_eq y x))

  keys_at : (y : ℕ) → keys_defined_on (after_undefine w x name).objects y ≡ filter (is_other (x, name)) (keys_defined_on w.objects y)
  keys_at y =
      ap (λ o. map (λ n. (y, folded n)) (unwrap_or o nothing).defined) (at y) ∙
      ap (map (λ n. (y, folded n))) (lost_defined (x, name) (object_of (set w.objects x (without_name name (object_of w.objects x))) y)) ∙
      ⊎_elim
      (λ e. rw e (ap (λ o. map (λ n. (x, folded n)) (unwrap_or o nothing).defined) here ∙ ap (map (λ n. (x, folded n))) (forgot_defined name (object_of w.objects x)) ∙ names_kept x name (thing_of w.objects x).defined))
      (λ ne. ap (λ o. map (λ n. (y, folded n)) (unwrap_or o nothing).defined) (there y ne) ∙ others_kept x name y (thing_of w.objects y).defined (ne_eqb y x ne))
      (cases_eq y x)

  keys_on : (way : List ℕ) → keys_along (after_undefine w x name).objects way ≡ filter (is_other (x, name)) (keys_along w.objects way)
  keys_on [] = refl
  keys_on (y ∷ way) =
      ap (λ ks. ks ++ keys_along (after_undefine w x name).objects way) (keys_at y) ∙
      ap (λ ks. filter (is_other (x, name)) (keys_defined_on w.objects y) ++ ks) (keys_on way) ∙
      sym (filter-append (is_other (x, name)) (keys_defined_on w.objects y) (keys_along w.objects way))

  still_none : (y : ℕ) → object_of (after_undefine w x name).objects y ≡ None → object_of w.objects y ≡ None
  still_none y h =
      let before = lost_none (x, name) (object_of (set w.objects x (without_name name (object_of w.objects x))) y) (sym (at y) ∙ h) in
      ⊎_elim
      (λ e. ap (object_of w.objects) e ∙ forgot_none name (object_of w.objects x) (sym here ∙ ap (object_of (set w.objects x (without_name name (object_of w.objects x)))) (sym e) ∙ before))
      (λ ne. sym (there y ne) ∙ before)
      (cases_eq y x)

  fine_forgot : (y : ℕ) → IsFine (thing_of (set w.objects x (without_name name (object_of w.objects x))) y)
  fine_forgot y = ⊎_elim
      (λ e. rw e (let same = ap (λ o. unwrap_or o nothing) here in rw same (fine_unnamed name (object_of w.objects x) (f.stocked.fine x))))
      (λ ne. let same = ap (λ o. unwrap_or o nothing) (there y ne) in rw same (f.stocked.fine y))
      (cases_eq y x)

  pub undefined_well_formed : IsWellFormed (after_undefine w x name)
  undefined_well_formed =
      let many = length-map (set w.objects x (without_name name (object_of w.objects x))) (without_cell (x, name)) ∙ length-set w.objects x (without_name name (object_of w.objects x)) in
      record {
        parents = joined_kept w.objects (after_undefine w x name).objects w.inheritance many still_none f.parents;
        places = joined_kept w.objects (after_undefine w x name).objects w.containment many still_none f.places;
        stocked = record {
          exact_cells = λ y. ap (map key_of) (cells_at y) ∙ keys_kept (x, name) (thing_of w.objects y).cells ∙ ap (filter (is_other (x, name))) (f.stocked.exact_cells y) ∙ sym (keys_on (y ∷ ancestors w.inheritance y));
          names_once = λ y. ap (λ ks. has_twice (map (λ (k : Key). k.1) ks)) (keys_on (y ∷ ancestors w.inheritance y)) ∙ once_kept (is_other (x, name)) (definitions w.objects w.inheritance y) (f.stocked.names_once y);
          own_filled = λ y. let cells = cells_at y in rw cells (All-filter (λ c. not (is_key (x, name) c)) (IsFilled y) (thing_of w.objects y).cells (f.stocked.own_filled y));
          fine = λ y. let same = ap (λ o. unwrap_or o nothing) (at y) in rw same (fine_lost (x, name) (object_of (set w.objects x (without_name name (object_of w.objects x))) y) (fine_forgot y));
        };
        few = rw many f.few;
        few_players = f.few_players;
        player_numbers = f.player_numbers;
        few_programs = omega (arith, programs_undefined w.objects x name (valid_within w.objects x valid), f.few_programs);
      }

  -- what is not within x has no cell for it
  none_elsewhere : (y : ℕ) → is_within w.inheritance y x ≡ false → without_cell (x, name) (object_of w.objects y) ≡ object_of w.objects y
  none_elsewhere y off = kept_whole (x, name) (object_of w.objects y)
      (key_within (λ (k : Key). eqb k.0 x ≡ false) (thing_of w.objects y).cells (let keys = f.stocked.exact_cells y in rw keys (definer_elsewhere w.objects x (y ∷ ancestors w.inheritance y) off)))

  -- taking the cells out along a walk takes out all
  pub lost_is : (walk : List Step) → IsWalkDown w.inheritance x walk → (start : List (Option Object)) → start ≡ set w.objects x (without_name name (object_of w.objects x)) →
      changed_along (without_cell (x, name)) start (met walk) ≡ (after_undefine w x name).objects
  lost_is walk d start is =
      let before = set w.objects x (without_name name (object_of w.objects x)) in
      ap (λ os. changed_along (without_cell (x, name)) os (met walk)) is ∙
      all_along (without_cell (x, name)) before w.inheritance x walk d
      (walk_members w.objects w.inheritance f.parents x valid walk d before (length-set w.objects x (without_name name (object_of w.objects x)))) elsewhere
    where
      elsewhere : (y : ℕ) → is_within w.inheritance y x ≡ false → without_cell (x, name) (object_of (set w.objects x (without_name name (object_of w.objects x))) y) ≡ object_of (set w.objects x (without_name name (object_of w.objects x))) y
      elsewhere y off =
          let ne = λ (e : y ≡ x). eqb-false x y (or_parts (eqb x y) (list_any (eqb x) (ancestors w.inheritance y)) off).0 (sym e) in
          ap (without_cell (x, name)) (there y ne) ∙ none_elsewhere y off ∙ sym (there y ne)
