-- A definition renamed keeps a world well formed.
use Rattle.std.proofs.Common.{◌≡◌, ℕ, ◌<◌, List, [], ◌∷◌, ◌++◌, Option, Some, None, Bool, true, false, ◌&&◌, cond, eqb, refl, sym, ◌∙◌, ap, ⊎_elim, arith, length, get_or, map, IsSome, FitsSigned, w32}
use Rattle.std.specs.List.{list_any, All}
use Rattle.std.specs.Option.{option_map, unwrap_or}
use Rattle.std.proofs.lemmas.List.{get_or-set_same, get_or-set_other, length-set, length-map, get_or-map, get_or_past, get_or_default, same_lists, map-append}
use Rattle.std.proofs.lemmas.List.Elements.{All-cons, All-nil, All-head, All-tail}
use Rattle.std.proofs.lemmas.Bool.{cases_Bool, cases_lt, cases_eq, eq-eqb, ne_eqb, and_parts, or_parts, or_from, false≢true}
use Rattle.moo_value.specs.Compare.{folded}
use Rattle.moo_value.specs.Size.{IsString}
use Rattle.moo_world_tree.specs.Forest.{ancestors, is_within}
use Rattle.moo_world_tree.specs.Walk.{met, IsWalkDown}
use Rattle.moo_world_tree.specs.declared.walk.Step.{Step}
use Rattle.moo_world_object.specs.Names.{same_name}
use Rattle.moo_world_object.proofs.Names.{same_name-true, same_name-false, eq-same_name, ne-same_name}
use Rattle.moo_world_object.specs.Objects.{Object}
use Rattle.moo_world_object.specs.Cells.{Cell, Key, key_of, is_key, at_key, renamed}
use Rattle.moo_world_object.specs.Rows.{with_new_name}
use Rattle.moo_world_table.specs.World.{World, nothing, object_of, thing_of, keys_defined_on, keys_along, definitions, has_twice, IsFilled, IsWellFormed, IsFine, HasStored}
use Rattle.moo_world_table.specs.Steps.{changed_along, with_new_cell_name, IsRenamable}
use Rattle.moo_world_table.specs.Changes.{changed_on}
use Rattle.moo_world_table.specs.Properties.{is_taken, has_name}
use Rattle.moo_world_table.specs.Edits.{respelled, with_respelled, with_renamed_cell}
use Rattle.moo_world_table.specs.Renames.{after_rename}
use Rattle.moo_world_table.proofs.Counting.{programs_renamed}
use Rattle.moo_world_table.proofs.Changing.{valid_within}
use Rattle.moo_world_table.proofs.Joining.{within_low}
use Rattle.moo_world_table.proofs.Refitting.{joined_kept, none_passes, definer_elsewhere, key_within}
use Rattle.moo_world_table.proofs.Along.{all_along, walk_members}
use Rattle.moo_world_table.proofs.Edited.{each_at}
use Rattle.moo_world_table.proofs.Respelling.{all_respelled}

abbrev pub is_that : Key → Key → Bool
is_that k j = eqb j.0 k.0 && same_name j.1 k.1

-- the definition renamed, and every other one as it is
abbrev pub renamed_key : Key → List ℕ → Key → Key
renamed_key k n j = cond (is_that k j) (j.0, n) j

abbrev pub names_in : List Key → List (List ℕ)
names_in ks = map (λ (k : Key). k.1) ks

keys_renamed : (k : Key) (n : List ℕ) (cells : List Cell) → map key_of (map (at_key k (renamed n)) cells) ≡ map (renamed_key k n) (map key_of cells)
keys_renamed k n [] = refl
keys_renamed k n (c ∷ cs) = ⊎_elim
    (λ e. rw e (ap (λ ks. (let j : Key = (c.definer, n) in j) ∷ ks) (keys_renamed k n cs)))
    (λ e. rw e (ap (λ ks. key_of c ∷ ks) (keys_renamed k n cs)))
    (cases_Bool (is_key k c))

-- what is another definition stays
untouched : (k : Key) (n : List ℕ) (ks : List Key) → All (λ j. is_that k j ≡ false) ks → map (renamed_key k n) ks ≡ ks
untouched k n [] all = refl
untouched k n (j ∷ ks) all =
    let off : is_that k j ≡ false = All-head (λ i. is_that k i ≡ false) j ks all in
    rw off (ap (λ is. j ∷ is) (untouched k n ks (All-tail (λ i. is_that k i ≡ false) j ks all)))

-- a definition that gets the name that it has stays
same_renamed : (k : Key) (n : List ℕ) (ks : List Key) → n ≡ k.1 → map (renamed_key k n) ks ≡ ks
same_renamed k n [] same = refl
same_renamed k n (j ∷ ks) same = ⊎_elim
    (λ e.
    let name : n ≡ j.1 = same ∙ sym (same_name-true j.1 k.1 (right_true (eqb j.0 k.0) (same_name j.1 k.1) e)) in
    rw e (ap (λ m. (let i : Key = (j.0, m) in i) ∷ map (renamed_key k n) ks) name ∙ ap (λ is. j ∷ is) (same_renamed k n ks same)))
    (λ e. rw e (ap (λ is. j ∷ is) (same_renamed k n ks same)))
    (cases_Bool (is_that k j))
  where
    right_true : (a b : Bool) → (a && b) ≡ true → b ≡ true
    right_true true b h = h
    right_true false b h = absurd (false≢true h)

-- no name occurs twice afterwards, if the new one is free
apart_after : (k : Key) (n m : List ℕ) (ks : List Key) → same_name m n ≡ false → list_any (same_name m) (names_in ks) ≡ false → list_any (same_name m) (names_in (map (renamed_key k n) ks)) ≡ false
apart_after k n m [] ne h = refl
apart_after k n m (j ∷ ks) ne h =
    let parts = or_parts (same_name m j.1) (list_any (same_name m) (names_in ks)) h in
    ⊎_elim
    (λ e. rw e (or_from (same_name m n) _ ne (apart_after k n m ks ne parts.1)))
    (λ e. rw e (or_from (same_name m j.1) _ parts.0 (apart_after k n m ks ne parts.1)))
    (cases_Bool (is_that k j))

names_apart : (k : Key) (m : List ℕ) (ks : List Key) → m ≡ k.1 → list_any (same_name m) (names_in ks) ≡ false → All (λ j. is_that k j ≡ false) ks
names_apart k m [] is h = All-nil (λ j. is_that k j ≡ false)
names_apart k m (j ∷ ks) is h =
    let parts = or_parts (same_name m j.1) (list_any (same_name m) (names_in ks)) h in
    let ne : same_name j.1 k.1 ≡ false = ne-same_name j.1 k.1 (λ e. same_name-false m j.1 parts.0 (is ∙ sym e)) in
    All-cons (λ i. is_that k i ≡ false) j ks (and_off (eqb j.0 k.0) (same_name j.1 k.1) ne) (names_apart k m ks is parts.1)
  where
    and_off : (a b : Bool) → b ≡ false → (a && b) ≡ false
    and_off true b h = h
    and_off false b h = refl

once_after : (k : Key) (n : List ℕ) (ks : List Key) → has_twice (names_in ks) ≡ false → list_any (same_name n) (names_in ks) ≡ false → has_twice (names_in (map (renamed_key k n) ks)) ≡ false
once_after k n [] once free = refl
once_after k n (j ∷ ks) once free =
    let parts = or_parts (list_any (same_name j.1) (names_in ks)) (has_twice (names_in ks)) once in
    let others = or_parts (same_name n j.1) (list_any (same_name n) (names_in ks)) free in
    ⊎_elim
    (λ e.
    let name : j.1 ≡ k.1 = same_name-true j.1 k.1 (right_true (eqb j.0 k.0) (same_name j.1 k.1) e) in
    let rest = untouched k n ks (names_apart k j.1 ks name parts.0) in
    rw e (rw rest (or_from (list_any (same_name n) (names_in ks)) _ others.1 parts.1)))
    (λ e.
    let ne : same_name j.1 n ≡ false = ne-same_name j.1 n (λ s. same_name-false n j.1 others.0 (sym s)) in
    rw e (or_from _ _ (apart_after k n j.1 ks ne parts.0) (once_after k n ks parts.1 others.1)))
    (cases_Bool (is_that k j))
  where
    right_true : (a b : Bool) → (a && b) ≡ true → b ≡ true
    right_true true b h = h
    right_true false b h = absurd (false≢true h)

-- the definer's own names
abbrev pub keys_for : ℕ → List (List ℕ) → List Key
keys_for x ds = map (λ d. (x, folded d)) ds

own_apart : (x : ℕ) (name m : List ℕ) (ds : List (List ℕ)) (rest : List Key) → m ≡ name → list_any (same_name m) (names_in (keys_for x ds ++ rest)) ≡ false → All (λ j. is_that (x, name) j ≡ false) (keys_for x ds)
own_apart x name m [] rest is h = All-nil (λ j. is_that (x, name) j ≡ false)
own_apart x name m (d ∷ ds) rest is h =
    let parts = or_parts (same_name m (folded d)) (list_any (same_name m) (names_in (keys_for x ds ++ rest))) h in
    let ne : same_name (folded d) name ≡ false = ne-same_name (folded d) name (λ e. same_name-false m (folded d) parts.0 (is ∙ sym e)) in
    let own = eq-eqb x x refl in
    All-cons (λ i. is_that (x, name) i ≡ false) (x, folded d) (keys_for x ds) (rw own ne) (own_apart x name m ds rest is parts.1)

own_renamed : (x : ℕ) (name n : List ℕ) (ds : List (List ℕ)) (rest : List Key) → has_twice (names_in (keys_for x ds ++ rest)) ≡ false →
    keys_for x (respelled name n ds) ≡ map (renamed_key (x, name) (folded n)) (keys_for x ds)
own_renamed x name n [] rest once = refl
own_renamed x name n (d ∷ ds) rest once =
    let parts = or_parts (list_any (same_name (folded d)) (names_in (keys_for x ds ++ rest))) (has_twice (names_in (keys_for x ds ++ rest))) once in
    let own = eq-eqb x x refl in
    ⊎_elim
    (λ e.
    let name_is : folded d ≡ name = sym (same_name-true name (folded d) e) in
    let back = eq-same_name (folded d) name name_is in
    let stay = untouched (x, name) (folded n) (keys_for x ds) (own_apart x name (folded d) ds rest name_is parts.0) in
    rw (e, own, back) (ap (λ ks. (let j : Key = (x, folded n) in j) ∷ ks) (sym stay)))
    (λ e.
    let back = ne-same_name (folded d) name (λ s. same_name-false name (folded d) e (sym s)) in
    rw (e, own, back) (ap (λ ks. (let j : Key = (x, folded d) in j) ∷ ks) (own_renamed x name n ds rest parts.1)))
    (cases_Bool (same_name name (folded d)))

others_apart : (x y : ℕ) (name : List ℕ) (ds : List (List ℕ)) → eqb y x ≡ false → All (λ j. is_that (x, name) j ≡ false) (keys_for y ds)
others_apart x y name [] ne = All-nil (λ j. is_that (x, name) j ≡ false)
others_apart x y name (d ∷ ds) ne = All-cons (λ i. is_that (x, name) i ≡ false) (y, folded d) (keys_for y ds) (rw ne refl) (others_apart x y name ds ne)

-- a name that no definition has
name_free : (n : List ℕ) (ks : List Key) → list_any (λ (k : Key). same_name k.1 n) ks ≡ false → list_any (same_name n) (names_in ks) ≡ false
name_free n [] h = refl
name_free n (k ∷ ks) h =
    let parts = or_parts (same_name k.1 n) (list_any (λ (j : Key). same_name j.1 n) ks) h in
    or_from (same_name n k.1) _ (ne-same_name n k.1 (λ e. same_name-false k.1 n parts.0 (sym e))) (name_free n ks parts.1)

mapped_none : (f : Object → Object) (o : Option Object) → option_map f o ≡ None → o ≡ None
mapped_none f None h = refl
mapped_none f (Some o) h = cc

renamed_thing : (k : Key) (n : List ℕ) (o : Option Object) → (unwrap_or (option_map (with_renamed_cell k n) o) nothing).cells ≡ map (at_key k (renamed n)) (unwrap_or o nothing).cells
renamed_thing k n None = refl
renamed_thing k n (Some o) = refl

renamed_defined : (k : Key) (n : List ℕ) (o : Option Object) → (unwrap_or (option_map (with_renamed_cell k n) o) nothing).defined ≡ (unwrap_or o nothing).defined
renamed_defined k n None = refl
renamed_defined k n (Some o) = refl

spelled_cells : (name n : List ℕ) (o : Option Object) → (unwrap_or (option_map (with_respelled name n) o) nothing).cells ≡ (unwrap_or o nothing).cells
spelled_cells name n None = refl
spelled_cells name n (Some o) = refl

spelled_defined : (name n : List ℕ) (o : Option Object) → (unwrap_or (option_map (with_respelled name n) o) nothing).defined ≡ respelled name n (unwrap_or o nothing).defined
spelled_defined name n None = refl
spelled_defined name n (Some o) = refl

fine_renamed : (k : Key) (n : List ℕ) (o : Option Object) → IsFine (unwrap_or o nothing) → IsFine (unwrap_or (option_map (with_renamed_cell k n) o) nothing)
fine_renamed k n None f = f
fine_renamed k n (Some o) f = record {
  name = f.name;
  names = f.names;
  values = each_at (λ (c : Cell). HasStored c.value) k (renamed n) o.cells (λ c e h. h) f.values;
  few_cells = let same = length-map o.cells (at_key k (renamed n)) in let few = f.few_cells in omega (arith, same, few);
  verb_names = f.verb_names;
  few_verbs = f.few_verbs;
  numbers = record {
    owner = f.numbers.owner;
    cells = each_at (λ (c : Cell). FitsSigned w32 c.owner) k (renamed n) o.cells (λ c e h. h) f.numbers.cells;
    verbs = f.numbers.verbs;
  };
}

fine_spelled : (name n : List ℕ) (o : Option Object) → IsString n → IsFine (unwrap_or o nothing) → IsFine (unwrap_or (option_map (with_respelled name n) o) nothing)
fine_spelled name n None s f = f
fine_spelled name n (Some o) s f = record {
  name = f.name;
  names = all_respelled name n o.defined s f.names;
  values = f.values;
  few_cells = f.few_cells;
  verb_names = f.verb_names;
  few_verbs = f.few_verbs;
  numbers = record { owner = f.numbers.owner; cells = f.numbers.cells; verbs = f.numbers.verbs };
}

-- an object without a cell for the definition stays
cells_untouched : (k : Key) (n : List ℕ) (cells : List Cell) → All (λ c. is_that k (key_of c) ≡ false) cells → map (at_key k (renamed n)) cells ≡ cells
cells_untouched k n [] all = refl
cells_untouched k n (c ∷ cs) all =
    let off : is_key k c ≡ false = All-head (λ d. is_that k (key_of d) ≡ false) c cs all in
    rw off (ap (λ ds. c ∷ ds) (cells_untouched k n cs (All-tail (λ d. is_that k (key_of d) ≡ false) c cs all)))

object_untouched : (k : Key) (n : List ℕ) (o : Option Object) → All (λ c. is_that k (key_of c) ≡ false) (unwrap_or o nothing).cells → option_map (with_renamed_cell k n) o ≡ o
object_untouched k n None all = refl
object_untouched k n (Some o) all = ap (λ cs. Some (let r : Object = record o { cells = cs } in r)) (cells_untouched k n o.cells all)

-- if no name occurs twice, the first cell for a definition is the only one
first_is_only : (k : Key) (n : List ℕ) (cells : List Cell) → has_twice (names_in (map key_of cells)) ≡ false → with_new_name k n cells ≡ map (at_key k (renamed n)) cells
first_is_only k n [] once = refl
first_is_only k n (c ∷ cs) once =
    let parts = or_parts (list_any (same_name c.name) (names_in (map key_of cs))) (has_twice (names_in (map key_of cs))) once in
    ⊎_elim
    (λ e.
    let name : c.name ≡ k.1 = same_name-true c.name k.1 (and_parts (eqb c.definer k.0) (same_name c.name k.1) e).1 in
    let apart = key_within (λ j. is_that k j ≡ false) cs (names_apart k c.name (map key_of cs) name parts.0) in
    rw e (ap (λ ds. renamed n c ∷ ds) (sym (cells_untouched k n cs apart))))
    (λ e. rw e (ap (λ ds. c ∷ ds) (first_is_only k n cs parts.1)))
    (cases_Bool (is_key k c))

only_renamed : (k : Key) (n : List ℕ) (o : Option Object) → has_twice (names_in (map key_of (unwrap_or o nothing).cells)) ≡ false → option_map (with_new_cell_name k n) o ≡ option_map (with_renamed_cell k n) o
only_renamed k n None once = refl
only_renamed k n (Some o) once = ap (λ cs. Some (let r : Object = record o { cells = cs } in r)) (first_is_only k n o.cells once)

elsewhere_apart : (x : ℕ) (name : List ℕ) (ks : List Key) → All (λ (k : Key). eqb k.0 x ≡ false) ks → All (λ j. is_that (x, name) j ≡ false) ks
elsewhere_apart x name ks all i d h = let off : eqb (get_or ks i d).0 x ≡ false = all i d h in rw off refl

module _ (w : World) (x : ℕ) (name n : List ℕ) (f : IsWellFormed w) (valid : IsSome (object_of w.objects x)) where
  abbrev before : List (Option Object)
  before = changed_on w.objects x (with_respelled name n)

  abbrev after : List (Option Object)
  after = (after_rename w x name n).objects

  abbrev key : Key
  key = (x, name)

  -- the object at each number afterwards
  at : (y : ℕ) → object_of after y ≡ option_map (with_renamed_cell key (folded n)) (object_of before y)
  at y = ⊎_elim
      (λ h. get_or-map (option_map (with_renamed_cell key (folded n))) before y None None h)
      (λ past.
      let len = length-map before (option_map (with_renamed_cell key (folded n))) in
      get_or_past after y None (omega (arith, len)) ∙ sym (ap (option_map (with_renamed_cell key (folded n))) (get_or_past before y None past)))
      (cases_lt y (length before))

  here : object_of before x ≡ option_map (with_respelled name n) (object_of w.objects x)
  here = get_or-set_same w.objects x (option_map (with_respelled name n) (object_of w.objects x)) None (valid_within w.objects x valid)

  there : (y : ℕ) → (y ≡ x → ⊥) → object_of before y ≡ object_of w.objects y
  there y other = get_or-set_other w.objects x y (option_map (with_respelled name n) (object_of w.objects x)) None other

  cells_before : (y : ℕ) → (thing_of before y).cells ≡ (thing_of w.objects y).cells
  cells_before y = ⊎_elim
      (λ e. rw e (ap (λ o. (unwrap_or o nothing).cells) here ∙ spelled_cells name n (object_of w.objects x)))
      (λ ne. ap (λ o. (unwrap_or o nothing).cells) (there y ne))
      (cases_eq y x)

  pub cells_at : (y : ℕ) → (thing_of after y).cells ≡ map (at_key key (renamed (folded n))) (thing_of w.objects y).cells
  cells_at y =
      ap (λ o. (unwrap_or o nothing).cells) (at y) ∙ renamed_thing key (folded n) (object_of before y) ∙
      ap (map (at_key key (renamed (folded n)))) (cells_before y)

  keys_at : (y : ℕ) → keys_defined_on after y ≡ map (renamed_key key (folded n)) (keys_defined_on w.objects y)
  keys_at y =
      ap (λ o. keys_for y (unwrap_or o nothing).defined) (at y) ∙
      ap (keys_for y) (renamed_defined key (folded n) (object_of before y)) ∙
      ⊎_elim
      (λ e. rw e (ap (λ o. keys_for x (unwrap_or o nothing).defined) here ∙ ap (keys_for x) (spelled_defined name n (object_of w.objects x)) ∙
      own_renamed x name n (thing_of w.objects x).defined (keys_along w.objects (ancestors w.inheritance x)) (f.stocked.names_once x)))
      (λ ne. ap (λ o. keys_for y (unwrap_or o nothing).defined) (there y ne) ∙
      sym (untouched key (folded n) (keys_defined_on w.objects y) (others_apart x y name (thing_of w.objects y).defined (ne_eqb y x ne))))
      (cases_eq y x)

  pub keys_on : (way : List ℕ) → keys_along after way ≡ map (renamed_key key (folded n)) (keys_along w.objects way)
  keys_on [] = refl
  keys_on (y ∷ way) =
      ap (λ ks. ks ++ keys_along after way) (keys_at y) ∙
      ap (λ ks. map (renamed_key key (folded n)) (keys_defined_on w.objects y) ++ ks) (keys_on way) ∙
      sym (map-append (renamed_key key (folded n)) (keys_defined_on w.objects y) (keys_along w.objects way))

  still_none : (y : ℕ) → object_of after y ≡ None → object_of w.objects y ≡ None
  still_none y h =
      let was = mapped_none (with_renamed_cell key (folded n)) (object_of before y) (sym (at y) ∙ h) in
      ⊎_elim
      (λ e. ap (object_of w.objects) e ∙ mapped_none (with_respelled name n) (object_of w.objects x) (sym here ∙ ap (object_of before) (sym e) ∙ was))
      (λ ne. sym (there y ne) ∙ was)
      (cases_eq y x)

  pub renamed_valid : IsSome (object_of after x)
  renamed_valid = over (object_of after x) refl
    where
      none_some : (o : Option Object) → o ≡ None → IsSome o → ⊥
      none_some None e h = false≢true h
      none_some (Some o) e h = cc

      over : (o : Option Object) → object_of after x ≡ o → IsSome o
      over None e = absurd (none_some (object_of w.objects x) (still_none x e) valid)
      over (Some o) e = refl

  -- what is not within x has no cell for the definition
  apart_at : (y : ℕ) → is_within w.inheritance y x ≡ false → All (λ j. is_that key j ≡ false) (definitions w.objects w.inheritance y)
  apart_at y off = elsewhere_apart x name (definitions w.objects w.inheritance y) (definer_elsewhere w.objects x (y ∷ ancestors w.inheritance y) off)

  fine_before : IsString n → (y : ℕ) → IsFine (thing_of before y)
  fine_before s y = ⊎_elim
      (λ e. rw e (let same = ap (λ o. unwrap_or o nothing) here in rw same (fine_spelled name n (object_of w.objects x) s (f.stocked.fine x))))
      (λ ne. let same = ap (λ o. unwrap_or o nothing) (there y ne) in rw same (f.stocked.fine y))
      (cases_eq y x)

  once_if_free : is_taken w.objects w.inheritance x (folded n) ≡ false → (y : ℕ) → has_twice (names_in (map (renamed_key key (folded n)) (definitions w.objects w.inheritance y))) ≡ false
  once_if_free free y = ⊎_elim
      (λ within.
      let low = within_low w.objects w.inheritance f.parents x valid y within in
      let both = none_passes (λ z. is_within w.inheritance z x && has_name w.objects w.inheritance (folded n) z) (length w.objects) free y low in
      once_after key (folded n) (definitions w.objects w.inheritance y) (f.stocked.names_once y)
      (name_free (folded n) (definitions w.objects w.inheritance y) (right_of (is_within w.inheritance y x) (has_name w.objects w.inheritance (folded n) y) both within)))
      (λ off. let stay = untouched key (folded n) (definitions w.objects w.inheritance y) (apart_at y off) in rw stay (f.stocked.names_once y))
      (cases_Bool (is_within w.inheritance y x))
    where
      right_of : (a b : Bool) → (a && b) ≡ false → a ≡ true → b ≡ false
      right_of true b h e = h
      right_of false b h e = absurd (false≢true e)

  once_then : IsRenamable w x name n → (y : ℕ) → has_twice (names_in (map (renamed_key key (folded n)) (definitions w.objects w.inheritance y))) ≡ false
  once_then r y = ⊎_elim
      (λ same. let stay = same_renamed key (folded n) (definitions w.objects w.inheritance y) same in rw stay (f.stocked.names_once y))
      (λ free. once_if_free free y)
      r.free

  pub renamed_well_formed : IsRenamable w x name n → IsWellFormed (after_rename w x name n)
  renamed_well_formed r =
      let many = length-map before (option_map (with_renamed_cell key (folded n))) ∙ length-set w.objects x (option_map (with_respelled name n) (object_of w.objects x)) in
      record {
        parents = joined_kept w.objects after w.inheritance many still_none f.parents;
        places = joined_kept w.objects after w.containment many still_none f.places;
        stocked = record {
          exact_cells = λ y. ap (map key_of) (cells_at y) ∙ keys_renamed key (folded n) (thing_of w.objects y).cells ∙ ap (map (renamed_key key (folded n))) (f.stocked.exact_cells y) ∙ sym (keys_on (y ∷ ancestors w.inheritance y));
          names_once = λ y. ap (λ ks. has_twice (names_in ks)) (keys_on (y ∷ ancestors w.inheritance y)) ∙ once_then r y;
          own_filled = λ y. let cells = cells_at y in rw cells (each_at (IsFilled y) key (renamed (folded n)) (thing_of w.objects y).cells (λ c e h. h) (f.stocked.own_filled y));
          fine = λ y. let same = ap (λ o. unwrap_or o nothing) (at y) in rw same (fine_renamed key (folded n) (object_of before y) (fine_before r.string y));
        };
        few = rw many f.few;
        few_players = f.few_players;
        player_numbers = f.player_numbers;
        few_programs = omega (arith, programs_renamed w.objects x key name (folded n) n (valid_within w.objects x valid), f.few_programs);
      }

  -- the first cell for the definition is the only one
  only_at : (y : ℕ) → option_map (with_new_cell_name key (folded n)) (object_of before y) ≡ option_map (with_renamed_cell key (folded n)) (object_of before y)
  only_at y = only_renamed key (folded n) (object_of before y)
      (ap (λ cs. has_twice (names_in (map key_of cs))) (cells_before y) ∙ ap (λ ks. has_twice (names_in ks)) (f.stocked.exact_cells y) ∙ f.stocked.names_once y)

  -- other names along a walk rename all cells
  pub along_renamed : (walk : List Step) → IsWalkDown w.inheritance x walk → changed_along (option_map (with_new_cell_name key (folded n))) before (met walk) ≡ after
  along_renamed walk d =
      all_along (option_map (with_new_cell_name key (folded n))) before w.inheritance x walk d
      (walk_members w.objects w.inheritance f.parents x valid walk d before (length-set w.objects x (option_map (with_respelled name n) (object_of w.objects x)))) elsewhere ∙
      same_lists (map (option_map (with_new_cell_name key (folded n))) before) after
      (length-map before (option_map (with_new_cell_name key (folded n))) ∙ sym (length-map before (option_map (with_renamed_cell key (folded n)))))
      (λ y e h.
      let mapped = length-map before (option_map (with_new_cell_name key (folded n))) in
      let renamed = length-map before (option_map (with_renamed_cell key (folded n))) in
      let low : y < length before = omega (arith, mapped) in
      get_or_default (map (option_map (with_new_cell_name key (folded n))) before) y e None h ∙ get_or-map (option_map (with_new_cell_name key (folded n))) before y None None low ∙
      only_at y ∙ sym (get_or_default after y e None (omega (arith, mapped, renamed)) ∙ at y))
    where
      elsewhere : (y : ℕ) → is_within w.inheritance y x ≡ false → option_map (with_new_cell_name key (folded n)) (object_of before y) ≡ object_of before y
      elsewhere y off =
          let cells = cells_before y in
          only_at y ∙ object_untouched key (folded n) (object_of before y)
          (rw cells (key_within (λ j. is_that key j ≡ false) (thing_of w.objects y).cells (let keys = f.stocked.exact_cells y in rw keys (apart_at y off))))
