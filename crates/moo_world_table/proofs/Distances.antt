-- The cells of one definition, of an object and of its ancestors, are at one distance from the ends of their rows.
use Rattle.std.proofs.Common.{◌≡◌, ℕ, suc, ◌+◌, ◌-◌, ◌<◌, ◌≤◌, List, [], ◌∷◌, ◌++◌, Option, Some, None, Bool, true, false, ◌&&◌, eqb, leb, ltb, refl, sym, ◌∙◌, ap, subst, ⊎_elim, IfSome, arith, length, map, get_or, slice_get}
use Rattle.std.specs.List.{position, position_or_len, list_any, filter_map, cons_option}
use Rattle.std.specs.Option.{option_and_then, unwrap_or}
use Rattle.std.proofs.lemmas.Bool.{cases_Bool, cases_lt, and_parts, and_right, or_parts, eq-eqb, le-leb, lt-leb, lt-ltb, ltb-true, ltb-false}
use Rattle.std.proofs.lemmas.List.{length-map, get_or_read}
use Rattle.std.proofs.lemmas.List.Folds.{find_at}
use Rattle.std.proofs.lemmas.List.Sums.{position_or_len_is, fails_before_first}
use Rattle.std.proofs.lemmas.Option.{slice_get_past, slice_get-get_or}
use Rattle.moo_world_tree.specs.Forest.{Links, IsWayUp, IsForest, ancestors, climb, above_of}
use Rattle.moo_world_tree.proofs.Climbing.{way_up_is_ancestors}
use Rattle.moo_world_object.specs.Names.{same_name}
use Rattle.moo_world_object.specs.Cells.{Cell, Key, is_key, is_named, key_of, cell_at}
use Rattle.moo_world_object.specs.Objects.{Object}
use Rattle.moo_world_object.proofs.Names.{same_name-true, same_name-false}
use Rattle.moo_world_table.specs.World.{has_twice, thing_of, keys_defined_on, keys_along, IsStocked}
use Rattle.moo_world_table.specs.Properties.{value_at, distance_of, cell_from_end, value_from_end, value_from_end_at}
use Rattle.moo_world_table.proofs.Once.{place_once}

abbrev names : List Key → List (List ℕ)
names ks = map (λ (k : Key). k.1) ks

-- whether this is the key of a definition
abbrev matches : Key → Key → Bool
matches k j = eqb j.0 k.0 && same_name j.1 k.1

-- a place, the number of elements if there is none, and its distance from the end, 0 or beyond all if there is none
record IsDistance (distance place many : ℕ) : Type 0 where
  found : place < many → place + distance ≡ many
  missing : many ≤ place → 0 < distance → many < distance

at_first : (distance place p m many : ℕ) → p ≡ 0 → m ≡ 1 + many → many ≤ place → IsDistance distance p m → IsDistance distance place many
at_first distance place p m many first more past h = record {
  found = λ low. absurd (omega (arith, low, past));
  missing = λ _ _. omega (arith, first, more, h.found (omega (arith, first, more)));
}

later : (distance place p m many : ℕ) → p ≡ 1 + place → m ≡ 1 + many → IsDistance distance p m → IsDistance distance place many
later distance place p m many next more h = record {
  found = λ low. omega (arith, next, more, h.found (omega (arith, low, next, more)));
  missing = λ past some. omega (arith, more, h.missing (omega (arith, past, next, more)) some);
}

other_key : (k j i : Key) → matches k j ≡ true → same_name j.1 i.1 ≡ false → matches k i ≡ false
other_key k j i is apart = ⊎_elim
    (λ same.
    let p = and_parts (eqb j.0 k.0) (same_name j.1 k.1) is in
    let q = and_parts (eqb i.0 k.0) (same_name i.1 k.1) same in
    absurd (same_name-false j.1 i.1 apart (same_name-true j.1 k.1 p.1 ∙ sym (same_name-true i.1 k.1 q.1))))
    (λ e. e)
    (cases_Bool (matches k i))

-- a definition of a name that no key has is not among the keys
nowhere : (k j : Key) (ks : List Key) → matches k j ≡ true → list_any (same_name j.1) (names ks) ≡ false → length ks ≤ position_or_len (matches k) ks
nowhere k j [] is none = omega arith
nowhere k j (i ∷ ks) is none =
    let parts = or_parts (same_name j.1 i.1) (list_any (same_name j.1) (names ks)) none in
    let off : matches k i ≡ false = other_key k j i is parts.0 in
    let rest = nowhere k j ks is parts.1 in
    rw off (omega (arith, rest))

one_less : (k j : Key) (distance : ℕ) (ks : List Key) → list_any (same_name j.1) (names ks) ≡ false → IsDistance distance (position_or_len (matches k) (j ∷ ks)) (length (j ∷ ks)) →
    IsDistance distance (position_or_len (matches k) ks) (length ks)
one_less k j distance ks none h = ⊎_elim
    (λ on. at_first distance (position_or_len (matches k) ks) (position_or_len (matches k) (j ∷ ks)) (length (j ∷ ks)) (length ks) (rw on refl) (omega arith) (nowhere k j ks on none) h)
    (λ off. later distance (position_or_len (matches k) ks) (position_or_len (matches k) (j ∷ ks)) (length (j ∷ ks)) (length ks) (rw off refl) (omega arith) h)
    (cases_Bool (matches k j))

-- without the first keys
further : (k : Key) (distance : ℕ) (own rest : List Key) → has_twice (names (own ++ rest)) ≡ false → IsDistance distance (position_or_len (matches k) (own ++ rest)) (length (own ++ rest)) →
    IsDistance distance (position_or_len (matches k) rest) (length rest)
further k distance [] rest once h = h
further k distance (j ∷ own) rest once h =
    let parts = or_parts (list_any (same_name j.1) (names (own ++ rest))) (has_twice (names (own ++ rest))) once in
    further k distance own rest parts.1 (one_less k j distance (own ++ rest) parts.0 h)

-- the place of a key is that of its cell
place_of_key : (k : Key) (cells : List Cell) → position_or_len (matches k) (map key_of cells) ≡ position_or_len (is_key k) cells
place_of_key k [] = refl
place_of_key k (c ∷ cs) =
    let rest = place_of_key k cs in
    ⊎_elim (λ on. rw on refl) (λ off. rw off (omega (arith, rest))) (cases_Bool (is_key k c))

none_there : (distance : ℕ) (cells : List Cell) → (0 < distance → length cells < distance) → cell_from_end distance cells ≡ None
none_there distance cells far = ⊎_elim
    (λ some. let off : leb distance (length cells) ≡ false = lt-leb distance (length cells) (far some) in rw off refl)
    (λ none.
    let on : leb distance (length cells) ≡ true = le-leb distance (length cells) (omega (arith, none)) in
    rw on (slice_get_past cells (length cells - distance) (omega (arith, none))))
    (cases_lt 0 distance)

-- the cell of a definition is the one at its distance
cell_there : (k : Key) (distance : ℕ) (cells : List Cell) → IsDistance distance (position_or_len (is_key k) cells) (length cells) → cell_at cells k ≡ cell_from_end distance cells
cell_there k distance cells h = ⊎_elim
    (λ low.
    let sum = h.found low in
    let on : leb distance (length cells) ≡ true = le-leb distance (length cells) (omega (arith, sum)) in
    let place : position_or_len (is_key k) cells ≡ length cells - distance = omega (arith, sum) in
    let there : cell_from_end distance cells ≡ slice_get cells (length cells - distance) = rw on refl in
    find_at (is_key k) cells ∙ ap (slice_get cells) place ∙ sym there)
    (λ past. find_at (is_key k) cells ∙ slice_get_past cells (position_or_len (is_key k) cells) past ∙ sym (none_there distance cells (h.missing past)))
    (cases_lt (position_or_len (is_key k) cells) (length cells))

-- the distance from the end is one
is_distance : (k : Key) (cells : List Cell) (distance : ℕ) → distance ≡ distance_of k cells → IsDistance distance (position_or_len (is_key k) cells) (length cells)
is_distance k cells distance is = ⊎_elim
    (λ on.
    let at : distance_of k cells ≡ length cells - position_or_len (is_key k) cells = rw on refl in
    let low = ltb-true (position_or_len (is_key k) cells) (length cells) on in
    record { found = λ _. omega (arith, is, at, low); missing = λ past _. absurd (omega (arith, past, low)) })
    (λ off.
    let at : distance_of k cells ≡ 0 = rw off refl in
    let past = ltb-false (position_or_len (is_key k) cells) (length cells) off in
    record { found = λ low. absurd (omega (arith, past, low)); missing = λ _ some. absurd (omega (arith, is, at, some)) })
    (cases_Bool (ltb (position_or_len (is_key k) cells) (length cells)))

-- a cell with the name and the definer of a definition is the first one for it
pub place_of_definition : (definer : ℕ) (name : List ℕ) (cells : List Cell) (i : ℕ) (c : Cell) → has_twice (names (map key_of cells)) ≡ false → i < length cells → c ≡ get_or cells i c →
    IfSome (slice_get cells i) (λ d. is_named name d ≡ true) → c.definer ≡ definer → position (is_key (definer, name)) cells ≡ Some i
place_of_definition definer name cells i c once low here named own =
    let at : slice_get cells i ≡ Some c = slice_get-get_or cells i c low ∙ ap (λ d. Some d) (sym here) in
    let on : is_named name c ≡ true = rw at at named in
    let first = place_once name cells i c once at on in
    let place = first_of_name name cells i first in
    let is : position_or_len (is_key (definer, name)) cells ≡ i =
    position_or_len_is (is_key (definer, name)) cells i c (omega (arith, low))
    (λ k before. not_named (definer, name) (get_or cells k c) (fails_before_first (is_named name) cells k c (omega (arith, place, before))))
    (λ _. subst (λ d. is_key (definer, name) d ≡ true) here (both c.definer definer (is_named name c) own on)) in
    let within = lt-ltb i (length cells) low in
    rw (is, within) refl
  where
    first_of_name : (name : List ℕ) (cells : List Cell) (i : ℕ) → position (is_named name) cells ≡ Some i → position_or_len (is_named name) cells ≡ i
    first_of_name name cells i e = ⊎_elim
        (λ on. let at : position (is_named name) cells ≡ Some (position_or_len (is_named name) cells) = rw on refl in ap (λ o. unwrap_or o 0) (sym at ∙ e))
        (λ off. absurd (let at : position (is_named name) cells ≡ None = rw off refl in cc))
        (cases_Bool (ltb (position_or_len (is_named name) cells) (length cells)))

    not_named : (k : Key) (c : Cell) → is_named k.1 c ≡ false → is_key k c ≡ false
    not_named k c off = and_right (eqb c.definer k.0) (is_named k.1 c) off

    both : (a b : ℕ) (named : Bool) → a ≡ b → named ≡ true → (eqb a b && named) ≡ true
    both a b named same on = let e = eq-eqb a b same in rw (e, on) refl

module _ (objects : List (Option Object)) (tree : List Links) (stocked : IsStocked objects tree) (forest : IsForest tree) where
  abbrev cells_at : ℕ → List Cell
  cells_at x = (thing_of objects x).cells

  pub names_once : (x : ℕ) → has_twice (names (map key_of (cells_at x))) ≡ false
  names_once x = ap (λ ks. has_twice (names ks)) (stocked.exact_cells x) ∙ stocked.names_once x

  -- the keys of an object are its own and then those of its parent
  keys_below : (x y : ℕ) (ys : List ℕ) → IsWayUp tree x (y ∷ ys) → map key_of (cells_at x) ≡ keys_defined_on objects x ++ map key_of (cells_at y)
  keys_below x y ys way =
      let upward = way_up_is_ancestors tree forest.exact x (y ∷ ys) way in
      let rest = way_up_is_ancestors tree forest.exact y ys way.1 in
      stocked.exact_cells x ∙ ap (λ zs. keys_along objects (x ∷ zs)) upward
      ∙ ap (λ ks. keys_defined_on objects x ++ ks) (ap (λ zs. keys_along objects (y ∷ zs)) (sym rest) ∙ sym (stocked.exact_cells y))

  value_there : (k : Key) (distance x : ℕ) → IsDistance distance (position_or_len (matches k) (map key_of (cells_at x))) (length (map key_of (cells_at x))) → value_at objects k x ≡ value_from_end_at objects distance x
  value_there k distance x h =
      ap (option_and_then (λ (c : Cell). c.value)) (cell_there k distance (cells_at x) (
      subst (λ m. IsDistance distance (position_or_len (is_key k) (cells_at x)) m) (length-map (cells_at x) key_of)
      (subst (λ p. IsDistance distance p (length (map key_of (cells_at x)))) (place_of_key k (cells_at x)) h)))

  values_there : (k : Key) (distance x : ℕ) (way : List ℕ) → IsWayUp tree x way → IsDistance distance (position_or_len (matches k) (map key_of (cells_at x))) (length (map key_of (cells_at x))) →
      filter_map (value_at objects k) (x ∷ way) ≡ filter_map (value_from_end_at objects distance) (x ∷ way)
  values_there k distance x [] up h = ap (λ v. cons_option v []) (value_there k distance x h)
  values_there k distance x (y ∷ ys) up h =
      let keys = keys_below x y ys up in
      let once : has_twice (names (keys_defined_on objects x ++ map key_of (cells_at y))) ≡ false = ap (λ ks. has_twice (names ks)) (sym keys) ∙ names_once x in
      let there = further k distance (keys_defined_on objects x) (map key_of (cells_at y)) once (subst (λ ks. IsDistance distance (position_or_len (matches k) ks) (length ks)) keys h) in
      ap (λ v. cons_option v (filter_map (value_at objects k) (y ∷ ys))) (value_there k distance x h)
      ∙ ap (λ vs. cons_option (value_from_end_at objects distance x) vs) (values_there k distance y ys up.1 there)

  -- the values for a definition on the way up are those at its distance
  pub same_values : (k : Key) (x distance : ℕ) → distance ≡ distance_of k (cells_at x) →
      filter_map (value_at objects k) (x ∷ ancestors tree x) ≡ filter_map (value_from_end_at objects distance) (x ∷ ancestors tree x)
  same_values k x distance is =
      values_there k distance x (ancestors tree x) (forest.rooted x) (
      subst (λ m. IsDistance distance (position_or_len (matches k) (map key_of (cells_at x))) m) (sym (length-map (cells_at x) key_of))
      (subst (λ p. IsDistance distance p (length (cells_at x))) (sym (place_of_key k (cells_at x))) (is_distance k (cells_at x) distance is)))

-- one step up, to an object without a value at this distance
pub nothing_here : (objects : List (Option Object)) (tree : List Links) (distance n m at up : ℕ) (o : Option Object) → n ≡ suc m → above_of tree at ≡ Some up → up < length objects → o ≡ get_or objects up o →
    None ≡ value_from_end distance o →
    filter_map (value_from_end_at objects distance) (climb n tree (above_of tree at)) ≡ filter_map (value_from_end_at objects distance) (climb m tree (above_of tree up))
nothing_here objects tree distance n m at up o more above within here none =
    let nothing_up : value_from_end_at objects distance up ≡ None = sym (none ∙ ap (value_from_end distance) (get_or_read objects up o within here None)) in
    rw (more, above, nothing_up) refl
