-- Objects fitted to another tree of parents.
use Rattle.std.proofs.Common.{◌≡◌, ℕ, zero, suc, ◌<◌, ◌≤◌, List, [], ◌∷◌, ◌++◌, Option, Some, None, Bool, false, eqb, refl, sym, ◌∙◌, ap, ⊎_elim, arith, length, get_or, map, true, ltb, subst, ℤ, FitsSigned, w32}
use Rattle.std.specs.List.{range_with_len, All, list_any}
use Rattle.std.specs.Option.{unwrap_or}
use Rattle.std.proofs.lemmas.List.{get_or-map, length-map, get_or_past}
use Rattle.std.proofs.lemmas.List.FromFn.{get_or-map-range_with_len, length-map-range_with_len, get_or-range_with_len, length-range_with_len}
use Rattle.std.proofs.lemmas.List.Folds.{list_any_at}
use Rattle.std.proofs.lemmas.List.Elements.{All-append, All-filter, All-map, All-nil, All-head, All-tail}
use Rattle.std.proofs.lemmas.Bool.{cases_Bool, cases_lt, eqb-true, eqb-false, eq-eqb, ne_eqb, or_parts, or_left, or_right, or_from, or_cases, both_ways, ltb-false, false≢true}
use Rattle.moo_value.specs.Compare.{folded}
use Rattle.moo_world_tree.specs.Forest.{Links, alone, ancestors, climb, above_of}
use Rattle.moo_world_tree.proofs.Climbing.{not_met}
use Rattle.moo_world_table.specs.World.{nothing, thing_of, object_of, keys_defined_on, keys_along, has_twice, has_clash, clashes, fitted_over, fitted_along, with_cells, refitted_object, refitted, IsFilled, IsJoined, IsStocked, IsFine, HasNumbers, HasStored, most, crowds, is_crowded, definitions}
use Rattle.moo_world_object.specs.Objects.{Object, fitted_cell}
use Rattle.moo_world_object.specs.Cells.{Cell, Key, key_of, cleared, cell_at, is_key}
use Rattle.moo_world_table.proofs.FittedRows.{fitted_key, own_cells, IsOwnExact, keys_fitted}

-- the object at each number once refitted
pub object_refitted : (objects : List (Option Object)) (tree : List Links) (x : ℕ) → object_of (refitted objects tree) x ≡ refitted_object objects tree x
object_refitted objects tree x =
    ⊎_elim
    (λ h. get_or-map-range_with_len (refitted_object objects tree) 0 (length objects) x x None h (omega arith))
    (λ past.
    let len = length-map-range_with_len (refitted_object objects tree) 0 (length objects) in
    let here : object_of objects x ≡ None = get_or_past objects x None past in
    get_or_past (refitted objects tree) x None (omega (arith, len)) ∙ sym (ap (λ o. with_cells o (fitted_along objects (x ∷ ancestors tree x))) here))
    (cases_lt x (length objects))

pub length_refitted : (objects : List (Option Object)) (tree : List Links) → length (refitted objects tree) ≡ length objects
length_refitted objects tree = length-map-range_with_len (refitted_object objects tree) 0 (length objects)

pub same_defined : (o : Option Object) (cells : List Cell) → (unwrap_or (with_cells o cells) nothing).defined ≡ (unwrap_or o nothing).defined
same_defined None cells = refl
same_defined (Some o) cells = refl

new_cells : (x : ℕ) (o : Option Object) (above : List Cell) → (o ≡ None → above ≡ []) → (unwrap_or (with_cells o (fitted_over x o above)) nothing).cells ≡ fitted_over x o above
new_cells x None above none = sym (none refl)
new_cells x (Some o) above none = refl

pub defined_refitted : (objects : List (Option Object)) (tree : List Links) (x : ℕ) → keys_defined_on (refitted objects tree) x ≡ keys_defined_on objects x
defined_refitted objects tree x =
    ap (λ o. map (λ n. (x, folded n)) (unwrap_or o nothing).defined) (object_refitted objects tree x) ∙
    ap (map (λ n. (x, folded n))) (same_defined (object_of objects x) (fitted_along objects (x ∷ ancestors tree x)))

pub keys_refitted : (objects : List (Option Object)) (tree : List Links) (way : List ℕ) → keys_along (refitted objects tree) way ≡ keys_along objects way
keys_refitted objects tree [] = refl
keys_refitted objects tree (x ∷ way) =
    ap (λ ks. ks ++ keys_along (refitted objects tree) way) (defined_refitted objects tree x) ∙
    ap (λ ks. keys_defined_on objects x ++ ks) (keys_refitted objects tree way)

-- what is joined to nothing has no ancestors
pub no_ancestors : (tree : List Links) (x : ℕ) → get_or tree x alone ≡ alone → ancestors tree x ≡ []
no_ancestors tree x free = let top : above_of tree x ≡ None = ap (λ n. n.above) free in ap (climb (length tree) tree) top ∙ nothing_met (length tree)
  where
    nothing_met : (n : ℕ) → climb n tree None ≡ []
    nothing_met zero = refl
    nothing_met (suc n) = refl

-- what is not valid is joined to nothing
abbrev pub IsFreeTree : List (Option Object) → List Links → Type 0
IsFreeTree objects tree = (x : ℕ) → object_of objects x ≡ None → get_or tree x alone ≡ alone

pub cells_refitted : (objects : List (Option Object)) (tree : List Links) → IsFreeTree objects tree → (x : ℕ) →
    (thing_of (refitted objects tree) x).cells ≡ fitted_along objects (x ∷ ancestors tree x)
cells_refitted objects tree free x =
    ap (λ o. (unwrap_or o nothing).cells) (object_refitted objects tree x) ∙
    new_cells x (object_of objects x) (fitted_along objects (ancestors tree x)) (λ h. ap (fitted_along objects) (no_ancestors tree x (free x h)))

-- a test that no object passes
pub none_passes : (test : ℕ → Bool) (n : ℕ) → list_any test (range_with_len 0 n) ≡ false → (x : ℕ) → x < n → test x ≡ false
none_passes test n none x h =
    ⊎_elim
    (λ e. absurd (both_ways _ none (list_any_at test (range_with_len 0 n) x 0
    (let len = length-range_with_len 0 n in omega (arith, len))
    (let at = get_or-range_with_len 0 n x 0 h in ap test (at ∙ omega arith) ∙ e))))
    (λ e. e)
    (cases_Bool (test x))

defined_past : (objects : List (Option Object)) (x : ℕ) → length objects ≤ x → keys_defined_on objects x ≡ []
defined_past objects x past = ap (λ o. map (λ n. (x, folded n)) (unwrap_or o nothing).defined) (get_or_past objects x None past)

names_refitted : (objects : List (Option Object)) (tree : List Links) → IsFreeTree objects tree → clashes objects tree ≡ false → (x : ℕ) → has_clash (refitted objects tree) tree x ≡ false
names_refitted objects tree free none x =
    ap (λ ks. has_twice (map (λ (k : Key). k.1) ks)) (keys_refitted objects tree (x ∷ ancestors tree x)) ∙
    ⊎_elim
    (λ h. none_passes (has_clash objects tree) (length objects) none x h)
    (λ past.
    let top = no_ancestors tree x (free x (get_or_past objects x None past)) in
    ap (λ ys. has_twice (map (λ (k : Key). k.1) (keys_defined_on objects x ++ keys_along objects ys))) top ∙
    ap (λ ks. has_twice (map (λ (k : Key). k.1) (ks ++ []))) (defined_past objects x past))
    (cases_lt x (length objects))

pub definer_elsewhere : (objects : List (Option Object)) (x : ℕ) (way : List ℕ) → list_any (eqb x) way ≡ false → All (λ (k : Key). eqb k.0 x ≡ false) (keys_along objects way)
definer_elsewhere objects x [] apart = All-nil (λ (k : Key). eqb k.0 x ≡ false)
definer_elsewhere objects x (y ∷ way) apart =
    let parts = or_parts (eqb x y) (list_any (eqb x) way) apart in
    All-append (λ (k : Key). eqb k.0 x ≡ false) (keys_defined_on objects y) (keys_along objects way)
    (All-map (λ (k : Key). eqb k.0 x ≡ false) (λ n. (y, folded n)) (thing_of objects y).defined (λ k d h. ne_eqb y x (λ e. eqb-false x y parts.0 (sym e))))
    (definer_elsewhere objects x way parts.1)

pub key_within : (P : Key → Type 0) (cells : List Cell) → All P (map key_of cells) → All (λ c. P (key_of c)) cells
key_within P cells all k d h =
    let at = get_or-map key_of cells k d (key_of d) h in
    rw (← at) (all k (key_of d) (let len = length-map cells key_of in omega (arith, len)))

-- the cells of an object's own definitions keep their values
filled_over : (x : ℕ) (o : Option Object) (above : List Cell) → (o ≡ None → above ≡ []) → All (IsFilled x) (unwrap_or o nothing).cells → All (λ (c : Cell). eqb c.definer x ≡ false) above → All (IsFilled x) (fitted_over x o above)
filled_over x None above none old other = let e = none refl in rw e (All-nil (IsFilled x))
filled_over x (Some o) above none old other =
    All-append (IsFilled x) (own_cells x o.cells) (map (fitted_cell o) above)
    (All-filter (λ (c : Cell). eqb c.definer x) (IsFilled x) o.cells old)
    (All-map (IsFilled x) (fitted_cell o) above (λ k d h mine.
    absurd (eqb-false _ _ (other k d h) (sym (ap (λ (q : Key). q.0) (fitted_key o (get_or above k d))) ∙ mine))))

-- a test that every number fails
pub all_fail : (test : ℕ → Bool) (ys : List ℕ) → ((x : ℕ) → list_any (eqb x) ys ≡ true → test x ≡ false) → list_any test ys ≡ false
all_fail test [] none = refl
all_fail test (y ∷ ys) none =
    or_from (test y) (list_any test ys) (none y (or_left (eqb y y) (list_any (eqb y) ys) (eq-eqb y y refl)))
    (all_fail test ys (λ x h. none x (or_right (eqb x y) (list_any (eqb x) ys) h)))

-- a number that passes
pub passes : (t : ℕ → Bool) (ys : List ℕ) → list_any t ys ≡ true → (y : ℕ) × (list_any (eqb y) ys ≡ true) × (t y ≡ true)
passes t [] h = absurd (false≢true h)
passes t (y ∷ ys) h =
    ⊎_elim
    (λ e. (y, or_left (eqb y y) (list_any (eqb y) ys) (eq-eqb y y refl), e))
    (λ later. let r = passes t ys later in (r.0, or_right (eqb r.0 y) (list_any (eqb r.0) ys) r.1, r.2))
    (or_cases (t y) (list_any t ys) h)

-- a number of a list that none of passes
pub fails : (t : ℕ → Bool) (ys : List ℕ) (y : ℕ) → list_any t ys ≡ false → list_any (eqb y) ys ≡ true → t y ≡ false
fails t [] y none here = absurd (false≢true here)
fails t (z ∷ ys) y none here =
    let parts = or_parts (t z) (list_any t ys) none in
    ⊎_elim (λ e. ap t (eqb-true y z e) ∙ parts.0) (λ later. fails t ys y parts.1 later) (or_cases (eqb y z) (list_any (eqb y) ys) here)

-- values that may be stored
abbrev pub IsStoredCell : Cell → Type 0
IsStoredCell c = HasStored c.value

stored_unwrapped : (r : Option Cell) (d : Cell) → IsStoredCell d → ((c : Cell) → r ≡ Some c → IsStoredCell c) → IsStoredCell (unwrap_or r d)
stored_unwrapped None d h each = h
stored_unwrapped (Some c) d h each = each c refl

found_stored : (k : Key) (cells : List Cell) (c : Cell) → All IsStoredCell cells → cell_at cells k ≡ Some c → IsStoredCell c
found_stored k [] c all h = cc
found_stored k (x ∷ xs) c all h =
    ⊎_elim
    (λ e.
    let s : Some x ≡ Some c = (rw e at h) in
    let same : x ≡ c = cc in
    subst IsStoredCell same (All-head IsStoredCell x xs all))
    (λ e. found_stored k xs c (All-tail IsStoredCell x xs all) (rw e at h))
    (cases_Bool (is_key k x))

stored_over : (x : ℕ) (o : Option Object) (above : List Cell) → (o ≡ None → above ≡ []) → All IsStoredCell (unwrap_or o nothing).cells → All IsStoredCell (fitted_over x o above)
stored_over x None above none old = let e = none refl in rw e (All-nil IsStoredCell)
stored_over x (Some o) above none old =
    All-append IsStoredCell (own_cells x o.cells) (map (fitted_cell o) above)
    (All-filter (λ (c : Cell). eqb c.definer x) IsStoredCell o.cells old)
    (All-map IsStoredCell (fitted_cell o) above (λ k d h.
    let a = get_or above k d in
    stored_unwrapped (cell_at o.cells (key_of a)) (cleared o.owner a) tt (λ c found. found_stored (key_of a) o.cells c old found)))

-- cells whose owners are numbers of 32 bits
abbrev pub IsOwnedCell : Cell → Type 0
IsOwnedCell c = FitsSigned w32 c.owner

pub owned_cleared : (owner : ℤ) (a : Cell) → FitsSigned w32 owner → IsOwnedCell a → IsOwnedCell (cleared owner a)
owned_cleared owner a mine above = ⊎_elim (λ e. rw e mine) (λ e. rw e above) (cases_Bool a.perms.change_owner)

owned_unwrapped : (r : Option Cell) (d : Cell) → IsOwnedCell d → ((c : Cell) → r ≡ Some c → IsOwnedCell c) → IsOwnedCell (unwrap_or r d)
owned_unwrapped None d h each = h
owned_unwrapped (Some c) d h each = each c refl

found_owned : (k : Key) (cells : List Cell) (c : Cell) → All IsOwnedCell cells → cell_at cells k ≡ Some c → IsOwnedCell c
found_owned k [] c all h = cc
found_owned k (x ∷ xs) c all h =
    ⊎_elim
    (λ e.
    let s : Some x ≡ Some c = (rw e at h) in
    let same : x ≡ c = cc in
    subst IsOwnedCell same (All-head IsOwnedCell x xs all))
    (λ e. found_owned k xs c (All-tail IsOwnedCell x xs all) (rw e at h))
    (cases_Bool (is_key k x))

owned_over : (x : ℕ) (o : Option Object) (above : List Cell) → HasNumbers (unwrap_or o nothing) → All IsOwnedCell above → All IsOwnedCell (fitted_over x o above)
owned_over x None above n all = all
owned_over x (Some o) above n all =
    All-append IsOwnedCell (own_cells x o.cells) (map (fitted_cell o) above)
    (All-filter (λ (c : Cell). eqb c.definer x) IsOwnedCell o.cells n.cells)
    (All-map IsOwnedCell (fitted_cell o) above (λ k d h.
    let a = get_or above k d in
    owned_unwrapped (cell_at o.cells (key_of a)) (cleared o.owner a) (owned_cleared o.owner a n.owner (all k d h)) (λ c found. found_owned (key_of a) o.cells c n.cells found)))

owned_along : (objects : List (Option Object)) → ((x : ℕ) → HasNumbers (thing_of objects x)) → (way : List ℕ) → All IsOwnedCell (fitted_along objects way)
owned_along objects n [] = All-nil IsOwnedCell
owned_along objects n (x ∷ way) = owned_over x (object_of objects x) (fitted_along objects way) (n x) (owned_along objects n way)

-- an object with other cells keeps the limits if these do
pub fine_with_cells : (o : Option Object) (cells : List Cell) → IsFine (unwrap_or o nothing) → All IsStoredCell (unwrap_or (with_cells o cells) nothing).cells → All IsOwnedCell (unwrap_or (with_cells o cells) nothing).cells → length (unwrap_or (with_cells o cells) nothing).cells ≤ most →
    IsFine (unwrap_or (with_cells o cells) nothing)
fine_with_cells None cells f stored owned few = f
fine_with_cells (Some o) cells f stored owned few = record {
  name = f.name;
  names = f.names;
  values = stored;
  few_cells = few;
  verb_names = f.verb_names;
  few_verbs = f.few_verbs;
  numbers = record { owner = f.numbers.owner; cells = owned; verbs = f.numbers.verbs };
}

pub kept_none : (o : Option Object) (cells : List Cell) → with_cells o cells ≡ None → o ≡ None
kept_none None cells h = refl
kept_none (Some o) cells h = cc

pub was_none : (objects : List (Option Object)) (tree : List Links) (x : ℕ) → object_of (refitted objects tree) x ≡ None → object_of objects x ≡ None
was_none objects tree x h = kept_none (object_of objects x) (fitted_along objects (x ∷ ancestors tree x)) (sym (object_refitted objects tree x) ∙ h)

-- as many objects, and what is valid stays so
pub joined_kept : (old new : List (Option Object)) (tree : List Links) → length new ≡ length old → ((x : ℕ) → object_of new x ≡ None → object_of old x ≡ None) → IsJoined old tree → IsJoined new tree
joined_kept old new tree many none f = record { forest = f.forest; many = f.many ∙ sym many; free = λ x h. f.free x (none x h) }

-- objects fitted to a tree have what they should, if no object has two definitions of one name or too many properties
pub fitted_stocked : (objects : List (Option Object)) (tree : List Links) → IsJoined objects tree → IsOwnExact objects → ((x : ℕ) → All (IsFilled x) (thing_of objects x).cells) →
    ((x : ℕ) → IsFine (thing_of objects x)) → clashes objects tree ≡ false → crowds objects tree ≡ false → IsStocked (refitted objects tree) tree
fitted_stocked objects tree f own filled fine none room = record {
  exact_cells = exact;
  names_once = names_refitted objects tree f.free none;
  own_filled = λ x. let cells = cells_refitted objects tree f.free x in rw cells
      (filled_over x (object_of objects x) (fitted_along objects (ancestors tree x)) (over_none x)
      (filled x)
      (key_within (λ (k : Key). eqb k.0 x ≡ false) (fitted_along objects (ancestors tree x))
      (let keys = keys_fitted objects own (ancestors tree x) in rw keys
      (definer_elsewhere objects x (ancestors tree x) (not_met tree x (ancestors tree x) (f.forest.rooted x))))));
  fine = λ x. let same = object_refitted objects tree x in rw same
      (fine_with_cells (object_of objects x) (fitted_along objects (x ∷ ancestors tree x)) (fine x)
      (let cells = sym (ap (λ o. (unwrap_or o nothing).cells) same) ∙ cells_refitted objects tree f.free x in rw cells (stored_along x))
      (let cells = sym (ap (λ o. (unwrap_or o nothing).cells) same) ∙ cells_refitted objects tree f.free x in rw cells (owned_along objects (λ y. (fine y).numbers) (x ∷ ancestors tree x)))
      (let many = ap (λ o. length (unwrap_or o nothing).cells) (sym same) ∙ sym (length-map (thing_of (refitted objects tree) x).cells key_of) ∙ ap length (exact x ∙ keys_refitted objects tree (x ∷ ancestors tree x)) in
      rw many (few_definitions x)));
}
  where
    over_none : (x : ℕ) → object_of objects x ≡ None → fitted_along objects (ancestors tree x) ≡ []
    over_none x h = ap (fitted_along objects) (no_ancestors tree x (f.free x h))

    exact : (x : ℕ) → map key_of (thing_of (refitted objects tree) x).cells ≡ definitions (refitted objects tree) tree x
    exact x = ap (map key_of) (cells_refitted objects tree f.free x) ∙ keys_fitted objects own (x ∷ ancestors tree x) ∙ sym (keys_refitted objects tree (x ∷ ancestors tree x))

    stored_along : (x : ℕ) → All IsStoredCell (fitted_along objects (x ∷ ancestors tree x))
    stored_along x = stored_over x (object_of objects x) (fitted_along objects (ancestors tree x)) (over_none x) (fine x).values

    few_definitions : (x : ℕ) → length (definitions objects tree x) ≤ most
    few_definitions x = ⊎_elim
        (λ h. not_past (length (definitions objects tree x)) (none_passes (is_crowded objects tree) (length objects) room x h))
        (λ past.
        let top = no_ancestors tree x (f.free x (get_or_past objects x None past)) in
        let nothing_there = ap (λ ks. ks ++ keys_along objects (ancestors tree x)) (defined_past objects x past) ∙ ap (keys_along objects) top in
        let none_at_all = ap length nothing_there in omega (arith, none_at_all))
        (cases_lt x (length objects))
      where
        not_past : (n : ℕ) → ltb most n ≡ false → n ≤ most
        not_past n h = ltb-false most n h

-- an object with the cells that it has is itself
pub cells_stay : (o : Option Object) → with_cells o (unwrap_or o nothing).cells ≡ o
cells_stay None = refl
cells_stay (Some o) = refl
