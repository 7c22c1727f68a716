-- Where no name occurs twice, what has a name is what is found for it.
use Rattle.std.proofs.Common.{◌≡◌, ℕ, zero, suc, ◌+◌, ◌<◌, List, [], ◌∷◌, Some, true, false, refl, sym, ◌∙◌, ap, ⊎_elim, IfSome, map, get_or, slice_get, length, arith}
use Rattle.std.specs.List.{position, position_or_len, list_any}
use Rattle.std.proofs.lemmas.Bool.{cases_Bool, false≢true, lt-ltb, or_parts}
use Rattle.std.proofs.lemmas.Option.{slice_get_within, slice_get-get_or}
use Rattle.moo_world_object.specs.Names.{same_name}
use Rattle.moo_world_object.specs.Cells.{Cell, Key, is_named, key_of}
use Rattle.moo_world_object.proofs.Names.{same_name-true, eq-same_name}
use Rattle.moo_world_table.specs.World.{has_twice}

abbrev names : List Cell → List (List ℕ)
names cells = map (λ (k : Key). k.1) (map key_of cells)

-- a name at a place is one of the names
stands : (n : List ℕ) (cells : List Cell) (i : ℕ) (c : Cell) → slice_get cells i ≡ Some c → same_name n c.name ≡ true → list_any (same_name n) (names cells) ≡ true
stands n [] i c at same = let past = slice_get_within [] i c at in absurd (omega (arith, past))
stands n (d ∷ ds) zero c at same =
    let here : d ≡ c = cc in
    let on : same_name n d.name ≡ true = ap (λ (q : Cell). same_name n q.name) here ∙ same in
    rw on refl
stands n (d ∷ ds) (suc i) c at same = ⊎_elim (λ e. rw e refl) (λ e. rw e (stands n ds i c at same)) (cases_Bool (same_name n d.name))

placed_first : (name : List ℕ) (cells : List Cell) (i : ℕ) (c : Cell) → has_twice (names cells) ≡ false → slice_get cells i ≡ Some c → is_named name c ≡ true → position_or_len (is_named name) cells ≡ i
placed_first name [] i c once at is = let past = slice_get_within [] i c at in absurd (omega (arith, past))
placed_first name (d ∷ ds) zero c once at is =
    let here : d ≡ c = cc in
    let on : is_named name d ≡ true = ap (is_named name) here ∙ is in
    rw on refl
placed_first name (d ∷ ds) (suc i) c once at is =
    let parts = or_parts (list_any (same_name d.name) (names ds)) (has_twice (names ds)) once in
    ⊎_elim
    (λ e.
    let one : d.name ≡ c.name = same_name-true d.name name e ∙ sym (same_name-true c.name name is) in
    absurd (false≢true (sym parts.0 ∙ stands d.name ds i c at (eq-same_name d.name c.name one))))
    (λ e. let rest = placed_first name ds i c parts.1 at is in let next : 1 + position_or_len (is_named name) ds ≡ suc i = omega (arith, rest) in rw e next)
    (cases_Bool (same_name d.name name))

-- it is the first one
pub place_once : (name : List ℕ) (cells : List Cell) (i : ℕ) (c : Cell) → has_twice (map (λ (k : Key). k.1) (map key_of cells)) ≡ false → slice_get cells i ≡ Some c → is_named name c ≡ true → position (is_named name) cells ≡ Some i
place_once name cells i c once at is =
    let first = placed_first name cells i c once at is in
    let within = lt-ltb i (length cells) (slice_get_within cells i c at) in
    rw (first, within) refl

pub place_found : (name : List ℕ) (cells : List Cell) (i : ℕ) → has_twice (map (λ (k : Key). k.1) (map key_of cells)) ≡ false → i < length cells → IfSome (slice_get cells i) (λ c. is_named name c ≡ true) → Some i ≡ position (is_named name) cells
place_found name [] i once low h = absurd (omega (arith, low))
place_found name (d ∷ ds) i once low h =
    let at = slice_get-get_or (d ∷ ds) i d low in
    sym (place_once name (d ∷ ds) i (get_or (d ∷ ds) i d) once at (rw at at h))
