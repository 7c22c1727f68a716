-- Where a row has the cell for a definition.
use Rattle.std.proofs.Common.{◌≡◌, ℕ, ◌<◌, List, [], ◌∷◌, Option, Some, None, Bool, true, false, eqb, ltb, refl, sym, ◌∙◌, ap, subst, ⊎_elim, get_or, length, slice_get, ◌+◌, ◌++◌, map, take}
use Rattle.std.specs.List.{list_any, find, position, position_or_len}
use Rattle.std.specs.Option.{option_and_then, option_eq, unwrap_or}
use Rattle.std.proofs.lemmas.List.{append_assoc, map-append, take_more}
use Rattle.std.proofs.lemmas.Bool.{cases_Bool, eqb-true, and_parts, or_parts, ltb-false, false≢true}
use Rattle.std.proofs.lemmas.List.Folds.{find_at}
use Rattle.std.proofs.lemmas.Option.{slice_get_past, slice_get-get_or}
use Rattle.moo_world_object.specs.Names.{same_name}
use Rattle.moo_world_object.specs.Cells.{Cell, Key, is_key, key_of, cell_at, cleared, AreDistinct}
use Rattle.moo_world_object.specs.Objects.{Object, fitted_cell}
use Rattle.moo_world_object.proofs.Names.{same_name-true}

-- the result of a search from the front
pub place_found : {X : Type 0} (t : X → Bool) (xs : List X) (r : Option ℕ) → r ≡ position t xs → option_and_then (slice_get xs) r ≡ find t xs
place_found t xs r is = ⊎_elim
    (λ e.
    let at : position t xs ≡ Some (position_or_len t xs) = (rw e refl) in
    ap (option_and_then (slice_get xs)) (is ∙ at) ∙ sym (find_at t xs))
    (λ e.
    let at : position t xs ≡ None = (rw e refl) in
    ap (option_and_then (slice_get xs)) (is ∙ at) ∙ sym (find_at t xs ∙ slice_get_past xs (position_or_len t xs) (ltb-false (position_or_len t xs) (length xs) e)))
    (cases_Bool (ltb (position_or_len t xs) (length xs)))

pair_same : (a b : ℕ) (c d : List ℕ) → a ≡ b → c ≡ d → ◌≡◌ {A = Key} (a, c) (b, d)
pair_same a b c d p q = cc

-- a cell of distinct ones that has a definition's key is the one for it
pub hinted : (cells : List Cell) (i : ℕ) (c : Cell) (k : Key) → AreDistinct cells → i < length cells → c ≡ get_or cells i c → is_key k c ≡ true → slice_get cells i ≡ cell_at cells k
hinted cells i c k once low here on =
    let parts = and_parts (eqb c.definer k.0) (same_name c.name k.1) on in
    let key : key_of c ≡ k = pair_same c.definer k.0 c.name k.1 (eqb-true _ _ parts.0) (same_name-true _ _ parts.1) in
    let found : cell_at cells (key_of c) ≡ Some c = subst (λ d. cell_at cells (key_of d) ≡ Some d) (sym here) (once i c low) in
    slice_get-get_or cells i c low ∙ ap (λ d. Some d) (sym here) ∙ sym (ap (cell_at cells) (sym key) ∙ found)

-- no cell is for a definer of which there is none
pub absent_key : (cells : List Cell) (k : Key) → list_any (λ c. eqb c.definer k.0) cells ≡ false → cell_at cells k ≡ None
absent_key [] k h = refl
absent_key (c ∷ cs) k h =
    let parts = or_parts (eqb c.definer k.0) (list_any (λ d. eqb d.definer k.0) cs) h in
    let off : is_key k c ≡ false = (let e = parts.0 in rw e refl) in
    rw off (absent_key cs k parts.1)

-- the cell at the place that was found
pub fitted_at : (o : Object) (above : Cell) (i : ℕ) (c : Cell) → i < length o.cells → c ≡ get_or o.cells i c → slice_get o.cells i ≡ cell_at o.cells (key_of above) → c ≡ fitted_cell o above
fitted_at o above i c within here found =
    let at : cell_at o.cells (key_of above) ≡ Some c = sym found ∙ slice_get-get_or o.cells i c within ∙ ap (λ d. Some d) (sym here) in
    sym (ap (λ r. unwrap_or r (cleared o.owner above)) at)

pub fitted_new : (o : Object) (above : Cell) → None ≡ cell_at o.cells (key_of above) → cleared o.owner above ≡ fitted_cell o above
fitted_new o above none = ap (λ r. unwrap_or r (cleared o.owner above)) none

pub same_some : (a : Option ℕ) (d : ℕ) → option_eq eqb a (Some d) ≡ true → a ≡ Some d
same_some None d h = absurd (false≢true h)
same_some (Some n) d h = ap (λ m. Some m) (eqb-true n d h)

-- one more cell is fitted
pub one_more : (f : Cell → Cell) (start row new above : List Cell) (i : ℕ) (a c : Cell) → row ≡ start ++ map f (take i above) → new ≡ row ++ c ∷ [] → c ≡ f a → a ≡ get_or above i a → i < length above →
    new ≡ start ++ map f (take (i + 1) above)
one_more f start row new above i a c so_far is fitted at low =
    is ∙ ap (λ xs. xs ++ c ∷ []) so_far ∙ append_assoc start (map f (take i above)) (c ∷ []) ∙
    ap (λ xs. start ++ xs) (
    ap (λ d. map f (take i above) ++ d ∷ []) (fitted ∙ ap f at) ∙
    sym (map-append f (take i above) (get_or above i a ∷ [])) ∙ ap (map f) (sym (take_more above i a low)))
