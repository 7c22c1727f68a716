-- Cells fitted along a way up.
use Rattle.std.proofs.Common.{◌≡◌, ℕ, List, [], ◌∷◌, ◌++◌, Option, Some, None, true, false, eqb, refl, sym, ◌∙◌, ap, ⊎_elim, map}
use Rattle.std.specs.List.{All, AllByRecursion, list_any, filter}
use Rattle.std.specs.Option.{unwrap_or}
use Rattle.std.proofs.lemmas.List.{append-nil, map-append}
use Rattle.std.proofs.lemmas.List.Elements.{filter-append, All-nil, All-cons}
use Rattle.std.proofs.lemmas.Bool.{cases_Bool, eqb-true, eqb-false, eq-eqb, ne_eqb, or_parts, and_parts, and_from, and_right}
use Rattle.moo_value.specs.Compare.{folded}
use Rattle.moo_world_object.specs.Names.{same_name}
use Rattle.moo_world_object.proofs.Names.{same_name-true, eq-same_name}
use Rattle.moo_world_tree.specs.Forest.{ancestors, above_of, IsWayUp}
use Rattle.moo_world_tree.proofs.Climbing.{way_up_is_ancestors, not_met}
use Rattle.moo_world_table.specs.World.{World, nothing, thing_of, object_of, keys_defined_on, keys_along, has_twice, fitted_over, fitted_along, IsWellFormed}
use Rattle.moo_world_object.specs.Objects.{Object, fitted_cell, fitted_row}
use Rattle.moo_world_object.specs.Cells.{Cell, Key, is_key, key_of, cell_at, cleared, AreDistinct}

pair_same : (a b : ℕ) (c d : List ℕ) → a ≡ b → c ≡ d → ◌≡◌ {A = Key} (a, c) (b, d)
pair_same a b c d p q = cc

-- what is found for a definition is for it
pub found_key : (k : Key) (cells : List Cell) (c : Cell) → cell_at cells k ≡ Some c → key_of c ≡ k
found_key k [] c h = cc
found_key k (x ∷ xs) c h =
    ⊎_elim
    (λ e.
    let s : Some x ≡ Some c = (rw e at h) in
    let same : x ≡ c = cc in
    let parts = and_parts (eqb x.definer k.0) (same_name x.name k.1) e in
    ap key_of (sym same) ∙ pair_same x.definer k.0 x.name k.1 (eqb-true _ _ parts.0) (same_name-true _ _ parts.1))
    (λ e. found_key k xs c (rw e at h))
    (cases_Bool (is_key k x))

unwrapped_key : (r : Option Cell) (k : Key) (d : Cell) → key_of d ≡ k → ((c : Cell) → r ≡ Some c → key_of c ≡ k) → key_of (unwrap_or r d) ≡ k
unwrapped_key None k d h each = h
unwrapped_key (Some c) k d h each = each c refl

-- a fitted cell is for the same definition
pub fitted_key : (o : Object) (a : Cell) → key_of (fitted_cell o a) ≡ key_of a
fitted_key o a = unwrapped_key (cell_at o.cells (key_of a)) (key_of a) (cleared o.owner a) refl (found_key (key_of a) o.cells)

fitted_keys : (o : Object) (above : List Cell) → map key_of (map (fitted_cell o) above) ≡ map key_of above
fitted_keys o [] = refl
fitted_keys o (a ∷ more) = ap (λ k. k ∷ map key_of (map (fitted_cell o) more)) (fitted_key o a) ∙ ap (λ ks. key_of a ∷ ks) (fitted_keys o more)

-- the cells of its own definitions
abbrev pub own_cells : ℕ → List Cell → List Cell
own_cells x cells = filter (λ c. eqb c.definer x) cells

-- each object has just a cell for each definition on it among those of its own
abbrev pub IsOwnExact : List (Option Object) → Type 0
IsOwnExact objects = (x : ℕ) → map key_of (own_cells x (thing_of objects x).cells) ≡ keys_defined_on objects x

keys_over : (x : ℕ) (o : Option Object) (above : List Cell) → map key_of (own_cells x (unwrap_or o nothing).cells) ≡ map (λ n. (x, folded n)) (unwrap_or o nothing).defined →
    map key_of (fitted_over x o above) ≡ map (λ n. (x, folded n)) (unwrap_or o nothing).defined ++ map key_of above
keys_over x None above own = refl
keys_over x (Some o) above own =
    map-append key_of (own_cells x o.cells) (map (fitted_cell o) above) ∙
    ap (λ ks. ks ++ map key_of (map (fitted_cell o) above)) own ∙ ap (λ ks. map (λ n. (x, folded n)) o.defined ++ ks) (fitted_keys o above)

-- the fitted cells are those of the definitions along the way
pub keys_fitted : (objects : List (Option Object)) → IsOwnExact objects → (way : List ℕ) → map key_of (fitted_along objects way) ≡ keys_along objects way
keys_fitted objects own [] = refl
keys_fitted objects own (x ∷ way) =
    keys_over x (object_of objects x) (fitted_along objects way) (own x) ∙
    ap (λ ks. keys_defined_on objects x ++ ks) (keys_fitted objects own way)

own_keys : (x : ℕ) (cells : List Cell) → map key_of (own_cells x cells) ≡ filter (λ (k : Key). eqb k.0 x) (map key_of cells)
own_keys x [] = refl
own_keys x (c ∷ cs) =
    ⊎_elim (λ e. rw e (ap (λ ks. key_of c ∷ ks) (own_keys x cs))) (λ e. rw e (own_keys x cs)) (cases_Bool (eqb c.definer x))

own_keys_kept : (x : ℕ) (ns : List (List ℕ)) → filter (λ (k : Key). eqb k.0 x) (map (λ n. (x, folded n)) ns) ≡ map (λ n. (x, folded n)) ns
own_keys_kept x [] = refl
own_keys_kept x (n ∷ ns) = let same = eq-eqb x x refl in rw same (ap (λ ks. (x, folded n) ∷ ks) (own_keys_kept x ns))

other_keys_gone : (x y : ℕ) (ns : List (List ℕ)) → eqb y x ≡ false → filter (λ (k : Key). eqb k.0 x) (map (λ n. (y, folded n)) ns) ≡ []
other_keys_gone x y [] ne = refl
other_keys_gone x y (n ∷ ns) ne = rw ne (other_keys_gone x y ns ne)

-- nothing along a way is defined on an object that the way does not meet
pub keys_elsewhere : (objects : List (Option Object)) (x : ℕ) (way : List ℕ) → list_any (eqb x) way ≡ false → filter (λ (k : Key). eqb k.0 x) (keys_along objects way) ≡ []
keys_elsewhere objects x [] apart = refl
keys_elsewhere objects x (y ∷ way) apart =
    let parts = or_parts (eqb x y) (list_any (eqb x) way) apart in
    filter-append (λ (k : Key). eqb k.0 x) (keys_defined_on objects y) (keys_along objects way) ∙
    ap (λ ks. ks ++ filter (λ (k : Key). eqb k.0 x) (keys_along objects way)) (other_keys_gone x y (thing_of objects y).defined (ne_eqb y x (λ e. eqb-false x y parts.0 (sym e)))) ∙
    keys_elsewhere objects x way parts.1

-- in a well formed world each object's own cells are exact
pub own_exact : (w : World) → IsWellFormed w → IsOwnExact w.objects
own_exact w f x =
    let way = ancestors w.inheritance x in
    own_keys x (thing_of w.objects x).cells ∙
    ap (filter (λ (k : Key). eqb k.0 x)) (f.stocked.exact_cells x) ∙
    filter-append (λ (k : Key). eqb k.0 x) (keys_defined_on w.objects x) (keys_along w.objects way) ∙
    ap (λ ks. ks ++ filter (λ (k : Key). eqb k.0 x) (keys_along w.objects way)) (own_keys_kept x (thing_of w.objects x).defined) ∙
    ap (λ ks. keys_defined_on w.objects x ++ ks) (keys_elsewhere w.objects x way (not_met w.inheritance x way (f.parents.forest.rooted x))) ∙
    append-nil (keys_defined_on w.objects x)

-- cells in two parts, by their keys
pub record Split (cells : List Cell) (own rest : List Key) : Type 0 where
  pub first : List Cell
  pub last : List Cell
  pub whole : cells ≡ first ++ last
  pub first_keys : map key_of first ≡ own
  pub last_keys : map key_of last ≡ rest

split_cells : (cells : List Cell) (own rest : List Key) → map key_of cells ≡ own ++ rest → Split cells own rest
split_cells cells [] rest h = record { first = []; last = cells; whole = refl; first_keys = refl; last_keys = h }
split_cells [] (k ∷ own) rest h = cc
split_cells (c ∷ cs) (k ∷ own) rest h =
    let head : key_of c ≡ k = cc in
    let tail : map key_of cs ≡ own ++ rest = cc in
    let s = split_cells cs own rest tail in
    record {
      first = c ∷ s.first;
      last = s.last;
      whole = ap (λ xs. c ∷ xs) s.whole;
      first_keys = ap (λ l. l ∷ map key_of s.first) head ∙ ap (λ ks. k ∷ ks) s.first_keys;
      last_keys = s.last_keys;
    }

pub own_all : (x : ℕ) (cells : List Cell) (ns : List (List ℕ)) → map key_of cells ≡ map (λ n. (x, folded n)) ns → own_cells x cells ≡ cells
own_all x [] ns h = refl
own_all x (c ∷ cs) [] h = cc
own_all x (c ∷ cs) (n ∷ ns) h =
    let head : key_of c ≡ (x, folded n) = cc in
    let tail : map key_of cs ≡ map (λ n. (x, folded n)) ns = cc in
    let mine = eq-eqb c.definer x (ap (λ (k : Key). k.0) head) in
    rw mine (ap (λ xs. c ∷ xs) (own_all x cs ns tail))

no_cells : (cells : List Cell) → map key_of cells ≡ [] → cells ≡ []
no_cells [] h = refl
no_cells (c ∷ cs) h = cc

own_none : (objects : List (Option Object)) (x : ℕ) (cells : List Cell) (way : List ℕ) → list_any (eqb x) way ≡ false → map key_of cells ≡ keys_along objects way → own_cells x cells ≡ []
own_none objects x cells way apart h =
    no_cells (own_cells x cells) (own_keys x cells ∙ ap (filter (λ (k : Key). eqb k.0 x)) h ∙ keys_elsewhere objects x way apart)

-- each of these cells is found for its own definition
abbrev pub AllFound : List Cell → List Cell → Type 0
AllFound cells some = AllByRecursion (λ c. cell_at cells (key_of c) ≡ Some c) some

name_of : Cell → List ℕ
name_of c = c.name

found_later : (c : Cell) (cells some : List Cell) → list_any (same_name c.name) (map (λ (d : Cell). d.name) some) ≡ false → AllFound cells some → AllFound (c ∷ cells) some
found_later c cells [] apart found = tt
found_later c cells (d ∷ ds) apart found =
    let parts = or_parts (same_name c.name d.name) (list_any (same_name c.name) (map (λ (d : Cell). d.name) ds)) apart in
    let other : is_key (key_of d) c ≡ false = and_right (eqb c.definer d.definer) (same_name c.name d.name) parts.0 in
    ((rw other found.0), found_later c cells ds parts.1 found.1)

all_found : (cells : List Cell) → has_twice (map (λ (d : Cell). d.name) cells) ≡ false → AllFound cells cells
all_found [] once = tt
all_found (c ∷ cs) once =
    let parts = or_parts (list_any (same_name c.name) (map (λ (d : Cell). d.name) cs)) (has_twice (map (λ (d : Cell). d.name) cs)) once in
    let mine : is_key (key_of c) c ≡ true = and_from (eqb c.definer c.definer) (same_name c.name c.name) (eq-eqb _ _ refl) (eq-same_name c.name c.name refl) in
    ((rw mine refl), found_later c cs cs parts.0 (all_found cs parts.1))

found_all : (cells some : List Cell) → AllFound cells some → All (λ c. cell_at cells (key_of c) ≡ Some c) some
found_all cells [] found = All-nil (λ c. cell_at cells (key_of c) ≡ Some c)
found_all cells (c ∷ some) found = All-cons (λ d. cell_at cells (key_of d) ≡ Some d) c some found.0 (found_all cells some found.1)

found_last : (cells first last : List Cell) → AllFound cells (first ++ last) → AllFound cells last
found_last cells [] last found = found
found_last cells (c ∷ first) last found = found_last cells first last found.1

-- cells that are found are what fitting gives
fitted_found : (o : Object) (above last : List Cell) → AllFound o.cells last → map key_of last ≡ map key_of above → map (fitted_cell o) above ≡ last
fitted_found o [] [] found h = refl
fitted_found o [] (c ∷ cs) found h = cc
fitted_found o (a ∷ more) [] found h = cc
fitted_found o (a ∷ more) (c ∷ cs) found h =
    let head : key_of c ≡ key_of a = cc in
    let tail : map key_of cs ≡ map key_of more = cc in
    let at : cell_at o.cells (key_of a) ≡ Some c = ap (cell_at o.cells) (sym head) ∙ found.0 in
    let here : fitted_cell o a ≡ c = ap (λ r. unwrap_or r (cleared o.owner a)) at in
    ap (λ d. d ∷ map (fitted_cell o) more) here ∙ ap (λ ds. c ∷ ds) (fitted_found o more cs found.1 tail)

pub names_of_keys : (cells : List Cell) → map (λ (k : Key). k.1) (map key_of cells) ≡ map (λ (d : Cell). d.name) cells
names_of_keys [] = refl
names_of_keys (c ∷ cs) = ap (λ ns. c.name ∷ ns) (names_of_keys cs)

-- a row that has just the cells of its definitions stays as it is
row_stays : (objects : List (Option Object)) (x : ℕ) (o : Object) (above : List Cell) (way : List ℕ) → map key_of o.cells ≡ map (λ n. (x, folded n)) o.defined ++ map key_of above →
    map key_of above ≡ keys_along objects way → list_any (eqb x) way ≡ false → has_twice (map (λ (k : Key). k.1) (map key_of o.cells)) ≡ false → fitted_row x o above ≡ o.cells
row_stays objects x o above way keys above_keys apart once =
    let s = split_cells o.cells (map (λ n. (x, folded n)) o.defined) (map key_of above) keys in
    let names = names_of_keys o.cells in
    let found = found_last o.cells s.first s.last (let w = s.whole in rw (← w) (all_found o.cells (rw names at once))) in
    let rest = fitted_found o above s.last found s.last_keys in
    let mine : own_cells x o.cells ≡ s.first =
    ap (own_cells x) s.whole ∙ filter-append (λ (c : Cell). eqb c.definer x) s.first s.last ∙
    ap (λ cs. cs ++ own_cells x s.last) (own_all x s.first o.defined s.first_keys) ∙
    ap (λ cs. s.first ++ cs) (own_none objects x s.last way apart (s.last_keys ∙ above_keys)) ∙ append-nil s.first in
    ap (λ cs. cs ++ map (fitted_cell o) above) mine ∙ ap (λ cs. s.first ++ cs) rest ∙ sym s.whole

cells_are : (x : ℕ) (o : Option Object) (above : List Cell) → above ≡ [] → o ≡ None → fitted_over x o above ≡ (unwrap_or o nothing).cells
cells_are x None above none h = none
cells_are x (Some o) above none h = cc

stays_over : (objects : List (Option Object)) (x : ℕ) (o : Option Object) (above : List Cell) (way : List ℕ) → (o ≡ None → above ≡ []) →
    map key_of (unwrap_or o nothing).cells ≡ map (λ n. (x, folded n)) (unwrap_or o nothing).defined ++ map key_of above →
    map key_of above ≡ keys_along objects way → list_any (eqb x) way ≡ false → has_twice (map (λ (k : Key). k.1) (map key_of (unwrap_or o nothing).cells)) ≡ false →
    fitted_over x o above ≡ (unwrap_or o nothing).cells
stays_over objects x None above way none keys above_keys apart once = none refl
stays_over objects x (Some o) above way none keys above_keys apart once = row_stays objects x o above way keys above_keys apart once

-- in a well formed world the cells are already fitted to its own tree
pub already_fitted : (w : World) → IsWellFormed w → (x : ℕ) (ys : List ℕ) → IsWayUp w.inheritance x ys → fitted_along w.objects (x ∷ ys) ≡ (thing_of w.objects x).cells
already_fitted w f x [] way =
    let upward = way_up_is_ancestors w.inheritance f.parents.forest.exact x [] way in
    let keys : map key_of (thing_of w.objects x).cells ≡ keys_defined_on w.objects x ++ map key_of [] = f.stocked.exact_cells x ∙ ap (λ ys. keys_along w.objects (x ∷ ys)) upward in
    let once = f.stocked.names_once x in
    stays_over w.objects x (object_of w.objects x) [] [] (λ h. refl) keys refl refl
    (ap (λ ks. has_twice (map (λ (k : Key). k.1) ks)) (f.stocked.exact_cells x) ∙ once)
already_fitted w f x (y ∷ ys) way =
    let upward = way_up_is_ancestors w.inheritance f.parents.forest.exact x (y ∷ ys) way in
    let further = way_up_is_ancestors w.inheritance f.parents.forest.exact y ys way.1 in
    let rest = already_fitted w f y ys way.1 in
    let rest_keys : map key_of (fitted_along w.objects (y ∷ ys)) ≡ keys_along w.objects (y ∷ ys) =
    ap (map key_of) rest ∙ f.stocked.exact_cells y ∙ ap (λ zs. keys_along w.objects (y ∷ zs)) further in
    let keys : map key_of (thing_of w.objects x).cells ≡ keys_defined_on w.objects x ++ map key_of (fitted_along w.objects (y ∷ ys)) =
    f.stocked.exact_cells x ∙ ap (λ zs. keys_along w.objects (x ∷ zs)) upward ∙ ap (λ ks. keys_defined_on w.objects x ++ ks) (sym rest_keys) in
    stays_over w.objects x (object_of w.objects x) (fitted_along w.objects (y ∷ ys)) (y ∷ ys)
    (λ h. absurd (let none : above_of w.inheritance x ≡ None = ap (λ n. n.above) (f.parents.free x h) in let some = way.0 in cc))
    keys rest_keys (not_met w.inheritance x (y ∷ ys) way)
    (ap (λ ks. has_twice (map (λ (k : Key). k.1) ks)) (f.stocked.exact_cells x) ∙ f.stocked.names_once x)

-- in a well formed world no two cells of an object are for the same definition
pub cells_distinct : (w : World) → IsWellFormed w → (x : ℕ) → AreDistinct (thing_of w.objects x).cells
cells_distinct w f x =
    let cells = (thing_of w.objects x).cells in
    found_all cells cells
    (all_found cells (ap has_twice (sym (names_of_keys cells)) ∙ ap (λ ks. has_twice (map (λ (k : Key). k.1) ks)) (f.stocked.exact_cells x) ∙ f.stocked.names_once x))

-- there is no cell for a definition of a name that no cell has
pub unnamed_key : (cells : List Cell) (k : Key) → list_any (λ (j : Key). same_name j.1 k.1) (map key_of cells) ≡ false → cell_at cells k ≡ None
unnamed_key [] k h = refl
unnamed_key (c ∷ cs) k h =
    let parts = or_parts (same_name c.name k.1) (list_any (λ (j : Key). same_name j.1 k.1) (map key_of cs)) h in
    let off : is_key k c ≡ false = and_right (eqb c.definer k.0) (same_name c.name k.1) parts.0 in
    rw off (unnamed_key cs k parts.1)
