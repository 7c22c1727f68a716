-- A property that is defined has a value.
use Rattle.std.proofs.Common.{◌≡◌, ℕ, List, [], ◌∷◌, Option, Some, None, Bool, true, ◌&&◌, eqb, refl, sym, ◌∙◌, ap, subst, ⊎_elim, map, slice_get, is_some}
use Rattle.std.specs.List.{list_any, find, filter_map, All}
use Rattle.std.specs.Option.{option_and_then, option_map}
use Rattle.std.proofs.lemmas.List.Folds.{list_any-append}
use Rattle.std.proofs.lemmas.List.Elements.{All-head, All-tail}
use Rattle.std.proofs.lemmas.Bool.{cases_Bool, eqb-true, eq-eqb, or_left, or_right, or_cases, and_from, and_parts, false≢true}
use Rattle.moo_value.specs.Compare.{folded}
use Rattle.moo_world_tree.specs.Forest.{ancestors}
use Rattle.moo_world_object.specs.Names.{same_name}
use Rattle.moo_world_object.specs.Objects.{Object}
use Rattle.moo_world_object.specs.Cells.{Cell, Key, key_of, is_key, cell_at, cell_named}
use Rattle.moo_world_object.proofs.Names.{eq-same_name}
use Rattle.moo_world_table.specs.World.{World, thing_of, keys_defined_on, keys_along, definitions, IsFilled, IsWellFormed}
use Rattle.moo_world_table.specs.Properties.{definition_named, read, value_at, values_above}
use Rattle.moo_world_table.proofs.FittedRows.{found_key}
use Rattle.moo_world_table.proofs.ValueChanges.{definition_found}

-- whether a definition is this one
abbrev is_it : Key → Key → Bool
is_it k j = eqb j.0 k.0 && same_name j.1 k.1

found_is : (t : Key → Bool) (ks : List Key) (k : Key) → find t ks ≡ Some k → list_any (is_it k) ks ≡ true
found_is t [] k h = cc
found_is t (j ∷ js) k h =
    ⊎_elim
    (λ e.
    let s : Some j ≡ Some k = (rw e at h) in
    let same : j ≡ k = cc in
    or_left (is_it k j) (list_any (is_it k) js) (and_from (eqb j.0 k.0) (same_name j.1 k.1) (eq-eqb j.0 k.0 (ap (λ (q : Key). q.0) same)) (eq-same_name j.1 k.1 (ap (λ (q : Key). q.1) same))))
    (λ e. or_right (is_it k j) (list_any (is_it k) js) (found_is t js k (rw e at h)))
    (cases_Bool (t j))

on_definer : (k : Key) (y : ℕ) (ns : List (List ℕ)) → list_any (is_it k) (map (λ n. (y, folded n)) ns) ≡ true → y ≡ k.0
on_definer k y [] h = absurd (false≢true h)
on_definer k y (n ∷ ns) h =
    ⊎_elim
    (λ e. eqb-true y k.0 (and_parts (eqb y k.0) (same_name (folded n) k.1) e).0)
    (λ later. on_definer k y ns later)
    (or_cases (is_it k (y, folded n)) (list_any (is_it k) (map (λ n. (y, folded n)) ns)) h)

-- a definition along a way is on an object of the way
along_way : (objects : List (Option Object)) (k : Key) (way : List ℕ) → list_any (is_it k) (keys_along objects way) ≡ true →
    (list_any (eqb k.0) way ≡ true) × (list_any (is_it k) (keys_defined_on objects k.0) ≡ true)
along_way objects k [] h = absurd (false≢true h)
along_way objects k (y ∷ way) h =
    ⊎_elim
    (λ here.
    let same = on_definer k y (thing_of objects y).defined here in
    (or_left (eqb k.0 y) (list_any (eqb k.0) way) (eq-eqb k.0 y (sym same)), subst (λ z. list_any (is_it k) (keys_defined_on objects z) ≡ true) same here))
    (λ later. let rest = along_way objects k way later in (or_right (eqb k.0 y) (list_any (eqb k.0) way) rest.0, rest.1))
    (or_cases (list_any (is_it k) (keys_defined_on objects y)) (list_any (is_it k) (keys_along objects way)) (sym (list_any-append (is_it k) (keys_defined_on objects y) (keys_along objects way)) ∙ h))

cell_there : (k : Key) (cells : List Cell) → list_any (is_it k) (map key_of cells) ≡ true → (c : Cell) × (cell_at cells k ≡ Some c)
cell_there k [] h = absurd (false≢true h)
cell_there k (c ∷ cs) h = ⊎_elim (λ e. (c, (rw e refl))) (λ e. let rest = cell_there k cs (rw e at h) in (rest.0, (rw e rest.1))) (cases_Bool (is_key k c))

cell_filled : (x : ℕ) (k : Key) (cells : List Cell) (c : Cell) → All (IsFilled x) cells → cell_at cells k ≡ Some c → c.definer ≡ x → is_some c.value ≡ true
cell_filled x k [] c all h own = cc
cell_filled x k (d ∷ ds) c all h own =
    ⊎_elim
    (λ e.
    let s : Some d ≡ Some c = (rw e at h) in
    let same : d ≡ c = cc in
    subst (IsFilled x) same (All-head (IsFilled x) d ds all) own)
    (λ e. cell_filled x k ds c (All-tail (IsFilled x) d ds all) (rw e at h) own)
    (cases_Bool (is_key k d))

some_found : {A : Type 0} (f : ℕ → Option A) (ys : List ℕ) (y : ℕ) → list_any (eqb y) ys ≡ true → is_some (f y) ≡ true → is_some (slice_get (filter_map f ys) 0) ≡ true
some_found {A = A} f [] y on has = absurd (false≢true on)
some_found {A = A} f (z ∷ zs) y on has = over (f z) refl (λ later. some_found f zs y later has)
  where
    over : (r : Option A) → f z ≡ r → (list_any (eqb y) zs ≡ true → is_some (slice_get (filter_map f zs) 0) ≡ true) → is_some (slice_get (filter_map f (z ∷ zs)) 0) ≡ true
    over (Some v) e rest = rw e refl
    over None e rest = rw e (⊎_elim
        (λ same. absurd (false≢true (sym (ap is_some (ap f (eqb-true y z same) ∙ e)) ∙ has)))
        rest
        (or_cases (eqb y z) (list_any (eqb y) zs) on))

module _ (w : World) (x : ℕ) (name : List ℕ) (f : IsWellFormed w) where
  value_of : (k : Key) → definition_named w x name ≡ Some k → is_some (slice_get (values_above w.objects w.inheritance k x) 0) ≡ true
  value_of k is =
      let on = along_way w.objects k (x ∷ ancestors w.inheritance x) (found_is (λ (j : Key). same_name j.1 name) (definitions w.objects w.inheritance x) k is) in
      let cells = (thing_of w.objects k.0).cells in
      let defined : list_any (is_it k) (definitions w.objects w.inheritance k.0) ≡ true =
      list_any-append (is_it k) (keys_defined_on w.objects k.0) (keys_along w.objects (ancestors w.inheritance k.0)) ∙ or_left (list_any (is_it k) (keys_defined_on w.objects k.0)) _ on.1 in
      let found = cell_there k cells (ap (list_any (is_it k)) (f.stocked.exact_cells k.0) ∙ defined) in
      let own = ap (λ (q : Key). q.0) (found_key k cells found.0 found.1) in
      some_found (value_at w.objects k) (x ∷ ancestors w.inheritance x) k.0 on.0
      (ap (λ r. is_some (option_and_then (λ (c : Cell). c.value) r)) found.1 ∙ cell_filled k.0 k cells found.0 (f.stocked.own_filled k.0) found.1 own)

  -- a property has a value just where it is defined on the object or an ancestor
  pub read_defined : is_some (read w x name) ≡ is_some (definition_named w x name)
  read_defined = over (definition_named w x name) refl
    where
      over : (d : Option Key) → definition_named w x name ≡ d → is_some (read w x name) ≡ is_some (definition_named w x name)
      over None e = rw e refl
      over (Some k) e = let some = value_of k e in rw e some

  -- and just there the object has a cell of the name
  pub cell_defined : is_some (cell_named (thing_of w.objects x).cells name) ≡ is_some (definition_named w x name)
  cell_defined = over (cell_named (thing_of w.objects x).cells name) refl ∙ ap is_some
      (sym (definition_found name (thing_of w.objects x).cells) ∙ ap (find (λ (k : Key). same_name k.1 name)) (f.stocked.exact_cells x))
    where
      over : (c : Option Cell) → cell_named (thing_of w.objects x).cells name ≡ c →
          is_some (cell_named (thing_of w.objects x).cells name) ≡ is_some (option_map (λ d. (let k : Key = (d, name) in k)) (option_map (λ (c : Cell). c.definer) (cell_named (thing_of w.objects x).cells name)))
      over None e = rw e refl
      over (Some c) e = rw e refl
