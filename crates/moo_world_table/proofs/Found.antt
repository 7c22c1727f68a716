-- The cell that is found by its name, and a value put in its place.
use Rattle.std.proofs.Common.{◌≡◌, ℕ, suc, ◌<◌, ◌+◌, ◌&&◌, arith, List, [], ◌∷◌, Option, Some, None, Bool, true, false, eqb, ltb, refl, sym, ◌∙◌, ap, ⊎_elim, length, slice_get}
use Rattle.std.specs.List.{find, position, position_or_len}
use Rattle.std.specs.Option.{option_map, option_and_then, unwrap_or}
use Rattle.std.proofs.lemmas.Bool.{cases_Bool, eq-eqb, ltb-true}
use Rattle.std.proofs.lemmas.List.Folds.{find_at}
use Rattle.moo_value.specs.Tree.{Tree}
use Rattle.moo_world_object.specs.Names.{same_name}
use Rattle.moo_world_object.specs.Cells.{Cell, Key, is_key, is_named, cell_at, cell_named, with_value, valued}
use Rattle.moo_world_object.specs.Verbs.{changed_at}
use Rattle.moo_world_object.specs.Objects.{Object}
use Rattle.moo_world_table.specs.World.{World, nothing, thing_of, IsWellFormed}
use Rattle.moo_world_table.specs.Changes.{with_value_of, with_value_at}
use Rattle.moo_world_table.specs.Properties.{definition_named, read, value_at}
use Rattle.moo_world_table.proofs.ValueChanges.{definition_found}

-- the cell of a name is the one for its definition
key_here : (name : List ℕ) (cells : List Cell) (c : Cell) → cell_named cells name ≡ Some c → cell_at cells (c.definer, name) ≡ Some c
key_here name [] c h = absurd (cc)
key_here name (d ∷ ds) c h =
    ⊎_elim
    (λ e.
    let found : Some d ≡ Some c = (rw e at h) in
    let same : d ≡ c = cc in
    let own = eq-eqb d.definer c.definer (ap (λ (q : Cell). q.definer) same) in
    let on : is_key (c.definer, name) d ≡ true = (rw own e) in
    rw on found)
    (λ e.
    let rest = key_here name ds c (rw e at h) in
    let off : is_key (c.definer, name) d ≡ false = other (eqb d.definer c.definer) (same_name d.name name) e in
    rw off rest)
    (cases_Bool (same_name d.name name))
  where
    other : (a b : Bool) → b ≡ false → (a && b) ≡ false
    other true b e = e
    other false b e = refl

module _ (w : World) (x : ℕ) (name : List ℕ) (c : Cell) (f : IsWellFormed w) (found : cell_named (thing_of w.objects x).cells name ≡ Some c) where
  -- and determines which definition has the name
  pub named_definition : Some (let k : Key = (c.definer, name) in k) ≡ definition_named w x name
  named_definition =
      ap (λ r. option_map (λ d. (let k : Key = (d, name) in k)) (option_map (λ (c : Cell). c.definer) r)) (sym found) ∙
      sym (definition_found name (thing_of w.objects x).cells) ∙ ap (find (λ (k : Key). same_name k.1 name)) (f.stocked.exact_cells x)

  -- its value is what is read
  pub own_read : (v : Tree) → c.value ≡ Some v → read w x name ≡ Some v
  own_read v is =
      let here : value_at w.objects (c.definer, name) x ≡ Some v = ap (option_and_then (λ (c : Cell). c.value)) (key_here name (thing_of w.objects x).cells c found) ∙ is in
      rw (← named_definition, here) refl

pub no_definition : (w : World) (x : ℕ) (name : List ℕ) → IsWellFormed w → cell_named (thing_of w.objects x).cells name ≡ None → None ≡ definition_named w x name
no_definition w x name f none =
    ap (λ r. option_map (λ d. (let k : Key = (d, name) in k)) (option_map (λ (c : Cell). c.definer) r)) (sym none) ∙
    sym (definition_found name (thing_of w.objects x).cells) ∙ ap (find (λ (k : Key). same_name k.1 name)) (f.stocked.exact_cells x)

-- a place that a search gives
pub placed : {X : Type 0} (t : X → Bool) (xs : List X) (i : ℕ) → position t xs ≡ Some i → (i ≡ position_or_len t xs) × (i < length xs)
placed t xs i is = ⊎_elim
    (λ low.
    let at : Some (position_or_len t xs) ≡ Some i = (rw low at is) in
    let same : i ≡ position_or_len t xs = cc in
    (same, (rw same (ltb-true (position_or_len t xs) (length xs) low))))
    (λ past. let none : None ≡ Some i = (rw past at is) in absurd (cc))
    (cases_Bool (ltb (position_or_len t xs) (length xs)))

pub placed_found : {X : Type 0} (t : X → Bool) (xs : List X) (i : ℕ) → position t xs ≡ Some i → slice_get xs i ≡ find t xs
placed_found t xs i is = ap (slice_get xs) (placed t xs i is).0 ∙ sym (find_at t xs)

first_valued : (name : List ℕ) (v : Tree) (cells : List Cell) → changed_at (position_or_len (is_named name) cells) (valued v) cells ≡ with_value name v cells
first_valued name v [] = refl
first_valued name v (c ∷ cs) =
    ⊎_elim
    (λ e. rw e refl)
    (λ e.
    let next : 1 + position_or_len (is_named name) cs ≡ suc (position_or_len (is_named name) cs) = omega arith in
    rw e (ap (λ i. changed_at i (valued v) (c ∷ cs)) next ∙ ap (λ ds. c ∷ ds) (first_valued name v cs)))
    (cases_Bool (same_name c.name name))

-- a value put in the place of a name's cell
pub placed_value : (name : List ℕ) (v : Tree) (place : ℕ) (o : Option Object) → position (is_named name) (unwrap_or o nothing).cells ≡ Some place →
    option_map (with_value_at place v) o ≡ option_map (with_value_of name v) o
placed_value name v place None is = refl
placed_value name v place (Some o) is =
    let at = (placed (is_named name) o.cells place is).0 in
    ap (λ cells. Some (record o { cells = cells })) (ap (λ i. changed_at i (valued v) o.cells) at ∙ first_valued name v o.cells)
