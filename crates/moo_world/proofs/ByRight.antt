-- Properties read and set with the rights of a programmer.
use Rattle.std.proofs.Common.{◌≡◌, ℕ, ℤ, List, [], ◌∷◌, Option, Some, None, Bool, true, false, refl, sym, ◌∙◌, ap, ⊎_elim, is_some, get_or, set, length, ltb, IsSome}
use Rattle.std.specs.List.{find, position, position_or_len}
use Rattle.std.specs.Option.{option_map, unwrap_or}
use Rattle.std.proofs.lemmas.Bool.{cases_Bool, false≢true, ltb-false}
use Rattle.std.proofs.lemmas.List.Folds.{find_at}
use Rattle.std.proofs.lemmas.Option.{slice_get-get_or, slice_get_past}
use Rattle.moo_value.specs.Compare.{folded}
use Rattle.moo_value.specs.Tree.{Tree}
use Rattle.moo_world_object.specs.BuiltIn.{built_in_of}
use Rattle.moo_world_object.specs.declared.built_in_property.BuiltInProperty.{BuiltInProperty}
use Rattle.moo_world_object.specs.Names.{same_name}
use Rattle.moo_world_object.specs.Cells.{Cell, is_named, cell_named}
use Rattle.moo_world_object.specs.Objects.{Object}
use Rattle.moo_world_object.proofs.Names.{same_name-true}
use Rattle.moo_world_table.specs.World.{World, nothing, object_of, thing_of, IsWellFormed}
use Rattle.moo_world_table.specs.Changes.{changed_on, with_object, with_value_of, with_value_at}
use Rattle.moo_world_table.specs.Properties.{read}
use Rattle.moo_world_table.proofs.Found.{placed, placed_found, placed_value}
use Rattle.moo_world_table.proofs.Single.{slot_changed}
use Rattle.moo_world_table.proofs.VerbChanges.{thing_read}
use Rattle.moo_world.specs.Calls.{number_of}
use Rattle.moo_world.specs.EditCalls.{world_set}
use Rattle.moo_world.specs.Rights.{may_read_cell, may_write_cell}
use Rattle.moo_world.specs.ByRight.{readable_cell, IsWritable, set_by_raises}
use Rattle.moo_world.proofs.Raising.{cell_allowed}

-- the cell that is found has the name
found_name : (name : List ℕ) (cells : List Cell) (c : Cell) → cell_named cells name ≡ Some c → c.name ≡ name
found_name name [] c h = absurd (cc)
found_name name (d ∷ ds) c h =
    ⊎_elim
    (λ e.
    let found : Some d ≡ Some c = (rw e at h) in
    let same : d ≡ c = cc in
    ap (λ (q : Cell). q.name) (sym same) ∙ same_name-true d.name name e)
    (λ e. found_name name ds c (rw e at h))
    (cases_Bool (same_name d.name name))

pub is_hidden : (name : List ℕ) (cells : List Cell) (c : Cell) (hidden : Bool) → cell_named cells name ≡ Some c → hidden ≡ is_some (built_in_of c.name) → is_some (built_in_of name) ≡ hidden
is_hidden name cells c hidden found is = ap (λ n. is_some (built_in_of n)) (sym (found_name name cells c found)) ∙ sym is

pub not_some : {A : Type 0} (o : Option A) → is_some o ≡ false → o ≡ None
not_some None h = refl
not_some (Some a) h = absurd (false≢true (sym h))

-- no one may read what isn't there
pub unreadable : (w : World) (p : ℤ) (x : ℕ) (name : List ℕ) → cell_named (thing_of w.objects x).cells name ≡ None → None ≡ readable_cell w p x name
unreadable w p x name none = over (built_in_of name) refl
  where
    over : (b : Option BuiltInProperty) → built_in_of name ≡ b → None ≡ readable_cell w p x name
    over None e = rw (e, none) refl
    over (Some q) e = rw e refl

module _ (w : World) (p : ℤ) (x : ℕ) (name : List ℕ) (c : Cell) (found : cell_named (thing_of w.objects x).cells name ≡ Some c) where
  -- nor what is hidden
  pub readable_hidden : true ≡ is_some (built_in_of c.name) → None ≡ readable_cell w p x name
  readable_hidden is = let on = is_hidden name (thing_of w.objects x).cells c true found is in rw on refl

  -- and else the right decides
  pub readable_here : false ≡ is_some (built_in_of c.name) → may_read_cell w p (Some c) ≡ true → Some c ≡ readable_cell w p x name
  readable_here is may =
      let off = is_hidden name (thing_of w.objects x).cells c false found is in
      let right = ap (may_read_cell w p) found ∙ may in
      rw (off, right, found) refl

  pub readable_not : false ≡ is_some (built_in_of c.name) → may_read_cell w p (Some c) ≡ false → None ≡ readable_cell w p x name
  readable_not is may =
      let off = is_hidden name (thing_of w.objects x).cells c false found is in
      let right = ap (may_read_cell w p) found ∙ may in
      rw (off, right) refl

module _ (w : World) (p o : ℤ) (x : ℕ) (name : List ℕ) (numbered : number_of w.objects o ≡ Some x) (valid : is_some (object_of w.objects x) ≡ true) where
  -- what is writable is set
  pub writable_free : (place : ℕ) (v : Tree) → IsWellFormed w → IsWritable w p x (folded name) place → set_by_raises w p o name v ≡ None
  writable_free place v f h = over (cell_named (thing_of w.objects x).cells (folded name)) refl
    where
      over : (c : Option Cell) → cell_named (thing_of w.objects x).cells (folded name) ≡ c → set_by_raises w p o name v ≡ None
      over None e = absurd (false≢true (sym (ap (may_write_cell w p) e) ∙ h.right))
      over (Some c) e =
          let plain = h.plain in
          let right = h.right in
          let free = cell_allowed w x (folded name) c f (sym e) in
          rw (numbered, plain, free, valid, right) refl

  pub writable_sets : (place : ℕ) (v : Tree) → IsWritable w p x (folded name) place → with_object w x (with_value_of (folded name) v) ≡ world_set w (number_of w.objects o) (folded name) v
  writable_sets place v h = let plain = h.plain in rw (numbered, plain) refl

-- the cell at the place that was found
pub placed_cell : (name : List ℕ) (cells : List Cell) (place : ℕ) (c : Cell) → position (is_named name) cells ≡ Some place → c ≡ get_or cells place c → cell_named cells name ≡ Some c
placed_cell name cells place c is here =
    sym (placed_found (is_named name) cells place is) ∙ slice_get-get_or cells place c (placed (is_named name) cells place is).1 ∙ ap (λ d. Some d) (sym here)

-- and no cell if none is found
pub unplaced : {X : Type 0} (t : X → Bool) (xs : List X) → position t xs ≡ None → find t xs ≡ None
unplaced t xs is =
    ⊎_elim
    (λ low. let some : Some (position_or_len t xs) ≡ None = (rw low at is) in absurd (cc))
    (λ past. find_at t xs ∙ slice_get_past xs (position_or_len t xs) (ltb-false (position_or_len t xs) (length xs) past))
    (cases_Bool (ltb (position_or_len t xs) (length xs)))

pub writable_here : (w : World) (p : ℤ) (x : ℕ) (name : List ℕ) (cells : List Cell) (place : ℕ) (c : Cell) → (thing_of w.objects x).cells ≡ cells → position (is_named name) cells ≡ Some place →
    c ≡ get_or cells place c → false ≡ is_some (built_in_of c.name) → may_write_cell w p (Some c) ≡ true → IsWritable w p x name place
writable_here w p x name cells place c same is here plain may =
    let found : cell_named (thing_of w.objects x).cells name ≡ Some c = ap (λ cs. cell_named cs name) same ∙ placed_cell name cells place c is here in
    record {
      at = ap (position (is_named name)) same ∙ is;
      plain = not_some (built_in_of name) (is_hidden name (thing_of w.objects x).cells c false found plain);
      right = ap (may_write_cell w p) found ∙ may;
    }

-- what is put in a writable place is a value of the name
pub put_here : (w : World) (p : ℤ) (x : ℕ) (name : List ℕ) (place : ℕ) (v : Tree) (read slot : Option Object) → IsSome (object_of w.objects x) → read ≡ get_or w.objects x read →
    IsWritable w p x name place → slot ≡ option_map (with_value_at place v) read → set w.objects x slot ≡ changed_on w.objects x (with_value_of name v)
put_here w p x name place v read slot valid read_is can is =
    let at : position (is_named name) (unwrap_or read nothing).cells ≡ Some place = ap (λ (o : Object). position (is_named name) o.cells) (thing_read w.objects x read valid read_is) ∙ can.at in
    slot_changed w.objects x (with_value_of name v) read slot valid read_is (is ∙ placed_value name v place read at)
