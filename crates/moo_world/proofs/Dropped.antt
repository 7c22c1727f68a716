-- A property that is set twice has the later value.
use Rattle.std.proofs.Common.{◌≡◌, ℕ, ℤ, pos, negsuc, List, [], ◌∷◌, Option, Some, None, refl, sym, ◌∙◌, ap, ⊎_elim, is_some, set, length, cond, IsSome, set-set, not, suc, ◌+◌}
use Rattle.std.specs.List.{position, position_or_len}
use Rattle.std.specs.Option.{option_map, unwrap_or, option_and_then}
use Rattle.std.proofs.lemmas.Bool.{cases_Bool, cases_eq}
use Rattle.std.proofs.lemmas.List.{get_or-set_same, get_or-set_other}
use Rattle.moo_value.specs.Compare.{folded}
use Rattle.moo_value.specs.Tree.{Tree}
use Rattle.moo_world_object.specs.Names.{same_name}
use Rattle.moo_world_object.specs.Cells.{Cell, is_named, cell_named, with_value}
use Rattle.moo_world_object.specs.Objects.{Object}
use Rattle.moo_world_table.specs.World.{World, nothing, object_of, thing_of, IsWellFormed}
use Rattle.moo_world_table.specs.Changes.{with_object, with_value_of}
use Rattle.moo_world_table.proofs.Changing.{valid_within}
use Rattle.moo_world.specs.Calls.{number_of}
use Rattle.moo_world.specs.Rights.{is_wizard, may_write_cell}
use Rattle.moo_world.specs.ByRight.{IsWritable, IsDropped}
use Rattle.moo_world.proofs.ByRight.{writable_free, writable_sets}

-- a value changes no name
length_valued : (name : List ℕ) (v : Tree) (cells : List Cell) → length (with_value name v cells) ≡ length cells
length_valued name v [] = refl
length_valued name v (c ∷ cs) = ⊎_elim (λ e. rw e refl) (λ e. rw e (ap suc (length_valued name v cs))) (cases_Bool (same_name c.name name))

place_valued : (n name : List ℕ) (v : Tree) (cells : List Cell) → position_or_len (is_named n) (with_value name v cells) ≡ position_or_len (is_named n) cells
place_valued n name v [] = refl
place_valued n name v (c ∷ cs) = ⊎_elim (λ e. rw e refl) (λ e. rw e (ap (λ k. cond (not (same_name c.name n)) (1 + k) 0) (place_valued n name v cs))) (cases_Bool (same_name c.name name))

position_valued : (n name : List ℕ) (v : Tree) (cells : List Cell) → position (is_named n) (with_value name v cells) ≡ position (is_named n) cells
position_valued n name v cells = let long = length_valued name v cells in let place = place_valued n name v cells in rw (long, place) refl

-- nor who may write it
rights_valued : (w : World) (p : ℤ) (n name : List ℕ) (v : Tree) (cells : List Cell) → may_write_cell w p (cell_named (with_value name v cells) n) ≡ may_write_cell w p (cell_named cells n)
rights_valued w p n name v [] = refl
rights_valued w p n name v (c ∷ cs) =
    ⊎_elim
    (λ e. rw e (⊎_elim (λ f. rw f refl) (λ f. rw f refl) (cases_Bool (same_name c.name n))))
    (λ e. rw e (⊎_elim (λ f. rw f refl) (λ f. rw f (rights_valued w p n name v cs)) (cases_Bool (same_name c.name n))))
    (cases_Bool (same_name c.name name))

-- the later of two values is left
twice_valued : (name : List ℕ) (v u : Tree) (cells : List Cell) → with_value name v (with_value name u cells) ≡ with_value name v cells
twice_valued name v u [] = refl
twice_valued name v u (c ∷ cs) =
    ⊎_elim (λ e. rw e (rw e refl)) (λ e. rw e (rw e (ap (λ ds. c ∷ ds) (twice_valued name v u cs)))) (cases_Bool (same_name c.name name))

twice_mapped : (name : List ℕ) (v u : Tree) (o : Option Object) → option_map (with_value_of name v) (option_map (with_value_of name u) o) ≡ option_map (with_value_of name v) o
twice_mapped name v u None = refl
twice_mapped name v u (Some o) = ap (λ cs. Some (record o { cells = cs })) (twice_valued name v u o.cells)

some_mapped : (name : List ℕ) (v : Tree) (o : Option Object) → is_some (option_map (with_value_of name v) o) ≡ is_some o
some_mapped name v None = refl
some_mapped name v (Some o) = refl

wizard_mapped : (name : List ℕ) (v : Tree) (o : Option Object) → (unwrap_or (option_map (with_value_of name v) o) nothing).flags ≡ (unwrap_or o nothing).flags
wizard_mapped name v None = refl
wizard_mapped name v (Some o) = refl

cells_mapped : (name : List ℕ) (v : Tree) (o : Option Object) → (unwrap_or (option_map (with_value_of name v) o) nothing).cells ≡ with_value name v (unwrap_or o nothing).cells
cells_mapped name v None = refl
cells_mapped name v (Some o) = refl

module _ (w : World) (x : ℕ) (name : List ℕ) (u : Tree) (valid : IsSome (object_of w.objects x)) where
  -- the world with a value in the property
  abbrev after : World
  after = with_object w x (with_value_of name u)

  here : object_of after.objects x ≡ option_map (with_value_of name u) (object_of w.objects x)
  here = get_or-set_same w.objects x (option_map (with_value_of name u) (object_of w.objects x)) None (valid_within w.objects x valid)

  there : (y : ℕ) → (y ≡ x → ⊥) → object_of after.objects y ≡ object_of w.objects y
  there y other = get_or-set_other w.objects x y (option_map (with_value_of name u) (object_of w.objects x)) None other

  some_kept : (y : ℕ) → is_some (object_of after.objects y) ≡ is_some (object_of w.objects y)
  some_kept y = ⊎_elim
      (λ e. rw e (ap is_some here ∙ some_mapped name u (object_of w.objects x)))
      (λ ne. ap is_some (there y ne))
      (cases_eq y x)

  number_kept : (o : ℤ) → number_of after.objects o ≡ number_of w.objects o
  number_kept (pos n) = let some = some_kept n in rw some refl
  number_kept (negsuc n) = refl

  flags_kept : (y : ℕ) → (thing_of after.objects y).flags ≡ (thing_of w.objects y).flags
  flags_kept y = ⊎_elim
      (λ e. rw e (ap (λ o. (unwrap_or o nothing).flags) here ∙ wizard_mapped name u (object_of w.objects x)))
      (λ ne. ap (λ o. (unwrap_or o nothing).flags) (there y ne))
      (cases_eq y x)

  wizard_numbered : (n : Option ℕ) → (unwrap_or (option_and_then (object_of after.objects) n) nothing).flags ≡ (unwrap_or (option_and_then (object_of w.objects) n) nothing).flags
  wizard_numbered None = refl
  wizard_numbered (Some y) = flags_kept y

  wizard_kept : (p : ℤ) → is_wizard after p ≡ is_wizard w p
  wizard_kept p = let same = number_kept p in rw (same, is_wizard) (ap (λ f. f.wizard) (wizard_numbered (number_of w.objects p)))

  may_kept : (p : ℤ) (c : Option Cell) → may_write_cell after p c ≡ may_write_cell w p c
  may_kept p None = refl
  may_kept p (Some c) = let same = wizard_kept p in rw same refl

  cells_here : (thing_of after.objects x).cells ≡ with_value name u (thing_of w.objects x).cells
  cells_here = ap (λ o. (unwrap_or o nothing).cells) here ∙ cells_mapped name u (object_of w.objects x)

  still_writable : (p : ℤ) (place : ℕ) → IsWritable w p x name place → IsWritable after p x name place
  still_writable p place can = record {
    at = ap (position (is_named name)) cells_here ∙ position_valued name name u (thing_of w.objects x).cells ∙ can.at;
    plain = can.plain;
    right = may_kept p (cell_named (thing_of after.objects x).cells name) ∙ ap (λ cs. may_write_cell w p (cell_named cs name)) cells_here ∙ rights_valued w p name name u (thing_of w.objects x).cells ∙ can.right;
  }

  twice : (v : Tree) → with_object after x (with_value_of name v) ≡ with_object w x (with_value_of name v)
  twice v = ap (λ os. record w { objects = os })
      (ap (λ o. set (set w.objects x (option_map (with_value_of name u) (object_of w.objects x))) x (option_map (with_value_of name v) o)) here
      ∙ set-set w.objects x (option_map (with_value_of name u) (object_of w.objects x)) (option_map (with_value_of name v) (option_map (with_value_of name u) (object_of w.objects x)))
      ∙ ap (set w.objects x) (twice_mapped name v u (object_of w.objects x)))

-- a writable property that is set can be set again, and has the later value then
pub dropped_at : (w : World) (p o : ℤ) (x : ℕ) (name : List ℕ) (place : ℕ) (u : Tree) → number_of w.objects o ≡ Some x → IsSome (object_of w.objects x) → IsWellFormed w →
    IsWellFormed (with_object w x (with_value_of (folded name) u)) → IsWritable w p x (folded name) place → IsDropped w (with_object w x (with_value_of (folded name) u)) p o name
dropped_at w p o x name place u numbered valid formed later can =
    let now : World = with_object w x (with_value_of (folded name) u) in
    let number = number_kept w x (folded name) u valid o ∙ numbered in
    let some = some_kept w x (folded name) u valid x ∙ valid in
    let able = still_writable w x (folded name) u valid p place can in
    record {
      before = λ v. writable_free w p o x name numbered valid place v formed can;
      after = λ v. writable_free now p o x name number some place v later able;
      again = λ v. sym (writable_sets now p o x name number some place v able) ∙ twice w x (folded name) u valid v ∙ writable_sets w p o x name numbered valid place v can;
    }
