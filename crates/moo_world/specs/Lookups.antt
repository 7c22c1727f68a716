-- What becomes of the cells of objects, and of look-ups, as definitions and parents change.
use Rattle.std.specs.Prelude.{◌≡◌, ◌≢◌, ◌⊎◌, ℕ, ℤ, List, Option, Some, None, true, false, length}
use Rattle.std.specs.Option.{option_map, option_and_then}
use Rattle.moo_value.specs.Tree.{Tree}
use Rattle.moo_value.specs.Compare.{folded}
use Rattle.moo_world_tree.specs.Forest.{above_of, is_within}
use Rattle.moo_world_object.specs.Cells.{Cell, Key, cell_at, cleared, renamed}
use Rattle.moo_world_object.specs.Objects.{Object}
use Rattle.moo_world_table.specs.World.{World, object_of, thing_of, cells_of}
use Rattle.moo_world_table.specs.Changes.{with_definition_on}
use Rattle.moo_world_table.specs.Properties.{definition_named, read}

-- the cells of object y, by those that it had and by those of its parent, `above`
pub record IsFitted (y : ℕ) (o : Object) (above cells : List Cell) : Type 0 where
  -- the cells of its own definitions stay
  pub own : (k : Key) → k.0 ≡ y → cell_at cells k ≡ cell_at o.cells k
  -- for a definition further up it has a cell if its parent has one: the cell that it had
  pub kept : (k : Key) (a c : Cell) → k.0 ≢ y → cell_at above k ≡ Some a → cell_at o.cells k ≡ Some c → cell_at cells k ≡ Some c
  -- and else a clear one
  pub clear : (k : Key) (a : Cell) → k.0 ≢ y → cell_at above k ≡ Some a → cell_at o.cells k ≡ None → cell_at cells k ≡ Some (cleared o.owner a)
  -- and it has none if its parent has none
  pub lost : (k : Key) → k.0 ≢ y → cell_at above k ≡ None → cell_at cells k ≡ None

-- each of these objects has cells in the new world by those that it has here
abbrev pub AreFitted : List (Option Object) → World → Type 0
AreFitted objects new = (y : ℕ) (o : Object) → object_of objects y ≡ Some o →
    IsFitted y o (cells_of new.objects (above_of new.inheritance y)) (thing_of new.objects y).cells

-- what isn't within x is as it was, and every property of it reads as before
pub record IsSameOutside (old new : World) (x : ℕ) : Type 0 where
  pub object : (y : ℕ) → is_within old.inheritance y x ≡ false → object_of new.objects y ≡ object_of old.objects y
  pub found : (y : ℕ) (name : List ℕ) → is_within old.inheritance y x ≡ false → definition_named new y name ≡ definition_named old y name
  pub reads : (y : ℕ) (name : List ℕ) → is_within old.inheritance y x ≡ false → read new y name ≡ read old y name

-- the world once object x has another parent: cells of definers that are still above are kept, others are new and clear
pub record IsReparented (old new : World) (x : ℕ) : Type 0 where
  pub cells : AreFitted old.objects new
  pub outside : IsSameOutside old new x

-- the world once x has one more definition, with its cell: each descendant has a clear cell for it, and reads its value
pub record IsDefinedOn (old new : World) (x : ℕ) (name : List ℕ) (cell : Cell) : Type 0 where
  pub cells : AreFitted (with_definition_on old.objects x name cell) new
  pub outside : IsSameOutside old new x
  pub given : cell_at (thing_of new.objects x).cells (x, folded name) ≡ Some cell
  pub reads : (y : ℕ) → is_within old.inheritance y x ≡ true → read new y (folded name) ≡ cell.value

-- the world once x is no object: no object has a cell for what it defined, and every other cell of the others stays
pub record IsWithout (old new : World) (x : ℕ) : Type 0 where
  pub gone : object_of new.objects x ≡ None
  pub lost : (y : ℕ) (k : Key) → k.0 ≡ x → cell_at (thing_of new.objects y).cells k ≡ None
  pub kept : (y : ℕ) (k : Key) → y ≢ x → k.0 ≢ x → cell_at (thing_of new.objects y).cells k ≡ cell_at (thing_of old.objects y).cells k

-- the world once a definition is gone: no object has a cell for it, and every other cell stays
pub record IsUndefined (old new : World) (gone : Key) : Type 0 where
  pub lost : (y : ℕ) → cell_at (thing_of new.objects y).cells gone ≡ None
  pub kept : (y : ℕ) (k : Key) → k ≢ gone → cell_at (thing_of new.objects y).cells k ≡ cell_at (thing_of old.objects y).cells k

-- the world once x has a value of its own in a property: the cell for its definition has the value and is else as it was,
-- every other cell stays, and what is not within x, or of another name, reads as before
pub record IsSet (old new : World) (x : ℕ) (name : List ℕ) (v : Tree) : Type 0 where
  pub given : (k : Key) (c : Cell) → definition_named old x name ≡ Some k → cell_at (thing_of old.objects x).cells k ≡ Some c →
      cell_at (thing_of new.objects x).cells k ≡ Some (record c { value = Some v })
  pub kept : (y : ℕ) (k : Key) → (y ≢ x) ⊎ (definition_named old x name ≢ Some k) → cell_at (thing_of new.objects y).cells k ≡ cell_at (thing_of old.objects y).cells k
  pub found : (y : ℕ) (n : List ℕ) → definition_named new y n ≡ definition_named old y n
  pub reads : read new x name ≡ Some v
  pub others : (y : ℕ) (n : List ℕ) → (is_within old.inheritance y x ≡ false) ⊎ (n ≢ name) → read new y n ≡ read old y n

-- the world once there is one more object under a parent: its cells are its parent's, clear, and its properties read as those of its
-- parent; nothing else changes
pub record IsCreated (old new : World) (p : Option ℕ) (owner : ℤ) : Type 0 where
  pub object : (y : ℕ) → y ≢ length old.objects → object_of new.objects y ≡ object_of old.objects y
  pub found : (y : ℕ) (name : List ℕ) → y ≢ length old.objects → definition_named new y name ≡ definition_named old y name
  pub reads : (y : ℕ) (name : List ℕ) → y ≢ length old.objects → read new y name ≡ read old y name
  pub cells : (k : Key) → cell_at (thing_of new.objects (length old.objects)).cells k ≡ option_map (cleared owner) (cell_at (cells_of old.objects p) k)
  pub inherits : (name : List ℕ) → definition_named new (length old.objects) name ≡ option_and_then (λ up. definition_named old up name) p
  pub reads_as_parent : (name : List ℕ) → read new (length old.objects) name ≡ option_and_then (λ up. read old up name) p

-- the world once a definition that x has is of another name, letters folded: its cells have that name and are else as they were, every
-- other cell stays, and the property reads under its new name as it did under the old one
pub record IsRenamed (old new : World) (x : ℕ) (name other : List ℕ) : Type 0 where
  pub moved : (y : ℕ) → cell_at (thing_of new.objects y).cells (x, other) ≡ option_map (renamed other) (cell_at (thing_of old.objects y).cells (x, name))
  pub lost : (y : ℕ) → other ≢ name → cell_at (thing_of new.objects y).cells (x, name) ≡ None
  pub kept : (y : ℕ) (k : Key) → k ≢ (x, name) → k ≢ (x, other) → cell_at (thing_of new.objects y).cells k ≡ cell_at (thing_of old.objects y).cells k
  pub reads : (y : ℕ) → definition_named old y name ≡ Some (x, name) → read new y other ≡ read old y name
