-- The cells of properties.
use Rattle.std.specs.Prelude.{◌≡◌, ℕ, ℤ, List, [], ◌∷◌, Option, Some, None, Bool, ◌&&◌, ◌==◌, if◌then◌else◌}
use Rattle.std.specs.List.{find, All}
use Rattle.moo_value.specs.Tree.{Tree}
use Rattle.moo_world_object.specs.declared.cell.PropPerms.{PropPerms}
use Rattle.moo_world_object.specs.Names.{same_name}

-- an object's cell of a definition: its definer and its name in lower case; the cell is clear if its value is None
pub record Cell : Type 0 where
  pub definer : ℕ
  pub name : List ℕ
  pub owner : ℤ
  pub perms : PropPerms
  pub value : Option Tree

-- a definition: its object, and its name in lower case
abbrev pub Key : Type 0
Key = ℕ × List ℕ

abbrev pub key_of : Cell → Key
key_of c = (c.definer, c.name)

abbrev pub is_key : Key → Cell → Bool
is_key k c = (c.definer == k.0) && same_name c.name k.1

abbrev pub is_named : List ℕ → Cell → Bool
is_named name c = same_name c.name name

-- the cell of a definition
abbrev pub cell_at : List Cell → Key → Option Cell
cell_at cells k = find (is_key k) cells

-- no two cells have the same definition: a search for a cell's definition finds that cell
abbrev pub AreDistinct : List Cell → Type 0
AreDistinct cells = All (λ c. cell_at cells (key_of c) ≡ Some c) cells

-- the first cell with a name
abbrev pub cell_named : List Cell → List ℕ → Option Cell
cell_named cells name = find (is_named name) cells

-- the cell of an object's own definition
abbrev pub own_cell : ℕ → List ℕ → Tree → ℤ → PropPerms → Cell
own_cell definer name v owner perms = record { definer = definer; name = name; owner = owner; perms = perms; value = Some v }

-- the clear cell that a new descendant gets from its parent's cell
abbrev pub cleared : ℤ → Cell → Cell
cleared owner above = record {
  definer = above.definer;
  name = above.name;
  owner = if above.perms.change_owner then owner else above.owner;
  perms = above.perms;
  value = None;
}

-- the cells with a value in the cell of a name
abbrev pub with_value : List ℕ → Tree → List Cell → List Cell
with_value name v [] = []
with_value name v (c ∷ cells) =
    if same_name c.name name then record { definer = c.definer; name = c.name; owner = c.owner; perms = c.perms; value = Some v } ∷ cells
    else c ∷ with_value name v cells

-- a cell with a value
abbrev pub valued : Tree → Cell → Cell
valued v c = record { definer = c.definer; name = c.name; owner = c.owner; perms = c.perms; value = Some v }

-- a cell without its value
abbrev pub emptied : Cell → Cell
emptied c = record { definer = c.definer; name = c.name; owner = c.owner; perms = c.perms; value = None }

-- a cell with another owner and other permissions
abbrev pub with_info : ℤ → PropPerms → Cell → Cell
with_info owner perms c = record { definer = c.definer; name = c.name; owner = owner; perms = perms; value = c.value }

-- a cell with another name
abbrev pub renamed : List ℕ → Cell → Cell
renamed name c = record { definer = c.definer; name = name; owner = c.owner; perms = c.perms; value = c.value }

-- applies f to the cell of a definition, and leaves any other cell unchanged
abbrev pub at_key : Key → (Cell → Cell) → Cell → Cell
at_key k f c = if is_key k c then f c else c
