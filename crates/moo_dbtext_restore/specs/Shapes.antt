-- The shape of a world, whatever its sizes are.
use Rattle.std.specs.Prelude.{◌≡◌, ℕ, false, map}
use Rattle.std.specs.List.{All}
use Rattle.moo_world_object.specs.Cells.{key_of}
use Rattle.moo_world_table.specs.World.{World, IsJoined, IsFilled, thing_of, definitions, has_clash}

-- Two trees without cycles, with exact lists; a cell for each definition on an object or an ancestor, and no other; no name
-- twice on a chain of ancestors; a value in the cell of each definition's own object.
pub record IsShaped (w : World) : Type 0 where
  pub parents : IsJoined w.objects w.inheritance
  pub places : IsJoined w.objects w.containment
  pub exact_cells : (x : ℕ) → map key_of (thing_of w.objects x).cells ≡ definitions w.objects w.inheritance x
  pub names_once : (x : ℕ) → has_clash w.objects w.inheritance x ≡ false
  pub own_filled : (x : ℕ) → All (IsFilled x) (thing_of w.objects x).cells
