-- Objects whose cells have the definitions on them and their ancestors.
use Rattle.std.specs.Prelude.{◌≡◌, ℕ, ◌∷◌, List, Option, length}
use Rattle.moo_world_object.specs.Objects.{Object}
use Rattle.moo_world_table.specs.World.{object_of, thing_of, keys_along, with_cells}
use Rattle.moo_world_table.specs.Restoring.{rekeyed}
use Rattle.moo_dbtext_restore.specs.declared.link.Link.{Link}
use Rattle.moo_dbtext_restore.specs.Links.{IsLineage}

-- each of these is an object of the plain ones, with cells for the definitions on the way up from it
pub record AreKeyed (links : List (Option Link)) (plain made : List (Option Object)) : Type 0 where
  pub many : length made ≡ length plain
  pub each : (x : ℕ) (ys : List ℕ) → IsLineage links x ys → object_of made x ≡ with_cells (object_of plain x) (rekeyed (keys_along plain (x ∷ ys)) (thing_of plain x).cells)
