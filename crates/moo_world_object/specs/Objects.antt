-- An object without its relations to others, and its cells under a parent.
use Rattle.std.specs.Prelude.{ℕ, ◌==◌, ℤ, List, ◌++◌, map, filter}
use Rattle.std.specs.Option.{unwrap_or}
use Rattle.moo_world_object.specs.declared.flags.Flags.{Flags}
use Rattle.moo_world_object.specs.declared.verb.Verb.{Verb}
use Rattle.moo_world_object.specs.Cells.{Cell, cell_at, key_of, cleared}

-- an object without its parent, its location and the lists of its children and contents: `defined` are the names of its
-- own properties as spelled, and `cells` are in the order of definitions, its own, then its parent's, and so on
pub record Object : Type 0 where
  pub name : List ℕ
  pub owner : ℤ
  pub flags : Flags
  pub verbs : List Verb
  pub defined : List (List ℕ)
  pub cells : List Cell

-- the cell of an object for a definition of its parent's: the one it had, or a clear one
abbrev pub fitted_cell : Object → Cell → Cell
fitted_cell o above = unwrap_or (cell_at o.cells (key_of above)) (cleared o.owner above)

-- the cells of an object under a parent with these cells: those of its own definitions, and one for each of its parent's
abbrev pub fitted_row : ℕ → Object → List Cell → List Cell
fitted_row x o above = filter (λ c. c.definer == x) o.cells ++ map (fitted_cell o) above
