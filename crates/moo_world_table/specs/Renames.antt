-- A definition renamed.
use Rattle.std.specs.Prelude.{ℕ, List, map}
use Rattle.std.specs.Option.{option_map}
use Rattle.moo_value.specs.Compare.{folded}
use Rattle.moo_world_table.specs.World.{World}
use Rattle.moo_world_table.specs.Changes.{changed_on}
use Rattle.moo_world_table.specs.Edits.{with_respelled, with_renamed_cell}

-- the world once the property of a name, letters folded, that x defines has another name: x spells it so, and the cells for it have
-- that name on x and on each descendant
abbrev pub after_rename : World → ℕ → List ℕ → List ℕ → World
after_rename w x name spelling = record w { objects = map (option_map (with_renamed_cell (x, name) (folded spelling))) (changed_on w.objects x (with_respelled name spelling)) }
