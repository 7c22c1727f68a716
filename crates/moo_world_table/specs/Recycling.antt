-- The world once an object was recycled.
use Rattle.std.specs.Prelude.{ℕ, pos, Option, Some, None, false, not, map, filter, slice_set, ◌==◌}
use Rattle.moo_world_tree.specs.Forest.{above_of, dissolved}
use Rattle.moo_world_object.specs.Objects.{Object}
use Rattle.moo_world_table.specs.World.{World}
use Rattle.moo_world_table.specs.Players.{players_with}

-- an object without its cells for what x defines
abbrev pub without_cells_of : ℕ → Option Object → Option Object
without_cells_of x None = None
without_cells_of x (Some o) = Some (record o { cells = filter (λ c. not (c.definer == x)) o.cells })

-- the world once x is no object: what inherits from it does so from its parent, last in the parent's list and in their
-- order, and has no cell for what x defined; what is in it is nowhere; its number is in the list of no object and of no
-- player, and stays given out
abbrev pub after_recycle : World → ℕ → World
after_recycle w x = record {
  objects = map (without_cells_of x) (slice_set w.objects x None);
  inheritance = dissolved w.inheritance x (above_of w.inheritance x);
  containment = dissolved w.containment x None;
  players = players_with w.players (pos x) false;
}
