-- The canonical text of a saved world.
use Rattle.std.specs.Prelude.{ℕ, List, length}
use Rattle.moo_world_table.specs.World.{IsWellFormed}
use Rattle.moo_dbtext_object.specs.Lines.{Sizes, IsCountOf}
use Rattle.moo_dbtext.specs.Held.{IsHeld}
use Rattle.moo_dbtext.specs.Texts.{canonical_bytes}
use Rattle.moo_dbtext_read.specs.Saved.{Saved}

abbrev pub canonical : Saved → List ℕ
canonical s = canonical_bytes s.world s.connected

-- a saved world as the types of the program have it, with at most as many connected players as sizes allow
pub record IsKept (z : Sizes) (s : Saved) : Type 0 where
  pub formed : IsWellFormed s.world
  pub held : IsHeld s.world s.connected
  pub few : IsCountOf z (length s.connected)
