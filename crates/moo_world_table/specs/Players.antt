-- The players.
use Rattle.std.specs.Prelude.{ℕ, ℤ, pos, List, [], ◌∷◌, ◌++◌, Bool, true, false, not, filter, if◌then◌else◌}
use Rattle.std.specs.List.{list_any}
use Rattle.std.specs.Ordering.{int_eq}
use Rattle.moo_world_object.specs.Objects.{Object}
use Rattle.moo_world_object.specs.declared.flags.Flags.{Flags}
use Rattle.moo_world_table.specs.World.{World}
use Rattle.moo_world_table.specs.Changes.{changed_on}

-- a list of players with one more at its end, if it is not in it yet, or without every entry of one
abbrev pub players_with : List ℤ → ℤ → Bool → List ℤ
players_with ps p true = if list_any (int_eq p) ps then ps else ps ++ p ∷ []
players_with ps p false = filter (λ q. not (int_eq p q)) ps

abbrev pub flags_with_player : Bool → Flags → Flags
flags_with_player on f = record f { player = on }

abbrev pub as_player : Bool → Object → Object
as_player on o = record o { flags = flags_with_player on o.flags }

abbrev pub after_set_player : World → ℕ → Bool → World
after_set_player w x on = record w { objects = changed_on w.objects x (as_player on); players = players_with w.players (pos x) on }
