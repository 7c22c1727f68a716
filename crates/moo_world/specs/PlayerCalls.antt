-- When the calls on players raise, and what they leave.
use Rattle.std.specs.Prelude.{ℕ, pos, Option, Some, None, Bool, nat_lt, length, if◌then◌else◌}
use Rattle.moo_value.specs.declared.error_code.ErrorCode.{ErrorCode}
use Rattle.moo_value.specs.declared.error_code.ErrorCode.TheVariants.{InvalidArgument, Quota}
use Rattle.moo_world_table.specs.World.{World, most}
use Rattle.moo_world_table.specs.Players.{players_with, after_set_player}

-- what making an object a player, or no player, raises
abbrev pub set_player_raises : World → Option ℕ → Bool → Option ErrorCode
set_player_raises w None on = Some InvalidArgument
set_player_raises w (Some x) on = if nat_lt most (length (players_with w.players (pos x) on)) then Some Quota else None

abbrev pub world_set_player : World → Option ℕ → Bool → World
world_set_player w None on = w
world_set_player w (Some x) on = after_set_player w x on
