-- The connections on which nobody has logged in, and those that are late.
use Rattle.std.specs.Prelude.{ℕ, ℤ, Bool, false, Option, None, ◌&&◌, ◌||◌, is_none, not, if◌then◌else◌}
use Rattle.moo_dbtext_read.specs.Saved.{Saved}
use Rattle.moo_server_core.specs.Application.{Layer}
use Rattle.moo_server_core.specs.Server.{state_of}
use Rattle.moo_server_core.specs.declared.server_core.ServerCore.{ServerCore}

module _ {S Application : Type 0} (l : Layer S Application Saved) where
  abbrev pub leaves : ServerCore S → ℕ → Bool
  leaves server c = if server.halted then false else l.meaning.is_leaving (state_of l server).sessions c

  abbrev pub player_on : ServerCore S → ℕ → Option ℤ
  player_on server c = if server.halted then None else l.meaning.player_on (state_of l server).sessions c

  -- connection c isn't leaving, and no player is connected on it
  abbrev pub is_stranger : ServerCore S → ℕ → Bool
  is_stranger server c = not (leaves server c) && is_none (player_on server c)

  -- connection c is a stranger, or silent
  abbrev pub may_be_late : (ℕ → Bool) → ServerCore S → ℕ → Bool
  may_be_late silent server c = is_stranger server c || silent c
