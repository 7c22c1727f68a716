-- What an opening, bytes and a hang-up change: the world and its sessions.
use Rattle.moo_world_table.specs.World.{World}
use Rattle.moo_session_task.specs.declared.world_state.WorldState.{WorldState}
use Rattle.moo_session_task.specs.Session.{Session}

abbrev pub state : World → Session → WorldState
state w s = record { world = w; session = s }

-- with the sessions changed
abbrev pub in_session : (Session → Session) → WorldState → WorldState
in_session f s = record s { session = f s.session }
