-- The laws of a server over a world with its connections.
use Rattle.std.specs.Prelude.{◌≡◌, ℕ, List, Some, true, false}
use Rattle.moo_dbtext_read.specs.Saved.{Saved}
use Rattle.moo_builtin.specs.Telling.{Faults}
use Rattle.moo_session_connection.specs.Connections.{is_open, players_of, AreInOrder}
use Rattle.moo_session_task.specs.declared.world_state.WorldState.{WorldState}
use Rattle.moo_server_core.specs.Application.{Output}
use Rattle.moo_server_core.specs.Meaning.{Begins, Entry, Run, State, Takes, is_due}
use Rattle.moo_server.specs.Live.{live_meaning}

-- While a connection is open, no checkpoint is due between two events: each ends with the beginning of what is due.
abbrev pub NothingIsDue : Type 0
NothingIsDue = (saved : Saved) (moment : ℕ) (out : Output) (start end : State WorldState) (entries : List (Entry Saved)) (c : ℕ)
    → Begins (live_meaning Faults) saved moment out start → Run (live_meaning Faults) start entries end
    → is_open c end.sessions.session.connections ≡ true → is_due (live_meaning Faults) end ≡ false

-- Each mark names the players who are connected then, in the order of the numbers of their connections.
abbrev pub NumbersRise : Type 0
NumbersRise = (saved : Saved) (moment : ℕ) (out : Output) (start old new : State WorldState) (entries : List (Entry Saved)) (entry : Entry Saved) (mark : Saved)
    → Begins (live_meaning Faults) saved moment out start → Run (live_meaning Faults) start entries old → Takes (live_meaning Faults) old entry new → entry.mark ≡ Some mark
    → (mark.connected ≡ players_of new.sessions.session.connections) × AreInOrder new.sessions.session.connections.clients
