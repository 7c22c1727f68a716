use Rattle.std.proofs.Common.{◌≡◌, ℕ, ◌<◌, get_or}
use Rattle.mio.specs.declared.event.event.Event.{Event}
use Rattle.mio.specs.Event.{event_token}
use Rattle.slab.specs.Slab.{get}
use Rattle.moo_cli_sockets.specs.Coming.{IsNamed, held}
use Rattle.moo_cli_sockets.specs.Reading.{IsAlike, IsStill}
use Rattle.moo_cli_sockets.proofs.sockets.Sockets.wake_all.Given as goal

abbrev pub invariant-loop-event : goal.invariant-loop-event
invariant-loop-event l =
    ((c : ℕ) → held l.self.sockets c ≡ held l.initial.self.sockets c)
    × ((c : ℕ) → IsStill (get l.initial.self.sockets c) (get l.self.sockets c))
    × IsAlike l.initial.self l.self
    × ((j : ℕ) (d : Event) → j < l.event-index → IsNamed (event_token (get_or l.events j d)).0 l.self.sockets l.self.readable.items l.self.writable.items)
