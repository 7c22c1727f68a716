use Rattle.std.proofs.Common.{◌≡◌, ℕ, ◌<◌, ◌≤◌, List, ◌++◌, length, get_or}
use Rattle.moo_server_core.specs.declared.event.Event.{Event}
use Rattle.slab.specs.Slab.{get}
use Rattle.moo_cli_sockets.specs.Coming.{Each, Follow, IsListed, IsRead, held}
use Rattle.moo_cli_sockets.specs.Reading.{Brings, IsAlike}
use Rattle.moo_cli_sockets.proofs.sockets.Sockets.read_all.Given as goal

-- The numbers before the index are read. They are below n, and the others aren't.
abbrev pub invariant-loop-c : goal.invariant-loop-c
invariant-loop-c l =
    (n : ℕ) × (reads : List Event) × Each (λ c event. IsRead (held l.initial.self.sockets c) c event) n reads × Follow reads l.initial.self.sockets l.self.sockets
    × (l.events.items ≡ l.initial.events.items ++ reads)
    × ((j d : ℕ) → l.c-index ≤ j → j < length l.c-items → n ≤ get_or l.c-items j d)
    × ((j d : ℕ) → j < l.c-index → IsListed l.self.readable.items l.self.sockets (get_or l.c-items j d))
    × Each (λ c event. Brings (get l.initial.self.sockets c) event (get l.self.sockets c)) n reads
    × ((c : ℕ) → n ≤ c → get l.self.sockets c ≡ get l.initial.self.sockets c)
    × IsAlike l.initial.self l.self
