-- Sockets that are listed as readable.
use Rattle.std.proofs.Common.{◌≡◌, ℕ, List, Option, Some, None, true, Contains, sym, subst}
use Rattle.std.specs.Prelude.{IfSome}
use Rattle.slab.specs.Slab.{Slab, get}
use Rattle.moo_cli_sockets.specs.declared.socket.Socket.{Socket}
use Rattle.moo_cli_sockets.specs.Waiting.{is_readable}
use Rattle.moo_cli_sockets.specs.Coming.{IsListed}

-- one that is kept, in a list that has no number less
pub listed_on : (numbers more : List ℕ) (old new : Slab Socket) (c : ℕ) → get new c ≡ get old c → ((k : ℕ) → Contains numbers k → Contains more k) → IsListed numbers old c → IsListed more new c
listed_on numbers more old new c same kept listed =
    subst (λ (slot : Option Socket). IfSome slot (λ socket. is_readable socket ≡ true → Contains more c)) (sym same) (by_slot (get old c) listed)
  where
    by_slot : (slot : Option Socket) → IfSome slot (λ socket. is_readable socket ≡ true → Contains numbers c) → IfSome slot (λ socket. is_readable socket ≡ true → Contains more c)
    by_slot None listed = listed
    by_slot (Some socket) listed = λ readable. kept c (listed readable)
