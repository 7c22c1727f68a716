-- The input of the sockets of connections, as events of a server.
use Rattle.std.specs.Prelude.{◌≡◌, ℕ, zero, suc, ◌<◌, ◌≤◌, List, [], ◌∷◌, ◌++◌, Option, Some, None, IsSome, eqb, if◌then◌else◌, vec_len, count_by, true, IfSome, Contains}
use Rattle.std.specs.Option.{option_map}
use Rattle.slab.specs.Slab.{Slab, get}
use Rattle.moo_cli_sockets.specs.Waiting.{is_end, is_readable, waits_of}
use Rattle.moo_server_core.specs.declared.event.Event.{Event}
use Rattle.moo_server_core.specs.declared.event.Event.TheVariants as the
use Rattle.moo_cli_sockets.specs.declared.socket.Socket.{Socket}

-- an event, or none
abbrev pub only : Option Event → List Event
only None = []
only (Some event) = event ∷ []

-- the bytes that wait for connection c's socket, if it has one
abbrev pub held : Slab Socket → ℕ → Option (List ℕ)
held sockets c = option_map (λ (socket : Socket). waits_of socket) (get sockets c)

-- A connection is opened under a number that no socket had, or none is. The number 65,535, which is the console's, isn't given out.
abbrev pub IsOpening : Slab Socket → Option Event → Type 0
IsOpening sockets None = Unit {0}
IsOpening sockets (Some (the.Open c)) = (held sockets c ≡ None) × (c < 65535)
IsOpening sockets (Some event) = ⊥

-- The result of one read of connection c's socket, while `was` waits for it: nothing yet, at most 4,096 bytes with at
-- most 128 line ends, or its end. Without a socket there is none.
abbrev pub IsRead : Option (List ℕ) → ℕ → Option Event → Type 0
IsRead was c None = Unit {0}
IsRead was c (Some (the.Bytes k piece)) = IsSome was × (k ≡ c) × (0 < vec_len piece) × (vec_len piece ≤ 4096) × (count_by is_end piece.items ≤ 128)
IsRead was c (Some (the.Hangup k)) = IsSome was × (k ≡ c)
IsRead was c (Some event) = ⊥

-- one such event at most of each number below n, by rising number
abbrev pub Each : (ℕ → Option Event → Type 0) → ℕ → List Event → Type 0
Each P zero events = events ≡ []
Each P (suc n) events =
    (before : List Event) × (last : Option Event) × Each P n before × P n last × (events ≡ before ++ only last)

-- a connection that opens has a socket then, for which nothing waits, and one that hangs up has none
abbrev pub held_through : ℕ → Option (List ℕ) → Event → Option (List ℕ)
held_through c was (the.Open k) = if eqb k c then Some [] else was
held_through c was (the.Hangup k) = if eqb k c then None else was
held_through c was event = was

abbrev pub held_after : ℕ → Option (List ℕ) → List Event → Option (List ℕ)
held_after c was [] = was
held_after c was (event ∷ events) = held_after c (held_through c was event) events

-- the sockets as they were, but for those of connections that open or hang up in these events
abbrev pub Follow : List Event → Slab Socket → Slab Socket → Type 0
Follow events old new = (c : ℕ) → held new c ≡ held_after c (held old c) events

-- connection c's socket is closed
abbrev pub Closes : ℕ → Slab Socket → Slab Socket → Type 0
Closes c old new = Follow (the.Hangup c ∷ []) old new

-- If a read of connection c's socket may return something, c is one of these numbers.
abbrev pub IsListed : List ℕ → Slab Socket → ℕ → Type 0
IsListed numbers sockets c = IfSome (get sockets c) (λ socket. is_readable socket ≡ true → Contains numbers c)

-- If connection c has a socket, it is among those that are read from and among those that are written to.
abbrev pub IsNamed : ℕ → Slab Socket → List ℕ → List ℕ → Type 0
IsNamed c sockets readable writable = IsSome (get sockets c) → (c < 65536) → Contains readable c × Contains writable c

-- The input of one round: at most one new connection, and then the result of one read of each socket.
pub record Comes (old new : Slab Socket) (events : List Event) : Type 0 where
  pub opened : Option Event
  pub reads : List Event
  pub below : ℕ
  pub all : events ≡ only opened ++ reads
  pub opens : IsOpening old opened
  pub read : Each (λ c event. IsRead (held_after c (held old c) (only opened)) c event) below reads
  pub follow : Follow events old new
