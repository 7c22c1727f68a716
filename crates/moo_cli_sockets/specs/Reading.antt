-- The bytes that a read brings, and the piece of them that is handed on.
use Rattle.std.specs.Prelude.{◌≡◌, ◌⊎◌, ℕ, ◌<◌, ◌≤◌, List, [], ◌++◌, length, Option, None, Some, IsSomeAnd}
use Rattle.slab.specs.Slab.{Slab, get}
use Rattle.moo_cli_telnet.specs.Commands.{state_after, text_from}
use Rattle.moo_cli_telnet.specs.declared.filter.Telnet.{Telnet}
use Rattle.moo_server_core.specs.declared.event.Event.{Event}
use Rattle.moo_server_core.specs.declared.event.Event.TheVariants as the
use Rattle.moo_cli_sockets.specs.Coming.{Each, only}
use Rattle.moo_cli_sockets.specs.Framing.{Hears, IsBrowsers, KeepsChannel, LooksAt}
use Rattle.moo_cli_sockets.specs.declared.socket.Came.{Came}
use Rattle.moo_cli_sockets.specs.declared.socket.Came.TheVariants as came
use Rattle.moo_cli_sockets.specs.declared.socket.Socket.{Socket}
use Rattle.moo_cli_sockets.specs.declared.sockets.Sockets.{Sockets}

-- what these bytes are without the commands of telnet, if they are dropped
abbrev pub text_of : Option Telnet → List ℕ → List ℕ
text_of None bytes = bytes
text_of (Some telnet) bytes = text_from telnet.state bytes

-- the filter after these bytes
abbrev pub filter_after : Option Telnet → List ℕ → Option Telnet
filter_after None bytes = None
filter_after (Some telnet) bytes = Some (record { state = state_after telnet.state bytes })

-- The input, the filter, the channel and the stream of a socket are what they were.
abbrev pub IsSame : Socket → Socket → Type 0
IsSame old new = (new.input ≡ old.input) × (new.telnet ≡ old.telnet) × (new.channel ≡ old.channel) × (new.stream ≡ old.stream)

-- These bytes of the client are the input: as text, or as payload of a WebSocket.
abbrev pub IsInput : List ℕ → Socket → Socket → Type 0
IsInput bytes old new =
    (old.channel ≡ None → (new.input.items ≡ text_of old.telnet bytes) × (new.telnet ≡ filter_after old.telnet bytes) × (new.channel ≡ None)) × Hears bytes old new
    × (new.stream ≡ old.stream)

-- Nothing came, or if no input was kept, bytes of one read did.
abbrev pub Receives : Socket → Socket → Type 0
Receives old new = IsSame old new ⊎ ((length old.input.items ≡ 0) × (bytes : List ℕ) × (0 < length bytes) × (length bytes ≤ 4096) × IsInput bytes old new)

-- A piece of the input is handed on, and the rest is kept; or all is.
abbrev pub Gives : Came → Socket → Socket → Type 0
Gives (came.Bytes piece) old new = (old.input.items ≡ piece.items ++ new.input.items) × (new.telnet ≡ old.telnet) × (new.channel ≡ old.channel) × (new.stream ≡ old.stream)
Gives came.NothingYet old new = IsSame old new
Gives came.End old new = IsSame old new

-- A read hands on a piece of the input that was kept, or of what bytes of one read are.
abbrev pub Reads : Came → Socket → Socket → Type 0
Reads came old new = (between : Socket) × Receives old between × Gives came between new

-- what a read of connection c's socket does to it, by its event
abbrev pub Brings : Option Socket → Option Event → Option Socket → Type 0
Brings was None is = (is ≡ was) ⊎ ((old : Socket) × (new : Socket) × (was ≡ Some old) × (is ≡ Some new) × Reads came.NothingYet old new)
Brings was (Some (the.Bytes c piece)) is = (old : Socket) × (new : Socket) × (was ≡ Some old) × (is ≡ Some new) × Reads (came.Bytes piece) old new
Brings was (Some event) is = is ≡ None

-- The input, the filter and the stream of a socket are what they were, and so is what came on its channel.
abbrev pub Keeps : Socket → Socket → Type 0
Keeps old new = (new.input ≡ old.input) × (new.telnet ≡ old.telnet) × (new.stream ≡ old.stream) × KeepsChannel old.channel new.channel

-- if there was a socket, it stays, with what it keeps
abbrev pub IsKept : Option Socket → Option Socket → Type 0
IsKept None is = Unit {0}
IsKept (Some was) is = IsSomeAnd is (Keeps was)

-- if there was a socket, it is what it was
abbrev pub IsLeft : Option Socket → Option Socket → Type 0
IsLeft None is = Unit {0}
IsLeft (Some was) is = is ≡ Some was

-- There is a socket just if there was one, with the input, the filter, the channel and the stream that it had.
abbrev pub IsStill : Option Socket → Option Socket → Type 0
IsStill None is = is ≡ None
IsStill (Some was) is = IsSomeAnd is (IsSame was)

-- If it is a WebSocket, its silence was looked at in this second.
abbrev pub IsTended : ℕ → Option Socket → Option Socket → Type 0
IsTended now None is = Unit {0}
IsTended now (Some was) is = IsSomeAnd is (LooksAt now was)

-- if there was a socket, its channel is what it was
abbrev pub HasSameChannel : Option Socket → Option Socket → Type 0
HasSameChannel None is = Unit {0}
HasSameChannel (Some was) is = IsSomeAnd is (λ socket. socket.channel ≡ was.channel)

-- It was looked at in the second `now`, or that was the second of the look before and nothing happened.
abbrev pub IsLookedAt : (before now : ℕ) → Option Socket → Option Socket → Type 0
IsLookedAt before now was is = ((now ≡ before) × HasSameChannel was is) ⊎ IsTended now was is

-- A connection that opens has a socket with this filter, and no input.
abbrev pub HasFilter : Option Telnet → Slab Socket → Option Event → Type 0
HasFilter telnet sockets (Some (the.Open c)) = IsSomeAnd (get sockets c) (λ socket. (socket.telnet ≡ telnet) × (socket.input.items ≡ []) × (socket.channel ≡ None))
HasFilter telnet sockets event = Unit {0}

-- A connection that opens has the socket of a browser.
abbrev pub IsUpgraded : Slab Socket → Option Event → Type 0
IsUpgraded sockets (Some (the.Open c)) = IsSomeAnd (get sockets c) (λ socket. (bytes : List ℕ) × IsBrowsers bytes socket)
IsUpgraded sockets event = Unit {0}

-- The filter of new connections is what it was, and so is the second of the last look at WebSockets.
abbrev pub IsAlike : Sockets → Sockets → Type 0
IsAlike old new = (new.telnet ≡ old.telnet) × (new.tended ≡ old.tended)

-- The input of one round: WebSockets may be looked at, a connection may open, and then each socket is read from once at most.
pub record Arrives (old new : Sockets) (events : List Event) : Type 0 where
  pub opened : Option Event
  pub reads : List Event
  pub below : ℕ
  pub all : events ≡ only opened ++ reads
  pub between : Slab Socket
  pub kept : (c : ℕ) → IsKept (get old.sockets c) (get between c)
  pub looks : (c : ℕ) → c < 65536 → IsLookedAt old.tended new.tended (get old.sockets c) (get between c)
  pub fresh : HasFilter old.telnet between opened ⊎ IsUpgraded between opened
  pub brings : Each (λ c event. Brings (get between c) event (get new.sockets c)) below reads
  pub others : (c : ℕ) → below ≤ c → get new.sockets c ≡ get between c
  pub filter_is : new.telnet ≡ old.telnet
