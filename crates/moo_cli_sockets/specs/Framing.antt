-- The frames in which a WebSocket's input comes and its output goes out.
use Rattle.std.specs.Prelude.{◌≡◌, ◌⊎◌, ℕ, ◌<◌, List, [], ◌++◌, Option, None, Some, Ok, true, IsSomeAnd, IsTrue}
use Rattle.websocket.specs.Stream.{Trace, read_all}
use Rattle.moo_cli_web_frames.specs.Channels.{IsNew, KeepsInput, Loads, pending}
use Rattle.moo_cli_web_frames.specs.Frames.{opened, payload_in}
use Rattle.moo_cli_web_frames.specs.Tending.{Tends}
use Rattle.moo_cli_web_frames.specs.declared.channel.Channel.{Channel}
use Rattle.moo_cli_sockets.specs.Waiting.{front_of}
use Rattle.moo_cli_sockets.specs.declared.socket.Socket.{Socket}

-- A frame of the first bytes of what waits was appended to the frames of a socket, and `carried` is their number; or nothing changed.
abbrev pub Carries : Socket → Socket → Type 0
Carries old new =
    ((new.channel ≡ old.channel) × (new.carried ≡ old.carried))
    ⊎ ((was : Channel) × (is : Channel) × (old.channel ≡ Some was) × (new.channel ≡ Some is) × Loads (front_of new.waiting) new.carried was is)

-- If bytes are out, so are all frames of the socket: none is written in part.
abbrev pub AreWhole : ℕ → Socket → Type 0
AreWhole count new = 0 < count → (channel : Channel) → new.channel ≡ Some channel → pending channel ≡ []

-- This run of frames came on a channel. Its payload follows what the channel held, all of that is the input, and the other side was heard.
pub record IsHeard (trace : Trace) (was is : Channel) (input : List ℕ) : Type 0 where
  pub all : input ≡ was.payload.items ++ payload_in trace.effects
  pub taken : is.payload.items ≡ []
  pub ends : (trace.end ≡ Ok (is.endpoint.context, is.endpoint.input.items)) ⊎ IsTrue is.is_over
  pub heard : is.silence.has_heard ≡ true

-- If it is a WebSocket, its silence was looked at in this second.
abbrev pub LooksAt : ℕ → Socket → Socket → Type 0
LooksAt now old new = (was : Channel) → old.channel ≡ Some was → (is : Channel) × (new.channel ≡ Some is) × Tends now was is

-- These bytes came on a WebSocket, after those that were no whole frame.
abbrev pub Hears : List ℕ → Socket → Socket → Type 0
Hears bytes old new =
    (was : Channel) → old.channel ≡ Some was
    → (is : Channel) × (new.channel ≡ Some is) × IsHeard (read_all was.endpoint.context (was.endpoint.input.items ++ bytes)) was is new.input.items

-- A channel stays, and keeps what came on it; without one there is none.
abbrev pub KeepsChannel : Option Channel → Option Channel → Type 0
KeepsChannel None is = is ≡ None
KeepsChannel (Some was) is = IsSomeAnd is (KeepsInput was)

-- A socket has a channel that was just opened, and no filter. It heard these bytes: their payload is the input.
abbrev pub IsBrowsers : List ℕ → Socket → Type 0
IsBrowsers bytes socket =
    (socket.telnet ≡ None) × (response : List ℕ) × (was : Channel) × IsNew response was
    × (is : Channel) × (socket.channel ≡ Some is) × IsHeard (read_all opened bytes) was is socket.input.items
