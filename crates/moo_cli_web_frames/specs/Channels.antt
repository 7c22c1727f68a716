-- The bytes that a channel holds, and what changes them.
use Rattle.std.specs.Prelude.{◌≡◌, ◌⊎◌, ℕ, ◌≤◌, ◌<◌, Bool, false, List, [], ◌++◌, length, min, take, drop, nat_lt, Ok, IsTrue, IsErr}
use Rattle.websocket.specs.Connection.{write_step}
use Rattle.websocket.specs.Content.{binary}
use Rattle.websocket.specs.Stream.{Trace}
use Rattle.websocket.specs.View.{Leaves}
use Rattle.moo_cli_web_frames.specs.Frames.{Replies, opened, payload_in}
use Rattle.moo_cli_web_frames.specs.declared.channel.Channel.{Channel}

-- the bytes of frames that came to be written and aren't
abbrev pub pending : Channel → List ℕ
pending c = drop c.written c.frames.items

-- so many bytes wait that nothing is received
abbrev pub is_full : ℕ → Bool
is_full n = nat_lt 65536 n

-- The frames of this run came: their payload and the replies to them were appended, and after an error a close may follow.
pub record Accepts (trace : Trace) (old new : Channel) : Type 0 where
  pub payload : new.payload.items ≡ old.payload.items ++ payload_in trace.effects
  pub replied : List ℕ
  pub close : List ℕ
  pub replies : Replies trace.effects old.frames.items replied
  pub frames : new.frames.items ≡ replied ++ close
  pub written : new.written ≡ old.written
  pub ends : ((trace.end ≡ Ok (new.endpoint.context, new.endpoint.input.items)) × (close ≡ []) × (new.is_over ≡ old.is_over)) ⊎ (IsErr trace.end × IsTrue new.is_over)

-- There is nothing to append: there are no bytes, or the channel is over.
abbrev pub HasNone : List ℕ → Channel → Type 0
HasNone bytes channel = (bytes ≡ []) ⊎ IsTrue channel.is_over

-- A frame of the first `count` of these bytes was appended, of all of them or of 16,384; or nothing was, since there was nothing.
abbrev pub Loads : List ℕ → ℕ → Channel → Channel → Type 0
Loads bytes count old new =
    (count ≤ length bytes) × (new.written ≡ old.written)
    × (((count ≡ 0) × HasNone bytes old × (new.frames.items ≡ old.frames.items))
    ⊎ ((0 < count) × (count ≡ min (length bytes) 16384)
    × Leaves (write_step old.endpoint.context (binary (take count bytes))) new.endpoint.context old.frames.items new.frames.items))

-- What came stays: the payload, the bytes of a frame that isn't whole, and the connection, but for how far it is closed.
abbrev pub KeepsInput : Channel → Channel → Type 0
KeepsInput old new =
    (new.payload ≡ old.payload) × (new.endpoint.input ≡ old.endpoint.input)
    × (new.endpoint.context ≡ record old.endpoint.context { state = new.endpoint.context.state })

-- Nothing came on it, its end was just opened, and these bytes are to be written.
pub record IsNew (response : List ℕ) (channel : Channel) : Type 0 where
  pub context : channel.endpoint.context ≡ opened
  pub input : channel.endpoint.input.items ≡ []
  pub payload : channel.payload.items ≡ []
  pub lives : channel.is_over ≡ false
  pub pending_is : pending channel ≡ response
