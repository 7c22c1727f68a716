-- The payload in the bytes of a WebSocket, and the replies to them.
use Rattle.std.specs.Prelude.{◌≡◌, ◌⊎◌, ℕ, Bool, List, [], ◌∷◌, ◌++◌, drop, false, true, Option, None, Some, Result, Ok, Err}
use Rattle.websocket.specs.declared.error.Error.{Error}
use Rattle.websocket.specs.declared.error.Error.TheVariants.{OutOfMemory}
use Rattle.websocket.specs.declared.protocol.config.Role.TheVariants.{Client, Server}
use Rattle.websocket.specs.declared.protocol.state.WebSocketState.TheVariants.{Active}
use Rattle.websocket.specs.declared.protocol.frame.codec.FrameStatus.{FrameStatus}
use Rattle.websocket.specs.declared.protocol.frame.codec.FrameStatus.TheVariants.{Partial, Complete}
use Rattle.websocket.specs.Content.{Content, text, binary, ping, pong, close}
use Rattle.websocket.specs.Connection.{Connection, Effect, Sends}
use Rattle.websocket.specs.Stream.{Trace, read_all}
use Rattle.std.specs.Prelude.{map}
use Rattle.std.specs.Global.{Vec}

-- a server's end that was just opened: its messages and their frames have at most 65,536 bytes, and are masked
abbrev pub opened : Connection
opened = record {
  role = Server;
  state = Active;
  config = record { max_message_size = Some 65536; max_frame_size = Some 65536; accept_unmasked_frames = false };
  fragments = None;
}

-- a browser's end that was just opened: it takes messages of any length
abbrev pub browser : Connection
browser = record {
  role = Client;
  state = Active;
  config = record { max_message_size = None; max_frame_size = None; accept_unmasked_frames = false };
  fragments = None;
}

-- the payload of a text or binary message; other messages have none
abbrev pub payload_of : Option Content → List ℕ
payload_of None = []
payload_of (Some (text bytes)) = bytes
payload_of (Some (binary bytes)) = bytes
payload_of (Some (ping bytes)) = []
payload_of (Some (pong bytes)) = []
payload_of (Some (close frame)) = []

-- the payload in these frames, in their order
abbrev pub payload_in : List Effect → List ℕ
payload_in [] = []
payload_in (effect ∷ effects) = payload_of effect.message ++ payload_in effects

-- the output gained the replies to these frames, in their order
abbrev pub Replies : List Effect → List ℕ → List ℕ → Type 0
Replies [] old new = new ≡ old
Replies (effect ∷ effects) old new = (mid : List ℕ) × Sends effect.next.role effect.reply old mid × Replies effects mid new

-- the payload in these frames, and the replies to them, were appended
abbrev pub Appends : List Effect → (payload payload' output output' : List ℕ) → Type 0
Appends effects payload payload' output output' = (payload' ≡ payload ++ payload_in effects) × Replies effects output output'

-- the frames of a run that comes to this end were received
abbrev pub Receives : Trace → Result (Connection × List ℕ) Error → (payload payload' output output' : List ℕ) → Type 0
Receives trace end payload payload' output output' = (trace.end ≡ end) × Appends trace.effects payload payload' output output'

-- memory ran out, or the run ended for this error
abbrev pub FailsFor : Trace → (payload payload' output output' : List ℕ) → Error → Type 0
FailsFor trace payload payload' output output' error = (error ≡ OutOfMemory) ⊎ Receives trace (Err error) payload payload' output output'

-- What one read of the input does: `more` is whether a frame was there.
abbrev pub Steps : Result (FrameStatus (ℕ × Effect)) Error → Bool → (conn conn' : Connection) (input input' payload payload' output output' : List ℕ) → Type 0
Steps (Err e) more conn conn' input input' payload payload' output output' = ⊥
Steps (Ok (Partial n)) more conn conn' input input' payload payload' output output' =
    (more ≡ false) × (conn' ≡ conn) × (input' ≡ input) × (payload' ≡ payload) × (output' ≡ output)
Steps (Ok (Complete p)) more conn conn' input input' payload payload' output output' =
    (more ≡ true) × (conn' ≡ p.1.next) × (input' ≡ drop p.0 input) × (payload' ≡ payload ++ payload_of p.1.message) × Sends p.1.next.role p.1.reply output output'

-- memory ran out, or the read failed for this error
abbrev pub StepFails : Result (FrameStatus (ℕ × Effect)) Error → Error → (payload payload' output output' : List ℕ) → Type 0
StepFails read error payload payload' output output' = (error ≡ OutOfMemory) ⊎ ((read ≡ Err error) × (payload' ≡ payload) × (output' ≡ output))

-- the bytes of each of these pieces
abbrev pub pieces_of : List (Vec ℕ) → List (List ℕ)
pieces_of pieces = map (λ piece. piece.items) pieces

-- A browser that reads these bytes gets this payload, and no byte is left.
abbrev pub Shows : List ℕ → List ℕ → Type 0
Shows bytes payload =
    (effects : List Effect) × (read_all browser bytes ≡ record { effects = effects; end = Ok (browser, []) }) × (payload_in effects ≡ payload)

-- the run that reads no frame, and waits for the rest of one
abbrev pub waiting : Connection → List ℕ → Trace
waiting conn input = record { effects = []; end = Ok (conn, input) }

-- the input has no whole frame at its front
abbrev pub Waits : Connection → List ℕ → Type 0
Waits conn input = read_all conn input ≡ waiting conn input
