-- What a browser reads of the frames that a server sends.
use Rattle.std.proofs.Common.{◌≡◌, ℕ, zero, suc, ◌^◌, ◌<◌, false, List, [], ◌∷◌, ◌++◌, length, Option, None, Some, Ok, Err, refl, sym, ◌∙◌, ap, append-nil, arith}
use Rattle.std.specs.Prelude.{not, is_some}
use Rattle.std.proofs.lemmas.List.{drop_all}
use Rattle.websocket.specs.declared.error.Error.{Error}
use Rattle.websocket.specs.declared.protocol.config.Role.{Role}
use Rattle.websocket.specs.declared.protocol.config.Role.TheVariants.{Server}
use Rattle.websocket.specs.declared.protocol.frame.codec.FrameStatus.TheVariants.{Complete, Partial}
use Rattle.websocket.specs.declared.protocol.frame.coding.Data.TheVariants.{Binary}
use Rattle.websocket.specs.declared.protocol.frame.coding.OpCode.TheVariants as Op
use Rattle.websocket.specs.FrameHeader.{decode_header}
use Rattle.websocket.specs.Frame.{Checked, after_check, decode_frame, encode_frame}
use Rattle.websocket.specs.Content.{binary}
use Rattle.websocket.specs.Connection.{Connection, Effect, check_can_write, is_server, on_data, on_frame, on_message_bytes, read_step, whole_header, write_step}
use Rattle.websocket.specs.Stream.{after_read, prepend, read_times, receive}
use Rattle.websocket.specs.View.{Leaves}
use Rattle.websocket.proofs.StreamLemmas.{read_step-encode_frame, receive-read_all}
use Rattle.moo_cli_web_frames.specs.Frames.{Shows, browser, payload_in}
use Rattle.moo_cli_web_frames.proofs.Reading.{payload_in-append}

-- the frame of a binary message of a server
abbrev pub frame_of : List ℕ → List ℕ
frame_of payload = encode_frame (whole_header (Op.Data Binary) None) payload

-- what it does
abbrev shown : List ℕ → Effect
shown payload = record { message = Some (binary payload); reply = None; next = browser }

-- nothing comes of no bytes
read_step_empty : read_step browser [] ≡ Ok (Partial 1)
unfolding read_step decode_frame decode_header
read_step_empty = refl

read_times_empty : (n : ℕ) → read_times n browser [] ≡ record { effects = []; end = Ok (browser, []) }
unfolding read_times
read_times_empty zero = refl
read_times_empty (suc n) = ap (λ r. after_read (read_times n) browser [] r) read_step_empty

pub shows_nothing : Shows [] []
shows_nothing = ([], read_times_empty 1, refl)

read_step_frame : (payload : List ℕ) → length payload < 2 ^ 63 → read_step browser (frame_of payload) ≡ Ok (Complete (length (frame_of payload), shown payload))
unfolding on_frame on_data on_message_bytes
read_step_frame payload small =
    ap (λ bytes. read_step browser bytes) (sym (append-nil (frame_of payload)))
    ∙ read_step-encode_frame browser (whole_header (Op.Data Binary) None) payload [] (record { mask = tt; top_bit_clear = small })

-- its payload is shown
pub shows_frame : (payload : List ℕ) → length payload < 2 ^ 63 → Shows (frame_of payload) payload
unfolding read_times
shows_frame payload small =
    let frame = frame_of payload in (
      shown payload ∷ [],
      ap (λ r. after_read (read_times (length frame)) browser frame r) (read_step_frame payload small)
          ∙ ap (λ rest. prepend (shown payload ∷ []) (read_times (length frame) browser rest)) (drop_all (length frame) frame (omega arith))
          ∙ ap (λ t. prepend (shown payload ∷ []) t) (read_times_empty (length frame)),
      append-nil payload,
    )

-- further bytes are shown after it
pub shows_append : (first second payload more : List ℕ) → Shows first payload → Shows second more → Shows (first ++ second) (payload ++ more)
shows_append first second payload more one two = (
  one.0 ++ two.0,
  sym (receive-read_all browser first second) ∙ ap (λ t. receive t second) one.1 ∙ ap (λ t. prepend one.0 t) two.1,
  payload_in-append one.0 two.0 ∙ ap (λ p. p ++ payload_in two.0) one.2 ∙ ap (λ p. payload ++ p) two.2,
)

passed : (check : Checked Error) (effect : Effect) (conn : Connection) (old new : List ℕ) → Leaves (after_check check (Ok effect)) conn old new → Leaves (Ok effect) conn old new
passed (Ok _) effect conn old new left = left
passed (Err e) effect conn old new left = absurd left

no_mask : (mask : Option (List ℕ)) → is_some mask ≡ false → mask ≡ None
no_mask None none = refl
no_mask (Some key) none = absurd (cc none)

-- a server sends the frame of its payload, without a mask
pub sent_frame : (conn conn' : Connection) (payload old new : List ℕ) → conn.role ≡ Server → Leaves (write_step conn (binary payload)) conn' old new
    → (conn' ≡ conn) × (new ≡ old ++ frame_of payload)
sent_frame conn conn' payload old new server left =
    let sent = passed (check_can_write conn.state) (record { message = None; reply = Some (record { opcode = Op.Data Binary; payload = payload }); next = conn }) conn' old new left in
    let role : conn'.role ≡ Server = ap (λ (c : Connection). c.role) sent.0 ∙ server in
    let none : sent.1.0 ≡ None = no_mask sent.1.0 (sent.1.1.0 ∙ ap (λ (r : Role). not (is_server r)) role) in (
      sent.0,
      sent.1.2 ∙ ap (λ (mask : Option (List ℕ)). old ++ encode_frame (whole_header (Op.Data Binary) mask) payload) none,
    )
