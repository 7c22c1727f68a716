-- What an endpoint appends.
use Rattle.std.proofs.Common.{◌≡◌, ℕ, ◌≤◌, List, [], ◌∷◌, ◌++◌, length, Option, None, Some, Result, Ok, Err, sym, ap, ◌∙◌, append-nil, length-append, arith}
use Rattle.std.specs.Prelude.{OnErr, OnOk}
use Rattle.websocket.specs.declared.error.Error.{Error}
use Rattle.websocket.specs.declared.protocol.config.Role.{Role}
use Rattle.websocket.specs.Connection.{Connection, Effect, Outgoing, Sends}
use Rattle.websocket.specs.Stream.{Trace}
use Rattle.websocket.specs.View.{Leaves}
use Rattle.moo_cli_web_frames.specs.Frames.{Receives, Replies, payload_in}

sends_append : (role : Role) (reply : Option Outgoing) (old new : List ℕ) → Sends role reply old new → (more : List ℕ) × (new ≡ old ++ more)
sends_append role None old new sent = ([], sent ∙ sym (append-nil old))
sends_append role (Some frame) old new sent = (_, sent.2)

-- a step that succeeds appends to the output
pub leaves_append : (step : Result Effect Error) (conn : Connection) (old new : List ℕ) → Leaves step conn old new → (more : List ℕ) × (new ≡ old ++ more)
leaves_append (Err e) conn old new left = absurd left
leaves_append (Ok effect) conn old new left = sends_append conn.role effect.reply old new left.1

-- a call that appends what a step sends, or nothing
pub call_append : {T : Type 0} (result : Result T Error) (step : Result Effect Error) (conn : Connection) (old new : List ℕ)
    → OnOk result (Leaves step conn old new) → OnErr result (new ≡ old) → (more : List ℕ) × (new ≡ old ++ more)
call_append (Ok value) step conn old new ok err = leaves_append step conn old new ok
call_append (Err e) step conn old new ok err = ([], err ∙ sym (append-nil old))

pub append_grows : (old more new : List ℕ) → new ≡ old ++ more → length old ≤ length new
append_grows old more new is = omega (arith, ap (λ (xs : List ℕ). length xs) is, length-append old more)

replies_grow : (effects : List Effect) (old new : List ℕ) → Replies effects old new → length old ≤ length new
replies_grow [] old new same = omega (arith, ap (λ (xs : List ℕ). length xs) same)
replies_grow (effect ∷ effects) old new replies =
    let first = sends_append effect.next.role effect.reply old replies.0 replies.1 in
    omega (arith, append_grows old first.0 replies.0 first.1, replies_grow effects replies.0 new replies.2)

-- nothing is taken away when frames come
pub received_grow : (trace : Trace) (end : Result (Connection × List ℕ) Error) (payload payload' output output' : List ℕ)
    → Receives trace end payload payload' output output' → (length payload ≤ length payload') × (length output ≤ length output')
received_grow trace end payload payload' output output' received =
    (append_grows payload (payload_in trace.effects) payload' received.1.0, replies_grow trace.effects output output' received.1.1)
