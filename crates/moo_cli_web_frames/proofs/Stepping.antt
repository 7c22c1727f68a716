-- What a call leaves of the connection.
use Rattle.std.proofs.Common.{◌≡◌, ℕ, List, [], Option, None, Some, Result, Ok, Err, sym, ap, ◌∙◌, refl}
use Rattle.std.specs.Prelude.{OnErr, OnOk}
use Rattle.websocket.specs.declared.error.Error.{Error}
use Rattle.websocket.specs.declared.protocol.state.WebSocketState.{WebSocketState}
use Rattle.websocket.specs.declared.protocol.state.WebSocketState.TheVariants.{Active, ClosedByUs, ClosedByPeer, CloseAcknowledged, Failed, Terminated}
use Rattle.websocket.specs.declared.protocol.frame.coding.CloseCode.{CloseCode}
use Rattle.websocket.specs.Connection.{Connection, Effect, check_can_write, check_close, close_to, close_step, closing_state, write_active, write_step}
use Rattle.websocket.specs.Content.{Content, binary, ping}
use Rattle.websocket.specs.Frame.{Checked, after_check}
use Rattle.websocket.specs.View.{Leaves}

-- a message leaves it as it is
binary_keeps : (state : WebSocketState) (conn conn' : Connection) (bytes old new : List ℕ)
    → Leaves (after_check (check_can_write state) (write_active conn (binary bytes))) conn' old new → conn' ≡ conn
binary_keeps Active conn conn' bytes old new left = left.0
binary_keeps ClosedByUs conn conn' bytes old new left = absurd left
binary_keeps ClosedByPeer conn conn' bytes old new left = absurd left
binary_keeps CloseAcknowledged conn conn' bytes old new left = absurd left
binary_keeps Failed conn conn' bytes old new left = absurd left
binary_keeps Terminated conn conn' bytes old new left = absurd left

-- so does an empty ping
ping_keeps : (state : WebSocketState) (conn conn' : Connection) (old new : List ℕ)
    → Leaves (after_check (check_can_write state) (write_active conn (ping []))) conn' old new → conn' ≡ conn
ping_keeps Active conn conn' old new left = left.0
ping_keeps ClosedByUs conn conn' old new left = absurd left
ping_keeps ClosedByPeer conn conn' old new left = absurd left
ping_keeps CloseAcknowledged conn conn' old new left = absurd left
ping_keeps Failed conn conn' old new left = absurd left
ping_keeps Terminated conn conn' old new left = absurd left

pub sent_keeps : {T : Type 0} (result : Result T Error) (conn conn' : Connection) (bytes old new : List ℕ)
    → OnOk result (Leaves (write_step conn (binary bytes)) conn' old new) → OnErr result (conn' ≡ conn) → conn' ≡ conn
sent_keeps (Ok value) conn conn' bytes old new ok err = binary_keeps conn.state conn conn' bytes old new ok
sent_keeps (Err e) conn conn' bytes old new ok err = err

pub asked_keeps : {T : Type 0} (result : Result T Error) (conn conn' : Connection) (old new : List ℕ)
    → OnOk result (Leaves (write_step conn (ping [])) conn' old new) → OnErr result (conn' ≡ conn) → conn' ≡ conn
asked_keeps (Ok value) conn conn' old new ok err = ping_keeps conn.state conn conn' old new ok
asked_keeps (Err e) conn conn' old new ok err = err

-- a close changes its state alone
checked_keeps : (checked : Checked Error) (conn conn' next : Connection) (effect : Effect) (old new : List ℕ) → effect.next ≡ record conn { state = effect.next.state }
    → Leaves (after_check checked (Ok effect)) conn' old new → conn' ≡ record conn { state = conn'.state }
checked_keeps (Ok fine) conn conn' next effect old new is left = left.0 ∙ is ∙ ap (λ (c : Connection). record conn { state = c.state }) (sym left.0)
checked_keeps (Err e) conn conn' next effect old new is left = absurd left

close_keeps : (next : Option WebSocketState) (conn conn' : Connection) (frame : Option (CloseCode × List ℕ)) (old new : List ℕ)
    → Leaves (close_to conn frame next) conn' old new → conn' ≡ record conn { state = conn'.state }
close_keeps None conn conn' frame old new left = left.0 ∙ ap (λ (c : Connection). record conn { state = c.state }) (sym left.0)
close_keeps (Some state) conn conn' frame old new left = checked_keeps (check_close frame) conn conn' conn _ old new refl left

pub closed_keeps : {T : Type 0} (result : Result T Error) (conn conn' : Connection) (frame : Option (CloseCode × List ℕ)) (old new : List ℕ)
    → OnOk result (Leaves (close_step conn frame) conn' old new) → OnErr result (conn' ≡ conn) → conn' ≡ record conn { state = conn'.state }
closed_keeps (Ok value) conn conn' frame old new ok err = close_keeps (closing_state conn.state) conn conn' frame old new ok
closed_keeps (Err e) conn conn' frame old new ok err = err ∙ ap (λ (c : Connection). record conn { state = c.state }) (sym err)
