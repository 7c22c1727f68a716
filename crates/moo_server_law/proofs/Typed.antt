-- The lines of a connection are those of all its bytes.
use Rattle.std.proofs.Common.{◌≡◌, ◌≢◌, ℕ, List, [], ◌++◌, refl, sym, ◌∙◌, ap, subst}
use Rattle.moo_builtin.specs.Telling.{Telling}
use Rattle.moo_session_line.specs.Rest.{Rest}
use Rattle.moo_session_line.specs.Lines.{lines, rest}
use Rattle.moo_session_line.specs.Reading.{Reads}
use Rattle.moo_session_line.proofs.Cutting.{one_reading}
use Rattle.moo_session_line.proofs.Streams.{lines_of, lines-append}
use Rattle.moo_session_connection.specs.Connections.{Connections}
use Rattle.moo_session_connection.specs.Changes.{joined, freed, HasHeard}
use Rattle.moo_session_task.specs.declared.world_state.WorldState.{WorldState}
use Rattle.moo_session_task.specs.Session.{Session, in_connections}
use Rattle.moo_session_task.specs.State.{in_session}
use Rattle.moo_session_task.specs.Sending.{sent}
use Rattle.moo_session.specs.Input.{logs_in, dropped}
use Rattle.moo_session.specs.Events as event
use Rattle.moo_session.specs.Events.{Hears, player_at}
use Rattle.moo_server_law.specs.Stream.{HappensBeside, opens, hears, hangs_up, checkpoint_starts, checkpoint_ends, HasTyped, opened, passed, moved_out, heard}
use Rattle.moo_server_law.proofs.Carried.{hooks_keep, login_keeps, lines_keep, own_hook_keeps, gone_keeps}
use Rattle.moo_server_law.proofs.Kept.{IsLone, Lone, Keeps, lone_is_carried, lone_heard, lone_reader, lone_beside, joins_beside, joins_itself, frees_beside}

bytes_keep : (T : Telling) (n m : ℕ) (r : Rest) (moment : ℕ) (piece : List ℕ) (s s' : WorldState) → m ≢ n → Hears T moment m piece s s' → Keeps n r s.session → Keeps n r s'.session
bytes_keep T n m r moment piece s s' apart (event.dropped e) h = h
bytes_keep T n m r moment piece s s' apart (event.heard {after = after} x d) h =
    let kept : Lone n r after.clients = subst (λ (c : Connections). Lone n r c.clients) x.leaves (lone_beside n m moment r x.after apart h) in
    lines_keep T (IsLone n r) (lone_is_carried n r) m moment d kept

pub beside_keeps : (T : Telling) (n : ℕ) (r : Rest) (s s' : WorldState) → HappensBeside T n s s' → Keeps n r s.session → Keeps n r s'.session
beside_keeps T n r s s' (opens {moment = moment} {m = m} apart d) h =
    hooks_keep T (IsLone n r) (lone_is_carried n r) moment d.hooks (login_keeps T (IsLone n r) (lone_is_carried n r) m moment [] [] (in_session (in_connections (joined m moment)) s) d.greeted d.logs_in (joins_beside n m moment r s.session.connections apart h))
beside_keeps T n r s s' (hears {moment = moment} {m = m} {piece = piece} apart d) h = bytes_keep T n m r moment piece s s' apart d h
beside_keeps T n r s s' (hangs_up {moment = moment} {m = m} apart d) h =
    hooks_keep T (IsLone n r) (lone_is_carried n r) moment d (gone_keeps (IsLone n r) (lone_is_carried n r) (player_at m s.session.connections) (in_connections (freed m) s.session) (frees_beside n m r s.session.connections h))
beside_keeps T n r s s' (checkpoint_starts {moment = moment} d) h = own_hook_keeps T (IsLone n r) (lone_is_carried n r) moment _ _ s s' d h
beside_keeps T n r s s' (checkpoint_ends {moment = moment} done d) h = own_hook_keeps T (IsLone n r) (lone_is_carried n r) moment _ _ s s' d h

-- what was typed so far, and what the connection holds
pub record IsTyped (n : ℕ) (stream : List ℕ) (typed : List (List ℕ)) (s : Session) : Type 0 where
  pub same : typed ≡ lines stream
  pub holds : Keeps n (rest stream) s

pub read_on : (n : ℕ) (stream piece : List ℕ) (before after : Rest) (more : List (List ℕ)) → before ≡ rest stream → Reads before piece more after → (lines stream ++ more ≡ lines (stream ++ piece)) × (after ≡ rest (stream ++ piece))
read_on n stream piece before after more e d =
    let whole : Reads before piece (lines_of (rest stream) piece) (rest (stream ++ piece)) = record { sent = stream; holds = e; lines = lines-append stream piece; rest = refl } in
    let same = one_reading before after (rest (stream ++ piece)) piece more (lines_of (rest stream) piece) d whole in
    (ap (λ (ls : List (List ℕ)). lines stream ++ ls) same.0 ∙ sym (lines-append stream piece), same.1)

-- its own bytes
pub own_heard : (n moment : ℕ) (stream piece : List ℕ) (s : Connections) (more : List (List ℕ)) (after : Connections) → Lone n (rest stream) s.clients → HasHeard n moment piece s more after →
    (lines stream ++ more ≡ lines (stream ++ piece)) × Lone n (rest (stream ++ piece)) after.clients
own_heard n moment stream piece s more after holds x =
    let on = read_on n stream piece x.client.reader x.after more (lone_reader n (rest stream) x.client holds x.is_here) x.reads in
    let kept : Lone n x.after after.clients = subst (λ (c : Connections). Lone n x.after c.clients) x.leaves (lone_heard n moment (rest stream) x.after holds) in
    (on.0, subst (λ (r : Rest). Lone n r after.clients) on.1 kept)

pub is_typed : (T : Telling) (n : ℕ) {stream : List ℕ} {typed : List (List ℕ)} {s : WorldState} → HasTyped T n stream typed s → IsTyped n stream typed s.session
is_typed T n (opened {moment = moment} {s = s} {s' = s'} e d) = record {
  same = refl;
  holds = hooks_keep T (IsLone n (rest [])) (lone_is_carried n (rest [])) moment d.hooks (login_keeps T (IsLone n (rest [])) (lone_is_carried n (rest [])) n moment [] [] (in_session (in_connections (joined n moment)) s) d.greeted d.logs_in (joins_itself n moment s.session.connections e));
}
is_typed T n (passed {stream = stream} {s = s} {s' = s'} h d) =
    let before = is_typed T n h in
    record { same = before.same; holds = beside_keeps T n (rest stream) s s' d before.holds }
is_typed T n (moved_out {stream = stream} h e) =
    let before = is_typed T n h in
    record { same = before.same; holds = subst (λ (c : Connections). Lone n (rest stream) c.clients) (sym e) before.holds }
is_typed T n (heard {moment = moment} {stream = stream} {piece = piece} {typed = typed} {more = more} {after = after} {s = s} h x d) =
    let before = is_typed T n h in
    let held = own_heard n moment stream piece s.session.connections more after before.holds x in
    record {
      same = ap (λ (ls : List (List ℕ)). ls ++ more) before.same ∙ held.0;
      holds = lines_keep T (IsLone n (rest (stream ++ piece))) (lone_is_carried n (rest (stream ++ piece))) n moment d held.1;
    }
