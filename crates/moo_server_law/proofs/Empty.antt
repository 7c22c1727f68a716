-- No connection is open after a start: the tasks of its hooks open none.
use Rattle.std.proofs.Common.{◌≡◌, ℕ, ℤ, true, false, List, [], ◌∷◌, Option, Some, None, refl, sym, ap, subst}
use Rattle.std.specs.Prelude.{codes}
use Rattle.moo_value.specs.Tree.{Tree}
use Rattle.moo_world_table.specs.World.{World}
use Rattle.moo_builtin.specs.Telling.{Telling}
use Rattle.moo_eval_frame.specs.declared.notice.Notice.{Notice}
use Rattle.moo_eval_frame.specs.declared.notice.Notice.TheVariants as notice
use Rattle.moo_session_connection.specs.declared.client.Client.{Client}
use Rattle.moo_session_connection.specs.Changes.{all_left}
use Rattle.moo_session_connection.specs.Connections.{client_known_as, no_connections}
use Rattle.moo_session_task.specs.declared.world_state.WorldState.{WorldState}
use Rattle.moo_session_task.specs.Leaving.{disconnected, disconnected_from}
use Rattle.moo_session_task.specs.Notices.{all_applied, applied}
use Rattle.moo_session_task.specs.Sending.{all_notified, sent_to, notified}
use Rattle.moo_session_task.specs.Session.{Session, no_session}
use Rattle.moo_session_task.specs.Tasks.{CallsServerVerb, is_missing, runs, account_of}
use Rattle.moo_session_task.specs.Hooks.{HooksRun, first_runs, none_waits}
use Rattle.moo_session.specs.Events.{Starts, all_parted}

abbrev pub IsEmpty : Session → Type 0
IsEmpty s = s.connections ≡ no_connections

sent_empty : (o : Option Client) (line : List ℕ) (s : Session) → IsEmpty s → IsEmpty (sent_to o line s)
sent_empty None line s e = e
sent_empty (Some c) line s e = e

disconnected_empty : (who : ℤ) (line : List ℕ) (s : Session) → IsEmpty s → IsEmpty (disconnected who line s)
disconnected_empty who line s e =
    let nobody : client_known_as who s.connections ≡ None = ap (client_known_as who) e in
    subst (λ (o : Option Client). IsEmpty (disconnected_from who o line s)) (sym nobody) e

applied_empty : (x : Notice) (s : Session) → IsEmpty s → IsEmpty (applied x s)
applied_empty (notice.Notify who line) s e = sent_empty (client_known_as who s.connections) line s e
applied_empty (notice.BootPlayer who) s e = disconnected_empty who (codes "*** Disconnected ***") s e
applied_empty (notice.SetPlayerFlag o true) s e = e
applied_empty (notice.SetPlayerFlag o false) s e = disconnected_empty o (codes "*** Disconnected ***") s e
applied_empty (notice.Recycle o) s e = disconnected_empty o (codes "*** Recycled ***") s e
applied_empty notice.DumpDatabase s e = e
applied_empty (notice.Shutdown why) s e = ap all_left e
applied_empty (notice.ServerLog line) s e = e

all_applied_empty : (xs : List Notice) (s : Session) → IsEmpty s → IsEmpty (all_applied xs s)
all_applied_empty [] s e = e
all_applied_empty (x ∷ xs) s e = all_applied_empty xs (applied x s) (applied_empty x s e)

all_notified_empty : (who : ℤ) (lines : List (List ℕ)) (s : Session) → IsEmpty s → IsEmpty (all_notified who lines s)
all_notified_empty who [] s e = e
all_notified_empty who (line ∷ lines) s e = all_notified_empty who lines (notified who line s) (sent_empty (client_known_as who s.connections) line s e)

call_empty : (T : Telling) (moment : ℕ) (name : List ℕ) (player : ℤ) (args : List Tree) (argstr : List ℕ) {s s' : WorldState} {v : Option Tree}
    → CallsServerVerb T moment name player args argstr s v s' → IsEmpty s.session → IsEmpty s'.session
call_empty T moment name player args argstr (is_missing missing) e = e
call_empty T moment name player args argstr {s = s} (runs found task) e =
    subst (λ (l : WorldState). IsEmpty l.session) task.leaves
    (all_notified_empty _ (account_of task.end) (all_applied task.notices s.session) (all_applied_empty task.notices s.session e))

hooks_empty : (T : Telling) (moment : ℕ) {s s' : WorldState} → HooksRun T moment s s' → IsEmpty s.session → IsEmpty s'.session
hooks_empty T moment (none_waits none) e = e
hooks_empty T moment (first_runs first call rest) e = hooks_empty T moment rest (call_empty T moment _ _ _ _ call e)

parted_empty : (players : List ℤ) (s : Session) → IsEmpty s → IsEmpty (all_parted players s)
parted_empty [] s e = e
parted_empty (player ∷ players) s e = parted_empty players _ e

-- a start opens no connection
pub started_empty : (T : Telling) (moment : ℕ) (players : List ℤ) (w : World) (end : WorldState) → Starts T moment players w end → IsEmpty end.session
started_empty T moment players w end starts =
    let own = starts.starts in
    let parted = hooks_empty T moment starts.hooks (parted_empty players no_session refl) in
    hooks_empty T moment own.hooks (call_empty T moment _ _ _ _ own.calls parted)
