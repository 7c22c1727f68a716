-- What holds of the connections that aren't leaving, and stays so when one goes or is changed, stays so in whatever happens to them.
use Rattle.std.proofs.Common.{◌≡◌, ℕ, ℤ, Bool, true, false, cond, List, [], ◌∷◌, Option, Some, None, refl, subst}
use Rattle.std.specs.Prelude.{codes, is_some, int_lt, position}
use Rattle.moo_builtin.specs.Setting.{is_programmer}
use Rattle.moo_builtin.specs.Telling.{Telling}
use Rattle.moo_command.specs.Commands.{Command}
use Rattle.moo_eval_frame.specs.Surroundings.{own_number}
use Rattle.moo_eval_frame.specs.declared.frame.Frame.{Frame}
use Rattle.moo_eval_frame.specs.declared.notice.Notice.TheVariants as notice
use Rattle.moo_eval_frame.specs.declared.notice.Notice.{Notice}
use Rattle.moo_session.specs.Dispatch.{RunsVerb, runs, nothing_runs, FollowsDoCommand, is_done, goes_on, Commanded, sent_unless_empty}
use Rattle.moo_session.specs.DotProgram.{begun_by, begun_at_colon, begun_for_place, gathering_for, ready_line, told_usage, is_colon, may_write, EndsProgramming, no_verb, denied, faulty, parsed, programmed_unless, Gathers, keeps, ends}
use Rattle.moo_session.specs.Events.{CallsOwnHook, parted_from_client}
use Rattle.moo_session.specs.Frames.{command_frame}
use Rattle.moo_session.specs.Input.{PlayerTypes, no_word, prefix, suffix, program, command, Types, logs_in, gathers, plays, MeetsLines, no_line_more, dropped, one_line_more}
use Rattle.moo_session.specs.Login.{LogsIn, let_in, admitted, highest_in, redirected, welcomed}
use Rattle.moo_session_connection.specs.Changes.{with_changed, left_where, left_by, displaced, played, as_playing, with_prefix, with_suffix, with_gathering}
use Rattle.moo_session_connection.specs.Clients.{player_on, has_number, is_known_as, is_played_by, without_first, changed}
use Rattle.moo_session_connection.specs.Connections.{Connections, client_here, client_known_as, client_playing}
use Rattle.moo_session_connection.specs.Gathering.{Gathering}
use Rattle.moo_session_connection.specs.declared.client.Client.{Client}
use Rattle.moo_session_task.specs.Frames.{nobody as no_player, server_frame}
use Rattle.moo_session_task.specs.Hooks.{HooksRun, none_waits, first_runs, hook_name, player_of_hook}
use Rattle.moo_session_task.specs.Leaving.{parted, disconnected_from}
use Rattle.moo_session_task.specs.Notices.{all_applied, applied}
use Rattle.moo_session_task.specs.Sending.{sent, notified, all_notified, sent_to}
use Rattle.moo_session_task.specs.Session.{Session, in_connections, with_hooks}
use Rattle.moo_session_task.specs.State.{in_session}
use Rattle.moo_session_task.specs.Tasks.{RunsTask, CallsServerVerb, is_missing, runs as verb_runs, account_of}
use Rattle.moo_session_task.specs.WordList.{strings_of}
use Rattle.moo_session_task.specs.declared.world_state.WorldState.{WorldState}
use Rattle.moo_syntax.specs.FaultText.{fault_text}
use Rattle.moo_syntax_ast.specs.Tree.{Block}
use Rattle.moo_value.specs.Tree.{Tree, object}
use Rattle.moo_value.specs.declared.error_code.ErrorCode.{ErrorCode}
use Rattle.moo_world_table.specs.World.{World}

-- a change that touches neither the number, nor the reader, nor the moment at which bytes came last
pub record KeepsHeard (f : Client → Client) : Type 0 where
  pub number : (n : ℕ) (c : Client) → has_number n (f c) ≡ has_number n c
  pub reader : (c : Client) → (f c).reader ≡ c.reader
  pub heard : (c : Client) → (f c).connection.heard ≡ c.connection.heard

-- It may depend on whether the server is shutting down. It stays so when one goes, and when one is changed but not in that. A shutdown leaves
-- no client, and then it holds.
pub record IsCarried (P : Bool → List Client → Type 0) : Type 0 where
  pub goes : (closing : Bool) (test : Client → Bool) (cs : List Client) → P closing cs → P closing (without_first test cs)
  pub changes : (closing : Bool) (test : Client → Bool) (f : Client → Client) → KeepsHeard f → (cs : List Client) → P closing cs → P closing (changed test f cs)
  pub none : P true []

abbrev pub Carries : (Bool → List Client → Type 0) → Session → Type 0
Carries P s = P s.closing s.connections.clients

changed_carries : (P : Bool → List Client → Type 0) (q : IsCarried P) (closing : Bool) (m : ℕ) (f : Client → Client) → KeepsHeard f → (s : Connections) → P closing s.clients → P closing (with_changed m f s).clients
changed_carries P q closing m f k s h = q.changes closing (has_number m) f k s.clients h

plays_keep : (player : ℤ) (moment : ℕ) → KeepsHeard (as_playing player moment)
plays_keep player moment = record { number = λ n c. refl; reader = λ c. refl; heard = λ c. refl }

prefix_keeps : (text : List ℕ) → KeepsHeard (with_prefix text)
prefix_keeps text = record { number = λ n c. refl; reader = λ c. refl; heard = λ c. refl }

suffix_keeps : (text : List ℕ) → KeepsHeard (with_suffix text)
suffix_keeps text = record { number = λ n c. refl; reader = λ c. refl; heard = λ c. refl }

gathering_keeps : (g : Option Gathering) → KeepsHeard (with_gathering g)
gathering_keeps g = record { number = λ n c. refl; reader = λ c. refl; heard = λ c. refl }

-- what is sent, and who leaves
sent_to_keeps : (P : Bool → List Client → Type 0) (q : IsCarried P) (o : Option Client) (line : List ℕ) (s : Session) → Carries P s → Carries P (sent_to o line s)
sent_to_keeps P q None line s h = h
sent_to_keeps P q (Some c) line s h = h

left_keeps : (P : Bool → List Client → Type 0) (q : IsCarried P) (closing : Bool) (test : Client → Bool) (o : Option Client) (s : Connections) → P closing s.clients → P closing (left_where test o s).clients
left_keeps P q closing test None s h = h
left_keeps P q closing test (Some c) s h = q.goes closing test _ h

played_keeps : (P : Bool → List Client → Type 0) (q : IsCarried P) (closing : Bool) (m : ℕ) (player : ℤ) (moment : ℕ) (s : Connections) → P closing s.clients → P closing (played m player moment s).clients
played_keeps P q closing m player moment s h =
    changed_carries P q closing m (as_playing player moment) (plays_keep player moment) (displaced player s) (left_keeps P q closing (is_played_by player) (client_playing player s) s h)

parted_keeps : (P : Bool → List Client → Type 0) (q : IsCarried P) (o : Option ℤ) (s : Session) → Carries P s → Carries P (parted o s)
parted_keeps P q None s h = h
parted_keeps P q (Some player) s h = h

disconnected_keeps : (P : Bool → List Client → Type 0) (q : IsCarried P) (who : ℤ) (o : Option Client) (line : List ℕ) (s : Session) → Carries P s → Carries P (disconnected_from who o line s)
disconnected_keeps P q who None line s h = h
disconnected_keeps P q who (Some c) line s h =
    parted_keeps P q (player_on c) (in_connections (left_by who) (sent_to (Some c) line s)) (left_keeps P q s.closing (is_known_as who) (client_known_as who s.connections) s.connections h)

applied_keeps : (P : Bool → List Client → Type 0) (q : IsCarried P) (x : Notice) (s : Session) → Carries P s → Carries P (applied x s)
applied_keeps P q (notice.Notify who line) s h = sent_to_keeps P q (client_known_as who s.connections) line s h
applied_keeps P q (notice.BootPlayer who) s h = disconnected_keeps P q who (client_known_as who s.connections) (codes "*** Disconnected ***") s h
applied_keeps P q (notice.SetPlayerFlag o true) s h = h
applied_keeps P q (notice.SetPlayerFlag o false) s h = disconnected_keeps P q o (client_known_as o s.connections) (codes "*** Disconnected ***") s h
applied_keeps P q (notice.Recycle o) s h = disconnected_keeps P q o (client_known_as o s.connections) (codes "*** Recycled ***") s h
applied_keeps P q notice.DumpDatabase s h = h
applied_keeps P q (notice.Shutdown why) s h = q.none
applied_keeps P q (notice.ServerLog line) s h = h

all_applied_keeps : (P : Bool → List Client → Type 0) (q : IsCarried P) (xs : List Notice) (s : Session) → Carries P s → Carries P (all_applied xs s)
all_applied_keeps P q [] s h = h
all_applied_keeps P q (x ∷ xs) s h = all_applied_keeps P q xs (applied x s) (applied_keeps P q x s h)

all_notified_keeps : (P : Bool → List Client → Type 0) (q : IsCarried P) (who : ℤ) (ls : List (List ℕ)) (s : Session) → Carries P s → Carries P (all_notified who ls s)
all_notified_keeps P q who [] s h = h
all_notified_keeps P q who (line ∷ ls) s h = all_notified_keeps P q who ls (notified who line s) (sent_to_keeps P q (client_known_as who s.connections) line s h)

sent_keeps : (P : Bool → List Client → Type 0) (q : IsCarried P) (m : ℕ) (line : List ℕ) (s : Session) → Carries P s → Carries P (sent m line s)
sent_keeps P q m line s h = sent_to_keeps P q (client_here m s.connections) line s h

-- tasks and hooks
task_keeps : (T : Telling) (P : Bool → List Client → Type 0) (q : IsCarried P) (moment : ℕ) (start : Frame) (s s' : WorldState) (v : Option Tree) → RunsTask T moment start s v s' → Carries P s.session → Carries P s'.session
task_keeps T P q moment start s s' v d h =
    let kept : Carries P (all_notified start.player (account_of d.end) (all_applied d.notices s.session)) = all_notified_keeps P q start.player (account_of d.end) (all_applied d.notices s.session) (all_applied_keeps P q d.notices s.session h) in
    subst (λ (x : WorldState). Carries P x.session) d.leaves kept

pub call_keeps : (T : Telling) (P : Bool → List Client → Type 0) (q : IsCarried P) (moment : ℕ) (name : List ℕ) (player : ℤ) (args : List Tree) (argstr : List ℕ) (s s' : WorldState) (v : Option Tree) →
    CallsServerVerb T moment name player args argstr s v s' → Carries P s.session → Carries P s'.session
call_keeps T P q moment name player args argstr s s' v (is_missing e) h = h
call_keeps T P q moment name player args argstr s s' v (verb_runs {found = found} {v = u} {s' = t} e d) h = task_keeps T P q moment (server_frame found name player args argstr) s t u d h

pub hooks_keep : (T : Telling) (P : Bool → List Client → Type 0) (q : IsCarried P) (moment : ℕ) {s s' : WorldState} → HooksRun T moment s s' → Carries P s.session → Carries P s'.session
hooks_keep T P q moment (none_waits e) h = h
hooks_keep T P q moment (first_runs {s = s} {s' = mid} {h = k} {hs = ks} {v = v} e call d) h =
    hooks_keep T P q moment d (call_keeps T P q moment (hook_name k) (player_of_hook k) (object (player_of_hook k) ∷ []) [] (in_session (with_hooks ks) s) mid v call h)

-- a login
welcomed_keeps : (P : Bool → List Client → Type 0) (q : IsCarried P) (m : ℕ) (player : ℤ) (moment : ℕ) (is_new : Bool) (s : Session) → Carries P s → Carries P (welcomed m player moment is_new s)
welcomed_keeps P q m player moment true s h = played_keeps P q (sent m (codes "*** Created ***") s).closing m player moment (sent m (codes "*** Created ***") s).connections (sent_keeps P q m (codes "*** Created ***") s h)
welcomed_keeps P q m player moment false s h = played_keeps P q (sent m (codes "*** Connected ***") s).closing m player moment (sent m (codes "*** Connected ***") s).connections (sent_keeps P q m (codes "*** Connected ***") s h)

redirected_keeps : (P : Bool → List Client → Type 0) (q : IsCarried P) (m : ℕ) (player : ℤ) (moment : ℕ) (s : Session) → Carries P s → Carries P (redirected m player moment s)
redirected_keeps P q m player moment s h =
    let first : Session = sent m (codes "*** Redirecting old connection to this port ***") s in
    let second : Session = notified player (codes "*** Redirecting connection to new port ***") first in
    let kept : Carries P second = sent_to_keeps P q (client_known_as player first.connections) (codes "*** Redirecting connection to new port ***") first (sent_keeps P q m (codes "*** Redirecting old connection to this port ***") s h) in
    played_keeps P q second.closing m player moment second.connections kept

connected_at : (b : Bool) (P : Bool → List Client → Type 0) (q : IsCarried P) (m : ℕ) (player : ℤ) (moment : ℕ) (is_new : Bool) (s : Session) → Carries P s → Carries P (cond b (redirected m player moment s) (welcomed m player moment is_new s))
connected_at true P q m player moment is_new s h = redirected_keeps P q m player moment s h
connected_at false P q m player moment is_new s h = welcomed_keeps P q m player moment is_new s h

let_in_keeps : (P : Bool → List Client → Type 0) (q : IsCarried P) (m : ℕ) (moment : ℕ) (before : ℤ) (who : Option ℤ) (s : Session) → Carries P s → Carries P (let_in m moment before who s)
let_in_keeps P q m moment before None s h = h
let_in_keeps P q m moment before (Some player) s h = connected_at (is_some (client_known_as player s.connections)) P q m player moment (int_lt before player) s h

pub login_keeps : (T : Telling) (P : Bool → List Client → Type 0) (q : IsCarried P) (m : ℕ) (moment : ℕ) (words : List (List ℕ)) (line : List ℕ) (s s' : WorldState) → LogsIn T moment m words line s s' → Carries P s.session → Carries P s'.session
login_keeps T P q m moment words line s s' d h =
    let asked : Carries P d.asked.session = call_keeps T P q moment (codes "do_login_command") (own_number m) (strings_of words) line s d.asked d.answer d.asks h in
    subst (λ (x : WorldState). Carries P x.session) d.leaves (let_in_keeps P q m moment (highest_in s.world) (admitted d.asked m d.answer) d.asked.session asked)

-- `.program`
gathering_for_keeps : (P : Bool → List Client → Type 0) (q : IsCarried P) (m : ℕ) (o : ℤ) (verb : List ℕ) (s : Session) → Carries P s → Carries P (gathering_for m o verb s)
gathering_for_keeps P q m o verb s h = changed_carries P q s.closing m (with_gathering (Some (record { object = o; verb = verb; lines = [] }))) (gathering_keeps (Some (record { object = o; verb = verb; lines = [] }))) s.connections h

begun_where : (b : Bool) (P : Bool → List Client → Type 0) (q : IsCarried P) (m : ℕ) (o : ℤ) (verb : List ℕ) (s : Session) → Carries P s → Carries P (cond b (gathering_for m o verb (sent m (ready_line o verb) s)) (sent m (codes "Permission denied.") s))
begun_where true P q m o verb s h = gathering_for_keeps P q m o verb (sent m (ready_line o verb) s) (sent_keeps P q m (ready_line o verb) s h)
begun_where false P q m o verb s h = sent_keeps P q m (codes "Permission denied.") s h

begun_for_keeps : (w : World) (P : Bool → List Client → Type 0) (q : IsCarried P) (m : ℕ) (player o : ℤ) (verb : List ℕ) (place : Option ℕ) (s : Session) → Carries P s → Carries P (begun_for_place w m player o verb place s)
begun_for_keeps w P q m player o verb None s h = sent_keeps P q m (codes "No such verb.") s h
begun_for_keeps w P q m player o verb (Some i) s h = begun_where (may_write w player o i) P q m o verb s h

usage_keeps : (P : Bool → List Client → Type 0) (q : IsCarried P) (m : ℕ) (s : Session) → Carries P s → Carries P (told_usage m s)
usage_keeps P q m s h = sent_keeps P q m (codes "Usage: .program OBJECT:VERB") s h

begun_at_keeps : (w : World) (P : Bool → List Client → Type 0) (q : IsCarried P) (m : ℕ) (player : ℤ) (word : List ℕ) (colon : Option ℕ) (s : Session) → Carries P s → Carries P (begun_at_colon w m player word colon s)
begun_at_keeps w P q m player word None s h = usage_keeps P q m s h
begun_at_keeps w P q m player word (Some i) s h = begun_for_keeps w P q m player _ _ _ s h

begun_by_keeps : (w : World) (P : Bool → List Client → Type 0) (q : IsCarried P) (m : ℕ) (player : ℤ) (words : List (List ℕ)) (s : Session) → Carries P s → Carries P (begun_by w m player words s)
begun_by_keeps w P q m player [] s h = usage_keeps P q m s h
begun_by_keeps w P q m player (word ∷ []) s h = begun_at_keeps w P q m player word (position is_colon word) s h
begun_by_keeps w P q m player (word ∷ other ∷ more) s h = usage_keeps P q m s h

begun_when : (b : Bool) (w : World) (P : Bool → List Client → Type 0) (q : IsCarried P) (m : ℕ) (player : ℤ) (words : List (List ℕ)) (s : Session) → Carries P s → Carries P (cond b (begun_by w m player words s) (sent m (codes "You are not a programmer.") s))
begun_when true w P q m player words s h = begun_by_keeps w P q m player words s h
begun_when false w P q m player words s h = sent_keeps P q m (codes "You are not a programmer.") s h

programmed_at : (o : Option ErrorCode) (P : Bool → List Client → Type 0) (q : IsCarried P) (m : ℕ) (p : ℤ) (i : ℕ) (b : Block) (s : WorldState) → Carries P s.session → Carries P (programmed_unless o m p i b s).session
programmed_at None P q m p i b s h = sent_keeps P q m (codes "Verb programmed.") s.session h
programmed_at (Some e) P q m p i b s h = sent_keeps P q m (codes "Verb not programmed.") s.session h

ending_keeps : (T : Telling) (P : Bool → List Client → Type 0) (q : IsCarried P) (m : ℕ) (player : ℤ) (g : Gathering) {s s' : WorldState} → EndsProgramming T m player g s s' → Carries P s.session → Carries P s'.session
ending_keeps T P q m player g {s = s} (no_verb e) h = sent_keeps P q m (codes "No such verb.") s.session h
ending_keeps T P q m player g {s = s} (denied e a) h = sent_keeps P q m (codes "Permission denied.") s.session h
ending_keeps T P q m player g {s = s} (faulty e a fault x) h = sent_keeps P q m (codes "Verb not programmed.") (sent m (fault_text fault) s.session) (sent_keeps P q m (fault_text fault) s.session h)
ending_keeps T P q m player g {s = s} (parsed {i = i} {b = b} e a p) h = programmed_at _ P q m g.object i b s h

gathering_step : (T : Telling) (P : Bool → List Client → Type 0) (q : IsCarried P) (m : ℕ) (player : ℤ) (g : Gathering) (line : List ℕ) {s s' : WorldState} → Gathers T m player g line s s' → Carries P s.session → Carries P s'.session
gathering_step T P q m player g line {s = s} (keeps e) h = changed_carries P q s.session.closing m (with_gathering _) (gathering_keeps _) s.session.connections h
gathering_step T P q m player g line {s = s} (ends e d) h = ending_keeps T P q m player g d (changed_carries P q s.session.closing m (with_gathering None) (gathering_keeps None) s.session.connections h)

-- a command
unless_empty_keeps : (P : Bool → List Client → Type 0) (q : IsCarried P) (m : ℕ) (line : List ℕ) (s : Session) → Carries P s → Carries P (sent_unless_empty m line s)
unless_empty_keeps P q m [] s h = h
unless_empty_keeps P q m (b ∷ bs) s h = sent_keeps P q m (b ∷ bs) s h

verb_keeps : (T : Telling) (P : Bool → List Client → Type 0) (q : IsCarried P) (m : ℕ) (moment : ℕ) (player : ℤ) (c : Command) {s s' : WorldState} → RunsVerb T moment m player c s s' → Carries P s.session → Carries P s'.session
verb_keeps T P q m moment player c {s = s} (runs {this = this} {found = found} {v = v} {s' = t} e d) h = task_keeps T P q moment (command_frame found this player c) s t v d h
verb_keeps T P q m moment player c {s = s} (nothing_runs e) h = sent_keeps P q m (codes "I couldn't understand that.") s.session h

following_keeps : (T : Telling) (P : Bool → List Client → Type 0) (q : IsCarried P) (m : ℕ) (moment : ℕ) (player : ℤ) (line : List ℕ) (answer : Option Tree) {s s' : WorldState} → FollowsDoCommand T moment m player line answer s s' → Carries P s.session → Carries P s'.session
following_keeps T P q m moment player line answer (is_done e) h = h
following_keeps T P q m moment player line answer (goes_on {c = c} e d v) h = verb_keeps T P q m moment player c v h

command_keeps : (T : Telling) (P : Bool → List Client → Type 0) (q : IsCarried P) (m : ℕ) (moment : ℕ) (client : Client) (player : ℤ) (words : List (List ℕ)) (line : List ℕ) (s s' : WorldState) → Commanded T moment m client player words line s s' → Carries P s.session → Carries P s'.session
command_keeps T P q m moment client player words line s s' d h =
    let before : Carries P (sent_unless_empty m client.prefix s.session) = unless_empty_keeps P q m client.prefix s.session h in
    let asked : Carries P d.asked.session = call_keeps T P q moment (codes "do_command") player (strings_of words) line (in_session (sent_unless_empty m client.prefix) s) d.asked d.answer d.asks before in
    let done : Carries P d.done.session = following_keeps T P q m moment player line d.answer d.follows asked in
    subst (λ (x : WorldState). Carries P x.session) d.leaves (unless_empty_keeps P q m client.suffix d.done.session done)

-- lines
player_keeps : (T : Telling) (P : Bool → List Client → Type 0) (q : IsCarried P) (m : ℕ) (moment : ℕ) (client : Client) (player : ℤ) (line : List ℕ) (s s' : WorldState) → PlayerTypes T moment m client player line s s' → Carries P s.session → Carries P s'.session
player_keeps T P q m moment client player line s s' (no_word e) h = h
player_keeps T P q m moment client player line s s' (prefix {rest = text} x e) h = changed_carries P q s.session.closing m (with_prefix text) (prefix_keeps text) s.session.connections h
player_keeps T P q m moment client player line s s' (suffix {rest = text} x e) h = changed_carries P q s.session.closing m (with_suffix text) (suffix_keeps text) s.session.connections h
player_keeps T P q m moment client player line s s' (program {args = args} x e) h = begun_when (is_programmer s.world player) s.world P q m player args s.session h
player_keeps T P q m moment client player line s s' (command {word = word} {args = args} x e d) h = command_keeps T P q m moment client player (word ∷ args) line s s' d h

typing_keeps : (T : Telling) (P : Bool → List Client → Type 0) (q : IsCarried P) (m : ℕ) (moment : ℕ) (client : Client) (line : List ℕ) (s s' : WorldState) → Types T moment m client line s s' → Carries P s.session → Carries P s'.session
typing_keeps T P q m moment client line s s' (logs_in {words = words} e w d) h = login_keeps T P q m moment words line s s' d h
typing_keeps T P q m moment client line s s' (gathers {login = login} {g = g} e f d) h = gathering_step T P q m login.player g line d h
typing_keeps T P q m moment client line s s' (plays {login = login} e f d) h = player_keeps T P q m moment client login.player line s s' d h

pub lines_keep : (T : Telling) (P : Bool → List Client → Type 0) (q : IsCarried P) (m : ℕ) (moment : ℕ) {ls : List (List ℕ)} {s s' : WorldState} → MeetsLines T moment m ls s s' → Carries P s.session → Carries P s'.session
lines_keep T P q m moment no_line_more h = h
lines_keep T P q m moment (dropped e) h = h
lines_keep T P q m moment (one_line_more {client = client} {line = line} {s = s} e d ds) h =
    lines_keep T P q m moment ds (hooks_keep T P q moment d.hooks (typing_keeps T P q m moment client line s d.typed d.types h))

-- events
pub own_hook_keeps : (T : Telling) (P : Bool → List Client → Type 0) (q : IsCarried P) (moment : ℕ) (name : List ℕ) (args : List Tree) (s s' : WorldState) → CallsOwnHook T moment name args s s' → Carries P s.session → Carries P s'.session
own_hook_keeps T P q moment name args s s' d h = hooks_keep T P q moment d.hooks (call_keeps T P q moment name no_player args [] s d.called d.answer d.calls h)

pub gone_keeps : (P : Bool → List Client → Type 0) (q : IsCarried P) (o : Option ℤ) (s : Session) → Carries P s → Carries P (parted_from_client o s)
gone_keeps P q None s h = h
gone_keeps P q (Some player) s h = h
