-- What comes of a line doesn't depend on what a connection's reader holds, nor on what was sent, logged and asked for before it.
use Rattle.std.proofs.Common.{◌≡◌, ℕ, ℤ, Bool, true, false, cond, ◌||◌, List, [], ◌∷◌, ◌++◌, append_assoc, map, Option, Some, None, refl, sym, ◌∙◌, ap, subst}
use Rattle.std.specs.Prelude.{codes, ◌==◌, is_some, int_lt, position, ◌&&◌}
use Rattle.std.specs.Option.{option_map, option_map_or}
use Rattle.std.specs.Ordering.{int_eq}
use Rattle.moo_eval_semantics.specs.Task.{TaskEnds}
use Rattle.moo_builtin.specs.Setting.{is_programmer, with_code}
use Rattle.moo_builtin.specs.Telling.{Telling}
use Rattle.moo_command.specs.Commands.{Command}
use Rattle.moo_eval_frame.specs.Surroundings.{Surroundings, own_number}
use Rattle.moo_eval_frame.specs.declared.surroundings.Connection.{Connection}
use Rattle.moo_eval_frame.specs.declared.surroundings.Login.{Login}
use Rattle.moo_eval_frame.specs.declared.frame.Frame.{Frame}
use Rattle.moo_eval_frame.specs.declared.notice.Notice.TheVariants as notice
use Rattle.moo_eval_frame.specs.declared.notice.Notice.{Notice}
use Rattle.moo_session.specs.Dispatch.{RunsVerb, runs, nothing_runs, FollowsDoCommand, is_done, goes_on, Commanded, sent_unless_empty}
use Rattle.moo_session.specs.DotProgram.{begun_by, begun_at_colon, begun_for_place, gathering_for, ready_line, is_colon, may_write, EndsProgramming, no_verb, denied, faulty, parsed, programmed_unless, Gathers, keeps, ends, with_line}
use Rattle.moo_session.specs.Frames.{command_frame}
use Rattle.moo_session.specs.Input.{PlayerTypes, no_word, prefix, suffix, program, command, Types, logs_in, gathers, plays, MeetsLines, no_line_more, dropped, one_line_more}
use Rattle.moo_session.specs.Login.{LogsIn, let_in, admitted, highest_in, redirected, welcomed, greeting, welcoming_hook, is_player, object_in}
use Rattle.moo_session_connection.specs.Changes.{with_changed, left_where, left_by, displaced, played, as_playing, with_prefix, with_suffix, with_gathering}
use Rattle.moo_session_connection.specs.Clients.{number_of, player_on, has_number, is_known_as, is_played_by, known_as, row_of, without_first}
use Rattle.moo_session_connection.specs.Connections.{Connections, around, client_here, client_known_as, client_playing}
use Rattle.moo_session_connection.specs.Gathering.{Gathering}
use Rattle.moo_session_connection.specs.Streams.{Sent}
use Rattle.moo_session_connection.specs.declared.client.Client.{Client}
use Rattle.moo_session_line.specs.Rest.{Rest}
use Rattle.moo_session_task.specs.Frames.{server_frame}
use Rattle.moo_session_task.specs.Hooks.{HooksRun, none_waits, first_runs, hook_name, player_of_hook}
use Rattle.moo_session_task.specs.Leaving.{parted, disconnected_from, shut_down, sent_to_each, shutdown_line}
use Rattle.moo_session_task.specs.Notices.{all_applied, applied}
use Rattle.moo_session_task.specs.Sending.{sent, notified, all_notified, sent_to}
use Rattle.moo_session_task.specs.Session.{Session, caused, in_connections, with_hooks}
use Rattle.moo_session_task.specs.declared.hook.Hook.TheVariants.{Reconnected}
use Rattle.moo_session_task.specs.State.{state, in_session}
use Rattle.moo_session_task.specs.Tasks.{RunsTask, CallsServerVerb, is_missing, runs as verb_runs, account_of}
use Rattle.moo_session_task.specs.WordList.{strings_of}
use Rattle.moo_session_task.specs.declared.world_state.WorldState.{WorldState}
use Rattle.moo_syntax.specs.FaultText.{fault_text}
use Rattle.moo_syntax_ast.specs.Tree.{Block}
use Rattle.moo_server_law.proofs.Mapped.{find_map, without_map, changed_map, is_some_map, or_true}
use Rattle.moo_value.specs.Tree.{Tree, object}
use Rattle.moo_value.specs.declared.error_code.ErrorCode.{ErrorCode}
use Rattle.moo_world_table.specs.World.{World}

-- a client that holds this rest, or is left as it is
abbrev pub holding_if : Bool → Rest → Client → Client
holding_if true r c = record c { reader = r }
holding_if false r c = c

-- connection n holds this rest
abbrev pub holding : ℕ → Rest → Client → Client
holding n r c = holding_if (has_number n c) r c

connection_if : (b : Bool) (r : Rest) (c : Client) → (holding_if b r c).connection ≡ c.connection
connection_if true r c = refl
connection_if false r c = refl

gathering_if : (b : Bool) (r : Rest) (c : Client) → (holding_if b r c).gathering ≡ c.gathering
gathering_if true r c = refl
gathering_if false r c = refl

prefix_if : (b : Bool) (r : Rest) (c : Client) → (holding_if b r c).prefix ≡ c.prefix
prefix_if true r c = refl
prefix_if false r c = refl

suffix_if : (b : Bool) (r : Rest) (c : Client) → (holding_if b r c).suffix ≡ c.suffix
suffix_if true r c = refl
suffix_if false r c = refl

-- Connection n holds this rest, and this was sent, logged and asked for before.
module _ (n : ℕ) (r : Rest) (sent_before : List Sent) (log_before : List (List ℕ)) (asked_before : Bool) where
  abbrev g : Client → Client
  g c = holding n r c

  abbrev pub moved_connections : Connections → Connections
  moved_connections s = record s { clients = map g s.clients }

  abbrev pub moved_session : Session → Session
  moved_session s = record {
    connections = moved_connections s.connections;
    hooks = s.hooks;
    asked = asked_before || s.asked;
    closing = s.closing;
    sent = sent_before ++ s.sent;
    log = log_before ++ s.log;
  }

  abbrev pub moved : WorldState → WorldState
  moved s = in_session moved_session s

  same_connection : (c : Client) → (g c).connection ≡ c.connection
  same_connection c = connection_if (has_number n c) r c

  same_number : (m : ℕ) (c : Client) → has_number m (g c) ≡ has_number m c
  same_number m c = ap (λ (x : Connection). x.number == m) (same_connection c)

  same_known : (who : ℤ) (c : Client) → is_known_as who (g c) ≡ is_known_as who c
  same_known who c = ap (λ (x : Connection). int_eq who (known_as x)) (same_connection c)

  same_player : (c : Client) → player_on (g c) ≡ player_on c
  same_player c = ap (λ (x : Connection). option_map (λ (login : Login). login.player) x.login) (same_connection c)

  same_played : (player : ℤ) (c : Client) → is_played_by player (g c) ≡ is_played_by player c
  same_played player c = ap (λ (o : Option ℤ). option_map_or (int_eq player) o false) (same_player c)

  -- a change of a client that leaves its number and commutes with what it holds
  abbrev Commutes : (Client → Client) → Type 0
  Commutes f = (b : Bool) (c : Client) → f (holding_if b r c) ≡ holding_if b r (f c)

  plays_commutes : (player : ℤ) (moment : ℕ) → Commutes (as_playing player moment)
  plays_commutes player moment true c = refl
  plays_commutes player moment false c = refl

  prefix_commutes : (text : List ℕ) → Commutes (with_prefix text)
  prefix_commutes text true c = refl
  prefix_commutes text false c = refl

  suffix_commutes : (text : List ℕ) → Commutes (with_suffix text)
  suffix_commutes text true c = refl
  suffix_commutes text false c = refl

  gathering_commutes : (o : Option Gathering) → Commutes (with_gathering o)
  gathering_commutes o true c = refl
  gathering_commutes o false c = refl

  with_changed_moves : (m : ℕ) (f : Client → Client) → ((c : Client) → has_number n (f c) ≡ has_number n c) → Commutes f → (s : Connections) → with_changed m f (moved_connections s) ≡ moved_connections (with_changed m f s)
  with_changed_moves m f own k s =
      ap (λ (cs : List Client). record s { clients = cs })
      (changed_map (has_number m) g f (same_number m) (λ c. k (has_number n c) c ∙ ap (λ (b : Bool). holding_if b r (f c)) (sym (own c))) s.clients)

  here_moves : (m : ℕ) (s : Connections) → client_here m (moved_connections s) ≡ option_map g (client_here m s)
  here_moves m s = find_map (has_number m) g (same_number m) s.clients

  known_moves : (who : ℤ) (s : Connections) → client_known_as who (moved_connections s) ≡ option_map g (client_known_as who s)
  known_moves who s = find_map (is_known_as who) g (same_known who) s.clients

  rows_move : (cs : List Client) → row_of (map g cs) ≡ row_of cs
  rows_move [] = refl
  rows_move (c ∷ cs) = ap (λ (x : Connection). x ∷ row_of (map g cs)) (same_connection c) ∙ ap (λ (xs : List Connection). c.connection ∷ xs) (rows_move cs)

  numbers_move : (cs : List Client) → map number_of (map g cs) ≡ map number_of cs
  numbers_move [] = refl
  numbers_move (c ∷ cs) = ap (λ (x : Connection). x.number ∷ map number_of (map g cs)) (same_connection c) ∙ ap (λ (xs : List ℕ). number_of c ∷ xs) (numbers_move cs)

  -- what is sent, and who leaves
  sent_to_moves : (o : Option Client) (line : List ℕ) (s : Session) → sent_to (option_map g o) line (moved_session s) ≡ moved_session (sent_to o line s)
  sent_to_moves None line s = refl
  sent_to_moves (Some c) line s =
      ap (λ (x : Connection). record (moved_session s) { sent = (sent_before ++ s.sent) ++ record { to = x.number; line = line } ∷ [] }) (same_connection c)
      ∙ ap (λ (x : List Sent). record (moved_session s) { sent = x }) (append_assoc sent_before s.sent (record { to = number_of c; line = line } ∷ []))

  sent_moves : (m : ℕ) (line : List ℕ) (s : Session) → sent m line (moved_session s) ≡ moved_session (sent m line s)
  sent_moves m line s = ap (λ (o : Option Client). sent_to o line (moved_session s)) (here_moves m s.connections) ∙ sent_to_moves (client_here m s.connections) line s

  notified_moves : (who : ℤ) (line : List ℕ) (s : Session) → notified who line (moved_session s) ≡ moved_session (notified who line s)
  notified_moves who line s = ap (λ (o : Option Client). sent_to o line (moved_session s)) (known_moves who s.connections) ∙ sent_to_moves (client_known_as who s.connections) line s

  all_notified_moves : (who : ℤ) (ls : List (List ℕ)) (s : Session) → all_notified who ls (moved_session s) ≡ moved_session (all_notified who ls s)
  all_notified_moves who [] s = refl
  all_notified_moves who (line ∷ ls) s = ap (all_notified who ls) (notified_moves who line s) ∙ all_notified_moves who ls (notified who line s)

  left_moves : (test : Client → Bool) → ((c : Client) → test (g c) ≡ test c) → (o : Option Client) (s : Connections) → left_where test (option_map g o) (moved_connections s) ≡ moved_connections (left_where test o s)
  left_moves test same None s = refl
  left_moves test same (Some c) s =
      ap (λ (cs : List Client). record { clients = cs; leaving = s.leaving ++ number_of (g c) ∷ [] }) (without_map test g same s.clients)
      ∙ ap (λ (x : Connection). record { clients = map g (without_first test s.clients); leaving = s.leaving ++ x.number ∷ [] }) (same_connection c)

  left_by_moves : (who : ℤ) (s : Connections) → left_by who (moved_connections s) ≡ moved_connections (left_by who s)
  left_by_moves who s = ap (λ (o : Option Client). left_where (is_known_as who) o (moved_connections s)) (known_moves who s) ∙ left_moves (is_known_as who) (same_known who) (client_known_as who s) s

  displaced_moves : (player : ℤ) (s : Connections) → displaced player (moved_connections s) ≡ moved_connections (displaced player s)
  displaced_moves player s =
      ap (λ (o : Option Client). left_where (is_played_by player) o (moved_connections s)) (find_map (is_played_by player) g (same_played player) s.clients)
      ∙ left_moves (is_played_by player) (same_played player) (client_playing player s) s

  played_moves : (m : ℕ) (player : ℤ) (moment : ℕ) (s : Connections) → played m player moment (moved_connections s) ≡ moved_connections (played m player moment s)
  played_moves m player moment s =
      ap (with_changed m (as_playing player moment)) (displaced_moves player s)
      ∙ with_changed_moves m (as_playing player moment) (λ c. refl) (plays_commutes player moment) (displaced player s)

  -- a change of connections in a session
  in_moves : (f : Connections → Connections) → ((s : Connections) → f (moved_connections s) ≡ moved_connections (f s)) → (s : Session) → in_connections f (moved_session s) ≡ moved_session (in_connections f s)
  in_moves f k s = ap (λ (x : Connections). record (moved_session s) { connections = x }) (k s.connections)

  gathers_moves : (m : ℕ) (o : Option Gathering) (s : Session) → in_connections (with_changed m (with_gathering o)) (moved_session s) ≡ moved_session (in_connections (with_changed m (with_gathering o)) s)
  gathers_moves m o s = in_moves (with_changed m (with_gathering o)) (with_changed_moves m (with_gathering o) (λ c. refl) (gathering_commutes o)) s

  parted_moves : (o : Option ℤ) (s : Session) → parted o (moved_session s) ≡ moved_session (parted o s)
  parted_moves None s = refl
  parted_moves (Some player) s = refl

  disconnected_moves : (who : ℤ) (o : Option Client) (line : List ℕ) (s : Session) → disconnected_from who (option_map g o) line (moved_session s) ≡ moved_session (disconnected_from who o line s)
  disconnected_moves who None line s = refl
  disconnected_moves who (Some c) line s =
      ap (λ (o : Option ℤ). parted o (in_connections (left_by who) (sent_to (Some (g c)) line (moved_session s)))) (same_player c)
      ∙ ap (λ (x : Session). parted (player_on c) (in_connections (left_by who) x)) (sent_to_moves (Some c) line s)
      ∙ ap (parted (player_on c)) (in_moves (left_by who) (left_by_moves who) (sent_to (Some c) line s))
      ∙ parted_moves (player_on c) (in_connections (left_by who) (sent_to (Some c) line s))

  ended_moves : (who : ℤ) (line : List ℕ) (s : Session) → disconnected_from who (client_known_as who (moved_connections s.connections)) line (moved_session s) ≡ moved_session (disconnected_from who (client_known_as who s.connections) line s)
  ended_moves who line s =
      ap (λ (o : Option Client). disconnected_from who o line (moved_session s)) (known_moves who s.connections) ∙ disconnected_moves who (client_known_as who s.connections) line s

  shut_moves : (why : Option (List ℕ)) (s : Session) → shut_down why (moved_session s) ≡ moved_session (shut_down why s)
  shut_moves why s =
      let line = shutdown_line why in
      let all : List Client → List ℕ → List Sent → Bool → Session = λ cs ns x b. record { connections = record { clients = cs; leaving = ns }; hooks = s.hooks; asked = b; closing = true; sent = x; log = log_before ++ s.log } in
      ap (λ (ns : List ℕ). all [] (s.connections.leaving ++ ns) ((sent_before ++ s.sent) ++ sent_to_each line (row_of (map g s.connections.clients))) true) (numbers_move s.connections.clients)
      ∙ ap (λ (row : List Connection). all [] (s.connections.leaving ++ map number_of s.connections.clients) ((sent_before ++ s.sent) ++ sent_to_each line row) true) (rows_move s.connections.clients)
      ∙ ap (λ (x : List Sent). all [] (s.connections.leaving ++ map number_of s.connections.clients) x true) (append_assoc sent_before s.sent (sent_to_each line (row_of s.connections.clients)))
      ∙ ap (all [] (s.connections.leaving ++ map number_of s.connections.clients) (sent_before ++ (s.sent ++ sent_to_each line (row_of s.connections.clients)))) (sym (or_true asked_before))

  applied_moves : (x : Notice) (s : Session) → applied x (moved_session s) ≡ moved_session (applied x s)
  applied_moves (notice.Notify who line) s = notified_moves who line s
  applied_moves (notice.BootPlayer who) s = ended_moves who (codes "*** Disconnected ***") s
  applied_moves (notice.SetPlayerFlag o true) s = refl
  applied_moves (notice.SetPlayerFlag o false) s = ended_moves o (codes "*** Disconnected ***") s
  applied_moves (notice.Recycle o) s = ended_moves o (codes "*** Recycled ***") s
  applied_moves notice.DumpDatabase s = ap (λ (b : Bool). record (moved_session s) { asked = b }) (sym (or_true asked_before))
  applied_moves (notice.Shutdown why) s = shut_moves why s
  applied_moves (notice.ServerLog line) s = ap (λ (x : List (List ℕ)). record (moved_session s) { log = x }) (append_assoc log_before s.log (line ∷ []))

  all_applied_moves : (xs : List Notice) (s : Session) → all_applied xs (moved_session s) ≡ moved_session (all_applied xs s)
  all_applied_moves [] s = refl
  all_applied_moves (x ∷ xs) s = ap (all_applied xs) (applied_moves x s) ∙ all_applied_moves xs (applied x s)

  around_moves : (moment : ℕ) (s : Connections) → around moment (moved_connections s) ≡ around moment s
  around_moves moment s = ap (λ (row : List Connection). record { moment = moment; connections = row }) (rows_move s.clients)

  -- tasks and hooks
  task_moves : (T : Telling) (moment : ℕ) (start : Frame) (s s' : WorldState) (v : Option Tree) → RunsTask T moment start s v s' → RunsTask T moment start (moved s) v (moved s')
  task_moves T moment start s s' v d = record {
    end = d.end;
    after = d.after;
    notices = d.notices;
    ends = subst (λ (a : Surroundings). TaskEnds T a start s.world d.end d.after d.notices) (sym (around_moves moment s.session.connections)) d.ends;
    gives = d.gives;
    leaves =
        ap (λ (x : Session). state d.after (all_notified start.player (account_of d.end) x)) (all_applied_moves d.notices s.session)
        ∙ ap (state d.after) (all_notified_moves start.player (account_of d.end) (all_applied d.notices s.session))
        ∙ ap moved d.leaves;
  }

  call_moves : (T : Telling) (moment : ℕ) (name : List ℕ) (player : ℤ) (args : List Tree) (argstr : List ℕ) (s s' : WorldState) (v : Option Tree) →
      CallsServerVerb T moment name player args argstr s v s' → CallsServerVerb T moment name player args argstr (moved s) v (moved s')
  call_moves T moment name player args argstr s s' v (is_missing e) = is_missing e
  call_moves T moment name player args argstr s s' v (verb_runs {found = found} {v = u} {s' = t} e d) = verb_runs e (task_moves T moment (server_frame found name player args argstr) s t u d)

  pub hooks_move : (T : Telling) (moment : ℕ) {s s' : WorldState} → HooksRun T moment s s' → HooksRun T moment (moved s) (moved s')
  hooks_move T moment (none_waits e) = none_waits e
  hooks_move T moment (first_runs {s = s} {s' = mid} {h = k} {hs = ks} {v = v} e call d) =
      first_runs e (call_moves T moment (hook_name k) (player_of_hook k) (object (player_of_hook k) ∷ []) [] (in_session (with_hooks ks) s) mid v call) (hooks_move T moment d)

  -- a login
  welcomed_moves : (m : ℕ) (player : ℤ) (moment : ℕ) (is_new : Bool) (s : Session) → welcomed m player moment is_new (moved_session s) ≡ moved_session (welcomed m player moment is_new s)
  welcomed_moves m player moment is_new s =
      ap (λ (x : Session). caused (welcoming_hook player is_new) (in_connections (played m player moment) x)) (sent_moves m (greeting is_new) s)
      ∙ ap (caused (welcoming_hook player is_new)) (in_moves (played m player moment) (played_moves m player moment) (sent m (greeting is_new) s))

  redirected_moves : (m : ℕ) (player : ℤ) (moment : ℕ) (s : Session) → redirected m player moment (moved_session s) ≡ moved_session (redirected m player moment s)
  redirected_moves m player moment s =
      let first = codes "*** Redirecting old connection to this port ***" in
      let second = codes "*** Redirecting connection to new port ***" in
      ap (λ (x : Session). caused (Reconnected player) (in_connections (played m player moment) (notified player second x))) (sent_moves m first s)
      ∙ ap (λ (x : Session). caused (Reconnected player) (in_connections (played m player moment) x)) (notified_moves player second (sent m first s))
      ∙ ap (caused (Reconnected player)) (in_moves (played m player moment) (played_moves m player moment) (notified player second (sent m first s)))

  connected_at : (b : Bool) (m : ℕ) (player : ℤ) (moment : ℕ) (is_new : Bool) (s : Session) →
      cond b (redirected m player moment (moved_session s)) (welcomed m player moment is_new (moved_session s)) ≡ moved_session (cond b (redirected m player moment s) (welcomed m player moment is_new s))
  connected_at true m player moment is_new s = redirected_moves m player moment s
  connected_at false m player moment is_new s = welcomed_moves m player moment is_new s

  let_in_moves : (m : ℕ) (moment : ℕ) (before : ℤ) (who : Option ℤ) (s : Session) → let_in m moment before who (moved_session s) ≡ moved_session (let_in m moment before who s)
  let_in_moves m moment before None s = refl
  let_in_moves m moment before (Some player) s =
      ap (λ (b : Bool). cond b (redirected m player moment (moved_session s)) (welcomed m player moment (int_lt before player) (moved_session s)))
      (ap is_some (known_moves player s.connections) ∙ is_some_map g (client_known_as player s.connections))
      ∙ connected_at (is_some (client_known_as player s.connections)) m player moment (int_lt before player) s

  admitted_moves : (s : WorldState) (m : ℕ) (answer : Option Tree) → admitted (moved s) m answer ≡ admitted s m answer
  admitted_moves s m answer =
      ap (λ (b : Bool). option_map_or (λ o. cond (is_player s.world o && b) (Some o) None) (object_in answer) None)
      (ap is_some (here_moves m s.session.connections) ∙ is_some_map g (client_here m s.session.connections))

  login_moves : (T : Telling) (m : ℕ) (moment : ℕ) (words : List (List ℕ)) (line : List ℕ) (s s' : WorldState) → LogsIn T moment m words line s s' → LogsIn T moment m words line (moved s) (moved s')
  login_moves T m moment words line s s' d = record {
    answer = d.answer;
    asked = moved d.asked;
    asks = call_moves T moment (codes "do_login_command") (own_number m) (strings_of words) line s d.asked d.answer d.asks;
    leaves =
        ap (λ (who : Option ℤ). in_session (let_in m moment (highest_in s.world) who) (moved d.asked)) (admitted_moves d.asked m d.answer)
        ∙ ap (state d.asked.world) (let_in_moves m moment (highest_in s.world) (admitted d.asked m d.answer) d.asked.session)
        ∙ ap moved d.leaves;
  }

  -- `.program`
  begun_where : (b : Bool) (m : ℕ) (o : ℤ) (verb : List ℕ) (s : Session) →
      cond b (gathering_for m o verb (sent m (ready_line o verb) (moved_session s))) (sent m (codes "Permission denied.") (moved_session s))
      ≡ moved_session (cond b (gathering_for m o verb (sent m (ready_line o verb) s)) (sent m (codes "Permission denied.") s))
  begun_where true m o verb s = ap (gathering_for m o verb) (sent_moves m (ready_line o verb) s) ∙ gathers_moves m (Some (record { object = o; verb = verb; lines = [] })) (sent m (ready_line o verb) s)
  begun_where false m o verb s = sent_moves m (codes "Permission denied.") s

  begun_for_moves : (w : World) (m : ℕ) (player o : ℤ) (verb : List ℕ) (place : Option ℕ) (s : Session) → begun_for_place w m player o verb place (moved_session s) ≡ moved_session (begun_for_place w m player o verb place s)
  begun_for_moves w m player o verb None s = sent_moves m (codes "No such verb.") s
  begun_for_moves w m player o verb (Some i) s = begun_where (may_write w player o i) m o verb s

  begun_at_moves : (w : World) (m : ℕ) (player : ℤ) (word : List ℕ) (colon : Option ℕ) (s : Session) → begun_at_colon w m player word colon (moved_session s) ≡ moved_session (begun_at_colon w m player word colon s)
  begun_at_moves w m player word None s = sent_moves m (codes "Usage: .program OBJECT:VERB") s
  begun_at_moves w m player word (Some i) s = begun_for_moves w m player _ _ _ s

  begun_by_moves : (w : World) (m : ℕ) (player : ℤ) (words : List (List ℕ)) (s : Session) → begun_by w m player words (moved_session s) ≡ moved_session (begun_by w m player words s)
  begun_by_moves w m player [] s = sent_moves m (codes "Usage: .program OBJECT:VERB") s
  begun_by_moves w m player (word ∷ []) s = begun_at_moves w m player word (position is_colon word) s
  begun_by_moves w m player (word ∷ other ∷ more) s = sent_moves m (codes "Usage: .program OBJECT:VERB") s

  begun_when : (b : Bool) (w : World) (m : ℕ) (player : ℤ) (words : List (List ℕ)) (s : Session) →
      cond b (begun_by w m player words (moved_session s)) (sent m (codes "You are not a programmer.") (moved_session s)) ≡ moved_session (cond b (begun_by w m player words s) (sent m (codes "You are not a programmer.") s))
  begun_when true w m player words s = begun_by_moves w m player words s
  begun_when false w m player words s = sent_moves m (codes "You are not a programmer.") s

  programmed_moves : (o : Option ErrorCode) (m : ℕ) (p : ℤ) (i : ℕ) (b : Block) (s : WorldState) → programmed_unless o m p i b (moved s) ≡ moved (programmed_unless o m p i b s)
  programmed_moves None m p i b s = ap (state (with_code s.world p i b)) (sent_moves m (codes "Verb programmed.") s.session)
  programmed_moves (Some e) m p i b s = ap (state s.world) (sent_moves m (codes "Verb not programmed.") s.session)

  ending_moves : (T : Telling) (m : ℕ) (player : ℤ) (x : Gathering) {s s' : WorldState} → EndsProgramming T m player x s s' → EndsProgramming T m player x (moved s) (moved s')
  ending_moves T m player x {s = s} (no_verb e) = subst (EndsProgramming T m player x (moved s)) (ap (state s.world) (sent_moves m (codes "No such verb.") s.session)) (no_verb e)
  ending_moves T m player x {s = s} (denied e a) = subst (EndsProgramming T m player x (moved s)) (ap (state s.world) (sent_moves m (codes "Permission denied.") s.session)) (denied e a)
  ending_moves T m player x {s = s} (faulty e a fault f) =
      subst (EndsProgramming T m player x (moved s))
      (ap (λ (y : Session). state s.world (sent m (codes "Verb not programmed.") y)) (sent_moves m (fault_text fault) s.session) ∙ ap (state s.world) (sent_moves m (codes "Verb not programmed.") (sent m (fault_text fault) s.session)))
      (faulty e a fault f)
  ending_moves T m player x {s = s} (parsed {i = i} {b = b} e a p) = subst (EndsProgramming T m player x (moved s)) (programmed_moves _ m x.object i b s) (parsed e a p)

  gathering_moves : (T : Telling) (m : ℕ) (player : ℤ) (x : Gathering) (line : List ℕ) {s s' : WorldState} → Gathers T m player x line s s' → Gathers T m player x line (moved s) (moved s')
  gathering_moves T m player x line {s = s} (keeps e) = subst (Gathers T m player x line (moved s)) (ap (state s.world) (gathers_moves m (Some (with_line line x)) s.session)) (keeps e)
  gathering_moves T m player x line {s = s} (ends {s' = s'} e d) =
      ends e (subst (λ (y : Session). EndsProgramming T m player x (state s.world y) (moved s')) (sym (gathers_moves m None s.session)) (ending_moves T m player x d))

  -- a command
  unless_empty_moves : (m : ℕ) (line : List ℕ) (s : Session) → sent_unless_empty m line (moved_session s) ≡ moved_session (sent_unless_empty m line s)
  unless_empty_moves m [] s = refl
  unless_empty_moves m (b ∷ bs) s = sent_moves m (b ∷ bs) s

  verb_moves : (T : Telling) (m : ℕ) (moment : ℕ) (player : ℤ) (c : Command) {s s' : WorldState} → RunsVerb T moment m player c s s' → RunsVerb T moment m player c (moved s) (moved s')
  verb_moves T m moment player c {s = s} (runs {this = this} {found = found} {v = v} {s' = t} e d) = runs e (task_moves T moment (command_frame found this player c) s t v d)
  verb_moves T m moment player c {s = s} (nothing_runs e) =
      subst (RunsVerb T moment m player c (moved s)) (ap (state s.world) (sent_moves m (codes "I couldn't understand that.") s.session)) (nothing_runs e)

  following_moves : (T : Telling) (m : ℕ) (moment : ℕ) (player : ℤ) (line : List ℕ) (answer : Option Tree) {s s' : WorldState} → FollowsDoCommand T moment m player line answer s s' → FollowsDoCommand T moment m player line answer (moved s) (moved s')
  following_moves T m moment player line answer (is_done e) = is_done e
  following_moves T m moment player line answer (goes_on {c = c} e d v) = goes_on e d (verb_moves T m moment player c v)

  command_moves : (T : Telling) (m : ℕ) (moment : ℕ) (client : Client) (player : ℤ) (words : List (List ℕ)) (line : List ℕ) (s s' : WorldState) →
      Commanded T moment m client player words line s s' → Commanded T moment m (g client) player words line (moved s) (moved s')
  command_moves T m moment client player words line s s' d = record {
    answer = d.answer;
    asked = moved d.asked;
    done = moved d.done;
    asks =
        subst (λ (x : Session). CallsServerVerb T moment (codes "do_command") player (strings_of words) line (state s.world x) d.answer (moved d.asked))
        (sym (ap (λ (text : List ℕ). sent_unless_empty m text (moved_session s.session)) (prefix_if (has_number n client) r client) ∙ unless_empty_moves m client.prefix s.session))
        (call_moves T moment (codes "do_command") player (strings_of words) line (in_session (sent_unless_empty m client.prefix) s) d.asked d.answer d.asks);
    follows = following_moves T m moment player line d.answer d.follows;
    leaves =
        ap (state d.done.world) (ap (λ (text : List ℕ). sent_unless_empty m text (moved_session d.done.session)) (suffix_if (has_number n client) r client) ∙ unless_empty_moves m client.suffix d.done.session)
        ∙ ap moved d.leaves;
  }

  -- lines
  player_moves : (T : Telling) (m : ℕ) (moment : ℕ) (client : Client) (player : ℤ) (line : List ℕ) (s s' : WorldState) →
      PlayerTypes T moment m client player line s s' → PlayerTypes T moment m (g client) player line (moved s) (moved s')
  player_moves T m moment client player line s s' (no_word e) = no_word e
  player_moves T m moment client player line s s' (prefix {rest = text} x e) =
      subst (PlayerTypes T moment m (g client) player line (moved s))
      (ap (state s.world) (in_moves (with_changed m (with_prefix text)) (with_changed_moves m (with_prefix text) (λ c. refl) (prefix_commutes text)) s.session)) (prefix x e)
  player_moves T m moment client player line s s' (suffix {rest = text} x e) =
      subst (PlayerTypes T moment m (g client) player line (moved s))
      (ap (state s.world) (in_moves (with_changed m (with_suffix text)) (with_changed_moves m (with_suffix text) (λ c. refl) (suffix_commutes text)) s.session)) (suffix x e)
  player_moves T m moment client player line s s' (program {args = args} x e) =
      subst (PlayerTypes T moment m (g client) player line (moved s)) (ap (state s.world) (begun_when (is_programmer s.world player) s.world m player args s.session)) (program x e)
  player_moves T m moment client player line s s' (command {word = word} {args = args} x e d) = command x e (command_moves T m moment client player (word ∷ args) line s s' d)

  typing_moves : (T : Telling) (m : ℕ) (moment : ℕ) (client : Client) (line : List ℕ) (s s' : WorldState) → Types T moment m client line s s' → Types T moment m (g client) line (moved s) (moved s')
  typing_moves T m moment client line s s' (logs_in {words = words} e w d) = logs_in (ap (λ (x : Connection). x.login) (same_connection client) ∙ e) w (login_moves T m moment words line s s' d)
  typing_moves T m moment client line s s' (gathers {login = login} {g = x} e f d) =
      gathers (ap (λ (x : Connection). x.login) (same_connection client) ∙ e) (gathering_if (has_number n client) r client ∙ f) (gathering_moves T m login.player x line d)
  typing_moves T m moment client line s s' (plays {login = login} e f d) =
      plays (ap (λ (x : Connection). x.login) (same_connection client) ∙ e) (gathering_if (has_number n client) r client ∙ f) (player_moves T m moment client login.player line s s' d)

  pub lines_move : (T : Telling) (m : ℕ) (moment : ℕ) {ls : List (List ℕ)} {s s' : WorldState} → MeetsLines T moment m ls s s' → MeetsLines T moment m ls (moved s) (moved s')
  lines_move T m moment no_line_more = no_line_more
  lines_move T m moment (dropped {s = s} e) = dropped (here_moves m s.session.connections ∙ ap (option_map g) e)
  lines_move T m moment (one_line_more {client = client} {line = line} {s = s} {s' = mid} e d ds) =
      one_line_more (here_moves m s.session.connections ∙ ap (option_map g) e)
      (record { typed = moved d.typed; types = typing_moves T m moment client line s d.typed d.types; hooks = hooks_move T moment d.hooks })
      (lines_move T m moment ds)
