-- No hook waits after an event.
use Rattle.std.proofs.Common.{◌≡◌, ℕ, List, []}
use Rattle.moo_builtin.specs.Telling.{Telling}
use Rattle.moo_session_task.specs.declared.world_state.WorldState.{WorldState}
use Rattle.moo_session_task.specs.Hooks.{HooksRun, none_waits, first_runs}
use Rattle.moo_session.specs.Input.{MeetsLines, no_line_more, dropped, one_line_more}
use Rattle.moo_session.specs.Events as event
use Rattle.moo_session.specs.Events.{Hears}
use Rattle.moo_server_law.specs.Sessions.{Happens, opens, hears, hangs_up, checkpoint_starts, checkpoint_ends, LeaveNoHook}

none_left : (T : Telling) (moment : ℕ) {s s' : WorldState} → HooksRun T moment s s' → s'.session.hooks ≡ []
none_left T moment (none_waits e) = e
none_left T moment (first_runs e call d) = none_left T moment d

after_lines : (T : Telling) (moment n : ℕ) {lines : List (List ℕ)} {s s' : WorldState} → MeetsLines T moment n lines s s' → s.session.hooks ≡ [] → s'.session.hooks ≡ []
after_lines T moment n no_line_more none = none
after_lines T moment n (dropped e) none = none
after_lines T moment n (one_line_more e m d) none = after_lines T moment n d (none_left T moment m.hooks)

after_bytes : (T : Telling) (moment n : ℕ) (piece : List ℕ) (s s' : WorldState) → Hears T moment n piece s s' → s.session.hooks ≡ [] → s'.session.hooks ≡ []
after_bytes T moment n piece s s' (event.dropped e) none = none
after_bytes T moment n piece s s' (event.heard h d) none = after_lines T moment n d none

after_all : (T : Telling) (moment : ℕ) (s s' : WorldState) → Happens T moment s s' → s.session.hooks ≡ [] → s'.session.hooks ≡ []
after_all T moment s s' (opens n d) none = none_left T moment d.hooks
after_all T moment s s' (hears n piece d) none = after_bytes T moment n piece s s' d none
after_all T moment s s' (hangs_up n d) none = none_left T moment d
after_all T moment s s' (checkpoint_starts d) none = none_left T moment d.hooks
after_all T moment s s' (checkpoint_ends done d) none = none_left T moment d.hooks

pub leave_none : (T : Telling) → LeaveNoHook T
leave_none T = record { happenings = after_all T; starts = λ moment players w s' d. none_left T moment d.starts.hooks }
