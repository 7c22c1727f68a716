-- For one input a task and the hooks that wait have one result under two tellings, where each task has.
use Rattle.std.proofs.Common.{◌≡◌, ℕ, ℤ, List, [], ◌∷◌, Option, refl, sym, ◌∙◌, ap, subst, drop, slice_index_or}
use Rattle.moo_value.specs.Tree.{Tree, object}
use Rattle.moo_world_object.specs.declared.verb.Verb.{Verb}
use Rattle.moo_world_table.specs.World.{World}
use Rattle.moo_builtin.specs.Telling.{Telling, Choice, PassesPrograms, chosen_by}
use Rattle.moo_eval_frame.specs.declared.frame.Frame.{Frame}
use Rattle.moo_eval_frame.specs.declared.notice.Notice.{Notice}
use Rattle.moo_eval_semantics.specs.Task.{End, OneResultOfTasks}
use Rattle.moo_session_connection.specs.Connections.{around}
use Rattle.moo_session_task.specs.declared.hook.Hook.{Hook}
use Rattle.moo_session_task.specs.declared.world_state.WorldState.{WorldState}
use Rattle.moo_session_task.specs.Session.{Session, with_hooks}
use Rattle.moo_session_task.specs.State.{state, in_session}
use Rattle.moo_session_task.specs.Sending.{all_notified}
use Rattle.moo_session_task.specs.Notices.{all_applied}
use Rattle.moo_session_task.specs.Frames.{server_frame}
use Rattle.moo_session_task.specs.Laws.{AreAlike, IsWithin, OneResultOfCalls, OneResultOfHooks}
use Rattle.moo_session_task.specs.Tasks.{RunsTask, CallsServerVerb, is_missing, runs, value_of, account_of}
use Rattle.moo_session_task.specs.Hooks.{HooksRun, none_waits, first_runs, CallsHook, hook_name, player_of_hook}

-- one answer, and one state after it
pub record AreSame (v w : Option Tree) (s t : WorldState) : Type 0 where
  pub answer : v ≡ w
  pub live : s ≡ t

-- what a task leaves of its end
left_by : ℤ → Session → End → World → List Notice → WorldState
left_by player s end after notices = state after (all_notified player (account_of end) (all_applied notices s))

pub one_task : (T U : Telling) → AreAlike T U → (moment : ℕ) (start : Frame) (s s' t : WorldState) (v w : Option Tree) →
    RunsTask T moment start s v s' → RunsTask U moment start s w t → AreSame v w s' t
unfolding left_by
one_task T U law moment start s s' t v w r q =
    let same = law (around moment s.session.connections) start s.world r.after q.after r.end q.end r.notices q.notices r.ends q.ends in
    let leaves : left_by start.player s.session r.end r.after r.notices ≡ left_by start.player s.session q.end q.after q.notices =
    ap (λ (e : End). left_by start.player s.session e r.after r.notices) same.0
    ∙ ap (λ (x : World). left_by start.player s.session q.end x r.notices) same.1
    ∙ ap (λ (ns : List Notice). left_by start.player s.session q.end q.after ns) same.2
    in record { answer = sym r.gives ∙ ap value_of same.0 ∙ q.gives; live = sym r.leaves ∙ leaves ∙ q.leaves }

pub one_call : (T U : Telling) → AreAlike T U → (moment : ℕ) (name : List ℕ) (player : ℤ) (args : List Tree) (argstr : List ℕ) (s s' t : WorldState) (v w : Option Tree) →
    CallsServerVerb T moment name player args argstr s v s' → CallsServerVerb U moment name player args argstr s w t → AreSame v w s' t
one_call T U law moment name player args argstr s s' t v w (is_missing e) (is_missing f) = record { answer = refl; live = refl }
one_call T U law moment name player args argstr s s' t v w (is_missing e) (runs f q) = cc
one_call T U law moment name player args argstr s s' t v w (runs e r) (is_missing f) = cc
one_call T U law moment name player args argstr s s' t v w (runs {found = found} e r) (runs {found = other} f q) =
    let same : other ≡ found = cc in
    let frame_of : ℤ × Verb → Frame = λ x. server_frame x name player args argstr in
    let along : ℤ × Verb → Type 0 = λ x. RunsTask U moment (frame_of x) s w t in
    one_task T U law moment (frame_of found) s s' t v w r (subst along same q)

-- the same hook runs first
one_hook : (T U : Telling) → AreAlike T U → (moment : ℕ) (s mid other : WorldState) (h k : Hook) (hs ks : List Hook) (v w : Option Tree) →
    s.session.hooks ≡ h ∷ hs → s.session.hooks ≡ k ∷ ks → CallsHook T moment h (in_session (with_hooks hs) s) v mid → CallsHook U moment k (in_session (with_hooks ks) s) w other → mid ≡ other
one_hook T U law moment s mid other h k hs ks v w e f d q =
    let rest : ks ≡ hs = ap (λ (xs : List Hook). drop 1 xs) (sym f ∙ e) in
    let first : k ≡ h = ap (λ (xs : List Hook). slice_index_or xs 0 h) (sym f ∙ e) in
    let along : Hook → Type 0 = λ x. CallsHook U moment x (in_session (with_hooks hs) s) w other in
    let along_rest : List Hook → Type 0 = λ xs. CallsHook U moment k (in_session (with_hooks xs) s) w other in
    let same = one_call T U law moment (hook_name h) (player_of_hook h) (object (player_of_hook h) ∷ []) [] (in_session (with_hooks hs) s) mid other v w d (subst along first (subst along_rest rest q)) in
    same.live

pub one_run_of_hooks : (T U : Telling) → AreAlike T U → (moment : ℕ) {s s' t : WorldState} → HooksRun T moment s s' → HooksRun U moment s t → s' ≡ t
one_run_of_hooks T U law moment (none_waits e) (none_waits f) = refl
one_run_of_hooks T U law moment (none_waits e) (first_runs f k d) = cc
one_run_of_hooks T U law moment (first_runs e h d) (none_waits f) = cc
one_run_of_hooks T U law moment (first_runs {s = s} {s' = mid} {s'' = end} {h = h} {hs = hs} {v = v} e call d) (first_runs {s' = other} {s'' = last} {h = k} {hs = ks} {v = w} f call' d') =
    let same : mid ≡ other = one_hook T U law moment s mid other h k hs ks v w e f call call' in
    let along : WorldState → Type 0 = λ x. HooksRun U moment x last in
    one_run_of_hooks T U law moment d (subst along (sym same) d')

-- whatever is chosen to be told
alike : OneResultOfTasks → (choice : Choice) → PassesPrograms choice → AreAlike (chosen_by choice) (chosen_by choice)
alike law choice p around start before after instead end other notices others r q = law choice p around start before after instead end other notices others r q

pub every_call : OneResultOfTasks → OneResultOfCalls
every_call law choice p moment name player args argstr s s' t v w r q =
    let same = one_call (chosen_by choice) (chosen_by choice) (alike law choice p) moment name player args argstr s s' t v w r q in
    (same.answer, same.live)

pub every_run_of_hooks : OneResultOfTasks → OneResultOfHooks
every_run_of_hooks law choice p moment s s' t r q = one_run_of_hooks (chosen_by choice) (chosen_by choice) (alike law choice p) moment r q

-- what a task may leave under the first it may leave under the second
pub task_within : (T U : Telling) → IsWithin T U → (moment : ℕ) (start : Frame) (s s' : WorldState) (v : Option Tree) → RunsTask T moment start s v s' → RunsTask U moment start s v s'
task_within T U law moment start s s' v r = record {
  end = r.end;
  after = r.after;
  notices = r.notices;
  ends = law (around moment s.session.connections) start s.world r.after r.end r.notices r.ends;
  gives = r.gives;
  leaves = r.leaves;
}

pub call_within : (T U : Telling) → IsWithin T U → (moment : ℕ) (name : List ℕ) (player : ℤ) (args : List Tree) (argstr : List ℕ) (s s' : WorldState) (v : Option Tree) →
    CallsServerVerb T moment name player args argstr s v s' → CallsServerVerb U moment name player args argstr s v s'
call_within T U law moment name player args argstr s s' v (is_missing e) = is_missing e
call_within T U law moment name player args argstr s s' v (runs {found = found} {v = u} {s' = t} e r) =
    runs e (task_within T U law moment (server_frame found name player args argstr) s t u r)

pub hooks_within : (T U : Telling) → IsWithin T U → (moment : ℕ) {s s' : WorldState} → HooksRun T moment s s' → HooksRun U moment s s'
hooks_within T U law moment (none_waits e) = none_waits e
hooks_within T U law moment (first_runs {s = s} {s' = mid} {h = h} {hs = hs} {v = v} e call d) =
    first_runs e (call_within T U law moment (hook_name h) (player_of_hook h) (object (player_of_hook h) ∷ []) [] (in_session (with_hooks hs) s) mid v call) (hooks_within T U law moment d)
