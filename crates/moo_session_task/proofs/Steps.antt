-- The steps of the program are those of the meaning.
use Rattle.std.proofs.Common.{◌≡◌, ℕ, ℤ, List, [], ◌∷◌, ◌++◌, Option, Some, sym, ◌∙◌, ap, subst, true, false, ◌+◌, ◌≤◌, length, arith}
use Rattle.std.specs.Prelude.{Result, Ok, Err, IfOk}
use Rattle.std.specs.declared.alloc.AllocError.{AllocError}
use Rattle.moo_value.specs.Tree.{Tree, object}
use Rattle.moo_value.specs.View.{tree}
use Rattle.moo_value.specs.declared.value.Value.{Value}
use Rattle.moo_world_object.specs.declared.verb.Verb.{Verb}
use Rattle.moo_world_table.specs.World.{World}
use Rattle.moo_builtin.specs.Telling.{Faults}
use Rattle.moo_eval_frame.specs.declared.frame.Frame.{Frame}
use Rattle.moo_eval_frame.specs.declared.notice.Notice.{Notice}
use Rattle.moo_eval_frame.specs.Surroundings.{Surroundings}
use Rattle.moo_eval.specs.declared.task.Ended as code
use Rattle.moo_eval.specs.declared.task.Ended.TheVariants as ended
use Rattle.moo_eval_semantics.specs.Task.{End, value, uncaught, out_of_ticks, TaskEnds}
use Rattle.moo_eval.specs.Ends.{IfEnded, LeavesNotices, texts}
use Rattle.moo_session_connection.specs.Connections.{around}
use Rattle.moo_session_task.specs.declared.hook.Hook.{Hook}
use Rattle.moo_session_task.specs.declared.world_state.WorldState.{WorldState}
use Rattle.moo_session_task.specs.Session.{Session, with_hooks}
use Rattle.moo_session_task.specs.State.{state, in_session}
use Rattle.moo_session_task.specs.Sending.{all_notified}
use Rattle.moo_session_task.specs.Notices.{all_applied}
use Rattle.moo_session_task.proofs.Potential.{potential}
use Rattle.moo_session_task.specs.Frames.{server_frame, server_verb}
use Rattle.moo_session_task.specs.Seen.{seen_answer, EndIs}
use Rattle.moo_session_task.specs.Tasks.{RunsTask, CallsServerVerb, runs, value_of, account_of}
use Rattle.moo_session_task.specs.Hooks.{HooksRun, RunsNext, none_left, has_run, CallsHook, first_runs, none_waits, hook_name, player_of_hook}
use Rattle.moo_session_task.proofs.Ending.{calls_le}

-- a task in these surroundings, whose notices are all that is there
noticed : (near near' : Surroundings) (start : Frame) (w w' : World) (end : End) (old ns : List Notice) → near ≡ near' → old ≡ [] →
    LeavesNotices old (TaskEnds Faults near start w end w') ns → TaskEnds Faults near' start w end w' ns
noticed near near' start w w' end old ns e f h =
    let all : ns ≡ h.0 = h.2 ∙ ap (λ (xs : List Notice). xs ++ h.0) f in
    subst (λ (x : Surroundings). TaskEnds Faults x start w end w' ns) e (subst (λ (xs : List Notice). TaskEnds Faults near start w end w' xs) (sym all) h.1)

pub alone : (e : code.Ended) (near near' : Surroundings) (start : Frame) (w w' : World) (old ns : List Notice) → near ≡ near' → old ≡ [] →
    IfEnded e (λ end. LeavesNotices old (TaskEnds Faults near start w end w') ns) → IfEnded e (λ end. TaskEnds Faults near' start w end w' ns)
alone (ended.Value x) near near' start w w' old ns e f h = noticed near near' start w w' (value (tree x)) old ns e f h
alone (ended.Uncaught lines) near near' start w w' old ns e f h = noticed near near' start w w' (uncaught (texts lines.items)) old ns e f h
alone (ended.OutOfTicks lines) near near' start w w' old ns e f h = noticed near near' start w w' (out_of_ticks (texts lines.items)) old ns e f h
alone ended.Memory near near' start w w' old ns e f h = tt

-- a task that ended so
ended_so : (moment : ℕ) (start : Frame) (s : WorldState) (w : World) (u : Session) (v : Option Tree) (notices : List Notice) (end : End) →
    TaskEnds Faults (around moment s.session.connections) start s.world end w notices → value_of end ≡ v → u ≡ all_notified start.player (account_of end) (all_applied notices s.session) →
    RunsTask Faults moment start s v (state w u)
ended_so moment start s w u v notices end h e f = record {
  end = end;
  after = w;
  notices = notices;
  ends = h;
  gives = e;
  leaves = ap (λ (x : Session). state w x) (sym f);
}

-- a task that ended, whose notices were applied and whose end was reported
pub task_run : (moment : ℕ) (start : Frame) (s : WorldState) (w : World) (t u : Session) (e : code.Ended) (v : Option Tree) (notices : List Notice) →
    IfEnded e (λ end. TaskEnds Faults (around moment s.session.connections) start s.world end w notices) → t ≡ all_applied notices s.session →
    EndIs e (λ end. (value_of end ≡ v) × (u ≡ all_notified start.player (account_of end) t)) → RunsTask Faults moment start s v (state w u)
task_run moment start s w t u (ended.Value x) v notices h f g =
    ended_so moment start s w u v notices (value (tree x)) h g.0 (g.1 ∙ f)
task_run moment start s w t u (ended.Uncaught lines) v notices h f g =
    ended_so moment start s w u v notices (uncaught (texts lines.items)) h g.0 (g.1 ∙ ap (λ (x : Session). all_notified start.player (texts lines.items) x) f)
task_run moment start s w t u (ended.OutOfTicks lines) v notices h f g =
    ended_so moment start s w u v notices (out_of_ticks (texts lines.items)) h g.0 (g.1 ∙ ap (λ (x : Session). all_notified start.player (texts lines.items) x) f)
task_run moment start s w t u ended.Memory v notices h f g = absurd g

pub task_answers : (r : Result (Option Value) AllocError) (moment : ℕ) (start : Frame) (s : WorldState) (w : World) (t u : Session) (e : code.Ended) (notices : List Notice) →
    IfEnded e (λ end. TaskEnds Faults (around moment s.session.connections) start s.world end w notices) → t ≡ all_applied notices s.session →
    IfOk r (λ v. EndIs e (λ end. (value_of end ≡ seen_answer v) × (u ≡ all_notified start.player (account_of end) t))) →
    IfOk r (λ v. RunsTask Faults moment start s (seen_answer v) (state w u))
task_answers (Ok v) moment start s w t u e notices h f g = task_run moment start s w t u e (seen_answer v) notices h f g
task_answers (Err fault) moment start s w t u e notices h f g = tt

-- a verb of #0 that was found has run
pub call_runs : (r : Result (Option Value) AllocError) (moment : ℕ) (name : List ℕ) (player : ℤ) (args : List Tree) (argstr : List ℕ) (s s' : WorldState) (found : ℤ × Verb) (start : Frame) →
    server_verb s.world name ≡ Some found → start ≡ server_frame found name player args argstr →
    IfOk r (λ v. RunsTask Faults moment start s (seen_answer v) s') → IfOk r (λ v. CallsServerVerb Faults moment name player args argstr s (seen_answer v) s')
call_runs (Ok v) moment name player args argstr s s' found start e f h =
    let along : Frame → Type 0 = λ x. RunsTask Faults moment x s (seen_answer v) s' in
    runs e (subst along f h)
call_runs (Err lack) moment name player args argstr s s' found start f g h = tt

-- one step of the hooks that ran one
pub next_run : (moment : ℕ) (s s' : WorldState) (t : Session) (h : Hook) (hs : List Hook) (v : Option Tree) → s.session.hooks ≡ h ∷ hs → t ≡ with_hooks hs s.session →
    CallsHook Faults moment h (state s.world t) v s' → RunsNext Faults moment s true s'
next_run moment s s' t h hs v e f call = has_run e (subst (λ (x : Session). CallsHook Faults moment h (state s.world x) v s') f call)

-- no hook waits
pub next_none : (moment : ℕ) (s : WorldState) (t : Session) → s.session.hooks ≡ [] → t ≡ s.session → RunsNext Faults moment s false (state s.world t)
next_none moment s t e f = subst (λ (x : Session). RunsNext Faults moment s false (state s.world x)) (sym f) (none_left e)

-- the steps together
pub hooks_go_on : (moment : ℕ) (s t : WorldState) → RunsNext Faults moment s true t → (end : WorldState) → HooksRun Faults moment t end → HooksRun Faults moment s end
hooks_go_on moment s t (has_run e call) end d = first_runs e call d

pub hooks_end : (moment : ℕ) (s t : WorldState) → RunsNext Faults moment s false t → HooksRun Faults moment s t
hooks_end moment s t (none_left e) = none_waits e

-- a step makes what may still come less
pub next_lt : (moment : ℕ) (s t : WorldState) → RunsNext Faults moment s true t → potential t.session + 1 ≤ potential s.session
next_lt moment s t (has_run {h = h} {hs = hs} {v = v} e call) =
    omega (arith, calls_le Faults moment (hook_name h) (player_of_hook h) (object (player_of_hook h) ∷ []) [] (in_session (with_hooks hs) s) t v call, ap (λ (xs : List Hook). length xs) e)

-- a hook's verb that was called is the hook's
pub hook_called : (r : Result (Option Value) AllocError) (moment : ℕ) (h : Hook) (name : List ℕ) (player : ℤ) (args : List Tree) (argstr : List ℕ) (s s' : WorldState) →
    name ≡ hook_name h → player ≡ player_of_hook h → args ≡ object player ∷ [] → argstr ≡ [] →
    IfOk r (λ v. CallsServerVerb Faults moment name player args argstr s (seen_answer v) s') → IfOk r (λ v. CallsHook Faults moment h s (seen_answer v) s')
hook_called (Err lack) moment h name player args argstr s s' n p a g call = tt
hook_called (Ok v) moment h name player args argstr s s' n p a g call =
    let named = subst (λ (x : List ℕ). CallsServerVerb Faults moment x player args argstr s (seen_answer v) s') n call in
    let given = subst (λ (x : List Tree). CallsServerVerb Faults moment (hook_name h) player x argstr s (seen_answer v) s') a named in
    let told = subst (λ (x : List ℕ). CallsServerVerb Faults moment (hook_name h) player (object player ∷ []) x s (seen_answer v) s') g given in
    subst (λ (x : ℤ). CallsServerVerb Faults moment (hook_name h) x (object x ∷ []) [] s (seen_answer v) s') p told
