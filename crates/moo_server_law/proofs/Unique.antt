-- An event has one result under two tellings that agree, and its result stays one where more may be told.
use Rattle.std.proofs.Common.{◌≡◌, ℕ, ℤ, List, [], refl, sym, ◌∙◌, ap, subst}
use Rattle.std.specs.Prelude.{codes}
use Rattle.moo_value.specs.Tree.{Tree}
use Rattle.moo_world_table.specs.World.{World}
use Rattle.moo_builtin.specs.Telling.{Telling}
use Rattle.moo_session_line.specs.Rest.{Rest}
use Rattle.moo_session_line.specs.Reading.{Reads}
use Rattle.moo_session_line.proofs.Cutting.{one_reading}
use Rattle.moo_session_connection.specs.declared.client.Client.{Client}
use Rattle.moo_session_connection.specs.Connections.{Connections}
use Rattle.moo_session_connection.specs.Changes.{joined, with_changed, with_heard, HasHeard}
use Rattle.moo_session_task.specs.declared.world_state.WorldState.{WorldState}
use Rattle.moo_session_task.specs.Session.{in_connections}
use Rattle.moo_session_task.specs.State.{in_session}
use Rattle.moo_session_task.specs.Frames.{nobody}
use Rattle.moo_session_task.specs.Hooks.{HooksRun}
use Rattle.moo_session_task.proofs.Unique.{one_call, one_run_of_hooks, call_within, hooks_within}
use Rattle.moo_session.proofs.LoginUnique.{one_login, login_within}
use Rattle.moo_session.specs.Input.{MeetsLines}
use Rattle.moo_server_law.proofs.UniqueLines.{Agree, Within, one_result_of_lines, lines_within}
use Rattle.moo_session.specs.Events.{OpensConnection, Hears, dropped, heard, CallsOwnHook, Starts, with_connections}
use Rattle.moo_server_law.specs.Sessions.{HaveOneResult, AreWithin}

-- what is heard is one
record SameHearing (lines others : List (List ℕ)) (after instead : Connections) : Type 0 where
  pub answer : lines ≡ others
  pub leaves : after ≡ instead

one_hearing_of : (n moment : ℕ) (piece : List ℕ) (s after instead : Connections) (lines others : List (List ℕ)) → HasHeard n moment piece s lines after → HasHeard n moment piece s others instead → SameHearing lines others after instead
one_hearing_of n moment piece s after instead lines others h k =
    let client : k.client ≡ h.client = (let e = h.is_here in let f = k.is_here in cc) in
    let reads = one_reading h.client.reader h.after k.after piece lines others h.reads (subst (λ (c : Client). Reads c.reader piece others k.after) client k.reads) in
    record {
      answer = reads.0;
      leaves = sym h.leaves ∙ ap (λ (r : Rest). with_changed n (with_heard moment r) s) reads.1 ∙ k.leaves;
    }

one_opening : (T U : Telling) → Agree T U → (moment n : ℕ) (s s' t : WorldState) → OpensConnection T moment n s s' → OpensConnection U moment n s t → s' ≡ t
one_opening T U agree moment n s s' t r q =
    let same : q.greeted ≡ r.greeted = sym (one_login T U agree.tasks moment n [] [] (in_session (in_connections (joined n moment)) s) r.greeted q.greeted r.logs_in q.logs_in) in
    one_run_of_hooks T U agree.tasks moment r.hooks (subst (λ (x : WorldState). HooksRun U moment x t) same q.hooks)

one_hearing : (T U : Telling) → Agree T U → (moment n : ℕ) (piece : List ℕ) (s s' t : WorldState) → Hears T moment n piece s s' → Hears U moment n piece s t → s' ≡ t
one_hearing T U agree moment n piece s s' t (dropped e) (dropped f) = refl
one_hearing T U agree moment n piece s s' t (dropped e) (heard h d) = let f = h.is_here in cc
one_hearing T U agree moment n piece s s' t (heard h d) (dropped f) = let e = h.is_here in cc
one_hearing T U agree moment n piece s s' t (heard {lines = lines} {after = after} h d) (heard {lines = others} {after = instead} k d') =
    let same = one_hearing_of n moment piece s.session.connections after instead lines others h k in
    let first : MeetsLines U moment n lines (with_connections instead s) t = subst (λ (ls : List (List ℕ)). MeetsLines U moment n ls (with_connections instead s) t) (sym same.answer) d' in
    let moved : MeetsLines U moment n lines (with_connections after s) t = subst (λ (c : Connections). MeetsLines U moment n lines (with_connections c s) t) (sym same.leaves) first in
    one_result_of_lines T U agree moment n d moved

one_own_hook : (T U : Telling) → Agree T U → (moment : ℕ) (name : List ℕ) (args : List Tree) (s s' t : WorldState) → CallsOwnHook T moment name args s s' → CallsOwnHook U moment name args s t → s' ≡ t
one_own_hook T U agree moment name args s s' t r q =
    let same = one_call T U agree.tasks moment name nobody args [] s r.called q.called r.answer q.answer r.calls q.calls in
    one_run_of_hooks T U agree.tasks moment r.hooks (subst (λ (x : WorldState). HooksRun U moment x t) (sym same.live) q.hooks)

one_start : (T U : Telling) → Agree T U → (moment : ℕ) (players : List ℤ) (w : World) (s' t : WorldState) → Starts T moment players w s' → Starts U moment players w t → s' ≡ t
one_start T U agree moment players w s' t r q =
    let same : q.parted ≡ r.parted = sym (one_run_of_hooks T U agree.tasks moment r.hooks q.hooks) in
    one_own_hook T U agree moment (codes "server_started") [] r.parted s' t r.starts (subst (λ (x : WorldState). CallsOwnHook U moment (codes "server_started") [] x t) same q.starts)

pub one_result : (T U : Telling) → Agree T U → HaveOneResult T U
one_result T U agree = record {
  openings = one_opening T U agree;
  bytes = one_hearing T U agree;
  hangups = λ moment n s s' t d q. one_run_of_hooks T U agree.tasks moment d q;
  checkpoints = λ moment s s' t d q. one_own_hook T U agree moment _ _ s s' t d q;
  reports = λ moment done s s' t d q. one_own_hook T U agree moment _ _ s s' t d q;
  starts = one_start T U agree;
}

own_hook_within : (T U : Telling) → Within T U → (moment : ℕ) (name : List ℕ) (args : List Tree) (s s' : WorldState) → CallsOwnHook T moment name args s s' → CallsOwnHook U moment name args s s'
own_hook_within T U within moment name args s s' r = record {
  answer = r.answer;
  called = r.called;
  calls = call_within T U within.tasks moment name nobody args [] s r.called r.answer r.calls;
  hooks = hooks_within T U within.tasks moment r.hooks;
}

hearing_within : (T U : Telling) → Within T U → (moment n : ℕ) (piece : List ℕ) (s s' : WorldState) → Hears T moment n piece s s' → Hears U moment n piece s s'
hearing_within T U within moment n piece s s' (dropped e) = dropped e
hearing_within T U within moment n piece s s' (heard h d) = heard h (lines_within T U within moment n d)

pub all_within : (T U : Telling) → Within T U → AreWithin T U
all_within T U within = record {
  openings = λ moment n s s' r. record { greeted = r.greeted; logs_in = login_within T U within.tasks moment n [] [] (in_session (in_connections (joined n moment)) s) r.greeted r.logs_in; hooks = hooks_within T U within.tasks moment r.hooks };
  bytes = hearing_within T U within;
  hangups = λ moment n s s' d. hooks_within T U within.tasks moment d;
  checkpoints = λ moment s s' d. own_hook_within T U within moment _ _ s s' d;
  reports = λ moment done s s' d. own_hook_within T U within moment _ _ s s' d;
  starts = λ moment players w s' r. record { parted = r.parted; hooks = hooks_within T U within.tasks moment r.hooks; starts = own_hook_within T U within moment (codes "server_started") [] r.parted s' r.starts };
}
