-- A task causes no more hooks than it disconnects players.
use Rattle.std.proofs.Common.{ℕ, ◌≤◌, ℤ, List, Option, subst, arith}
use Rattle.moo_value.specs.Tree.{Tree}
use Rattle.moo_builtin.specs.Telling.{Telling}
use Rattle.moo_eval_frame.specs.declared.frame.Frame.{Frame}
use Rattle.moo_session_task.specs.declared.world_state.WorldState.{WorldState}
use Rattle.moo_session_task.specs.Notices.{all_applied}
use Rattle.moo_session_task.proofs.Potential.{potential, potential-all_notified, all_applied_le}
use Rattle.moo_session_task.specs.Frames.{server_frame}
use Rattle.moo_session_task.specs.Tasks.{RunsTask, CallsServerVerb, is_missing, runs, account_of}

pub runs_task_le : (T : Telling) (moment : ℕ) (start : Frame) (s s' : WorldState) (v : Option Tree) → RunsTask T moment start s v s' → potential s'.session ≤ potential s.session
runs_task_le T moment start s s' v r =
    let along : WorldState → Type 0 = λ u. potential u.session ≤ potential s.session in
    subst along r.leaves (omega (arith, potential-all_notified start.player (account_of r.end) (all_applied r.notices s.session), all_applied_le r.notices s.session))

pub calls_le : (T : Telling) (moment : ℕ) (name : List ℕ) (player : ℤ) (args : List Tree) (argstr : List ℕ) (s s' : WorldState) (v : Option Tree) →
    CallsServerVerb T moment name player args argstr s v s' → potential s'.session ≤ potential s.session
calls_le T moment name player args argstr s s' v (is_missing e) = omega arith
calls_le T moment name player args argstr s s' v (runs {found = found} {v = u} {s' = t} e r) = runs_task_le T moment (server_frame found name player args argstr) s t u r
