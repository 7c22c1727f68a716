-- A task of the server's: a verb runs, and what it asked for is applied.
use Rattle.std.specs.Prelude.{◌≡◌, ℕ, ℤ, List, [], Option, Some, None}
use Rattle.moo_value.specs.Tree.{Tree}
use Rattle.moo_world_object.specs.declared.verb.Verb.{Verb}
use Rattle.moo_world_table.specs.World.{World}
use Rattle.moo_builtin.specs.Telling.{Telling}
use Rattle.moo_eval_frame.specs.declared.frame.Frame.{Frame}
use Rattle.moo_eval_frame.specs.declared.notice.Notice.{Notice}
use Rattle.moo_eval_semantics.specs.Task.{End, value, uncaught, out_of_ticks, TaskEnds}
use Rattle.moo_session_connection.specs.Connections.{around}
use Rattle.moo_session_task.specs.declared.world_state.WorldState.{WorldState}
use Rattle.moo_session_task.specs.State.{state}
use Rattle.moo_session_task.specs.Sending.{all_notified}
use Rattle.moo_session_task.specs.Notices.{all_applied}
use Rattle.moo_session_task.specs.Frames.{server_frame, server_verb}

-- the value of a task, if it has one
abbrev pub value_of : End → Option Tree
value_of (value v) = Some v
value_of (uncaught lines) = None
value_of (out_of_ticks lines) = None

-- the lines of the end of a task that has no value
abbrev pub account_of : End → List (List ℕ)
account_of (value v) = []
account_of (uncaught lines) = lines
account_of (out_of_ticks lines) = lines

-- A task that begins with this frame, at this moment. What it changed in the world stays. Then what it asked for is
-- applied in order, and the lines of its end go to its player.
pub record RunsTask (T : Telling) (moment : ℕ) (start : Frame) (s : WorldState) (v : Option Tree) (s' : WorldState) : Type 0 where
  pub end : End
  pub after : World
  pub notices : List Notice
  pub ends : TaskEnds T (around moment s.session.connections) start s.world end after notices
  pub gives : value_of end ≡ v
  pub leaves : state after (all_notified start.player (account_of end) (all_applied notices s.session)) ≡ s'

-- A verb of #0 is called, if there is one with this name that can be executed.
pub data CallsServerVerb (T : Telling) (moment : ℕ) (name : List ℕ) (player : ℤ) (args : List Tree) (argstr : List ℕ) (s : WorldState) : Option Tree → WorldState → Type 0 where
  is_missing : server_verb s.world name ≡ None → CallsServerVerb T moment name player args argstr s None s
  runs : {found : ℤ × Verb} {v : Option Tree} {s' : WorldState} → server_verb s.world name ≡ Some found →
      RunsTask T moment (server_frame found name player args argstr) s v s' → CallsServerVerb T moment name player args argstr s v s'
