-- What a call of a built-in function gives in a task, and what it changes.
use Rattle.std.specs.Prelude.{◌≡◌, ℕ, pos, Bool, true, false, if◌then◌else◌, List, Option, None, Some, Result, Ok, Err}
use Rattle.moo_value.specs.declared.error_code.ErrorCode.{ErrorCode}
use Rattle.moo_value.specs.declared.error_code.ErrorCode.TheVariants.{InvalidArgument}
use Rattle.moo_value.specs.Tree.{Tree, integer, object}
use Rattle.moo_syntax_function.specs.declared.function.Function.{Function}
use Rattle.moo_syntax_function.specs.declared.function.Function.TheVariants as function
use Rattle.moo_syntax_function.specs.Table.{row}
use Rattle.moo_syntax_function.specs.Names.{function_of}
use Rattle.moo_syntax_function.specs.Check.{refusal}
use Rattle.moo_builtin_value.specs.Calls.{Raised}
use Rattle.moo_world_table.specs.World.{World}
use Rattle.moo_builtin_world.specs.Objects.{is_valid}
use Rattle.moo_eval_control.specs.Handling.{frame_lists, listed}
use Rattle.moo_eval_frame.specs.Outcome.{Failure, fails, answers}
use Rattle.moo_eval_frame.specs.State.{Context}
use Rattle.moo_eval_access.specs.State.{State, trace}
use Rattle.moo_builtin.specs.Telling.{Telling}
use Rattle.moo_builtin.specs.declared.call.Caller.{Caller}
use Rattle.moo_builtin.specs.Calls.{CallsPlain}
use Rattle.moo_builtin.specs.Outcomes.{Replies}
use Rattle.moo_eval_frame.specs.State.{nearest_programmer}
use Rattle.moo_eval_semantics.specs.Tasks.{Reply, set_task_perms, replied}
use Rattle.moo_eval_semantics.specs.Connections.{connected_players, elapsed_since, last_heard, last_login}
use Rattle.moo_eval_semantics.specs.Asking.{notify, boot_player, set_player_flag, dump_database, shutdown, server_log}

-- the functions that inspect the task or its connections, or leave a notice
abbrev pub is_of_task : Function → Bool
is_of_task function.TicksLeft = true
is_of_task function.Callers = true
is_of_task function.CallerPerms = true
is_of_task function.SetTaskPerms = true
is_of_task function.ConnectedPlayers = true
is_of_task function.IdleSeconds = true
is_of_task function.ConnectedSeconds = true
is_of_task function.Notify = true
is_of_task function.BootPlayer = true
is_of_task function.SetPlayerFlag = true
is_of_task function.DumpDatabase = true
is_of_task function.Shutdown = true
is_of_task function.ServerLog = true
is_of_task _ = false

-- what each of them does for arguments that fit its row; no other function comes here
abbrev pub task_reply : Function → Context → List Tree → State → Reply
task_reply function.TicksLeft c args s = (Ok (integer (pos s.ticks)), s)
task_reply function.Callers c args s = (answers (listed (frame_lists c.callers)), s)
task_reply function.CallerPerms c args s = (Ok (object (nearest_programmer c.callers)), s)
task_reply function.SetTaskPerms c args s = set_task_perms args s
task_reply function.ConnectedPlayers c args s = (answers (connected_players c.surroundings args), s)
task_reply function.IdleSeconds c args s = (answers (elapsed_since last_heard c.surroundings args), s)
task_reply function.ConnectedSeconds c args s = (answers (elapsed_since last_login c.surroundings args), s)
task_reply function.Notify c args s = notify args s
task_reply function.BootPlayer c args s = boot_player args s
task_reply function.SetPlayerFlag c args s = set_player_flag args s
task_reply function.DumpDatabase c args s = dump_database args s
task_reply function.Shutdown c args s = shutdown args s
task_reply function.ServerLog c args s = server_log args s
task_reply f c args s = (Err (fails InvalidArgument), s)

-- a wrong count of the arguments comes first, then a wrong type, then an object that isn't valid
abbrev pub unless_refused : State → Option ErrorCode → Reply → Reply
unless_refused s None reply = reply
unless_refused s (Some code) reply = (Err (fails code), s)

-- for whom the running frame calls, and when
abbrev pub caller : Context → State → Caller
caller c s = record { programmer = s.programmer; moment = c.surroundings.moment }

-- the result of a plain call in a task: one of the replies, with the world after it
abbrev pub ComesTo : Replies → Context → State → Result Tree Failure → State → Type 0
ComesTo Such c s r s' = (reply : Result Tree Raised) × (w : World) × Such reply w × (r ≡ replied c.frame.d (trace c s) reply) × (s' ≡ record s { world = w })

-- the function, if it is one of the task
abbrev pub task_function : Option Function → Option Function
task_function None = None
task_function (Some f) = if is_of_task f then Some f else None

-- a function of the task, or if there is none of that name a plain call
abbrev pub CallsAs : Telling → Option Function → Context → List ℕ → List Tree → State → Result Tree Failure → State → Type 0
CallsAs T (Some f) c name args s r s' = unless_refused s (refusal (is_valid s.world) (row f) args) (task_reply f c args s) ≡ (r, s')
CallsAs T None c name args s r s' = ComesTo (CallsPlain T name args s.world (caller c s)) c s r s'

-- A call of a built-in function by its name, in any case: its result and the state after it. If it reads a text that
-- is no program, it reports a fault that T allows.
abbrev pub CallsFunction : Telling → Context → List ℕ → List Tree → State → Result Tree Failure → State → Type 0
CallsFunction T c name args s r s' = CallsAs T (task_function (function_of name)) c name args s r s'
