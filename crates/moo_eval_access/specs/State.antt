-- What changes while a task runs.
use Rattle.std.specs.Prelude.{ℕ, ◌-◌, ℤ, List, Option}
use Rattle.moo_value.specs.Tree.{Tree}
use Rattle.moo_world_table.specs.World.{World}
use Rattle.moo_eval_frame.specs.Variables.{with_all}
use Rattle.moo_eval_slot.specs.Bindings.{Binding}
use Rattle.moo_eval_frame.specs.State.{Context, entries}
use Rattle.moo_eval_frame.specs.declared.frame.TraceEntry.{TraceEntry}
use Rattle.moo_eval_frame.specs.declared.notice.Notice.{Notice}

-- what changes while a task runs: the world, the ticks and the notices, and what the running frame has
pub record State : Type 0 where
  -- how many are left
  pub ticks : ℕ
  pub world : World
  -- by their folded names
  pub variables : List ℕ → Option Tree
  pub programmer : ℤ
  -- what the task has asked for so far, in this order
  pub notices : List Notice

-- with one tick less
abbrev pub ticked : State → State
ticked s = record s { ticks = s.ticks - 1 }

-- with these variables set, from the left
abbrev pub bound : List Binding → State → State
bound bindings s = record s { variables = with_all s.variables bindings }

-- the entries at the present state
abbrev pub trace : Context → State → List TraceEntry
trace c s = entries c.frame s.programmer c.callers
