-- The state of a call, as the program keeps it.
use Rattle.std.specs.Prelude.{ℕ, List}
use Rattle.moo_world_table.specs.World.{World}
use Rattle.moo_eval_access.specs.State.{State}
use Rattle.moo_eval_frame.specs.declared.frame.Activation.{Activation}
use Rattle.moo_eval_frame.specs.declared.notice.Notice.{Notice}
use Rattle.moo_eval_frame.specs.Seen.{variables_of}

abbrev pub state_at : ℕ → List Notice → World → Activation → State
state_at ticks notices world active = record {
  ticks = ticks;
  world = world;
  variables = variables_of active.variables;
  programmer = active.programmer;
  notices = notices;
}
