-- The state that the program keeps, in the meaning.
use Rattle.moo_eval_task.specs.declared.task.Task.{Task}
use Rattle.moo_eval_frame.specs.declared.frame.Activation.{Activation}
use Rattle.moo_world_table.specs.World.{World}
use Rattle.moo_eval_access.specs.State.{State}
use Rattle.moo_eval_access.specs.SeenState.{state_at}

abbrev pub state_of : Task → World → Activation → State
state_of task world active = state_at task.ticks_left task.notices.items world active
