use Rattle.std.proofs.Common.{◌≡◌, None}
use Rattle.moo_eval_frame.specs.Seen.{context_of}
use Rattle.moo_builtin.specs.Telling.{Faults}
use Rattle.moo_eval_hook.specs.SeenByHooks.{progress_of}
use Rattle.moo_eval_hook.specs.Turns.{progress_turns}
use Rattle.moo_eval_task.specs.Hooks.{LeadsTo}
use Rattle.moo_eval_task.specs.Seen.{state_of}
use Rattle.moo_eval_task.proofs.task.Task.pass_over.Given as goal

-- what the function does from here is what it does from its first step
abbrev pub invariant-idle : goal.invariant-idle
invariant-idle l = record {
  ticks : l.self.ticks_left ≡ l.fn.self.ticks_left;
  rest : LeadsTo Faults (context_of l.stack None) (progress_of l.fn.first) (state_of l.fn.self l.fn.world l.active) (progress_of l.next) (state_of l.self l.world l.active);
}

abbrev pub decreases-idle : goal.decreases-idle
decreases-idle l = progress_turns l.world (progress_of l.next)
