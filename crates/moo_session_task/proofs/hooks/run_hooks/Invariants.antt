use Rattle.moo_builtin.specs.Telling.{Faults}
use Rattle.moo_session_task.specs.declared.world_state.WorldState.{WorldState}
use Rattle.moo_session_task.proofs.Potential.{potential}
use Rattle.moo_session_task.specs.Hooks.{HooksRun}
use Rattle.moo_session_task.proofs.hooks.run_hooks.Given as goal

abbrev pub invariant-loop : goal.invariant-loop
invariant-loop l = (end : WorldState) → HooksRun Faults l.moment l.live end → HooksRun Faults l.moment l.initial.live end

abbrev pub decreases-loop : goal.decreases-loop
decreases-loop l = potential l.live.session
