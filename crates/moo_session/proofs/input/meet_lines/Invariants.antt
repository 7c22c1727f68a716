use Rattle.std.proofs.Common.{drop}
use Rattle.moo_builtin.specs.Telling.{Faults}
use Rattle.moo_session_task.specs.declared.world_state.WorldState.{WorldState}
use Rattle.moo_session.specs.Input.{MeetsLines}
use Rattle.moo_session.proofs.input.meet_lines.Given as goal

-- whatever the lines that are left come to, all come to
abbrev pub invariant-loop-line : goal.invariant-loop-line
invariant-loop-line l = (end : WorldState) → MeetsLines Faults l.moment l.number (drop l.line-index l.lines) l.live end → MeetsLines Faults l.moment l.number l.lines l.initial.live end
