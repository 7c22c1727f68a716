use Rattle.moo_builtin.specs.Telling.{Faults}
use Rattle.moo_eval_semantics.proofs.CallOnward.{later_twice, later_call}
use Rattle.moo_eval_semantics.proofs.HookOnward.{later_start}
use Rattle.moo_eval_semantics.proofs.Onward.{later_result, later_block, later_progress}
use Rattle.moo_eval_semantics.proofs.laws.ticks_never_rise.Goals as goal

pub returns-clause-expressions : goal.returns-clause-expressions
returns-clause-expressions k = λ c e s s' o d. later_result Faults d

pub returns-clause-statements : goal.returns-clause-statements
returns-clause-statements k = λ c b s s' o d. later_block Faults d

pub returns-clause-calls : goal.returns-clause-calls
returns-clause-calls k = λ c name args s s' r d. later_call Faults c name args s s' r d

pub returns-clause-hooks : goal.returns-clause-hooks
returns-clause-hooks k = λ c f args p s s' s'' r b d. later_twice (later_start Faults b) (later_progress Faults d)

pub returns-clause-tasks : goal.returns-clause-tasks
returns-clause-tasks k = λ around start before after end notices d. (later_block Faults d.runs).ticks
