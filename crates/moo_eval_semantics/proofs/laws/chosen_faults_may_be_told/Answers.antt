use Rattle.moo_eval_semantics.proofs.Wider.{wider_result, wider_block}
use Rattle.moo_eval_semantics.proofs.Choices.{wider_end, passes_programs}
use Rattle.moo_eval_semantics.proofs.laws.chosen_faults_may_be_told.Goals as goal

pub returns-clause-programs : goal.returns-clause-programs
returns-clause-programs k = passes_programs

pub returns-clause-expressions : goal.returns-clause-expressions
returns-clause-expressions k = λ choice faults c e s s' o d. wider_result faults d

pub returns-clause-statements : goal.returns-clause-statements
returns-clause-statements k = λ choice faults c b s s' o d. wider_block faults d

pub returns-clause-tasks : goal.returns-clause-tasks
returns-clause-tasks k = λ choice faults around start before after end notices d. wider_end faults d

pub returns-clause-texts : goal.returns-clause-texts
returns-clause-texts k = λ choice faults text end d. record { program = d.program; after = d.after; notices = d.notices; parsed = d.parsed; ends = wider_end faults d.ends }
