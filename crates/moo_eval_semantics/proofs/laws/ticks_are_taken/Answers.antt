use Rattle.moo_builtin.specs.Telling.{Faults}
use Rattle.moo_eval_semantics.proofs.Ticking.{tick_of_expression, tick_of_statement, tick_of_turn, spent_expression, spent_statement, spent_turn}
use Rattle.moo_eval_semantics.proofs.laws.ticks_are_taken.Goals as goal

pub returns-clause-expressions : goal.returns-clause-expressions
returns-clause-expressions k = λ c e s s' o d. (tick_of_expression Faults d, spent_expression Faults d)

pub returns-clause-statements : goal.returns-clause-statements
returns-clause-statements k = λ c t s s' o d. (tick_of_statement Faults d, spent_statement Faults d)

pub returns-clause-turns : goal.returns-clause-turns
returns-clause-turns k = λ c own bindings b s s' o d. (tick_of_turn Faults d, spent_turn Faults d)
