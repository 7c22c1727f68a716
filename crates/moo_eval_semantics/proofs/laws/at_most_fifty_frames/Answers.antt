use Rattle.std.proofs.Common.{refl}
use Rattle.moo_eval_semantics.proofs.Entering.{room_begun}
use Rattle.moo_eval_semantics.proofs.Room.{room_expression, room_block, room_function}
use Rattle.moo_eval_semantics.proofs.laws.at_most_fifty_frames.Goals as goal

pub returns-clause-expressions : goal.returns-clause-expressions
returns-clause-expressions k = λ c e s s' o d. (room_expression d).all

pub returns-clause-statements : goal.returns-clause-statements
returns-clause-statements k = λ c b s s' o d. (room_block d).all

pub returns-clause-hooks : goal.returns-clause-hooks
returns-clause-hooks k = λ c f args p s s' s'' r b d. (room_function (room_begun b) d).all

pub returns-clause-tasks : goal.returns-clause-tasks
returns-clause-tasks k = λ around start before after end notices d. (refl, (room_block d.runs).all)
