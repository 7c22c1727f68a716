use Rattle.moo_eval_semantics.proofs.Following.{create_answers, move_answers}
use Rattle.moo_eval_semantics.proofs.Recycling.{recycle_leaves}
use Rattle.moo_eval_semantics.proofs.laws.functions_answer_their_own.Goals as goal

pub returns-clause-creation : goal.returns-clause-creation
returns-clause-creation k = λ c args p s s' s'' v b d. create_answers b d

pub returns-clause-moves : goal.returns-clause-moves
returns-clause-moves k = λ c args p s s' s'' v b d. move_answers b d

pub returns-clause-recycling : goal.returns-clause-recycling
returns-clause-recycling k = λ c o p s s' s'' v b d. recycle_leaves o b d
