use Rattle.moo_builtin.specs.Telling.{Faults}
use Rattle.moo_eval_semantics.proofs.Creating.{what_creates, what_creates_for}
use Rattle.moo_eval_semantics.proofs.hook_laws.what_create_does.Goals as goal

pub returns-clause-own : goal.returns-clause-own
returns-clause-own k = λ c up p s s' s'' r b d. what_creates Faults c up b d

pub returns-clause-another : goal.returns-clause-another
returns-clause-another k = λ c up owner p s s' s'' r b d. what_creates_for Faults c up owner b d
