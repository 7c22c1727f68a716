use Rattle.std.proofs.Common.{sym, ◌∙◌}
use Rattle.moo_eval_access.specs.LetGo.{let_go}
use Rattle.moo_eval_access.proofs.LettingGo.{some_value}
use Rattle.moo_eval_access.proofs.target.let_go.Goals as goal

pub returns-in_ok-set-in-None : goal.returns-in_ok-set-in-None
returns-in_ok-set-in-None c =
    let v = some_value _ (sym c.index_refusal.ensures ∙ c.in-None.is) in
    rw c.in-Element.is (let_go v.0 _ v.1 c.in_ok-set-in-None.ensures)
