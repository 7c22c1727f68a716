use Rattle.std.proofs.Common.{arith, sym, ◌∙◌}
use Rattle.moo_eval_access.proofs.LettingGo.{some_value}
use Rattle.moo_eval_access.proofs.Bounded.{taken_within}
use Rattle.moo_eval_access.proofs.target.Step.is_taking.Goals as goal

pub returns-in-None : goal.returns-in-None
returns-in-None c = λ taken.
    let w = some_value _ (sym c.index_refusal.ensures ∙ c.in-None.is) in
    (w.0, rw c.in-Element.is w.1, taken_within _ _ _ w.0 w.1)

pub returns-in-Part : goal.returns-in-Part
returns-in-Part c = λ taken.
    let w = c.takes_range.ensures taken in
    (w.0, rw c.in-Part.is w.1, record { weighs = w.2; nests = omega (arith, w.3) })
