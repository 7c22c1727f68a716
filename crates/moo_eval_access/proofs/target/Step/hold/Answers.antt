use Rattle.moo_value.specs.View.{tree}
use Rattle.moo_eval_access.proofs.Held.{takes_as_before}
use Rattle.moo_eval_access.proofs.target.Step.hold.Goals as goal

pub returns-in-Ok : goal.returns-in-Ok
returns-in-Ok c = λ v.
    rw (c.in-List-Element.is-0, c.in-List-Element.is-1)
    (takes_as_before c.in-List-Element.field-0-0 (tree c.in-List-Element.place) (tree c.args.held) (tree c.in-Ok.container) v
    (rw (c.replace-container.ensures.value, c.in-List-Element.is-0) at c.in-Ok.ensures))
