use Rattle.std.proofs.Common.{ap, ◌∙◌}
use Rattle.moo_value.specs.Compare.{folded}
use Rattle.moo_builtin_value.proofs.Searched.{last_found}
use Rattle.moo_builtin_value.proofs.place.last_place.Goals as goal

pub returns-in-Ok-Ok : goal.returns-in-Ok-Ok
returns-in-Ok-Ok c =
    let text = rw c.in-Ok-Ok.is-0 at c.folded-text.ensures in
    let wanted = rw c.in-Ok-Ok.is-1 at c.folded-wanted.ensures in
    last_found c.args.exact _ _ _ _ _ _ (rw c.if-exact.false (c.deref.ensures.value ∙ text ∙ ap folded c.as_bytes-2.ensures.value)) (rw c.if-exact.false (c.deref-in-Ok-Ok.ensures.value ∙ wanted ∙ ap folded c.as_bytes-3.ensures.value))
    c.rfind-in-Ok-Ok.ensures c.place_value-in-Ok-Ok.ensures

pub returns-then-exact : goal.returns-then-exact
returns-then-exact c =
    last_found c.args.exact _ _ _ _ _ _ (rw c.if-exact.true c.as_bytes.ensures.value) (rw c.if-exact.true c.as_bytes-then-exact.ensures.value) c.rfind.ensures c.place_value.ensures
