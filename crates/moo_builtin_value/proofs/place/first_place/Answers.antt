use Rattle.std.proofs.Common.{ap, ◌∙◌}
use Rattle.moo_value.specs.Compare.{folded}
use Rattle.moo_builtin_value.proofs.Searched.{first_found}
use Rattle.moo_builtin_value.proofs.place.first_place.Goals as goal

pub returns-in-Ok-Ok : goal.returns-in-Ok-Ok
returns-in-Ok-Ok c =
    let text = rw c.in-Ok-Ok.is-0 at c.folded-text.ensures in
    let wanted = rw c.in-Ok-Ok.is-1 at c.folded-wanted.ensures in
    first_found c.args.exact _ _ _ _ _ _ (rw c.if-exact.false (c.deref.ensures.value ∙ text ∙ ap folded c.as_bytes-3.ensures.value)) (rw c.if-exact.false (c.deref-in-Ok-Ok.ensures.value ∙ wanted ∙ ap folded c.as_bytes-4.ensures.value))
    c.find-in-Ok-Ok.ensures c.place_value-in-Ok-Ok.ensures

pub returns-then-exact : goal.returns-then-exact
returns-then-exact c =
    first_found c.args.exact _ _ _ _ _ _ (rw c.if-exact.true c.as_bytes.ensures.value) (rw c.if-exact.true c.as_bytes-then-exact.ensures.value) c.find.ensures c.place_value.ensures

pub returns-then-is_short : goal.returns-then-is_short
returns-then-is_short c =
    first_found c.args.exact _ _ _ _ _ _ (rw c.if-exact.false (ap folded c.as_bytes-then-is_short.ensures.value)) (rw c.if-exact.false (ap folded c.as_bytes-then-is_short-2.ensures.value)) c.folded_find.ensures c.place_value-then-is_short.ensures
