use Rattle.std.proofs.Common.{sym, ◌∙◌}
use Rattle.moo_eval_access.proofs.Bounded.{given}
use Rattle.moo_eval_deferred.proofs.deferred.Deferred.is_taken_at.Goals as goal

pub returns-in-Some : goal.returns-in-Some
returns-in-Some c =
    λ taken.
    let bounds = given c.element_bounds.result c.element_bounds.ensures (sym taken ∙ c.is_some.ensures) in
    let w = bounds.1 _ c.in-Some.ensures in
    rw c.in-List.is (w.0, w.1)
