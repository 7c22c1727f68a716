use Rattle.std.proofs.Common.{◌++◌, ◌∙◌, sym, ap}
use Rattle.std.proofs.lemmas.Result.{err_from_is_err_and}
use Rattle.moo_unparse.proofs.Refusals.{refused_by_line}
use Rattle.moo_unparse.proofs.listing.strings.Goals as goal

pub returns-in_err-string-clause-refused : goal.returns-in_err-string-clause-refused
returns-in_err-string-clause-refused c =
    let p = err_from_is_err_and c.from_residual.result c.from_residual.ensures.1 in
    rw (p.1, p.2) (refused_by_line c.in_err-string.field-0.0 c.loop-line.strings.items _ _ _ (ap (λ v. c.loop-line.strings.items ++ v) (sym c.in-Some.ensures.steps.0) ∙ c.loop-line.invariant) c.in_err-string.ensures.refused)
