use Rattle.std.proofs.lemmas.Result.{err_from_is_err_and}
use Rattle.moo_value.specs.View.{tree}
use Rattle.moo_eval_frame.proofs.Measured.{unmeasured}
use Rattle.moo_eval_frame.proofs.access.measure.Goals as goal

pub returns-in_err-length_of-in-Some : goal.returns-in_err-length_of-in-Some
returns-in_err-length_of-in-Some c =
    let p = err_from_is_err_and c.from_residual.result c.from_residual.ensures.1 in
    rw (c.in-Some.is, p.1, p.2) (unmeasured _ (tree c.in-Some.value.now) c.in_err-length_of-in-Some.ensures)
