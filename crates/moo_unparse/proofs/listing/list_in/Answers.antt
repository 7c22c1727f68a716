use Rattle.std.proofs.lemmas.Result.{err_from_is_err_and}
use Rattle.moo_unparse.proofs.Refusals.{refused_for_memory}
use Rattle.moo_unparse.proofs.listing.list_in.Goals as goal

pub returns-in_err-lines-clause-refused : goal.returns-in_err-lines-clause-refused
returns-in_err-lines-clause-refused c =
    let p = err_from_is_err_and c.from_residual.result c.from_residual.ensures.1 in
    rw p.1 (refused_for_memory p.0 _ p.2)
