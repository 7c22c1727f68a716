use Rattle.std.proofs.Common.{[]}
use Rattle.std.proofs.lemmas.Result.{err_from_is_err_and}
use Rattle.moo_dbtext_read.proofs.Pieces.{refused_alone}
use Rattle.moo_dbtext_read.proofs.text.read_all.Goals as goal

pub returns-in_err-feed : goal.returns-in_err-feed
returns-in_err-feed c =
    let p = err_from_is_err_and c.from_residual.result c.from_residual.ensures.1 in
    rw (p.1, p.2) (refused_alone c.args.bytes.now c.in_err-feed.field-0.0 (c.in_err-feed.ensures.refused [] c.new-reader.ensures))
