use Rattle.moo_dbtext_record.proofs.HeadingLaws.{stripped}
use Rattle.moo_dbtext_record.proofs.heading.rest_after.Goals as goal

pub returns : goal.returns
returns c = stripped c.args.front.now c.args.line.now c.strip_prefix.result c.strip_prefix.ensures.cases
