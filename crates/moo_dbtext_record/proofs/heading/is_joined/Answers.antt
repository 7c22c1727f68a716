use Rattle.std.proofs.Common.{◌∙◌}
use Rattle.moo_dbtext_record.proofs.HeadingLaws.{joined_some, joined_none}
use Rattle.moo_dbtext_record.proofs.heading.is_joined.Goals as goal

pub returns-in-Some : goal.returns-in-Some
returns-in-Some c = c.eq.ensures ∙ joined_some c.args.line.now c.args.front.now c.args.back.now c.strip_prefix.result c.in-Some.rest c.strip_prefix.ensures.cases c.in-Some.is

pub returns-in-None : goal.returns-in-None
returns-in-None c = joined_none c.args.line.now c.args.front.now c.args.back.now c.strip_prefix.result c.strip_prefix.ensures.cases c.in-None.is
