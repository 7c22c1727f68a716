use Rattle.moo_dbtext_record.proofs.HeadingLaws.{parts_more, parts_here, parts_none}
use Rattle.moo_dbtext_record.proofs.heading.parts.Goals as goal

pub returns-then-b-at : goal.returns-then-b-at
returns-then-b-at c = parts_here c.args.at c.args.line.now c.loop-i.i c.loop-i-test.true c.if-b-at.true c.loop-i.invariant

pub loop-i-preserved : goal.loop-i-preserved
loop-i-preserved c = parts_more c.args.at c.args.line.now c.loop-i.i c.loop-i-test.true c.if-b-at.false c.loop-i.invariant

pub returns : goal.returns
returns c = parts_none c.args.at c.args.line.now c.loop-i.i c.loop-i-test.false c.loop-i.invariant
