use Rattle.std.proofs.Common.{arith}
use Rattle.moo_world_tree.proofs.Moving.{above_read}
use Rattle.moo_world_tree.proofs.Endings.{follow_returns, follow_joins, follow_goes_on, follow_at_end, unmarked-set}
use Rattle.moo_world_tree.proofs.rooted.is_rooted.Goals as goal

pub returns-then-marks-x : goal.returns-then-marks-x
returns-then-marks-x c = record { ends = follow_returns c.args.nodes.now c.loop-x.marks c.args.from c.in-Some.x c.loop-x.at c.loop-x.invariant c.in-Some.ensures.0 c.in-Some.ensures.1 c.if-marks-x.true }

pub returns-then-marks-x-ne0 : goal.returns-then-marks-x-ne0
returns-then-marks-x-ne0 c = record { ends = follow_joins c.args.nodes.now c.loop-x.marks c.args.from c.in-Some.x c.loop-x.at c.loop-x.invariant c.in-Some.ensures.0 c.in-Some.ensures.1 c.if-marks-x.false c.if-marks-x-ne0.true }

pub loop-x-smaller : goal.loop-x-smaller
loop-x-smaller c = unmarked-set c.loop-x.marks c.in-Some.x c.args.from (omega (arith, c.in-Some.ensures.1, c.loop-x.invariant.len)) c.if-marks-x-ne0.false

pub loop-x-preserved : goal.loop-x-preserved
loop-x-preserved c =
    let up = above_read c.args.nodes.now c.in-Some.x c.index-nodes-x.result c.above-at.result c.in-Some.ensures.1 c.index-nodes-x.is c.above-at.ensures in
    rw up (follow_goes_on c.args.nodes.now c.loop-x.marks c.args.from c.in-Some.x c.loop-x.at c.loop-x.invariant c.in-Some.ensures.0 c.in-Some.ensures.1)

pub returns : goal.returns
returns c = record { ends = follow_at_end c.args.nodes.now c.loop-x.marks c.args.from c.loop-x.at c.loop-x.invariant c.in_default.ensures }
