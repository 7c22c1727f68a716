use Rattle.std.proofs.Common.{◌+◌, drop}
use Rattle.std.proofs.Math.ListN.{drop_of_length-le}
use Rattle.moo_eval_control.proofs.Rest.{drop_next}
use Rattle.moo_session.specs.Input.{no_line_more}
use Rattle.moo_session.proofs.InputSteps.{more}
use Rattle.moo_session.proofs.input.meet_lines.Goals as goal

pub loop-line-init : goal.loop-line-init
loop-line-init c = λ end d. d

pub loop-line-preserved : goal.loop-line-preserved
loop-line-preserved c = λ end d. c.loop-line.invariant end (rw (drop_next c.args.lines.now c.loop-line.line-index c.line-item.result c.loop-line-test.true c.line-item.is)
    (more c.args.moment c.args.number c.line-item.result (drop (c.loop-line.line-index + 1) c.args.lines.now) c.loop-line.live c.meet_line.new.live c.in_ok-meet_line.ensures end d))

pub returns : goal.returns
returns c = c.loop-line.invariant _ (rw (drop_of_length-le c.args.lines.now c.loop-line-test.false) no_line_more)
