use Rattle.std.proofs.Common.{refl, arith}
use Rattle.std.proofs.lemmas.Result.{err_from_is_err_and}
use Rattle.moo_cli_serve.specs.Service.{events_in}
use Rattle.moo_cli_serve.proofs.Events.{course_broken, course_made}
use Rattle.moo_cli_serve.proofs.Serviced.{breaks_off, made_more, served_out, served_over}
use Rattle.moo_cli_serve.proofs.serving.Serving.serve.Goals as goal

pub loop-made-init : goal.loop-made-init
loop-made-init g c = record {
  follows = record { still = c.requires.still; continues = c.requires.continues };
  makes = refl;
  upto = omega arith;
}

pub returns-in_err-goes-clause-course : goal.returns-in_err-goes-clause-course
returns-in_err-goes-clause-course g c =
    let broken =
    breaks_off g.S.Application.layer g.D.Disk.kind c.loop-made._made c.args.rounds _ c.args.self.now c.loop-made.self c.step.new.self
    c.loop-made.invariant.makes (omega (arith, c.loop-made-test.true)) c.in_err-goes.ensures.ended in
    (broken.0, course_broken g.S.Application.layer g.D.Disk.kind c.args.rounds _ c.args.self.now broken.0 c.step.new.self broken.1)

pub returns-in_err-goes-clause-ended : goal.returns-in_err-goes-clause-ended
returns-in_err-goes-clause-ended g c =
    let p = err_from_is_err_and c.from_residual.result c.from_residual.ensures.1 in
    rw (p.1, p.2)
    (breaks_off g.S.Application.layer g.D.Disk.kind c.loop-made._made c.args.rounds _ c.args.self.now c.loop-made.self c.step.new.self
    c.loop-made.invariant.makes (omega (arith, c.loop-made-test.true)) c.in_err-goes.ensures.ended)

pub returns-then-not-goes-clause-course : goal.returns-then-not-goes-clause-course
returns-then-not-goes-clause-course g c =
    let over = c.in_ok-goes.ensures.over c.if-not-goes.true in
    let served =
    served_over g.S.Application.layer g.D.Disk.kind c.loop-made._made c.args.rounds c.args.self.now c.loop-made.self c.step.new.self
    (omega (arith, c.loop-made-test.true)) c.loop-made.invariant.makes over.0 over.1 in (
      events_in g.S.Application.layer g.D.Disk.kind served.made c.args.self.now c.step.new.self served.makes,
      course_made g.S.Application.layer g.D.Disk.kind served.made c.args.self.now c.step.new.self served.makes,
    )

pub returns-then-not-goes-clause-served : goal.returns-then-not-goes-clause-served
returns-then-not-goes-clause-served g c =
    let over = c.in_ok-goes.ensures.over c.if-not-goes.true in
    served_over g.S.Application.layer g.D.Disk.kind c.loop-made._made c.args.rounds c.args.self.now c.loop-made.self c.step.new.self (omega (arith, c.loop-made-test.true)) c.loop-made.invariant.makes over.0 over.1

pub loop-made-preserved : goal.loop-made-preserved
loop-made-preserved g c = record {
  follows = c.in_ok-goes.ensures.follows;
  makes = made_more g.S.Application.layer g.D.Disk.kind c.loop-made._made c.args.self.now c.loop-made.self c.step.new.self c.loop-made.invariant.makes (c.in_ok-goes.ensures.goes c.if-not-goes.false);
  upto = omega (arith, c.loop-made-test.true);
}

pub returns-clause-served : goal.returns-clause-served
returns-clause-served g c =
    served_out g.S.Application.layer g.D.Disk.kind c.loop-made._made c.args.rounds c.args.self.now c.loop-made.self (omega (arith, c.loop-made-test.false, c.loop-made.invariant.upto)) c.loop-made.invariant.makes

pub step-requires : goal.step-requires
step-requires g c = c.loop-made.invariant.follows

pub returns-clause-follows : goal.returns-clause-follows
returns-clause-follows g c = c.loop-made.invariant.follows

pub returns-clause-course : goal.returns-clause-course
returns-clause-course g c = (
  events_in g.S.Application.layer g.D.Disk.kind c.loop-made._made c.args.self.now c.loop-made.self c.loop-made.invariant.makes,
  course_made g.S.Application.layer g.D.Disk.kind c.loop-made._made c.args.self.now c.loop-made.self c.loop-made.invariant.makes,
)
