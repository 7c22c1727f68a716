use Rattle.std.proofs.Common.{◌+◌, ◌++◌, ap, arith, length}
use Rattle.std.proofs.lemmas.Result.{err_from_is_err_and}
use Rattle.moo_cli_web_frames.proofs.Reading.{progress_begun, progress_fails, progress_more, progress_over, progress_waits}
use Rattle.moo_cli_web_frames.proofs.endpoint.Endpoint.receive.Goals as goal

pub loop-made-init : goal.loop-made-init
loop-made-init c =
    let items = c.in_ok-extend_from_slice.ensures.items in (
      omega (arith, c.len-rounds.ensures, c.extend_from_slice.new.self.ok.0, ap length items),
      progress_begun (c.len-rounds.result + 1) c.args.self.now.context (c.args.self.now.input.items ++ c.args.bytes.now) c.extend_from_slice.new.self.items
          c.args.payload.now.items c.args.output.now.items items,
    )

pub returns-in_err-more-clause-err : goal.returns-in_err-more-clause-err
returns-in_err-more-clause-err c =
    let p = err_from_is_err_and c.from_residual-in_err-more.result c.from_residual-in_err-more.ensures.1 in
    let l = c.loop-made in
    rw (p.1, p.2) (progress_fails (c.len-rounds.result + 1) l._made c.args.self.now.context (c.args.self.now.input.items ++ c.args.bytes.now)
    c.args.payload.now.items c.args.output.now.items l.self.context l.self.input.items l.payload.items c.receive_frame.new.payload.items l.output.items
    c.receive_frame.new.output.items c.in_err-more.field-0.0 l.invariant.0 c.loop-made-test.true l.invariant.1 c.in_err-more.ensures.err)

pub returns-then-not-more-clause-ok : goal.returns-then-not-more-clause-ok
returns-then-not-more-clause-ok c =
    let l = c.loop-made in
    progress_waits (c.len-rounds.result + 1) l._made c.args.self.now.context (c.args.self.now.input.items ++ c.args.bytes.now)
    c.args.payload.now.items c.args.output.now.items l.self.context c.receive_frame.new.self.context l.self.input.items c.receive_frame.new.self.input.items
    l.payload.items c.receive_frame.new.payload.items l.output.items c.receive_frame.new.output.items l.invariant.0 c.loop-made-test.true l.invariant.1
    (rw c.if-not-more.true at c.in_ok-more.ensures.ok)

pub loop-made-preserved : goal.loop-made-preserved
loop-made-preserved c =
    let l = c.loop-made in (
      l.invariant.0,
      progress_more (c.len-rounds.result + 1) l._made c.args.self.now.context (c.args.self.now.input.items ++ c.args.bytes.now)
          c.args.payload.now.items c.args.output.now.items l.self.context c.receive_frame.new.self.context l.self.input.items c.receive_frame.new.self.input.items
          l.payload.items c.receive_frame.new.payload.items l.output.items c.receive_frame.new.output.items c.loop-made-test.true l.invariant.1
          (rw c.if-not-more.false at c.in_ok-more.ensures.ok),
    )

pub returns-clause-ok : goal.returns-clause-ok
returns-clause-ok c =
    let l = c.loop-made in
    progress_over (c.len-rounds.result + 1) l._made c.args.self.now.context (c.args.self.now.input.items ++ c.args.bytes.now)
    c.args.payload.now.items c.args.output.now.items l.self.context l.self.input.items l.payload.items l.output.items l.invariant.0
    c.loop-made-test.false l.invariant.1
