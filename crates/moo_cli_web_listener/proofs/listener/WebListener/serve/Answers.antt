use Rattle.std.proofs.Common.{◌∙◌, arith, below_more}
use Rattle.slab.specs.Slab.{get}
use Rattle.moo_cli_web_listener.proofs.Stepping.{stepped_on, timely_all, timely_on}
use Rattle.moo_cli_web_listener.proofs.listener.WebListener.serve.Goals as goal

pub returns-in_err-progress-clause-serves : goal.returns-in_err-progress-clause-serves
returns-in_err-progress-clause-serves c are = record {
  accepted = c.accept.new.self.callers;
  accepts = c.accept.ensures.accepts are;
  steps = λ k.
      stepped_on c.args.now (get c.accept.new.self.callers k) (get c.loop-key.self.callers k) (get c.step.new.self.callers k) (c.loop-key.invariant.2 k) (c.step.ensures.steps k);
}

pub loop-key-preserved : goal.loop-key-preserved
loop-key-preserved c = (
  λ are. c.step.ensures.callers (c.loop-key.invariant.0 are),
  c.step.ensures.allowed ∙ c.loop-key.invariant.1,
  λ k.
      stepped_on c.args.now (get c.accept.new.self.callers k) (get c.loop-key.self.callers k) (get c.step.new.self.callers k) (c.loop-key.invariant.2 k)
      (c.step.ensures.steps k),
  below_more _ _
      (λ k less. timely_on c.args.now (get c.loop-key.self.callers k) (get c.step.new.self.callers k) (c.step.ensures.steps k) (c.loop-key.invariant.3 k less))
      c.in_ok-progress.ensures.timely,
)

pub returns-clause-timely : goal.returns-clause-timely
returns-clause-timely c =
    timely_all c.args.now c.capacity-key-end.result c.accept.new.self.callers c.loop-key.self.callers
    (omega (arith, c.capacity-key-end.ensures.slots, c.capacity-key-end.ensures.value)) c.loop-key.invariant.2
    (λ k less. c.loop-key.invariant.3 k (omega (arith, less, c.loop-key-test.false)))
