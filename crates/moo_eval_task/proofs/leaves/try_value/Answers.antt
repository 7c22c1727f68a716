use Rattle.std.proofs.Common.{arith}
use Rattle.moo_eval_integer.specs.Integers.{with_ticks}
use Rattle.moo_eval_task.proofs.leaves.try_value.Goals as goal

pub returns-in-Index-clause-value : goal.returns-in-Index-clause-value
returns-in-Index-clause-value c = rw (c.in-Index.is, ← c.deref.ensures, ← c.deref-in-Index.ensures) c.try_element_value.ensures.value

pub returns : goal.returns
returns c = record { value = λ k s e. c.in_ok-value.ensures k (with_ticks c.args.left.now s) e (omega (arith, c.if-left-eq0.false)); kept = tt; ticks = omega arith }
