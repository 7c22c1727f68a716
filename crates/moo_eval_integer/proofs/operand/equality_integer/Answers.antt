use Rattle.moo_eval_integer.proofs.operand.equality_integer.Goals as goal

pub returns-then-passes-clause-value : goal.returns-then-passes-clause-value
returns-then-passes-clause-value c = rw c.if-passes.true at c.in_ok-passes.ensures.value

pub returns-else-passes-clause-value : goal.returns-else-passes-clause-value
returns-else-passes-clause-value c = rw c.if-passes.false at c.in_ok-passes.ensures.value
