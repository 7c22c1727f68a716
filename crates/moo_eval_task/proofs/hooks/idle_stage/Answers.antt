use Rattle.std.proofs.Common.{sym, ◌∙◌}
use Rattle.moo_eval_task.proofs.Hooking.{not_empty}
use Rattle.moo_eval_task.proofs.hooks.idle_stage.Goals as goal

pub returns-clause-statements : goal.returns-clause-statements
returns-clause-statements c = λ e. not_empty c.statements.result.now (sym c.is_empty.ensures ∙ c.if-is_empty.false) ((rw c.deref.ensures at c.statements.ensures.statements) ∙ e)
