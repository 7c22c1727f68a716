use Rattle.moo_cli_web_request.proofs.Choices.{chosen, not_accepted}
use Rattle.moo_cli_web_request.proofs.reading.upgrade_by.Goals as goal

pub returns-in-Err-clause-upgrades : goal.returns-in-Err-clause-upgrades
returns-in-Err-clause-upgrades c = chosen _ _ _ (rw c.deref.ensures.value at c.if-not-has_field.ensures) (not_accepted _ c.in-Err.field-0 _ c.in-Err.ensures)
