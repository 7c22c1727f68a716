use Rattle.moo_cli_check.proofs.After.{after_nothing}
use Rattle.moo_cli_check.proofs.survey.Survey.new.Goals as goal

pub returns : goal.returns
returns c = after_nothing (record { records = c.new.result; faults = c.new-2.result }) c.new.ensures.going c.new.ensures.taken c.new-2.ensures.items
