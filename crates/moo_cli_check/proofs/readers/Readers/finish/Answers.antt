use Rattle.std.proofs.Common.{sym, ◌∙◌}
use Rattle.moo_cli_check.proofs.Answered.{whole_surveyed}
use Rattle.moo_cli_check.proofs.readers.Readers.finish.Goals as goal

pub returns-then-is_of_program : goal.returns-then-is_of_program
returns-then-is_of_program c = λ bytes h.
    whole_surveyed bytes c.finish-faults.result.0.items c.finish-faults.result.1 c.in-Err.fault (sym c.is_of_program.ensures ∙ c.if-is_of_program.true) (c.in-Err.ensures.answer bytes h.check) (c.finish-faults.ensures bytes h.survey)

pub returns-else-is_of_program : goal.returns-else-is_of_program
returns-else-is_of_program c = λ bytes h. (c.in-Err.ensures.answer bytes h.check, sym c.is_of_program.ensures ∙ c.if-is_of_program.false)
