use Rattle.moo_dbtext_read.proofs.After.{after_nothing}
use Rattle.moo_dbtext_read.proofs.program_reader.ProgramReader.new.Goals as goal

pub returns-clause-taken : goal.returns-clause-taken
returns-clause-taken c = after_nothing (record { records = c.new.result; programs = c.new-2.result; known = _; outcome = _ }) c.new.ensures.going c.new.ensures.taken c.new-2.ensures.items
