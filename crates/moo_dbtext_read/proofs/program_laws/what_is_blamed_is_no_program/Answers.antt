use Rattle.moo_dbtext_read.proofs.Blame.{blamed_is_none, blamed_is_outside}
use Rattle.moo_dbtext_read.proofs.program_laws.what_is_blamed_is_no_program.Goals as goal

pub returns-clause-program : goal.returns-clause-program
returns-clause-program c = blamed_is_none

pub returns-clause-within : goal.returns-clause-within
returns-clause-within c = blamed_is_outside
