use Rattle.moo_dbtext_read.proofs.ProgramOrder.{one_is_told}
use Rattle.moo_dbtext_read.proofs.program_laws.one_fault_is_told.Goals as goal

pub returns : goal.returns
returns c = one_is_told
