use Rattle.moo_dbtext_read.proofs.ProgramOrder.{one_by_choice, same_fault}
use Rattle.moo_dbtext_read.proofs.program_laws.one_fault_by_choice.Goals as goal

pub returns : goal.returns
returns c = λ choice bytes d e h k by also known other. same_fault d e (one_by_choice choice bytes d e h k by also known other)
