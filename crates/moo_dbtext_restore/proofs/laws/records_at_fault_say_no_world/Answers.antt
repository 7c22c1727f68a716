use Rattle.moo_dbtext_restore.proofs.Worlds.{well_placed, has_its_cells}
use Rattle.moo_dbtext_restore.proofs.laws.records_at_fault_say_no_world.Goals as goal

pub returns : goal.returns
returns c = record {
  hierarchy = λ r w x fault says f. fault.1 (well_placed r w says f x);
  count = λ r w x fault says f. fault.1.1 (has_its_cells r w says f x);
}
