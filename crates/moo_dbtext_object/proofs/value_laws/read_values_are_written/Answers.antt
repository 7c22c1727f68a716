use Rattle.moo_dbtext_object.specs.Reading.{begun}
use Rattle.moo_dbtext_object.proofs.ValueFound.{lines_found}
use Rattle.moo_dbtext_object.proofs.value_laws.read_values_are_written.Goals as goal

pub returns-clause-lines : goal.returns-clause-lines
returns-clause-lines c = λ s ls p t rest e. (lines_found s ls begun p t rest tt e).lines

pub returns-clause-writable : goal.returns-clause-writable
returns-clause-writable c = λ s ls p t rest e. (lines_found s ls begun p t rest tt e).is
