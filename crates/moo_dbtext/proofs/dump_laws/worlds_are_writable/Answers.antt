use Rattle.moo_dbtext.proofs.Written.{written}
use Rattle.moo_dbtext.proofs.dump_laws.worlds_are_writable.Goals as goal

pub returns : goal.returns
returns c = λ s w connected f h few. written s w connected f h few
