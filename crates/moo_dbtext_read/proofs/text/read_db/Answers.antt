use Rattle.moo_dbtext_read.proofs.Whole.{is_found_within, is_loaded_only, is_loaded_within}
use Rattle.moo_dbtext_read.proofs.Pieces.{answer_says}
use Rattle.moo_dbtext_read.proofs.text.read_db.Goals as goal

pub returns-clause-found : goal.returns-clause-found
returns-clause-found c = is_found_within c.args.bytes.now c.read_all.result c.read_all.ensures

pub returns-clause-only : goal.returns-clause-only
returns-clause-only c = is_loaded_only c.args.bytes.now c.read_all.result c.read_all.ensures

pub returns-clause-within : goal.returns-clause-within
returns-clause-within c = is_loaded_within c.args.bytes.now c.read_all.result c.read_all.ensures

pub returns-clause-refused : goal.returns-clause-refused
returns-clause-refused c = answer_says c.args.bytes.now c.read_all.result c.read_all.ensures
