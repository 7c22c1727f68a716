use Rattle.moo_syntax.proofs.Blamed.{blamed_is_no_program}
use Rattle.moo_syntax.proofs.laws.blamed_texts_are_no_programs.Goals as goal

pub returns : goal.returns
returns c = blamed_is_no_program
