use Rattle.moo_unparse.proofs.Indents.{full_indented, short_indented}
use Rattle.moo_unparse.proofs.laws.indents_are_blanks.Goals as goal

pub returns : goal.returns
returns c = record { full = full_indented; short = short_indented }
