use Rattle.moo_syntax.proofs.ToldLines.{told_line}
use Rattle.moo_syntax.proofs.laws.told_lines_are_lines.Goals as goal

pub returns : goal.returns
returns c = told_line
