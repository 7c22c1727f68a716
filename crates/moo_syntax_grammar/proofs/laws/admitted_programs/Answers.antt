use Rattle.moo_syntax_grammar.proofs.Admitted.{admitted}
use Rattle.moo_syntax_grammar.proofs.laws.admitted_programs.Goals as goal

pub returns : goal.returns
returns c = λ g h ts b a d. admitted a d
