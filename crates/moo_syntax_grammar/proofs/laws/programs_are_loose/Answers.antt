use Rattle.moo_syntax_grammar.proofs.Admitted.{strict_is_loose}
use Rattle.moo_syntax_grammar.proofs.laws.programs_are_loose.Goals as goal

pub returns : goal.returns
returns c = strict_is_loose
