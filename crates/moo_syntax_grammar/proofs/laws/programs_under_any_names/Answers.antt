use Rattle.moo_syntax_grammar.proofs.Admitted.{program_under_any_names}
use Rattle.moo_syntax_grammar.proofs.laws.programs_under_any_names.Goals as goal

pub returns : goal.returns
returns c = program_under_any_names
