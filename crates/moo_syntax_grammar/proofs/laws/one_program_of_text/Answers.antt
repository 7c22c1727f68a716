use Rattle.moo_syntax_grammar.proofs.Unique as unique
use Rattle.moo_syntax_grammar.proofs.laws.one_program_of_text.Goals as goal

pub returns : goal.returns
returns c = unique.one_program_of_text
