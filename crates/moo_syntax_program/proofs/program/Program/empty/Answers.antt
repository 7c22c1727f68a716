use Rattle.std.proofs.Common.{[]}
use Rattle.moo_syntax_token.specs.Lexing.{text_end}
use Rattle.moo_syntax_ast.specs.Tree.{no_statement}
use Rattle.moo_syntax_grammar.specs.Grammar.{no_statements}
use Rattle.moo_syntax_grammar.specs.Texts.{HasText}
use Rattle.moo_syntax_program.proofs.program.Program.empty.Goals as goal

no_lines : HasText no_statement
no_lines = record { lines = []; program = record { spots = []; tokens = text_end; program = no_statements } }

pub try_new-requires-clause-text : goal.try_new-requires-clause-text
try_new-requires-clause-text c = rw c.new.ensures.items no_lines
