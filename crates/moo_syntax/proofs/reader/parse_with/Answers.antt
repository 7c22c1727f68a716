use Rattle.moo_syntax_ast.specs.View.{block}
use Rattle.moo_syntax.proofs.Sound.{parsed, has_text}
use Rattle.moo_syntax.proofs.reader.parse_with.Goals as goal

pub program_of-requires-clause-text : goal.program_of-requires-clause-text
program_of-requires-clause-text c =
    let whole = rw c.deref.ensures.value at c.in-Ok-read.ensures.program in
    has_text c.args.names c.args.lines.now c.in-Ok.spots.items (block c.in-Ok-read.statements.items) c.in-Ok.ensures whole

pub returns-in-Ok-program_of-clause-program : goal.returns-in-Ok-program_of-clause-program
returns-in-Ok-program_of-clause-program c =
    let whole = rw c.deref.ensures.value at c.in-Ok-read.ensures.program in
    rw c.in-Ok-program_of.ensures (parsed c.args.names c.args.lines.now c.in-Ok.spots.items (block c.in-Ok-read.statements.items) c.in-Ok.ensures whole)
