use Rattle.std.proofs.Common.{sym, ◌∙◌}
use Rattle.moo_syntax_ast.proofs.GivenNames.{none_is, other_is}
use Rattle.moo_syntax_ast.proofs.given.Given.from_name.Goals as goal

pub returns-in_err-given : goal.returns-in_err-given
returns-in_err-given c =
    rw c.from_residual-in_err-given.ensures (none_is c.args.name.now c.in_ok-first.field-0.now c.to_ascii_lowercase-letter.result c.in_ok-first.ensures.value c.to_ascii_lowercase-letter.ensures.value c.in_err-given.ensures)

pub returns-else-is : goal.returns-else-is
returns-else-is c =
    other_is c.args.name.now c.in_ok-first.field-0.now c.to_ascii_lowercase-letter.result c.in_ok-given.given c.in_ok-first.ensures.value c.to_ascii_lowercase-letter.ensures.value c.in_ok-given.ensures (sym c.is.ensures ∙ c.if-is.false)
