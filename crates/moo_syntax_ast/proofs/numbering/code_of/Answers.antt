use Rattle.std.proofs.Common.{sym, ◌∙◌}
use Rattle.moo_syntax_ast.proofs.Numbered.{no_code}
use Rattle.moo_syntax_ast.proofs.numbering.code_of.Goals as goal

pub returns-in_err-code : goal.returns-in_err-code
returns-in_err-code c =
    let i = c.loop-last.invariant in
    c.from_residual.ensures ∙ sym (no_code c.args.name.now c.loop-last.rest.now i.0 c.in-Some.before.now c.in-Some.last.now c.loop-last.code i.1 c.in-Some.ensures.cases.0 i.2 (sym c.with_digit.ensures ∙ c.in_err-code.was))
