use Rattle.moo_cli_expr.proofs.Answered.{shown}
use Rattle.moo_cli_expr.proofs.answer.evaluated.Goals as goal

pub returns-clause-answered : goal.returns-clause-answered
returns-clause-answered g c =
    shown _ _ _ c.in_ok-line.line.items _ _ c.in_ok-line.ensures.line (rw c.as_slice.ensures.value at c.in-Ok.ensures)
    (rw c.as_slice-2.ensures.value at c.in_ok-print.ensures.text)
