use Rattle.std.proofs.Common.{take}
use Rattle.std.specs.Io.KnownBytes.{Appends}
use Rattle.moo_eval.specs.Ends.{texts}
use Rattle.moo_cli_expr.specs.Expr.{printed}
use Rattle.moo_cli_expr.proofs.answer.print.Given as goal

abbrev pub invariant-loop-line : goal.invariant-loop-line
invariant-loop-line g l = Appends (g.O.Write.contents l.initial.output) (g.O.Write.contents l.output) (printed (texts (take l.line-index l.lines)))
