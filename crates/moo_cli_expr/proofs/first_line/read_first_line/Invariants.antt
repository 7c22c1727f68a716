use Rattle.std.proofs.Common.{◌-◌}
use Rattle.moo_cli_io.specs.Watching.{most_reads}
use Rattle.moo_cli_expr.proofs.HeldSoFar.{IsHeldSoFar}
use Rattle.moo_cli_expr.proofs.first_line.read_first_line.Given as goal

abbrev pub invariant-loop-held : goal.invariant-loop-held
invariant-loop-held g l = IsHeldSoFar (g.I.Read.remaining l.initial.input) (g.I.Read.remaining l.input) l.held.items

abbrev pub decreases-loop-held : goal.decreases-loop-held
decreases-loop-held g l = most_reads - l.watch.reads
