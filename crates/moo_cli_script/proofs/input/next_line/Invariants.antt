use Rattle.std.proofs.Common.{◌-◌, ◌≤◌}
use Rattle.moo_cli_io.specs.Watching.{most_reads}
use Rattle.moo_cli_script.proofs.Taking.{IsHeld}
use Rattle.moo_cli_script.proofs.input.next_line.Given as goal

abbrev pub invariant-loop-line : goal.invariant-loop-line
invariant-loop-line g l = record {
  held : IsHeld (g.I.Read.remaining l.initial.input) (g.I.Read.remaining l.input) l.line.items;
  counted : l.initial.watch.reads ≤ l.watch.reads;
}

abbrev pub decreases-loop-line : goal.decreases-loop-line
decreases-loop-line g l = most_reads - l.watch.reads
