use Rattle.std.proofs.Common.{◌≡◌, ℕ, ◌++◌, List, length}
use Rattle.std.specs.Io.KnownBytes.{Appends}
use Rattle.moo_cli_script.specs.Printed.{sent_lines}
use Rattle.moo_cli_script.proofs.printing.print_sent.Given as goal

abbrev pub invariant-loop-line : goal.invariant-loop-line
invariant-loop-line g l = record {
  printed : (done : List ℕ) × Appends (g.O.Write.contents l.initial.output) (g.O.Write.contents l.output) done × (sent_lines l.c l.sent ≡ done ++ sent_lines l.c l.rest);
  counted : l.watch.reads ≡ l.initial.watch.reads;
}

abbrev pub decreases-loop-line : goal.decreases-loop-line
decreases-loop-line g l = length l.rest
