use Rattle.std.proofs.Common.{◌≡◌, ℕ, ◌-◌, ◌++◌, List, length}
use Rattle.std.specs.Io.KnownBytes.{Consumes}
use Rattle.moo_cli_io.specs.Watching.{most_reads}
use Rattle.moo_cli_script.proofs.input.read_all.Given as goal

abbrev pub invariant-loop-count : goal.invariant-loop-count
invariant-loop-count g l = record {
  room : length l.buffer ≡ length l.initial.buffer;
  read : (bytes : List ℕ) × Consumes (g.F.Read.remaining l.initial.database) (g.F.Read.remaining l.database) bytes × (l.text.items ≡ l.initial.text.items ++ bytes);
}

abbrev pub decreases-loop-count : goal.decreases-loop-count
decreases-loop-count g l = most_reads - l.watch.reads
