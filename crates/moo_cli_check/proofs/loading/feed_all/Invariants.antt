use Rattle.std.proofs.Common.{◌≡◌, ℕ, ◌-◌, List, length}
use Rattle.std.specs.Io.KnownBytes.{Consumes}
use Rattle.moo_dbtext_read.specs.Feeding.{HasFed}
use Rattle.moo_cli_io.specs.Watching.{most_reads}
use Rattle.moo_cli_check.proofs.loading.feed_all.Given as goal

abbrev pub invariant-loop-count : goal.invariant-loop-count
invariant-loop-count g l = record {
  room : length l.buffer ≡ length l.initial.buffer;
  fed : (bytes : List ℕ) × HasFed l.reader bytes × Consumes (g.I.Read.remaining l.initial.input) (g.I.Read.remaining l.input) bytes;
}

abbrev pub decreases-loop-count : goal.decreases-loop-count
decreases-loop-count g l = most_reads - l.watch.reads
