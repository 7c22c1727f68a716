use Rattle.std.proofs.Common.{arith}
use Rattle.moo_dbtext_read.proofs.Lengths.{entries_length}
use Rattle.moo_dbtext_read.proofs.object_line.lines_of_entries.Goals as goal

pub loop-entry-preserved : goal.loop-entry-preserved
loop-entry-preserved c =
    let grown = entries_length c.args.entries.now c.loop-entry.entry-index c.entry-item.result c.loop-entry-test.true c.entry-item.is in
    omega (arith, c.in_ok-lines.ensures, c.in_ok-lines_of_entry.ensures, c.loop-entry.invariant)
