use Rattle.std.proofs.Common.{◌≡◌, ◌-◌, ◌<◌, ◌≤◌, ◌^◌, [], length, take}
use Rattle.moo_dbtext_read.specs.Feeding.{HasFed}
use Rattle.moo_disk.specs.Disk.{ReadsBelow}
use Rattle.moo_checkpoint.specs.Recovering.{Keeps}
use Rattle.moo_checkpoint.proofs.recovery.feed_main.Given as goal

abbrev pub invariant-loop-buffer : goal.invariant-loop-buffer
invariant-loop-buffer g l = record {
  place : l.at < 2 ^ 63;
  buffer : length l.buffer.items ≡ 65536;
  fed : g.D.Disk.kind.honest l.fn.disk → HasFed l.fn.reader [] → HasFed l.reader (take l.at (g.D.Disk.kind.view l.fn.disk).main_text);
  count : g.D.Disk.kind.failures l.disk ≡ g.D.Disk.kind.failures l.fn.disk;
  keeps : Keeps g.D.Disk.kind l.fn.disk l.disk;
  reads : ReadsBelow g.D.Disk.kind 65536 l.at l.fn.disk l.disk;
  within : g.D.Disk.kind.honest l.fn.disk → l.at ≤ length (g.D.Disk.kind.view l.fn.disk).main_text;
}

abbrev pub decreases-loop-buffer : goal.decreases-loop-buffer
decreases-loop-buffer g l = 2 ^ 63 - l.at
