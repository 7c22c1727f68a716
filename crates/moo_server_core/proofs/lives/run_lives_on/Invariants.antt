use Rattle.std.proofs.Common.{take}
use Rattle.moo_disk.specs.Disk.{LeavesOnly}
use Rattle.moo_dbtext_read.specs.Saved.{Saved}
use Rattle.moo_server_core.specs.Lives.{SoFar}
use Rattle.moo_server_core.proofs.lives.run_lives_on.Given as goal

abbrev pub invariant-loop-place : goal.invariant-loop-place
invariant-loop-place g l =
    g.D.Disk.kind.honest l.fn.disk → (s : Saved) → g.S.Application.layer.meaning.Spells (g.D.Disk.kind.view l.fn.disk).main_text s
    → LeavesOnly (g.D.Disk.kind.view l.fn.disk).main_text (g.D.Disk.kind.view l.fn.disk)
    → SoFar g.S.Application.layer g.D.Disk.kind g.D.CrashDisk.images (take l.place l.lives) l.begins.items l.fn.disk l.disk
