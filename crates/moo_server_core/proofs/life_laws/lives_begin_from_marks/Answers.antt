use Rattle.std.proofs.Common.{[]}
use Rattle.moo_server_core.proofs.Kept.{begin_from_kept}
use Rattle.moo_server_core.proofs.life_laws.lives_begin_from_marks.Goals as goal

pub returns : goal.returns
returns g c first last runs texts left only lives =
    begin_from_kept g.S.Application.layer g.D.Disk.kind g.D.CrashDisk.images (λ disk h. (g.met.D.Disk.main_may_be_left disk h).1)
    [] runs first last texts left only lives
