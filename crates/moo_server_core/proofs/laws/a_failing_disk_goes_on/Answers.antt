use Rattle.std.proofs.Common.{refl}
use Rattle.moo_disk.specs.FailAt.{failing_kind, inner_of}
use Rattle.moo_server_core.proofs.Reported.{follows_like}
use Rattle.moo_server_core.proofs.laws.a_failing_disk_goes_on.Goals as goal

pub returns : goal.returns
returns g c server disk =
    let kind = g.D.Disk.kind in (
      λ follows. record { still = follows.still; continues = follows_like kind (failing_kind kind) server.writing (inner_of disk) disk refl (λ h. h) (λ s. s) follows.continues },
      λ follows. record { still = follows.still; continues = follows_like (failing_kind kind) kind server.writing disk (inner_of disk) refl (λ h. h) (λ s. s) follows.continues },
    )
