use Rattle.std.proofs.Common.{refl}
use Rattle.moo_disk.specs.FailAt.{failing_kind, inner_of}
use Rattle.moo_checkpoint.proofs.TurnLemmas.{continues_like}
use Rattle.moo_checkpoint.proofs.laws.a_failing_disk_goes_on.Goals as goal

pub returns : goal.returns
returns g c checkpoint disk =
    let kind = g.D.Disk.kind in (
      continues_like kind (failing_kind kind) checkpoint (inner_of disk) disk refl (λ h. h) (λ s. s),
      continues_like (failing_kind kind) kind checkpoint disk (inner_of disk) refl (λ h. h) (λ s. s),
    )
