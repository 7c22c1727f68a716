use Rattle.std.proofs.Common.{refl}
use Rattle.moo_disk.specs.Memory.{memory_kind}
use Rattle.moo_disk.specs.StopAt.{inner_of, stopping_kind}
use Rattle.moo_checkpoint.proofs.TurnLemmas.{continues_like}
use Rattle.moo_checkpoint.proofs.laws.a_stopping_disk_goes_on.Goals as goal

pub returns : goal.returns
returns c checkpoint disk = (
  continues_like memory_kind stopping_kind checkpoint (inner_of disk) disk refl (λ h. h) (λ s. s),
  continues_like stopping_kind memory_kind checkpoint disk (inner_of disk) refl (λ h. h) (λ s. s),
)
