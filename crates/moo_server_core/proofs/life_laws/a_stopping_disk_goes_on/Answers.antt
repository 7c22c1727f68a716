use Rattle.std.proofs.Common.{refl}
use Rattle.moo_disk.specs.Memory.{memory_kind}
use Rattle.moo_disk.specs.StopAt.{inner_of, stopping_kind}
use Rattle.moo_server_core.proofs.Reported.{follows_like}
use Rattle.moo_server_core.proofs.life_laws.a_stopping_disk_goes_on.Goals as goal

pub returns : goal.returns
returns g c server disk = (
  λ follows. record { still = follows.still; continues = follows_like memory_kind stopping_kind server.writing (inner_of disk) disk refl (λ h. h) (λ s. s) follows.continues },
  λ follows. record { still = follows.still; continues = follows_like stopping_kind memory_kind server.writing disk (inner_of disk) refl (λ h. h) (λ s. s) follows.continues },
)
