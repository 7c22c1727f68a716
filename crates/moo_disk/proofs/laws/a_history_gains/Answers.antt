use Rattle.moo_disk.proofs.GainsLemmas.{history_gains}
use Rattle.moo_disk.proofs.laws.a_history_gains.Goals as goal

pub returns : goal.returns
returns g c texts old new disks history = history_gains g.D.Disk.kind.view texts old new disks history
