use Rattle.moo_checkpoint.proofs.TurnLemmas.{fresh_continues}
use Rattle.moo_checkpoint.proofs.laws.a_fresh_checkpoint_takes_any_disk.Goals as goal

pub returns : goal.returns
returns g c checkpoint disk fresh = fresh_continues g.D.Disk.kind checkpoint disk fresh
