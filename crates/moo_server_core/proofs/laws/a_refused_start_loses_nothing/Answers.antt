use Rattle.std.proofs.Common.{⊎_elim, arith}
use Rattle.moo_server_core.proofs.laws.a_refused_start_loses_nothing.Goals as goal

pub returns : goal.returns
returns g c first last h kept f left =
    ⊎_elim (λ was. g.met.D.Disk.only_now first f h was) (λ nothing. absurd nothing) (kept.crash.since (g.D.Disk.kind.view first).clock f (omega arith) left)
