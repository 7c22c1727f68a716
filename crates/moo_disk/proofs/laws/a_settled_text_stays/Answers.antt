use Rattle.std.proofs.Common.{◌≤◌, inl, inr, ⊎_elim, arith}
use Rattle.moo_disk.proofs.GainsLemmas.{history_gains}
use Rattle.moo_disk.proofs.laws.a_settled_text_stays.Goals as goal

pub returns : goal.returns
returns g c texts disk last after text t honest only later left =
    let clock = (g.D.Disk.kind.view disk).clock in
    ⊎_elim (λ was. inl (only t (g.met.D.Disk.only_now disk t honest was))) (λ brought. inr brought)
    ((history_gains g.D.Disk.kind.view texts disk last after later).since clock t (let same : clock ≤ clock = omega arith in same) left)
