use Rattle.std.proofs.Common.{refl, sym, subst}
use Rattle.moo_disk.specs.Disk.{NoText, KeepsMain, KeepsSpare}
use Rattle.moo_disk.specs.FailAt.{inner_of}
use Rattle.moo_disk.proofs.GainsLemmas.{gains_none}
use Rattle.moo_disk.proofs.laws.a_failing_disk_keeps_what_it_had.Goals as goal

pub returns-clause-main : goal.returns-clause-main
returns-clause-main g c = λ old new same.
    subst (λ d. KeepsMain (g.D.Disk.kind.view (inner_of old)) (g.D.Disk.kind.view d)) (sym same)
    (record { text = refl; crash = gains_none NoText (g.D.Disk.kind.view (inner_of old)) })

pub returns-clause-spare : goal.returns-clause-spare
returns-clause-spare g c = λ old new same.
    subst (λ d. KeepsSpare (g.D.Disk.kind.view (inner_of old)) (g.D.Disk.kind.view d)) (sym same)
    (record { text = refl; stable = λ is. is })

pub returns-clause-honest : goal.returns-clause-honest
returns-clause-honest g c = λ old new same.
    (λ is. subst g.D.Disk.kind.honest (sym same) is, λ is. subst g.D.Disk.kind.honest same is)

pub returns-clause-has_spare : goal.returns-clause-has_spare
returns-clause-has_spare g c = λ old new same.
    (λ is. subst g.D.Disk.kind.has_spare (sym same) is, λ is. subst g.D.Disk.kind.has_spare same is)
