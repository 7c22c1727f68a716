-- A disk that is handed on shows what it showed.
use Rattle.std.proofs.Common.{◌≡◌, refl, sym, subst}
use Rattle.moo_disk.specs.Disk.{DiskKind, KeepsMain, NoText}
use Rattle.moo_disk.proofs.GainsLemmas.{gains_none}

pub keeps_same : {D : Type 0} (kind : DiskKind D) (old new : D) → new ≡ old → KeepsMain (kind.view old) (kind.view new)
keeps_same {D = D} kind old new is =
    subst (λ (d : D). KeepsMain (kind.view old) (kind.view d)) (sym is) (record { text = refl; crash = gains_none NoText (kind.view old) })
