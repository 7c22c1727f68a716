-- Calls of a disk, one after another.
use Rattle.std.specs.Prelude.{◌≡◌, ℕ, List, [], ◌∷◌, Contains}
use Rattle.moo_disk.specs.Disk.{DiskView, Gains}

-- Calls lead from an old disk by these disks to a new one, and each of them brings at most these texts.
abbrev pub History : {D : Type 0} → (D → DiskView) → List (List ℕ) → D → List D → D → Type 0
History view texts old [] new = new ≡ old
History view texts old (disk ∷ disks) new = Gains (Contains texts) (view old) (view disk) × History view texts disk disks new
