-- A disk in memory that stops in a call.
use Rattle.std.specs.Prelude.{◌≡◌, ◌⊎◌, ℕ, ◌+◌, ◌-◌, ◌<◌, ◌≤◌, List, Result, IsErr, IsSome}
use Rattle.moo_disk.specs.Disk.{Counts, DiskKind, DiskView, HasRisen}
use Rattle.moo_disk.specs.Memory.{failures_of as memory_failures, images as memory_images, view_of as memory_view}
use Rattle.moo_disk.specs.declared.memory.MemoryDisk.{MemoryDisk}
use Rattle.moo_disk.specs.declared.stop_at.Call.{Call}
use Rattle.moo_disk.specs.declared.stop_at.Call.TheVariants.{CutShort, Passes, Refused}
use Rattle.moo_disk.specs.declared.stop_at.Place.{Place}
use Rattle.moo_disk.specs.declared.stop_at.Place.TheVariants.{Before, Within}
use Rattle.moo_disk.specs.declared.stop_at.StopAt.{StopAt}

-- the wrapped disk, as it is now
abbrev pub inner_of : StopAt → MemoryDisk
inner_of stopping = stopping.disk

-- the state that a reader, a rename and a crash find
abbrev pub view_of : StopAt → DiskView
view_of stopping = memory_view (inner_of stopping)

-- the texts that a crash may leave, each once, in the order in which they entered
abbrev pub images : StopAt → List (List ℕ)
images stopping = memory_images (inner_of stopping)

-- the calls up to and including the one that it stops in, or 0 once it has
abbrev pub left_of : StopAt → ℕ
left_of stopping = stopping.left

-- the point in that call at which it stops
abbrev pub place_of : StopAt → Place
place_of stopping = stopping.place

-- the calls that it has refused, and in which the wrapped disk didn't fail
abbrev pub refused_of : StopAt → ℕ
refused_of stopping = stopping.refused

-- in how many calls the device has failed
abbrev pub failures_of : StopAt → ℕ
failures_of stopping = memory_failures stopping.disk + stopping.refused

-- It is honest, a spare exists exactly if its view has one, and each call is counted.
abbrev pub stopping_kind : DiskKind StopAt
stopping_kind = record {
  view = view_of;
  honest = λ stopping. Unit {0};
  has_spare = λ stopping. IsSome (view_of stopping).spare;
  failures = failures_of;
  made = λ call old new. left_of new ≡ left_of old - 1;
}

-- the next call is the one that it stops within
abbrev pub IsWithin : StopAt → Type 0
IsWithin stopping = (left_of stopping ≡ 1) × (place_of stopping ≡ Within)

-- the call stops within, and the wrapped disk doesn't fail in it
abbrev pub StopsWithin : StopAt → StopAt → Type 0
StopsWithin old new = IsWithin old × ¬ HasRisen (memory_failures (inner_of old)) (memory_failures (inner_of new))

-- the next call does nothing: it stops before it, or has stopped
abbrev pub IsStill : StopAt → Type 0
IsStill stopping = (left_of stopping ≡ 0) ⊎ ((left_of stopping ≡ 1) × (place_of stopping ≡ Before))

-- One call: before the stop it is answered by the wrapped disk, from the stop on it fails.
pub record StopsFrom {T E : Type 0} (old new : StopAt) (result : Result T E) : Type 0 where
  pub left : left_of new ≡ left_of old - 1
  pub place : place_of new ≡ place_of old
  pub passes : 1 < left_of old → Counts (memory_failures (inner_of old)) (memory_failures (inner_of new)) result
  pub stops : left_of old ≤ 1 → IsErr result
  pub still : IsStill old → inner_of new ≡ inner_of old

-- the next call comes before the stop, is the one that it stops within, or does nothing: it stops before it, or has stopped
abbrev pub Becomes : StopAt → Call → Type 0
Becomes stopping Passes = 1 < left_of stopping
Becomes stopping CutShort = IsWithin stopping
Becomes stopping Refused = IsStill stopping
