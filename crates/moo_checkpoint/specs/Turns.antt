-- Turns of a checkpoint, one after another.
use Rattle.std.specs.Prelude.{◌≡◌, ◌+◌, ◌<◌, List, [], ◌∷◌}
use Rattle.moo_disk.specs.Disk.{DiskKind, Gains, LeavesOnly}
use Rattle.moo_checkpoint.specs.declared.checkpoint.Checkpoint.{Checkpoint}
use Rattle.moo_checkpoint.specs.declared.checkpoint.Turn.{Turn}
use Rattle.moo_checkpoint.specs.declared.checkpoint.Turn.TheVariants.{More, Done}
use Rattle.moo_checkpoint.specs.Checkpoint.{text_of, turns_left}

-- the contract of a turn for the checkpoint and an honest disk
pub record Turned {D : Type 0} (kind : DiskKind D) (answer : Turn) (old new : Checkpoint) (before after : D) : Type 0 where
  pub text : text_of new ≡ text_of old
  pub crash : Gains (λ c. c ≡ text_of old) (kind.view before) (kind.view after)
  pub done : answer ≡ Done → LeavesOnly (text_of old) (kind.view after)
  pub more : answer ≡ More → turns_left new + 1 ≡ turns_left old
  pub not_last : answer ≡ More → 0 < turns_left new
  pub last : answer ≡ Done → turns_left old ≡ 1

-- the state that a turn left
pub record Taken (D : Type 0) : Type 0 where
  pub checkpoint : Checkpoint
  pub disk : D

-- turns that all return `More`, from an old checkpoint and its disk to a new state of both
abbrev pub MoreTurns : {D : Type 0} → DiskKind D → Checkpoint → D → List (Taken D) → Checkpoint → D → Type 0
MoreTurns kind old before [] new after = (new ≡ old) × (after ≡ before)
MoreTurns kind old before (taken ∷ turns) new after =
    Turned kind More old taken.checkpoint before taken.disk × MoreTurns kind taken.checkpoint taken.disk turns new after
