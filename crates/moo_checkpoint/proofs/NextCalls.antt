-- Which call a turn makes, by its stage.
use Rattle.std.proofs.Common.{◌≡◌, ◌⊎◌, ⊎_elim, ℕ, ◌+◌, ◌-◌, ◌<◌, ◌≤◌, min, List, length, take, sym, ◌∙◌, ap, arith}
use Rattle.std.proofs.lemmas.Bool.{cases_lt}
use Rattle.std.proofs.lemmas.List.{take_all}
use Rattle.moo_disk.specs.Disk.{Append, CreateSpare, DiskKind, SyncSpare}
use Rattle.moo_disk.specs.Disk as calls
use Rattle.moo_checkpoint.specs.Checkpoint.{IsNextCall, MakesNextCall, text_of, turns_from, turns_left}
use Rattle.moo_checkpoint.specs.declared.checkpoint.Checkpoint.{Checkpoint}
use Rattle.moo_checkpoint.specs.declared.checkpoint.Stage.{Stage}
use Rattle.moo_checkpoint.specs.declared.checkpoint.Stage.TheVariants.{Create, Fill, Rename, SyncNames}

-- the turns that are left at a stage
at_stage : (checkpoint : Checkpoint) (stage : Stage) → checkpoint.stage ≡ stage → turns_left checkpoint ≡ turns_from stage (length checkpoint.text.items) checkpoint.written
unfolding turns_left
at_stage checkpoint stage is = ap (λ (s : Stage). turns_from s (length checkpoint.text.items) checkpoint.written) is

module _ {D : Type 0} (kind : DiskKind D) (checkpoint : Checkpoint) (old new : D) where
  abbrev Makes : Type 0
  Makes = MakesNextCall kind (length (text_of checkpoint)) (turns_left checkpoint) old new

  pub creates : checkpoint.stage ≡ Create → kind.made CreateSpare old new → Makes
  creates is made = let left = at_stage checkpoint Create is in (CreateSpare, omega (arith, left), made)

  pub appends : checkpoint.stage ≡ Fill → checkpoint.written < length checkpoint.text.items → kind.made Append old new → Makes
  appends is more made = let left = at_stage checkpoint Fill is in (Append, (omega (arith, left, more), omega (arith, left, more)), made)

  pub syncs_spare : checkpoint.stage ≡ Fill → length checkpoint.text.items ≤ checkpoint.written → kind.made SyncSpare old new → Makes
  syncs_spare is all made = let left = at_stage checkpoint Fill is in (SyncSpare, omega (arith, left, all), made)

  pub renames : checkpoint.stage ≡ Rename → kind.made calls.Rename old new → Makes
  renames is made = (calls.Rename, at_stage checkpoint Rename is, made)

  pub syncs_names : checkpoint.stage ≡ SyncNames → kind.made calls.SyncNames old new → Makes
  syncs_names is made = (calls.SyncNames, at_stage checkpoint SyncNames is, made)

-- ---- the next call is no append

module _ (checkpoint : Checkpoint) where
  abbrev IsAppend : Type 0
  IsAppend = IsNextCall Append (length (text_of checkpoint)) (turns_left checkpoint)

  pub no_append_first : checkpoint.stage ≡ Create → IsAppend → ⊥
  no_append_first is next = let left = at_stage checkpoint Create is in omega (arith, left, next.1)

  pub no_append_of_all : checkpoint.stage ≡ Fill → length checkpoint.text.items ≤ checkpoint.written → IsAppend → ⊥
  no_append_of_all is all next = let left = at_stage checkpoint Fill is in omega (arith, left, all, next.0)

  pub no_append_renaming : checkpoint.stage ≡ Rename → IsAppend → ⊥
  no_append_renaming is next = let left = at_stage checkpoint Rename is in omega (arith, left, next.0)

  pub no_append_last : checkpoint.stage ≡ SyncNames → IsAppend → ⊥
  no_append_last is next = let left = at_stage checkpoint SyncNames is in omega (arith, left, next.0)

-- a piece is whole, or all that is left
pub whole_piece : (text : List ℕ) (written n : ℕ) → n ≡ min 65536 (length text - written) → take (written + n) text ≡ take (written + 65536) text
whole_piece text written n is =
    ⊎_elim
    (λ short. take_all (written + n) text (omega (arith, is, short)) ∙ sym (take_all (written + 65536) text (omega (arith, short))))
    (λ long. let whole : n ≡ 65536 = omega (arith, is, long) in ap (λ (k : ℕ). take (written + k) text) whole)
    (cases_lt (length text - written) 65536)
