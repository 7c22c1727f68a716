-- What turns one after another come to.
use Rattle.std.proofs.Common.{◌≡◌, ◌⊎◌, ⊎_elim, ℕ, ◌+◌, ◌<◌, List, [], ◌∷◌, length, refl, sym, ◌∙◌, ap, subst, arith}
use Rattle.moo_disk.specs.Disk.{DiskKind, DiskView, Gains}
use Rattle.moo_disk.proofs.GainsLemmas.{gains_join, gains_less, gains_none}
use Rattle.moo_checkpoint.specs.declared.checkpoint.Checkpoint.{Checkpoint}
use Rattle.moo_checkpoint.specs.declared.checkpoint.Stage.{Stage}
use Rattle.moo_checkpoint.specs.declared.checkpoint.Stage.TheVariants.{Create, Fill, Rename, SyncNames}
use Rattle.moo_checkpoint.specs.Checkpoint.{Continues, IsFresh, IsReady, pieces, text_of, turns_from, turns_left}
use Rattle.moo_checkpoint.specs.Turns.{Taken, MoreTurns}

-- before its first turn a checkpoint may be given any disk
pub fresh_continues : {D : Type 0} (kind : DiskKind D) (checkpoint : Checkpoint) (disk : D)
    → IsFresh checkpoint → Continues kind checkpoint disk
unfolding IsFresh Continues
fresh_continues kind checkpoint disk fresh =
    subst (λ (stage : Stage). IsReady kind stage checkpoint.text.items checkpoint.written disk) (sym fresh) tt

pub fresh_turns : (checkpoint : Checkpoint) → IsFresh checkpoint → turns_left checkpoint ≡ pieces (length (text_of checkpoint)) + 4
unfolding IsFresh turns_left
fresh_turns checkpoint fresh =
    let all = ap (λ (stage : Stage). turns_from stage (length checkpoint.text.items) checkpoint.written) fresh in
    omega (arith, all)

-- a disk that shows what another one does, continues if that one does
pub continues_like : {D E : Type 0} (kind : DiskKind D) (kind' : DiskKind E) (checkpoint : Checkpoint) (disk : D) (disk' : E)
    → kind'.view disk' ≡ kind.view disk → (kind'.honest disk' → kind.honest disk) → (kind.has_spare disk → kind'.has_spare disk')
    → Continues kind checkpoint disk → Continues kind' checkpoint disk'
unfolding Continues
continues_like kind kind' checkpoint disk disk' same honest has_spare = like checkpoint.stage
  where
    like : (stage : Stage) → IsReady kind stage checkpoint.text.items checkpoint.written disk
        → IsReady kind' stage checkpoint.text.items checkpoint.written disk'
    like Create ready = tt
    like Fill ready = (has_spare ready.0, λ h. ap (λ (v : DiskView). v.spare) same ∙ ready.1 (honest h))
    like Rename ready = (has_spare ready.0, λ h. ap (λ (v : DiskView). v.spare) same ∙ ready.1 (honest h), λ h. ap (λ (v : DiskView). v.stable) same ∙ ready.2 (honest h))
    like SyncNames ready = λ h. ap (λ (v : DiskView). v.main_text) same ∙ ready (honest h)

pub record Comes {D : Type 0} (kind : DiskKind D) (old new : Checkpoint) (before after : D) (n : ℕ) : Type 0 where
  pub text : text_of new ≡ text_of old
  pub crash : Gains (λ c. c ≡ text_of old) (kind.view before) (kind.view after)
  pub left : turns_left new + n ≡ turns_left old

pub more_turns : {D : Type 0} (kind : DiskKind D) (old new : Checkpoint) (before after : D) (turns : List (Taken D))
    → MoreTurns kind old before turns new after → Comes kind old new before after (length turns)
more_turns kind old new before after [] same = record {
  text = ap text_of same.0;
  crash = subst (λ (d : _). Gains (λ c. c ≡ text_of old) (kind.view before) (kind.view d)) (sym same.1) (gains_none (λ c. c ≡ text_of old) (kind.view before));
  left = let left = ap turns_left same.0 in omega (arith, left);
}
more_turns kind old new before after (taken ∷ turns) all =
    let first = all.0 in
    let rest = more_turns kind taken.checkpoint new taken.disk after turns all.1 in
    let joined = gains_join (λ c. c ≡ text_of old) (λ c. c ≡ text_of taken.checkpoint) (kind.view before) (kind.view taken.disk) (kind.view after) first.crash rest.crash in
    record {
      text = rest.text ∙ first.text;
      crash = gains_less (λ c. (c ≡ text_of old) ⊎ (c ≡ text_of taken.checkpoint)) (λ c. c ≡ text_of old) (kind.view before) (kind.view after)
          (λ c brought. ⊎_elim (λ is. is) (λ is. is ∙ first.text) brought) joined;
      left = let one = first.more refl in omega (arith, one, rest.left);
    }

-- if a turn is left before them, one is left after turns that all return `More`
pub more_turns_left : {D : Type 0} (kind : DiskKind D) (old new : Checkpoint) (before after : D) (turns : List (Taken D))
    → MoreTurns kind old before turns new after → 0 < turns_left old → 0 < turns_left new
more_turns_left kind old new before after [] same more = let left = ap turns_left same.0 in omega (arith, left, more)
more_turns_left kind old new before after (taken ∷ turns) all more =
    more_turns_left kind taken.checkpoint new taken.disk after turns all.1 (all.0.not_last refl)
