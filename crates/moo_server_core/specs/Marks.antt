-- From which worlds the lives of a server begin.
use Rattle.std.specs.Prelude.{◌≡◌, ◌⊎◌, List, [], ◌∷◌}
use Rattle.moo_dbtext_read.specs.Saved.{Saved}
use Rattle.moo_server_core.specs.Application.{Layer}
use Rattle.moo_server_core.specs.Crash.{NoneDone}
use Rattle.moo_server_core.specs.Server.{state_of, traces_under}
use Rattle.moo_server_core.specs.Calls.{IsPrefix}
use Rattle.moo_server_core.specs.Lives.{LifeRun}
use Rattle.moo_server_core.specs.declared.life.LifeStop.{LifeStop}
use Rattle.moo_server_core.specs.declared.life.LifeStop.TheVariants.{Crash, ServerOnly}

-- What was kept before a life, by the end of the one before it: after a crash only what the life began from, and else all that was kept.
abbrev pub KeptAfter : LifeStop → Type 0 → Type 0 → Type 0
KeptAfter (Crash i) began kept = began
KeptAfter ServerOnly began kept = kept

module _ {S Application D : Type 0} (l : Layer S Application Saved) where
  -- none of its checkpoints was reported done
  abbrev pub ReportsNone : LifeRun S D → Type 0
  ReportsNone life = NoneDone (traces_under l.meaning life.entries)

  -- the world at a mark of a life: the mark of its last report done, or a later one
  abbrev pub IsMarked : LifeRun S D → Saved → Type 0
  IsMarked life saved = IsPrefix l (state_of l life.start) life.entries life.entries saved

  -- A world that lives keep, the last of them first. It is the world at such a mark of the last life. If none of its checkpoints was
  -- reported done, it may also be one that was kept before it.
  abbrev pub IsKeptIn : List (LifeRun S D) → Saved → Type 0
  IsKeptIn [] saved = ⊥
  IsKeptIn (life ∷ []) saved = IsMarked life saved ⊎ (ReportsNone life × (saved ≡ life.saved))
  IsKeptIn (life ∷ before ∷ earlier) saved =
      IsMarked life saved ⊎ (ReportsNone life × KeptAfter before.stop (saved ≡ life.saved) (IsKeptIn (before ∷ earlier) saved))

  -- Each life but the first begins from a world that the lives before it keep, the last of these first.
  abbrev pub BeginFromKept : List (LifeRun S D) → List (LifeRun S D) → Type 0
  BeginFromKept earlier [] = Unit {0}
  BeginFromKept [] (life ∷ lives) = BeginFromKept (life ∷ []) lives
  BeginFromKept (last ∷ earlier) (life ∷ lives) = IsKeptIn (last ∷ earlier) life.saved × BeginFromKept (life ∷ last ∷ earlier) lives
