-- The laws of sessions.
use Rattle.std.specs.Prelude.{◌≡◌, ℕ, ℤ, Bool, List, []}
use Rattle.moo_world_table.specs.World.{World}
use Rattle.moo_builtin.specs.Telling.{Telling, Faults, Choice, PassesPrograms, chosen_by}
use Rattle.moo_eval_semantics.specs.Laws.{ChoosesFaults, Texts, HaveOneFault, faults_of}
use Rattle.moo_session_task.specs.declared.world_state.WorldState.{WorldState}
use Rattle.moo_session.specs.Events.{OpensConnection, Hears, HangsUp, CheckpointStarts, CheckpointEnds, Starts}

-- What happens to a world and its sessions at a moment: an event, or a call that the server itself makes.
pub data Happens (T : Telling) (moment : ℕ) (s s' : WorldState) : Type 0 where
  opens : (n : ℕ) → OpensConnection T moment n s s' → Happens T moment s s'
  hears : (n : ℕ) (piece : List ℕ) → Hears T moment n piece s s' → Happens T moment s s'
  hangs_up : (n : ℕ) → HangsUp T moment n s s' → Happens T moment s s'
  checkpoint_starts : CheckpointStarts T moment s s' → Happens T moment s s'
  checkpoint_ends : (done : Bool) → CheckpointEnds T moment done s s' → Happens T moment s s'

-- Whatever comes of an event under the first telling, nothing else comes of it under the second.
pub record HaveOneResult (T U : Telling) : Type 0 where
  pub openings : (moment n : ℕ) (s s' t : WorldState) → OpensConnection T moment n s s' → OpensConnection U moment n s t → s' ≡ t
  pub bytes : (moment n : ℕ) (piece : List ℕ) (s s' t : WorldState) → Hears T moment n piece s s' → Hears U moment n piece s t → s' ≡ t
  pub hangups : (moment n : ℕ) (s s' t : WorldState) → HangsUp T moment n s s' → HangsUp U moment n s t → s' ≡ t
  pub checkpoints : (moment : ℕ) (s s' t : WorldState) → CheckpointStarts T moment s s' → CheckpointStarts U moment s t → s' ≡ t
  pub reports : (moment : ℕ) (done : Bool) (s s' t : WorldState) → CheckpointEnds T moment done s s' → CheckpointEnds U moment done s t → s' ≡ t
  pub starts : (moment : ℕ) (players : List ℤ) (w : World) (s' t : WorldState) → Starts T moment players w s' → Starts U moment players w t → s' ≡ t

-- what comes of an event under the first telling may come of it under the second
pub record AreWithin (T U : Telling) : Type 0 where
  pub openings : (moment n : ℕ) (s s' : WorldState) → OpensConnection T moment n s s' → OpensConnection U moment n s s'
  pub bytes : (moment n : ℕ) (piece : List ℕ) (s s' : WorldState) → Hears T moment n piece s s' → Hears U moment n piece s s'
  pub hangups : (moment n : ℕ) (s s' : WorldState) → HangsUp T moment n s s' → HangsUp U moment n s s'
  pub checkpoints : (moment : ℕ) (s s' : WorldState) → CheckpointStarts T moment s s' → CheckpointStarts U moment s s'
  pub reports : (moment : ℕ) (done : Bool) (s s' : WorldState) → CheckpointEnds T moment done s s' → CheckpointEnds U moment done s s'
  pub starts : (moment : ℕ) (players : List ℤ) (w : World) (s' : WorldState) → Starts T moment players w s' → Starts U moment players w s'

-- For one input an event has at most one result, whichever faults are reported of texts that are no programs.
abbrev pub OneResultByChoice : Type 0
OneResultByChoice = (choice : Choice) → PassesPrograms choice → HaveOneResult (chosen_by choice) (chosen_by choice)

-- If faults are reported of some texts alone, none of which has two, what comes of it is the one result that the program may come to.
abbrev pub OneResultOfSingleFaults : Type 0
OneResultOfSingleFaults = (texts : Texts) → HaveOneFault texts → HaveOneResult (faults_of texts) Faults

-- What comes of it by a choice of faults is among what the program may come to.
abbrev pub ChosenMayBeTold : Type 0
ChosenMayBeTold = (choice : Choice) → ChoosesFaults choice → AreWithin (chosen_by choice) Faults

-- No hook waits after an event before which none waited, nor after a start.
pub record LeaveNoHook (T : Telling) : Type 0 where
  pub happenings : (moment : ℕ) (s s' : WorldState) → Happens T moment s s' → s.session.hooks ≡ [] → s'.session.hooks ≡ []
  pub starts : (moment : ℕ) (players : List ℤ) (w : World) (s' : WorldState) → Starts T moment players w s' → s'.session.hooks ≡ []

abbrev pub NoHookIsLeft : Type 0
NoHookIsLeft = LeaveNoHook Faults
