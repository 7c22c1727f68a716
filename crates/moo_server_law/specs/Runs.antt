-- One run of a server over a world with its connections.
use Rattle.std.specs.Prelude.{ℕ, List}
use Rattle.moo_dbtext_read.specs.Saved.{Saved}
use Rattle.moo_builtin.specs.Telling.{Choice, Faults, PassesPrograms, chosen_by}
use Rattle.moo_eval_semantics.specs.Laws.{ChoosesFaults, HaveOneFault, Texts, faults_of}
use Rattle.moo_session_task.specs.declared.world_state.WorldState.{WorldState}
use Rattle.moo_server_core.specs.Application.{Output}
use Rattle.moo_server_core.specs.Meaning.{Begins, Entry, Run, State}
use Rattle.moo_server_core.specs.Runs.{OneRun}
use Rattle.moo_server.specs.Live.{live_meaning}

-- The start, the events and their reports make one run, whichever faults are reported of texts that are no programs.
abbrev pub OneRunByChoice : Type 0
OneRunByChoice = (choice : Choice) → PassesPrograms choice → OneRun (live_meaning (chosen_by choice)) (live_meaning (chosen_by choice))

-- A run in which faults are reported of some texts alone, none of which has two, is the one run that the server may come to.
abbrev pub OneRunOfSingleFaults : Type 0
OneRunOfSingleFaults = (texts : Texts) → HaveOneFault texts → OneRun (live_meaning (faults_of texts)) (live_meaning Faults)

-- What a run comes to by a choice of faults is among what the server may come to.
abbrev pub ChosenRunMayBe : Type 0
ChosenRunMayBe = (choice : Choice) → ChoosesFaults choice → (saved : Saved) (moment : ℕ) (out : Output) (start end : State WorldState) (entries : List (Entry Saved))
    → Begins (live_meaning (chosen_by choice)) saved moment out start → Run (live_meaning (chosen_by choice)) start entries end
    → Begins (live_meaning Faults) saved moment out start × Run (live_meaning Faults) start entries end
