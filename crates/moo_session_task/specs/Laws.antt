-- One result of one input.
use Rattle.std.specs.Prelude.{◌≡◌, ℕ, ℤ, List, Option}
use Rattle.moo_value.specs.Tree.{Tree}
use Rattle.moo_world_table.specs.World.{World}
use Rattle.moo_eval_frame.specs.declared.frame.Frame.{Frame}
use Rattle.moo_eval_frame.specs.declared.notice.Notice.{Notice}
use Rattle.moo_eval_frame.specs.Surroundings.{Surroundings}
use Rattle.moo_eval_semantics.specs.Task.{End, TaskEnds}
use Rattle.moo_builtin.specs.Telling.{Telling, Choice, PassesPrograms, chosen_by}
use Rattle.moo_session_task.specs.declared.world_state.WorldState.{WorldState}
use Rattle.moo_session_task.specs.Tasks.{CallsServerVerb}
use Rattle.moo_session_task.specs.Hooks.{HooksRun}

-- a task has one result under two tellings of texts that are no programs
abbrev pub AreAlike : Telling → Telling → Type 0
AreAlike T U = (around : Surroundings) (start : Frame) (before after instead : World) (end other : End) (notices others : List Notice) →
    TaskEnds T around start before end after notices → TaskEnds U around start before other instead others → (end ≡ other) × (after ≡ instead) × (notices ≡ others)

-- what is a result of a task under the first is one under the second
abbrev pub IsWithin : Telling → Telling → Type 0
IsWithin T U = (around : Surroundings) (start : Frame) (before after : World) (end : End) (notices : List Notice) →
    TaskEnds T around start before end after notices → TaskEnds U around start before end after notices

-- for each choice of the faults that are reported, if it has none for a program
abbrev pub OneResultOfCalls : Type 0
OneResultOfCalls = (choice : Choice) → PassesPrograms choice → (moment : ℕ) (name : List ℕ) (player : ℤ) (args : List Tree) (argstr : List ℕ) (s s' t : WorldState) (v w : Option Tree) →
    CallsServerVerb (chosen_by choice) moment name player args argstr s v s' → CallsServerVerb (chosen_by choice) moment name player args argstr s w t → (v ≡ w) × (s' ≡ t)

abbrev pub OneResultOfHooks : Type 0
OneResultOfHooks = (choice : Choice) → PassesPrograms choice → (moment : ℕ) (s s' t : WorldState) →
    HooksRun (chosen_by choice) moment s s' → HooksRun (chosen_by choice) moment s t → s' ≡ t
