-- A whole task: a frame's program with a fresh budget of ticks.
use Rattle.std.specs.Prelude.{◌≡◌, ℕ, pos, List, [], None, Result, Ok, Err, codes}
use Rattle.moo_value.specs.Tree.{Tree, integer}
use Rattle.moo_syntax_ast.specs.Tree.{Expr, Block}
use Rattle.moo_eval_frame.specs.declared.frame.Frame.{Frame}
use Rattle.moo_eval_frame.specs.Outcome as outcome
use Rattle.moo_eval_frame.specs.Outcome.{Stop, raised, Flow, next, returned, broken, continued}
use Rattle.moo_eval_frame.specs.declared.notice.Notice.{Notice}
use Rattle.moo_eval_frame.specs.Surroundings.{Surroundings}
use Rattle.moo_eval_frame.specs.State.{Context, running_of}
use Rattle.moo_eval_access.specs.State.{State}
use Rattle.moo_eval_frame.specs.Variables.{first_bindings}
use Rattle.moo_eval_slot.specs.Bindings.{value_of_name}
use Rattle.moo_eval_control.specs.Traceback.{traceback}
use Rattle.moo_world_table.specs.World.{World}
use Rattle.moo_eval_semantics.specs.Tasks.{most_ticks}
use Rattle.moo_builtin.specs.Telling.{Telling, Choice, PassesPrograms, chosen_by}
use Rattle.moo_eval_semantics.specs.Meaning.{Evaluates, RunsAll}

-- how a task ends: a value, or the lines of its traceback
pub data End : Type 0 where
  value : Tree → End
  uncaught : List (List ℕ) → End
  out_of_ticks : List (List ℕ) → End

-- the end of this outcome; no jump leaves a program of the grammar
abbrev pub end_of : Result Flow Stop → End
end_of (Ok next) = value (integer (pos 0))
end_of (Ok (returned v)) = value v
end_of (Ok (broken name)) = value (integer (pos 0))
end_of (Ok (continued name)) = value (integer (pos 0))
end_of (Err (raised raise)) = uncaught (traceback raise.message raise.trace)
end_of (Err (outcome.out_of_ticks trace)) = out_of_ticks (traceback (codes "Task ran out of ticks") trace)

abbrev pub first_context : Surroundings → Frame → Context
first_context around start = record { frame = running_of start; callers = []; indexed = None; surroundings = around }

abbrev pub first_state : Frame → World → State
first_state start world = record {
  ticks = most_ticks;
  world = world;
  variables = value_of_name (first_bindings start);
  programmer = start.programmer;
  notices = [];
}

-- A task that begins with this frame, in these surroundings and over a world, ends so, and leaves this world and these
-- notices. All that it changed stays, and all that it asked for is asked for, however it ends.
pub record TaskEnds (T : Telling) (around : Surroundings) (start : Frame) (before : World) (end : End) (after : World) (notices : List Notice) : Type 0 where
  pub outcome : Result Flow Stop
  pub last : State
  pub runs : RunsAll T (first_context around start) start.program (first_state start before) outcome last
  pub ends : end_of outcome ≡ end
  pub leaves : last.world ≡ after
  pub asks : last.notices ≡ notices

-- For one input an expression, statements and a task have at most one result, whichever faults are chosen for texts
-- that are no programs.
abbrev pub OneResultOfExpressions : Type 0
OneResultOfExpressions = (choice : Choice) → PassesPrograms choice → (c : Context) (e : Expr) (s s' t : State) (o p : Result Tree Stop) → Evaluates (chosen_by choice) c e s o s' → Evaluates (chosen_by choice) c e s p t → (o ≡ p) × (s' ≡ t)

abbrev pub OneResultOfStatements : Type 0
OneResultOfStatements = (choice : Choice) → PassesPrograms choice → (c : Context) (b : Block) (s s' t : State) (o p : Result Flow Stop) → RunsAll (chosen_by choice) c b s o s' → RunsAll (chosen_by choice) c b s p t → (o ≡ p) × (s' ≡ t)

abbrev pub OneResultOfTasks : Type 0
OneResultOfTasks = (choice : Choice) → PassesPrograms choice → (around : Surroundings) (start : Frame) (before after instead : World) (end other : End) (notices others : List Notice) → TaskEnds (chosen_by choice) around start before end after notices → TaskEnds (chosen_by choice) around start before other instead others → (end ≡ other) × (after ≡ instead) × (notices ≡ others)
