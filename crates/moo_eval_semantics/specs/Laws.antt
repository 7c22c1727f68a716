-- Laws of the results that the program may have.
use Rattle.std.specs.Prelude.{◌≡◌, ◌≤◌, ◌<◌, ℕ, List, Bool, IsTrue, Option, Some, Result, Err, All}
use Rattle.moo_value.specs.Tree.{Tree}
use Rattle.moo_syntax_ast.specs.Tree.{Expr, Stmt, Block}
use Rattle.moo_syntax.specs.declared.syntax_fault.SyntaxFault.{SyntaxFault}
use Rattle.moo_syntax_function.specs.declared.function.Function.{Function}
use Rattle.moo_world_table.specs.World.{World}
use Rattle.moo_eval_frame.specs.declared.frame.Frame.{Frame}
use Rattle.moo_eval_frame.specs.declared.notice.Notice.{Notice}
use Rattle.moo_eval_frame.specs.Surroundings.{Surroundings}
use Rattle.moo_eval_frame.specs.Outcome.{Stop, out_of_ticks, Failure, Flow}
use Rattle.moo_eval_slot.specs.Bindings.{Binding}
use Rattle.moo_eval_frame.specs.State.{Context}
use Rattle.moo_eval_access.specs.State.{State, trace}
use Rattle.moo_eval_access.specs.Entering.{frames}
use Rattle.moo_builtin.specs.Telling.{Telling, Faults, Choice, PassesPrograms, chosen_by}
use Rattle.moo_eval_semantics.specs.Later.{Later}
use Rattle.moo_eval_semantics.specs.Tasks.{most_ticks}
use Rattle.moo_eval_semantics.specs.Calls.{CallsFunction}
use Rattle.moo_eval_semantics.specs.Progressing.{Progress}
use Rattle.moo_eval_semantics.specs.VerbCalls.{Starts}
use Rattle.moo_eval_semantics.specs.Meaning.{Evaluates, Proceeds, Runs, RunsAll, Turns}
use Rattle.moo_eval_semantics.specs.Frames.{HasRoom, verbs_of_expression, verbs_of_function, verbs_of_block}
use Rattle.moo_eval_semantics.specs.Task.{End, first_context, TaskEnds}
use Rattle.moo_eval_semantics.specs.Line.{RunsTo}

-- Whatever runs, no tick is gained and no notice lost.
abbrev pub LaterAfterExpressions : Type 0
LaterAfterExpressions = (c : Context) (e : Expr) (s s' : State) (o : Result Tree Stop) → Evaluates Faults c e s o s' → Later s s'

abbrev pub LaterAfterStatements : Type 0
LaterAfterStatements = (c : Context) (b : Block) (s s' : State) (o : Result Flow Stop) → RunsAll Faults c b s o s' → Later s s'

-- of functions that call no verb, and of those that do
abbrev pub LaterAfterCalls : Type 0
LaterAfterCalls = (c : Context) (name : List ℕ) (args : List Tree) (s s' : State) (r : Result Tree Failure) → CallsFunction Faults c name args s r s' → Later s s'

abbrev pub LaterAfterHooks : Type 0
LaterAfterHooks = (c : Context) (f : Function) (args : List Tree) (p : Progress) (s s' s'' : State) (r : Result Tree Failure) → Starts Faults c f args s p s' → Proceeds Faults c p s' r s'' → Later s s''

-- a task ends with no more ticks than it has
abbrev pub TasksEndInTime : Type 0
TasksEndInTime = (around : Surroundings) (start : Frame) (before after : World) (end : End) (notices : List Notice) (d : TaskEnds Faults around start before end after notices) → d.last.ticks ≤ most_ticks

-- Each expression, each statement and each turn of a loop takes a tick; if none is left the task is out of ticks, and
-- nothing changes.
abbrev pub TicksOfExpressions : Type 0
TicksOfExpressions = (c : Context) (e : Expr) (s s' : State) (o : Result Tree Stop) → Evaluates Faults c e s o s' → (0 < s.ticks → s'.ticks < s.ticks) × (s.ticks ≡ 0 → (o ≡ Err (out_of_ticks (trace c s))) × (s' ≡ s))

abbrev pub TicksOfStatements : Type 0
TicksOfStatements = (c : Context) (t : Stmt) (s s' : State) (o : Result Flow Stop) → Runs Faults c t s o s' → (0 < s.ticks → s'.ticks < s.ticks) × (s.ticks ≡ 0 → (o ≡ Err (out_of_ticks (trace c s))) × (s' ≡ s))

abbrev pub TicksOfTurns : Type 0
TicksOfTurns = (c : Context) (own : Option (List ℕ)) (bindings : List Binding) (b : Block) (s s' : State) (o : Option (Result Flow Stop)) → Turns Faults c own bindings b s o s' → (0 < s.ticks → s'.ticks < s.ticks) × (s.ticks ≡ 0 → (o ≡ Some (Err (out_of_ticks (trace c s)))) × (s' ≡ s))

-- Each verb that runs has a frame: at most 50 exist while it runs.
abbrev pub FramesInExpressions : Type 0
FramesInExpressions = (c : Context) (e : Expr) (s s' : State) (o : Result Tree Stop) (d : Evaluates Faults c e s o s') → All HasRoom (verbs_of_expression d)

abbrev pub FramesInStatements : Type 0
FramesInStatements = (c : Context) (b : Block) (s s' : State) (o : Result Flow Stop) (d : RunsAll Faults c b s o s') → All HasRoom (verbs_of_block d)

abbrev pub FramesInHooks : Type 0
FramesInHooks = (c : Context) (f : Function) (args : List Tree) (p : Progress) (s s' s'' : State) (r : Result Tree Failure) → Starts Faults c f args s p s' → (d : Proceeds Faults c p s' r s'') → All HasRoom (verbs_of_function d)

-- a task begins with one frame, and so each of its frames is among at most 50
abbrev pub FramesInTasks : Type 0
FramesInTasks = (around : Surroundings) (start : Frame) (before after : World) (end : End) (notices : List Notice) (d : TaskEnds Faults around start before end after notices) → (frames (first_context around start).callers ≡ 1) × All HasRoom (verbs_of_block d.runs)

-- the fault chosen for a text, if any, is one that the text has
abbrev pub ChoosesFaults : Choice → Type 0
ChoosesFaults choice = (lines : List (List ℕ)) (f : SyntaxFault) → choice lines ≡ Some f → Faults lines f

-- such a choice has no fault for a program
abbrev pub ProgramsAreNotChosen : Type 0
ProgramsAreNotChosen = (choice : Choice) → ChoosesFaults choice → PassesPrograms choice

-- A result by such a choice is one that the program may have.
abbrev pub ExpressionsByChoice : Type 0
ExpressionsByChoice = (choice : Choice) → ChoosesFaults choice → (c : Context) (e : Expr) (s s' : State) (o : Result Tree Stop) → Evaluates (chosen_by choice) c e s o s' → Evaluates Faults c e s o s'

abbrev pub StatementsByChoice : Type 0
StatementsByChoice = (choice : Choice) → ChoosesFaults choice → (c : Context) (b : Block) (s s' : State) (o : Result Flow Stop) → RunsAll (chosen_by choice) c b s o s' → RunsAll Faults c b s o s'

abbrev pub TasksByChoice : Type 0
TasksByChoice = (choice : Choice) → ChoosesFaults choice → (around : Surroundings) (start : Frame) (before after : World) (end : End) (notices : List Notice) → TaskEnds (chosen_by choice) around start before end after notices → TaskEnds Faults around start before end after notices

abbrev pub TextsByChoice : Type 0
TextsByChoice = (choice : Choice) → ChoosesFaults choice → (text : List ℕ) (end : End) → RunsTo (chosen_by choice) text end → RunsTo Faults text end

-- Some texts, by a test, and the faults that the program may report if it reports them for these texts alone.
abbrev pub Texts : Type 0
Texts = List (List ℕ) → Bool

abbrev pub faults_of : Texts → Telling
faults_of texts lines f = IsTrue (texts lines) × Faults lines f

-- none of the texts has two faults
abbrev pub HaveOneFault : Texts → Type 0
HaveOneFault texts = (lines : List (List ℕ)) (f g : SyntaxFault) → IsTrue (texts lines) → Faults lines f → Faults lines g → f ≡ g

-- If faults are reported for these texts alone, none of which has two, the result is the only one that the program
-- may have.
abbrev pub OneResultOfExpressionsBy : Type 0
OneResultOfExpressionsBy = (texts : Texts) → HaveOneFault texts → (c : Context) (e : Expr) (s s' t : State) (o p : Result Tree Stop) → Evaluates (faults_of texts) c e s o s' → Evaluates Faults c e s p t → (o ≡ p) × (s' ≡ t)

abbrev pub OneResultOfStatementsBy : Type 0
OneResultOfStatementsBy = (texts : Texts) → HaveOneFault texts → (c : Context) (b : Block) (s s' t : State) (o p : Result Flow Stop) → RunsAll (faults_of texts) c b s o s' → RunsAll Faults c b s p t → (o ≡ p) × (s' ≡ t)

abbrev pub OneResultOfTasksBy : Type 0
OneResultOfTasksBy = (texts : Texts) → HaveOneFault texts → (around : Surroundings) (start : Frame) (before after instead : World) (end other : End) (notices others : List Notice) → TaskEnds (faults_of texts) around start before end after notices → TaskEnds Faults around start before other instead others → (end ≡ other) × (after ≡ instead) × (notices ≡ others)
