-- `eval`: a text is run as a program.
use Rattle.std.specs.Prelude.{◌≡◌, ℕ, ℤ, pos, negsuc, List, [], ◌∷◌, codes, true, false, None, Result, if◌then◌else◌}
use Rattle.moo_value.specs.declared.error_code.ErrorCode.{ErrorCode}
use Rattle.moo_value.specs.declared.error_code.ErrorCode.TheVariants.{TypeMismatch, Permission, MaximumRecursion}
use Rattle.moo_value.specs.Tree.{Tree, integer, string, list_of}
use Rattle.moo_syntax_ast.specs.Tree.{Block}
use Rattle.moo_syntax_grammar.specs.declared.names.Names.TheVariants.{Known}
use Rattle.moo_syntax_grammar.specs.Texts.{IsParsed}
use Rattle.moo_syntax.specs.declared.syntax_fault.SyntaxFault.{SyntaxFault}
use Rattle.moo_syntax.specs.FaultText.{fault_text}
use Rattle.moo_builtin_operator.specs.Places.{made_list}
use Rattle.moo_eval_frame.specs.declared.frame.Frame.{Frame}
use Rattle.moo_eval_frame.specs.Outcome.{answers}
use Rattle.moo_eval_frame.specs.State.{entries, running_of}
use Rattle.moo_eval_frame.specs.Variables.{first_bindings}
use Rattle.moo_eval_slot.specs.Bindings.{value_of_name}
use Rattle.moo_world_table.specs.World.{World}
use Rattle.moo_builtin.specs.Setting.{is_programmer}
use Rattle.moo_builtin.specs.Telling.{Telling}
use Rattle.moo_eval_access.specs.Entering.{Entered, has_frame_left}
use Rattle.moo_eval_semantics.specs.declared.stage.Stage.TheVariants.{Evaluated}
use Rattle.moo_eval_semantics.specs.Progressing.{Calling, Progress, done, verb_next, refuses, through}

-- the frame of a program that is typed in
abbrev pub typed_frame : Block → ℤ → ℤ → ℤ → Frame
typed_frame program programmer player caller = record {
  program = program;
  d = true;
  programmer = programmer;
  this = negsuc 0;
  definer = negsuc 0;
  caller = caller;
  player = player;
  dobj = negsuc 0;
  iobj = negsuc 0;
  names = codes "Input to EVAL";
  verb = [];
  argstr = [];
  dobjstr = [];
  prepstr = [];
  iobjstr = [];
  args = [];
}

-- a frame that the running one calls, with its own first variables
abbrev pub begun_below : Calling → Frame → Entered
begun_below k f = record {
  context = record { frame = running_of f; callers = entries k.context.frame k.programmer k.context.callers; indexed = None; surroundings = k.context.surroundings };
  variables = value_of_name (first_bindings f);
  programmer = f.programmer;
}

-- The program has the programmer and the player of the running frame, and the object of that frame as its caller. The
-- function's entry is between the two.
abbrev pub typed_below : Calling → Block → Entered
typed_below k program = through (codes "eval") (begun_below k (typed_frame program k.programmer k.context.frame.player k.context.frame.this))

-- it runs if a frame is left for it
abbrev pub program_next : Calling → Block → Progress
program_next k program = if has_frame_left k.context.callers then verb_next (typed_below k program) Evaluated else refuses MaximumRecursion

-- the result for a text that is no program: 0, and a list of the line that describes its fault
abbrev pub no_program : SyntaxFault → Result Tree ErrorCode
no_program fault = made_list (integer (pos 0) ∷ list_of (string (fault_text fault) ∷ []) ∷ [])

-- what is answered of a program: 1, and what it gave
abbrev pub has_given : Tree → Result Tree ErrorCode
has_given v = made_list (integer (pos 1) ∷ v ∷ [])

-- Only programmers evaluate, and wizards only if they are programmers. For a text that is no program a fault is
-- reported.
pub data EvaluatesText (T : Telling) (k : Calling) (w : World) (text : List ℕ) : Progress → Type 0 where
  forbidden : is_programmer w k.programmer ≡ false → EvaluatesText T k w text (refuses Permission)
  faulty : is_programmer w k.programmer ≡ true → (fault : SyntaxFault) → T (text ∷ []) fault → EvaluatesText T k w text (done (answers (no_program fault)))
  parsed : is_programmer w k.programmer ≡ true → {program : Block} → IsParsed Known (text ∷ []) program → EvaluatesText T k w text (program_next k program)

abbrev pub EvalBegins : Telling → Calling → World → List Tree → Progress → Type 0
EvalBegins T k w (string text ∷ []) step = EvaluatesText T k w text step
EvalBegins T k w _ step = step ≡ refuses TypeMismatch
