-- The result of a line of input.
use Rattle.std.specs.Prelude.{◌≡◌, ◌≢◌, ℕ, negsuc, List, [], ◌∷◌, ◌++◌, codes}
use Rattle.moo_value.specs.Tree.{IsText}
use Rattle.moo_value.specs.Size.{IsString}
use Rattle.moo_syntax_ast.specs.Tree.{Block}
use Rattle.moo_syntax_grammar.specs.declared.names.Names.TheVariants.{Known}
use Rattle.moo_syntax.specs.declared.syntax_fault.SyntaxFault.{SyntaxFault}
use Rattle.moo_syntax.specs.declared.syntax_fault.SyntaxFaultKind.TheVariants.{Memory}
use Rattle.moo_syntax_grammar.specs.Texts.{IsParsed}
use Rattle.moo_syntax.specs.Programs.{Blames}
use Rattle.moo_syntax.specs.FaultText.{fault_text}
use Rattle.moo_world_table.specs.World.{World}
use Rattle.moo_eval_frame.specs.declared.notice.Notice.{Notice}
use Rattle.moo_builtin.specs.Telling.{Telling, Faults, Choice, PassesPrograms, chosen_by}
use Rattle.moo_eval_semantics.specs.Task.{End, TaskEnds}
use Rattle.moo_eval_semantics.specs.Evaluating.{typed_frame}
use Rattle.moo_eval_semantics.specs.Typed.{nowhere, shown}

-- the program that a line is
abbrev pub program_text : List ℕ → List ℕ
program_text line = codes "return " ++ line ++ codes ";"

-- the world without objects and players
abbrev pub no_world : World
no_world = record { objects = []; inheritance = []; containment = []; players = [] }

-- the text is a program, and its task over no world ends so
pub record RunsTo (T : Telling) (text : List ℕ) (end : End) : Type 0 where
  pub program : Block
  pub after : World
  pub notices : List Notice
  pub parsed : IsParsed Known (text ∷ []) program
  pub ends : TaskEnds T nowhere (typed_frame program (negsuc 0) (negsuc 0) (negsuc 0)) no_world end after notices

-- the text has this fault, which is not lack of memory
pub record HasFault (text : List ℕ) (fault : SyntaxFault) : Type 0 where
  pub blames : Blames Known (text ∷ []) fault.line fault.kind
  pub told : fault.kind ≢ Memory

-- A line has these lines and this status as its result: what is shown of its program's end. A line that is refused has
-- the line that gives the reason. This is a byte that no string holds, a length past that of a string, or a fault of
-- its program.
pub data AnswersLine (line : List ℕ) (lines : List (List ℕ)) (status : ℕ) : Type 0 where
  bad_byte : (¬ IsText line) → lines ≡ codes "Line 1:  Bad token" ∷ [] → status ≡ 5 → AnswersLine line lines status
  too_long : IsText line → (¬ IsString (program_text line)) → lines ≡ codes "Line 1:  Too deeply nested" ∷ [] → status ≡ 5 → AnswersLine line lines status
  refused : IsString (program_text line) → (fault : SyntaxFault) → HasFault (program_text line) fault → lines ≡ fault_text fault ∷ [] → status ≡ 5 → AnswersLine line lines status
  runs : IsString (program_text line) → (end : End) → RunsTo Faults (program_text line) end → lines ≡ shown end → status ≡ 0 → AnswersLine line lines status

-- a text has at most one end, whichever faults are chosen for texts that are no programs
abbrev pub OneEndOfText : Type 0
OneEndOfText = (choice : Choice) → PassesPrograms choice → (text : List ℕ) (end other : End) → RunsTo (chosen_by choice) text end → RunsTo (chosen_by choice) text other → end ≡ other
