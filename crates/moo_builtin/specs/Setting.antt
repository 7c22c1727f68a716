-- The result of set_verb_code, and what it changes.
use Rattle.std.specs.Prelude.{ℕ, ℤ, List, [], ◌∷◌, Bool, true, false, ◌&&◌, Some, Result, Ok, Err}
use Rattle.std.specs.Option.{unwrap_or}
use Rattle.moo_value.specs.declared.error_code.ErrorCode.{ErrorCode}
use Rattle.moo_value.specs.declared.error_code.ErrorCode.TheVariants.{TypeMismatch}
use Rattle.moo_value.specs.Tree.{Tree, object, string, list, list_of, trees_of}
use Rattle.moo_builtin_operator.specs.Answer.{limited}
use Rattle.moo_syntax_ast.specs.Tree.{Block}
use Rattle.moo_syntax_grammar.specs.declared.names.Names.TheVariants.{Known}
use Rattle.moo_syntax_grammar.specs.Texts.{IsParsed}
use Rattle.moo_syntax.specs.declared.syntax_fault.SyntaxFault.{SyntaxFault}
use Rattle.moo_syntax.specs.declared.syntax_fault.SyntaxFaultKind.{SyntaxFaultKind}
use Rattle.moo_syntax.specs.declared.syntax_fault.SyntaxFaultKind.TheVariants.{Memory}
use Rattle.moo_syntax.specs.FaultText.{fault_text}
use Rattle.moo_world_object.specs.Verbs.{with_program}
use Rattle.moo_world_table.specs.Changes.{with_changed_verb}
use Rattle.moo_world_table.specs.World.{World, nothing}
use Rattle.moo_world.specs.Calls.{number_of}
use Rattle.moo_world.specs.Numbered.{object_numbered, verb_numbered}
use Rattle.moo_world.specs.VerbCalls.{program_raises, world_with_object}
use Rattle.moo_world.specs.Rights.{may_write_this_verb}
use Rattle.moo_builtin_world.specs.Order.{asked}
use Rattle.moo_builtin_world.specs.Verbs.{chosen, on_verb}
use Rattle.moo_builtin.specs.Answers.{Outcomes, Only, Then}
use Rattle.moo_builtin.specs.Telling.{Telling}

-- the flag of programmers, which wizards need too
abbrev pub is_programmer : World → ℤ → Bool
is_programmer w p = (unwrap_or (object_numbered w p) nothing).flags.programmer

abbrev pub may_program : World → ℤ → ℤ → ℕ → Bool
may_program w p o i = may_write_this_verb w p (verb_numbered w o i) && is_programmer w p

-- the place of the verb that is to have a program, and may have it
abbrev pub place_to_set : World → ℤ → ℤ → ℕ → Result ℕ ErrorCode
place_to_set w p o i = asked (program_raises w (number_of w.objects o) i true) (may_program w p o i) (Ok i)

unfoldable pub verb_to_set : World → ℤ → ℤ → Tree → Result ℕ ErrorCode
verb_to_set w p o t = on_verb (chosen w o t) (place_to_set w p o)

-- the lines of a list of strings
abbrev pub with_first : List ℕ → Result (List (List ℕ)) ErrorCode → Result (List (List ℕ)) ErrorCode
with_first line (Ok lines) = Ok (line ∷ lines)
with_first line (Err e) = Err e

abbrev pub lines_in : List Tree → Result (List (List ℕ)) ErrorCode
lines_in [] = Ok []
lines_in (string line ∷ ts) = with_first line (lines_in ts)
lines_in _ = Err TypeMismatch

abbrev pub given_lines : Tree → Result (List (List ℕ)) ErrorCode
given_lines (list es) = lines_in (trees_of es)
given_lines _ = Err TypeMismatch

-- the world with another program for a verb
abbrev pub with_code : World → ℤ → ℕ → Block → World
with_code w o i b = world_with_object w (number_of w.objects o) (with_changed_verb i (with_program (Some b)))

-- the fault is one of the text, and no lack of memory
abbrev pub is_of_text : SyntaxFaultKind → Bool
is_of_text Memory = false
is_of_text _ = true

-- the value that describes a fault to a player
abbrev pub told_fault : SyntaxFault → Result Tree ErrorCode
told_fault f = limited (list_of (string (fault_text f) ∷ []))

-- Sets the lines of a verb. A program of known functions becomes the verb's program, and the result is {}. Any other
-- text changes nothing, and the result describes one of its faults that may be reported.
pub data IsSet (T : Telling) (w : World) (o : ℤ) (i : ℕ) (lines : List (List ℕ)) : Result Tree ErrorCode → World → Type 0 where
  set : {b : Block} → IsParsed Known lines b → IsSet T w o i lines (Ok (list_of [])) (with_code w o i b)
  told : (f : SyntaxFault) → T lines f → IsSet T w o i lines (told_fault f) w

-- what becomes of a verb that may have another program
abbrev pub SetsText : Telling → World → ℤ → Tree → ℕ → Outcomes
SetsText T w o text i = Then (given_lines text) w (IsSet T w o i)

abbrev pub SetsCode : Telling → World → ℤ → List Tree → Outcomes
SetsCode T w p (object o ∷ t ∷ text ∷ []) r after = Then (verb_to_set w p o t) w (SetsText T w o text) r after
SetsCode T w p _ r after = Only (Err TypeMismatch) w r after
