-- The faults that are reported for a text that is no program.
use Rattle.std.specs.Prelude.{◌≡◌, ◌≢◌, ℕ, List, Option, None, Some}
use Rattle.moo_syntax_ast.specs.Tree.{Block}
use Rattle.moo_syntax_grammar.specs.declared.names.Names.TheVariants.{Known}
use Rattle.moo_syntax_grammar.specs.Texts.{IsParsed}
use Rattle.moo_syntax.specs.declared.syntax_fault.SyntaxFault.{SyntaxFault}
use Rattle.moo_syntax.specs.declared.syntax_fault.SyntaxFaultKind.TheVariants.{Memory}
use Rattle.moo_syntax.specs.Programs.{Blames}

-- which faults may be reported for the lines of a text
abbrev pub Telling : Type 1
Telling = List (List ℕ) → SyntaxFault → Type 0

-- The program reports any fault that the text has. Lack of memory is none.
abbrev pub Faults : Telling
Faults lines f = Blames Known lines f.line f.kind × (f.kind ≢ Memory)

-- For the laws: a choice of the fault that each text reports; a program has none.
abbrev pub Choice : Type 0
Choice = List (List ℕ) → Option SyntaxFault

abbrev pub PassesPrograms : Choice → Type 0
PassesPrograms choice = (lines : List (List ℕ)) (b : Block) → IsParsed Known lines b → choice lines ≡ None

abbrev pub chosen_by : Choice → Telling
chosen_by choice lines f = choice lines ≡ Some f
