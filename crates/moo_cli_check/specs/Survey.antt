-- Every program of a database text that is refused, in order.
use Rattle.std.specs.Prelude.{◌≡◌, ℕ, ◌+◌, ◌<◌, ◌≤◌, List, [], ◌∷◌, length, Option, Some, None, Ok, Err, ◌⊎◌}
use Rattle.moo_syntax_ast.specs.Tree.{Block}
use Rattle.moo_syntax_grammar.specs.declared.names.Names.TheVariants.{Any}
use Rattle.moo_syntax_grammar.specs.Texts.{IsParsed}
use Rattle.moo_dbtext_object.specs.Lines.{Line, limited}
use Rattle.moo_dbtext_object.specs.declared.fault.LineFault.{LineFault}
use Rattle.moo_dbtext_record.specs.Texts.{Text}
use Rattle.moo_dbtext_record.specs.Answer.{answer_to}
use Rattle.moo_dbtext_record.specs.Faults.{kind_of}
use Rattle.moo_dbtext_record.specs.declared.fault.DbFault.{DbFault}
use Rattle.moo_dbtext_record.specs.declared.fault.DbFaultKind.TheVariants as kind
use Rattle.moo_dbtext_record.specs.declared.fault.ProgramFault.{ProgramFault}
use Rattle.moo_dbtext_read.specs.Faults.{HasProgramAt, IsBlamed}

-- The bytes have the program of this verb, whose first line is the reported one, and it is refused for this reason.
pub record IsRefusedProgram (bytes : List ℕ) (e : DbFault) : Type 0 where
  pub object : ℕ
  pub verb : ℕ
  pub fault : ProgramFault
  pub told : e.kind ≡ kind.Program object verb fault
  pub source : List Line
  pub place : HasProgramAt bytes e.line object verb source
  pub blamed : IsBlamed source fault

-- the number of the line of its dot
abbrev pub dot_line : {bytes : List ℕ} {e : DbFault} → IsRefusedProgram bytes e → ℕ
dot_line {bytes = bytes} {e = e} p = e.line + length p.source + 1

-- Each of these reports a refused program, in the order of their dots, all after line n and none after line m.
abbrev pub AreRefusedBetween : List ℕ → ℕ → ℕ → List DbFault → Type 0
AreRefusedBetween bytes n m [] = n ≤ m
AreRefusedBetween bytes n m (e ∷ es) = (p : IsRefusedProgram bytes e) × (n < dot_line p) × AreRefusedBetween bytes (dot_line p) m es

-- one of these reports the program of this verb
abbrev pub IsToldOf : ℕ → ℕ → List DbFault → Type 0
IsToldOf o v [] = ⊥
IsToldOf o v (e ∷ es) = ((f : ProgramFault) × (e.kind ≡ kind.Program o v f)) ⊎ IsToldOf o v es

-- These are the refused programs of the bytes, in order: each other program that the bytes have is one within the limits.
pub record AreTheRefused (bytes : List ℕ) (faults : List DbFault) : Type 0 where
  pub lines : ℕ
  pub refused : AreRefusedBetween bytes 0 lines faults
  pub others : (line o v : ℕ) (source : List Line) → HasProgramAt bytes line o v source → IsToldOf o v faults ⊎ ((b : Block) × IsParsed Any source b)

-- this reports the first line of the bytes that is wrong where it is
pub record IsLineTold (bytes : List ℕ) (e : DbFault) : Type 0 where
  pub fault : LineFault
  pub kind : e.kind ≡ kind_of fault
  pub answer : answer_to limited bytes ≡ Err (record { line = e.line; fault = fault })

-- Whatever their programs are, the bytes are the records of a text, or this line of them is at fault.
abbrev pub HaveEnd : List ℕ → Option DbFault → Type 0
HaveEnd bytes None = (t : Text) × (answer_to limited bytes ≡ Ok t)
HaveEnd bytes (Some e) = IsLineTold bytes e

-- all that is reported of the bytes: the refused programs, and the line at fault after which nothing is checked
pub record IsSurvey (bytes : List ℕ) (faults : List DbFault) (last : Option DbFault) : Type 0 where
  pub programs : AreTheRefused bytes faults
  pub end : HaveEnd bytes last
