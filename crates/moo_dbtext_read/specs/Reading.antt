-- The state of a reader between two pieces, and its answers.
use Rattle.std.specs.Prelude.{◌≡◌, ℕ, ◌-◌, List, ◌++◌, length, Option, Some, None, Result, Ok, Err, ◌⊎◌, MatchResult, ⊤}
use Rattle.moo_syntax_grammar.specs.declared.names.Names.TheVariants.{Any}
use Rattle.moo_syntax.specs.declared.syntax_fault.SyntaxFaultKind.{SyntaxFaultKind}
use Rattle.moo_syntax.specs.Programs.{Blames}
use Rattle.moo_dbtext_object.specs.Lines.{Line, limited}
use Rattle.moo_dbtext_record.specs.Programs.{Table}
use Rattle.moo_dbtext_record.specs.Texts.{Text}
use Rattle.moo_dbtext_record.specs.DumpReading.{Progress, verb_read}
use Rattle.moo_dbtext_record.specs.Sparing.{IsAt}
use Rattle.moo_dbtext_record.specs.Answer.{Told, Stops, IsGoing, taken_of, taken_on, begin, answer_to}
use Rattle.moo_dbtext_record.specs.Faults.{fault_of}
use Rattle.moo_dbtext_record.specs.declared.record_reader.RecordFault.{RecordFault}
use Rattle.moo_dbtext_record.specs.declared.record_reader.RecordReader.{RecordReader}
use Rattle.moo_dbtext_record.specs.declared.fault.DbFault.{DbFault}
use Rattle.moo_dbtext_record.specs.declared.fault.DbFaultKind.TheVariants as kind
use Rattle.moo_dbtext_record.specs.declared.fault.ProgramFault.{ProgramFault}
use Rattle.moo_dbtext_read.specs.Says.{AreParsedAs, programs_of, Says}
use Rattle.moo_dbtext_read.specs.Faults.{source_kind, IsProgramFault, AreSoundBefore}
use Rattle.moo_dbtext_read.specs.declared.database.Database.{Database}
use Rattle.moo_dbtext_read.specs.declared.program_reader.ProgramReader.{ProgramReader}

-- The bytes are taken, and each source among them that has its dot has its program. The sources may be dropped by then.
pub record IsAfter (r : ProgramReader) (bytes : List ℕ) : Type 0 where
  pub going : IsGoing r.records
  pub at : IsAt r.records bytes
  pub parsed : AreParsedAs at.state.progress.text.programs (programs_of r.programs)

-- the reader's state in the text, but for sources that were dropped
abbrev pub place_of : ProgramReader → Progress
place_of r = (taken_of r.records).progress

-- the fault is that of the records, whose answer this is, and no program before it is at fault
pub record IsRecordFault {A : Type 0} (bytes : List ℕ) (answer : Result A Told) (e : DbFault) : Type 0 where
  pub fault : RecordFault
  pub told : e ≡ fault_of fault
  pub stops : Stops fault answer
  pub sound : AreSoundBefore e.line bytes

-- the fault is that of a program which ends in the bytes
pub record IsToldProgram (bytes : List ℕ) (e : DbFault) : Type 0 where
  pub object : ℕ
  pub verb : ℕ
  pub fault : ProgramFault
  pub told : e.kind ≡ kind.Program object verb fault
  pub is : IsProgramFault bytes e.line object verb fault

-- why the bytes, of which the records answer this, are refused
abbrev pub IsRefused : {A : Type 0} → List ℕ → Result A Told → DbFault → Type 0
IsRefused bytes answer e = (e.kind ≡ kind.Memory) ⊎ IsRecordFault bytes answer e ⊎ IsToldProgram bytes e

-- What a reader has done with bytes, given the result: it is in this state, or has refused them.
abbrev pub Reads : Result ⊤ DbFault → ProgramReader → List ℕ → Type 0
Reads result r bytes = MatchResult result (λ _. IsAfter r bytes) (IsRefused bytes (taken_on limited begin bytes))

-- From one state, more bytes lead to the result and to another state.
abbrev pub ReadsOn : ProgramReader → List ℕ → Result ⊤ DbFault → ProgramReader → Type 0
ReadsOn r more result s = (bytes : List ℕ) → IsAfter r bytes → Reads result s (bytes ++ more)

-- The reader has taken these bytes, in whatever pieces, or has refused them.
abbrev pub HasRead : ProgramReader → List ℕ → Type 0
HasRead r bytes = Reads r.outcome r bytes

-- No fault has come yet.
abbrev pub IsWell : ProgramReader → Type 0
IsWell r = r.outcome ≡ Ok tt

-- This fault has come.
abbrev pub HasRefused : ProgramReader → DbFault → Type 0
HasRefused r e = r.outcome ≡ Err e

-- how many lines have ended
abbrev pub lines_of : ProgramReader → ℕ
lines_of r = (taken_of r.records).lines

-- the records of the bytes are read, and describe what is kept
pub record IsRead (bytes : List ℕ) (d : Database) : Type 0 where
  pub text : Text
  pub records : answer_to limited bytes ≡ Ok text
  pub says : Says text d

-- the answer for the whole bytes
abbrev pub Answers : Result Database DbFault → List ℕ → Type 0
Answers (Ok d) bytes = IsRead bytes d
Answers (Err e) bytes = IsRefused bytes (answer_to limited bytes) e

-- the verb whose program ended, given the verbs whose programs were being read before a line and after it
abbrev pub ended_between : Option (ℕ × ℕ) → Option (ℕ × ℕ) → Option (ℕ × ℕ)
ended_between verb None = verb
ended_between verb (Some other) = None

-- the verb whose program is being read
abbrev pub verb_at : RecordReader → Option (ℕ × ℕ)
verb_at r = verb_read (taken_of r).progress.section (taken_of r).progress

abbrev pub sources_at : RecordReader → Table
sources_at r = (taken_of r).progress.text.programs

-- the fault of a source of a verb, after so many lines
pub record IsSourceFault (lines o v : ℕ) (source : List Line) (e : DbFault) : Type 0 where
  pub line : e.line ≡ lines - length source - 1
  pub at : ℕ
  pub fault : SyntaxFaultKind
  pub kind : e.kind ≡ source_kind o v at fault
  pub blames : Blames Any source at fault

abbrev pub IsSourceRefused : ℕ → ℕ → ℕ → List Line → DbFault → Type 0
IsSourceRefused lines o v source e = (e.kind ≡ kind.Memory) ⊎ IsSourceFault lines o v source e
