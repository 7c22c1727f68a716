-- The faults that are reported of refused bytes.
use Rattle.std.specs.Prelude.{◌≡◌, ◌≢◌, ℕ, suc, ◌+◌, ◌-◌, List, ◌++◌, Option, Some, None, ◌⊎◌, length}
use Rattle.moo_syntax_grammar.specs.declared.names.Names.TheVariants.{Any}
use Rattle.moo_syntax.specs.declared.syntax_fault.SyntaxFaultKind.{SyntaxFaultKind}
use Rattle.moo_syntax.specs.declared.syntax_fault.SyntaxFaultKind.TheVariants as syntax
use Rattle.moo_syntax.specs.Programs.{Blames}
use Rattle.moo_dbtext_object.specs.Lines.{Line, limited, unlines}
use Rattle.moo_dbtext_object.specs.declared.fault.LineFault.{LineFault}
use Rattle.moo_dbtext_object.specs.declared.fault.LineFault.TheVariants.{Truncated, TooLarge}
use Rattle.moo_dbtext_record.specs.Programs.{entry_at, program_lines}
use Rattle.moo_dbtext_record.specs.Texts.{Text, Spells}
use Rattle.moo_dbtext_record.specs.DumpReading.{verb_read}
use Rattle.moo_dbtext_record.specs.Answer.{Stand}
use Rattle.moo_dbtext_record.specs.Faults.{kind_of}
use Rattle.moo_dbtext_record.specs.declared.fault.DbFaultKind.{DbFaultKind}
use Rattle.moo_dbtext_record.specs.declared.fault.DbFaultKind.TheVariants as kind
use Rattle.moo_dbtext_record.specs.declared.fault.ProgramFault.{ProgramFault}
use Rattle.moo_dbtext_record.specs.declared.fault.ProgramFaultKind.{ProgramFaultKind}
use Rattle.moo_dbtext_record.specs.declared.fault.ProgramFaultKind.TheVariants as program
use Rattle.moo_dbtext_record.specs.declared.fault.DbFault.{DbFault}
use Rattle.moo_dbtext_read.specs.Says.{HasProgramsWithin}

-- the kind that is reported of a fault of a source; none if memory ran out
abbrev pub told_kind : SyntaxFaultKind → Option ProgramFaultKind
told_kind syntax.BadToken = Some program.BadToken
told_kind syntax.Unexpected = Some program.Unexpected
told_kind syntax.BadTarget = Some program.BadTarget
told_kind syntax.BadLoopName = Some program.BadLoopName
told_kind (syntax.UnknownFunction name) = Some program.UnknownFunction
told_kind syntax.TooDeep = Some program.TooDeep
told_kind syntax.Memory = None

abbrev pub source_kind_of : ℕ → ℕ → ℕ → Option ProgramFaultKind → DbFaultKind
source_kind_of o v line None = kind.Memory
source_kind_of o v line (Some k) = kind.Program o v (record { line = line; kind = k })

-- the kind that is reported of a verb whose source has a fault of this kind on this line
abbrev pub source_kind : ℕ → ℕ → ℕ → SyntaxFaultKind → DbFaultKind
source_kind o v line k = source_kind_of o v line (told_kind k)

-- the source has the fault that is reported
pub record IsBlamed (source : List Line) (f : ProgramFault) : Type 0 where
  pub kind : SyntaxFaultKind
  pub told : told_kind kind ≡ Some f.kind
  pub blames : Blames Any source f.line kind

-- these lines, and then those of a program up to its dot
abbrev pub through_program : List Line → ℕ → ℕ → List Line → List ℕ
through_program before o v source = unlines (before ++ program_lines (record { object = o; verb = v; source = source }))

-- The bytes have the program of verb v of object o, with this first line and this source: the lines up to its dot are
-- right where they are, and it is the one that is being read there; with the dot it has come.
pub record HasProgramAt (bytes : List ℕ) (line o v : ℕ) (source : List Line) : Type 0 where
  pub before : List Line
  pub after : List ℕ
  pub number : line ≡ suc (length before)
  pub whole : bytes ≡ through_program before o v source ++ after
  pub reading : Stand limited (line + length source) bytes
  pub verb : verb_read reading.state.progress.section reading.state.progress ≡ Some (o, v)
  pub lines : reading.state.progress.source ≡ source
  pub ended : Stand limited (line + length source + 1) bytes
  pub kept : entry_at ended.state.progress.text.programs o v ≡ Some source
  -- each text that begins so has it
  pub there : (more : List ℕ) (t : Text) → Spells (through_program before o v source ++ more) t → entry_at t.programs o v ≡ Some source

-- The source of this verb, whose first line is the reported one, is no program for this reason. Each program that has
-- come before it is one by the parser.
pub record IsProgramFault (bytes : List ℕ) (line o v : ℕ) (f : ProgramFault) : Type 0 where
  pub source : List Line
  pub place : HasProgramAt bytes line o v source
  pub blamed : IsBlamed source f
  pub parsed : HasProgramsWithin place.reading.state.progress.text

-- The lines before line n are right where they are, and each program that has come with them is one by the parser.
pub record AreSoundBefore (n : ℕ) (bytes : List ℕ) : Type 0 where
  pub stand : Stand limited (n - 1) bytes
  pub parsed : HasProgramsWithin stand.state.progress.text

-- ---- kinds of faults

-- a fault of a line that is wrong there, whatever the size limits are
abbrev pub IsOfLine : DbFaultKind → Type 0
IsOfLine k = (f : LineFault) × (k ≡ kind_of f) × (f ≢ Truncated) × (f ≢ TooLarge)

-- a program past the limits on nesting
pub record IsTooDeep (k : DbFaultKind) : Type 0 where
  pub object : ℕ
  pub verb : ℕ
  pub line : ℕ
  pub is : k ≡ kind.Program object verb (record { line = line; kind = program.TooDeep })

-- memory ran out, or a limit was exceeded
abbrev pub IsOfLimits : DbFaultKind → Type 0
IsOfLimits k = (k ≡ kind.Memory) ⊎ (k ≡ kind.TooLarge) ⊎ IsTooDeep k

-- ---- two faults that are reported of one text

-- of a source that is no program two faults may be reported, both of that source
pub record AreOfOneProgram (j k : DbFaultKind) : Type 0 where
  pub object : ℕ
  pub verb : ℕ
  pub source : List Line
  pub fault : ProgramFault
  pub other : ProgramFault
  pub is : j ≡ kind.Program object verb fault
  pub also : k ≡ kind.Program object verb other
  pub blamed : IsBlamed source fault
  pub also_blamed : IsBlamed source other

-- both report one line and one kind, but for which fault of one program it is
pub record AreToldAlike (d e : DbFault) : Type 0 where
  pub line : d.line ≡ e.line
  pub kind : (d.kind ≡ e.kind) ⊎ AreOfOneProgram d.kind e.kind

-- ---- what is reported of sources

-- the faults that may be reported of a source
abbrev pub Telling : Type 1
Telling = List Line → ProgramFault → Type 0

-- a choice of the fault that is reported of each source
abbrev pub Choice : Type 0
Choice = List Line → Option ProgramFault

abbrev pub chosen_by : Choice → Telling
chosen_by choice source f = choice source ≡ Some f

-- if a program is reported, its fault is one that may be reported of its source
abbrev pub TellsBy : Telling → List ℕ → DbFault → Type 0
TellsBy T bytes e = (o v : ℕ) (f : ProgramFault) → e.kind ≡ kind.Program o v f → (h : IsProgramFault bytes e.line o v f) → T h.source f
