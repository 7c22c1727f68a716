-- A reader of refused programs between two pieces.
use Rattle.std.specs.Prelude.{◌≡◌, ◌≢◌, ℕ, List, [], ◌∷◌, ◌++◌, Option, Some, None, Result, Err, ◌⊎◌, MatchResult, ⊤}
use Rattle.moo_syntax_ast.specs.Tree.{Block}
use Rattle.moo_syntax_grammar.specs.declared.names.Names.TheVariants.{Any}
use Rattle.moo_syntax_grammar.specs.Texts.{IsParsed}
use Rattle.moo_dbtext_object.specs.Lines.{Line, limited}
use Rattle.moo_dbtext_record.specs.Programs.{entry_at}
use Rattle.moo_dbtext_record.specs.Sparing.{IsAt}
use Rattle.moo_dbtext_record.specs.Answer.{Told, IsGoing, taken_on, begin}
use Rattle.moo_dbtext_record.specs.declared.fault.DbFault.{DbFault}
use Rattle.moo_dbtext_record.specs.declared.fault.DbFaultKind.TheVariants as kind
use Rattle.moo_dbtext_read.specs.Reading.{IsSourceFault}
use Rattle.moo_cli_check.specs.Survey.{AreRefusedBetween, IsToldOf, IsSurvey}
use Rattle.moo_cli_check.specs.declared.survey.Survey.{Survey}

-- The bytes are taken, and each program that has its dot in them is noted as refused or is one within the limits.
pub record IsAfter (r : Survey) (bytes : List ℕ) : Type 0 where
  pub going : IsGoing r.records
  pub at : IsAt r.records bytes
  pub refused : AreRefusedBetween bytes 0 at.state.lines r.faults.items
  pub others : (o v : ℕ) (source : List Line) → entry_at at.state.progress.text.programs o v ≡ Some source → IsToldOf o v r.faults.items ⊎ ((b : Block) × IsParsed Any source b)

-- a source is a program within the limits, and nothing more is noted, or it is none, and its fault is
abbrev pub IsNoted : List DbFault → List DbFault → ℕ → ℕ → ℕ → List Line → Type 0
IsNoted old new lines o v source =
    ((new ≡ old) × ((b : Block) × IsParsed Any source b)) ⊎ ((e : DbFault) × (new ≡ old ++ e ∷ []) × (e.kind ≢ kind.Memory) × IsSourceFault lines o v source e)

-- a line of the bytes is wrong where it is, and this is all that is reported of them, however they go on
pub record IsStopped (bytes : List ℕ) (faults : List DbFault) (e : DbFault) : Type 0 where
  pub fault : Told
  pub stops : taken_on limited begin bytes ≡ Err fault
  pub survey : (more : List ℕ) → IsSurvey (bytes ++ more) faults (Some e)

-- memory ran out, or a line has stopped it
abbrev pub IsEnded : List ℕ → List DbFault → DbFault → Type 0
IsEnded bytes faults e = (e.kind ≡ kind.Memory) ⊎ IsStopped bytes faults e

-- What a reader has done with bytes, given the result: it is in this state, or has ended.
abbrev pub Surveys : Result ⊤ DbFault → Survey → List ℕ → Type 0
Surveys result r bytes = MatchResult result (λ _. IsAfter r bytes) (IsEnded bytes r.faults.items)

-- From one state, more bytes lead to the result and to another state.
abbrev pub SurveysOn : Survey → List ℕ → Result ⊤ DbFault → Survey → Type 0
SurveysOn r more result s = (bytes : List ℕ) → IsAfter r bytes → Surveys result s (bytes ++ more)

-- the report of the whole bytes, or memory ran out
abbrev pub IsWholly : List ℕ → List DbFault → Option DbFault → Type 0
IsWholly bytes faults None = IsSurvey bytes faults None
IsWholly bytes faults (Some e) = (e.kind ≡ kind.Memory) ⊎ IsSurvey bytes faults (Some e)
