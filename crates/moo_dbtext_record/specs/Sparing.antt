-- A reader that drops sources after their use: it is in the state of one that doesn't, but for these.
use Rattle.std.specs.Prelude.{◌≡◌, ℕ, List, [], Bool, true, false, is_some, map, Result, Ok, Err}
use Rattle.moo_dbtext_object.specs.Lines.{limited}
use Rattle.moo_dbtext_record.specs.Programs.{Row, Table}
use Rattle.moo_dbtext_record.specs.Texts.{Text, text_of}
use Rattle.moo_dbtext_record.specs.DumpReading.{Progress}
use Rattle.moo_dbtext_record.specs.Answer.{Told, Taken, Stops, taken_of, taken_on, begin}
use Rattle.moo_dbtext_record.specs.declared.dump.Dump.{Dump}
use Rattle.moo_dbtext_record.specs.declared.dump_reader.Section.{Section}
use Rattle.moo_dbtext_record.specs.declared.dump_reader.Section.TheVariants as section
use Rattle.moo_dbtext_record.specs.declared.record_reader.RecordReader.{RecordReader}
use Rattle.moo_dbtext_record.specs.declared.record_reader.RecordFault.{RecordFault}

abbrev pub row_marks : Row → List Bool
row_marks row = map is_some row

-- of each verb, whether it has a source
abbrev pub marks_of : Table → List (List Bool)
marks_of table = map row_marks table

-- a text but for its programs
abbrev pub outline : Text → Text
outline t = record t { programs = [] }

abbrev pub outline_read : Progress → Progress
outline_read p = record p { text = outline p.text }

-- two states are equal but for the sources: the same verbs have sources, whatever these are
pub record AreAlike (p q : Progress) : Type 0 where
  pub rest : outline_read p ≡ outline_read q
  pub same : marks_of p.text.programs ≡ marks_of q.text.programs

pub record AreAlikeTaken (s t : Taken) : Type 0 where
  pub lines : s.lines ≡ t.lines
  pub rest : s.rest ≡ t.rest
  pub progress : AreAlike s.progress t.progress

-- The reader is in the state to which the bytes lead, but for sources that were dropped.
pub record IsAt (r : RecordReader) (bytes : List ℕ) : Type 0 where
  pub state : Taken
  pub leads : taken_on limited begin bytes ≡ Ok state
  pub alike : AreAlikeTaken state (taken_of r)

-- the answer for a whole text, but for the sources
abbrev pub AnswersBut : Result Dump RecordFault → Result Text Told → Type 0
AnswersBut (Ok d) answer = (t : Text) × (answer ≡ Ok t) × (outline t ≡ outline (text_of d))
AnswersBut (Err e) answer = Stops e answer

-- all objects have come
abbrev pub has_objects : Section → Bool
has_objects section.Header = false
has_objects section.ObjectCount = false
has_objects section.ProgramCount = false
has_objects section.Unused = false
has_objects section.PlayerCount = false
has_objects section.Player = false
has_objects section.Head = false
has_objects section.Object = false
has_objects section.ProgramHead = true
has_objects section.Source = true
has_objects section.Clocks = true
has_objects section.Queued = true
has_objects section.Suspended = true
has_objects section.ConnectionCount = true
has_objects section.Connection = true
has_objects section.End = true
