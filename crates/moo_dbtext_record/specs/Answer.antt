-- The answer of reading a text, and the state of a reader between two pieces.
use Rattle.std.specs.Prelude.{◌≡◌, ◌≢◌, ◌<◌, length, slice_index, ℕ, ◌+◌, ◌==◌, zero, suc, List, [], ◌∷◌, ◌++◌, Result, Ok, Err, MatchResult, ⊤, if◌then◌else◌}
use Rattle.moo_dbtext_object.specs.Lines.{Line, Sizes, limited, unlimited}
use Rattle.moo_dbtext_record.specs.Texts.{Text}
use Rattle.moo_dbtext_record.specs.DumpReading.{Progress, progress_of, dump_step, ended, start}
use Rattle.moo_dbtext_object.specs.declared.fault.LineFault.{LineFault}
use Rattle.moo_dbtext_object.specs.declared.fault.LineFault.TheVariants.{TrailingBytes, Truncated, TooLarge}
use Rattle.moo_dbtext_object.specs.declared.fault.Refusal.{Refusal}
use Rattle.moo_dbtext_object.specs.declared.fault.Refusal.TheVariants as refusal
use Rattle.moo_dbtext_record.specs.declared.record_reader.RecordFault.{RecordFault}
use Rattle.moo_dbtext_record.specs.declared.dump_reader.Section.{Section}
use Rattle.moo_dbtext_record.specs.declared.dump_reader.Section.TheVariants as section
use Rattle.moo_dbtext_record.specs.declared.record_reader.RecordReader.{RecordReader}

-- a fault, and the number of the line at fault
pub record Told : Type 0 where
  pub line : ℕ
  pub fault : LineFault

-- how many lines have come, what they hold, and what has come of the next line
pub record Taken : Type 0 where
  pub lines : ℕ
  pub progress : Progress
  pub rest : Line

abbrev pub told : {A : Type 0} → ℕ → Result A LineFault → Result A Told
told n (Ok x) = Ok x
told n (Err f) = Err (record { line = n; fault = f })

abbrev pub and_then : {A B : Type 0} → Result A Told → (A → Result B Told) → Result B Told
and_then (Ok x) f = f x
and_then (Err e) f = Err e

-- the end of a line
unfoldable pub line_ended : Sizes → Taken → Line → Result Taken Told
line_ended z s line = and_then (told (s.lines + 1) (dump_step z s.progress.section s.progress line)) (λ p. Ok (record { lines = s.lines + 1; progress = p; rest = [] }))

-- byte after byte
unfoldable pub taken_on : Sizes → Taken → List ℕ → Result Taken Told
taken_on z s [] = Ok s
taken_on z s (b ∷ bs) = if b == 10 then and_then (line_ended z s s.rest) (λ t. taken_on z t bs) else taken_on z (record s { rest = s.rest ++ b ∷ [] }) bs

-- a line that has no end
abbrev pub unended : Section → LineFault
unended section.End = TrailingBytes
unended section.Header = Truncated
unended section.ObjectCount = Truncated
unended section.ProgramCount = Truncated
unended section.Unused = Truncated
unended section.PlayerCount = Truncated
unended section.Player = Truncated
unended section.Head = Truncated
unended section.Object = Truncated
unended section.ProgramHead = Truncated
unended section.Source = Truncated
unended section.Clocks = Truncated
unended section.Queued = Truncated
unended section.Suspended = Truncated
unended section.ConnectionCount = Truncated
unended section.Connection = Truncated

abbrev pub finished_with : Taken → Line → Result Text Told
finished_with s [] = told (s.lines + 1) (ended s.progress)
finished_with s (b ∷ bs) = Err (record { line = s.lines + 1; fault = unended s.progress.section })

unfoldable pub finished : Taken → Result Text Told
finished s = finished_with s s.rest

abbrev pub begin : Taken
begin = record { lines = 0; progress = start; rest = [] }

-- The answer of reading the whole text, with size limits or without.
unfoldable pub answer_to : Sizes → List ℕ → Result Text Told
answer_to z bytes = and_then (taken_on z begin bytes) finished

-- What a function returned, seen by view, is this answer, unless memory ran out.
abbrev pub StopsAt : {Y : Type 0} → Refusal → ℕ → Result Y Told → Type 0
StopsAt refusal.Memory n answer = Unit {0}
StopsAt (refusal.Fault f) n answer = answer ≡ Err (record { line = n; fault = f })

abbrev pub Stops : {Y : Type 0} → RecordFault → Result Y Told → Type 0
Stops e answer = StopsAt e.kind e.line answer

abbrev pub Answers : {X Y : Type 0} → (X → Y) → Result X RecordFault → Result Y Told → Type 0
Answers view (Ok x) answer = answer ≡ Ok (view x)
Answers view (Err e) answer = Stops e answer

abbrev pub taken_of : RecordReader → Taken
taken_of r = record { lines = r.lines; progress = progress_of r.reader; rest = r.rest.items }

-- From one state, bytes lead to the result and to another state.
abbrev pub TakesOn : RecordReader → List ℕ → Result ⊤ RecordFault → RecordReader → Type 0
TakesOn r bytes result s = Answers (λ _. taken_of s) result (taken_on limited (taken_of r) bytes)

-- The reader has taken these bytes, in whatever pieces, or has failed at their fault.
abbrev pub HasTaken : RecordReader → List ℕ → Type 0
HasTaken r bytes = MatchResult r.outcome (λ _. taken_on limited begin bytes ≡ Ok (taken_of r)) (λ e. Stops e (taken_on limited begin bytes))

-- No fault has come yet.
abbrev pub IsGoing : RecordReader → Type 0
IsGoing r = r.outcome ≡ Ok tt

-- This fault has come.
abbrev pub HasFailed : RecordReader → RecordFault → Type 0
HasFailed r e = r.outcome ≡ Err e

-- the bytes of the first n lines
abbrev pub front_lines : ℕ → List ℕ → List ℕ
front_lines zero bytes = []
front_lines (suc n) [] = []
front_lines (suc n) (b ∷ bs) = b ∷ (if b == 10 then front_lines n bs else front_lines (suc n) bs)

-- no line ends in these bytes
abbrev pub HasNoEnd : List ℕ → Type 0
HasNoEnd bytes = (k : ℕ) → k < length bytes → slice_index bytes k ≢ 10

-- a line with its end
pub record IsWholeLine (bytes : List ℕ) : Type 0 where
  pub line : Line
  pub is : bytes ≡ line ++ 10 ∷ []
  pub clean : HasNoEnd line

-- a fault of a line that is wrong there, whatever the size limits are
abbrev pub IsOfLine : Refusal → Type 0
IsOfLine refusal.Memory = ⊥
IsOfLine (refusal.Fault f) = (f ≢ Truncated) × (f ≢ TooLarge)

-- a size limit
abbrev pub IsOfSize : Refusal → Type 0
IsOfSize refusal.Memory = ⊥
IsOfSize (refusal.Fault f) = f ≡ TooLarge

abbrev pub IsMemoryOrSize : Refusal → Type 0
IsMemoryOrSize refusal.Memory = Unit {0}
IsMemoryOrSize (refusal.Fault f) = f ≡ TooLarge

-- the answer is the text that is spelled, or reports that memory or a limit was exceeded
abbrev pub IsReadOrTooLarge : {X : Type 0} → (X → Text) → Text → Result X RecordFault → Type 0
IsReadOrTooLarge view t (Ok x) = t ≡ view x
IsReadOrTooLarge view t (Err e) = IsMemoryOrSize e.kind

-- Each of the first n lines is right where it is: with size limits, or without.
pub record Stand (z : Sizes) (n : ℕ) (bytes : List ℕ) : Type 0 where
  pub state : Taken
  pub taken : taken_on z begin (front_lines n bytes) ≡ Ok state
  pub lines : state.lines ≡ n

abbrev pub StandWithoutLimits : ℕ → List ℕ → Type 0
StandWithoutLimits n bytes = Stand unlimited n bytes
