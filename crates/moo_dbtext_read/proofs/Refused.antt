-- A refusal of bytes holds for all bytes that begin so, and has consequences for the whole.
use Rattle.std.specs.Prelude.{⊤}
use Rattle.std.proofs.Common.{◌≡◌, ℕ, ◌+◌, ◌-◌, List, [], ◌∷◌, ◌++◌, length, Result, Ok, Err, inl, inr, refl, sym, ap, subst, ◌∙◌, append_assoc, arith}
use Rattle.moo_dbtext_object.specs.Lines.{limited}
use Rattle.moo_dbtext_object.specs.declared.fault.Refusal.{Refusal}
use Rattle.moo_dbtext_object.specs.declared.fault.Refusal.TheVariants as refusal
use Rattle.moo_dbtext_record.specs.Texts.{Text, text_of}
use Rattle.moo_dbtext_record.specs.declared.dump.Dump.{Dump}
use Rattle.moo_dbtext_record.specs.Sparing.{outline}
use Rattle.moo_dbtext_record.specs.DumpReading.{Progress}
use Rattle.moo_dbtext_record.specs.Answer.{IsWholeLine, Told, Taken, taken_on, begin, StopsAt, Stops, HasNoEnd, and_then, answer_to, finished}
use Rattle.moo_dbtext_record.specs.Faults.{kind_of_refusal, fault_of}
use Rattle.moo_dbtext_record.specs.declared.record_reader.RecordFault.{RecordFault}
use Rattle.moo_dbtext_record.specs.declared.fault.DbFault.{DbFault}
use Rattle.moo_dbtext_record.proofs.TakenLaws.{taken_on-append, rest_taken, stops_then}
use Rattle.moo_dbtext_record.proofs.Standing.{stands_on, stand_at, stand_so, line_fault, finished_line}
use Rattle.moo_dbtext_record.proofs.Sources.{finished_text}
use Rattle.moo_dbtext_read.specs.Says.{AreParsedAs, HasProgramsWithin, programs_of}
use Rattle.moo_dbtext_read.specs.declared.program_reader.ProgramReader.{ProgramReader}
use Rattle.moo_dbtext_read.specs.Faults.{AreSoundBefore, through_program}
use Rattle.moo_dbtext_read.specs.Reading.{IsRecordFault, IsToldProgram, IsRefused, IsAfter, Reads, ReadsOn, HasRead, IsWell, HasRefused, IsRead}
use Rattle.moo_dbtext_read.proofs.After.{parsed_within}

-- ---- the text before a fault

sound_here : (r : ProgramReader) (bytes : List ℕ) (n : ℕ) (h : IsAfter r bytes) → n ≡ h.at.state.lines + 1 → AreSoundBefore n bytes
sound_here r bytes n h is =
    let s = h.at.state in
    let so = stand_so limited bytes s h.at.leads in
    record { stand = stand_at limited s.lines (n - 1) bytes (omega arith) so.stand; parsed = subst (λ (p : Progress). HasProgramsWithin p.text) (sym so.same) (parsed_within s.progress.text (programs_of r.programs) h.parsed) }

sound_on : (bytes more : List ℕ) (n : ℕ) → AreSoundBefore n bytes → AreSoundBefore n (bytes ++ more)
sound_on bytes more n h = record { stand = stands_on limited (n - 1) bytes more h.stand; parsed = h.parsed }

taken_from : {A : Type 0} (r : ProgramReader) (bytes : List ℕ) (f : Taken → Result A Told) (h : IsAfter r bytes) → and_then (taken_on limited begin bytes) f ≡ f h.at.state
taken_from r bytes f h = ap (λ (x : Result Taken Told). and_then x f) h.at.leads

-- if the records stop at a fault of this line, or because memory ran out
stopped : {A : Type 0} (bytes : List ℕ) (answer : Result A Told) (f : RecordFault) → ((d : Told) → answer ≡ Err d → AreSoundBefore d.line bytes) → Stops f answer → IsRefused bytes answer (fault_of f)
stopped {A = A} bytes answer f sound stops = at f.kind refl stops
  where
    at : (k : Refusal) → f.kind ≡ k → StopsAt k f.line answer → IsRefused bytes answer (fault_of f)
    at refusal.Memory is h = inl (ap kind_of_refusal is)
    at (refusal.Fault g) is h = inr (inl (record { fault = f; told = refl; stops = stops; sound = sound (record { line = f.line; fault = g }) h }))

-- at the end of a line
pub line_refused : (r : ProgramReader) (bytes line : List ℕ) (f : RecordFault) → IsWholeLine line → IsAfter r bytes → Stops f (taken_on limited begin (bytes ++ line)) → IsRefused (bytes ++ line) (taken_on limited begin (bytes ++ line)) (fault_of f)
line_refused r bytes line f whole h =
    stopped (bytes ++ line) (taken_on limited begin (bytes ++ line)) f (λ d e.
    let here : taken_on limited h.at.state (whole.line ++ 10 ∷ []) ≡ Err d =
    ap (taken_on limited h.at.state) (sym whole.is) ∙ sym (taken_on-append limited begin bytes line ∙ taken_from r bytes (λ t. taken_on limited t line) h) ∙ e in
    sound_on bytes line d.line (sound_here r bytes d.line h (line_fault limited h.at.state whole.line d whole.clean here)))

-- bytes without an end stop only if memory runs out
pub part_refused : (r : ProgramReader) (bytes part : List ℕ) (f : RecordFault) → HasNoEnd part → IsAfter r bytes → Stops f (taken_on limited begin (bytes ++ part)) → IsRefused (bytes ++ part) (taken_on limited begin (bytes ++ part)) (fault_of f)
part_refused r bytes part f clean h =
    stopped (bytes ++ part) (taken_on limited begin (bytes ++ part)) f (λ d e. absurd (
    let goes = taken_on-append limited begin bytes part ∙ taken_from r bytes (λ t. taken_on limited t part) h ∙ rest_taken limited h.at.state part clean in
    let no = sym goes ∙ e in
    cc
    ))

-- at the end of the text
pub end_refused : (r : ProgramReader) (bytes : List ℕ) (f : RecordFault) → IsAfter r bytes → Stops f (answer_to limited bytes) → IsRefused bytes (answer_to limited bytes) (fault_of f)
unfolding answer_to
end_refused r bytes f h =
    stopped bytes (answer_to limited bytes) f (λ d e. sound_here r bytes d.line h (finished_line h.at.state d (sym (taken_from r bytes finished h) ∙ e)))

-- ---- more bytes

record_then : {A B : Type 0} (bytes : List ℕ) (r : Result A Told) (f : A → Result B Told) (e : DbFault) → IsRecordFault bytes r e → IsRecordFault bytes (and_then r f) e
record_then bytes r f e h = record { fault = h.fault; told = h.told; stops = stops_then h.fault.kind h.fault.line r f h.stops; sound = h.sound }

record_on : {A : Type 0} (bytes more : List ℕ) (r : Result A Told) (e : DbFault) → IsRecordFault bytes r e → IsRecordFault (bytes ++ more) r e
record_on bytes more r e h = record { fault = h.fault; told = h.told; stops = h.stops; sound = sound_on bytes more e.line h.sound }

program_then : (bytes more : List ℕ) (e : DbFault) → IsToldProgram bytes e → IsToldProgram (bytes ++ more) e
program_then bytes more e h =
    let p = h.is.place in
    let n = e.line + length h.is.source in
    record {
      object = h.object;
      verb = h.verb;
      fault = h.fault;
      told = h.told;
      is = record {
        source = h.is.source;
        place = record {
          before = p.before;
          after = p.after ++ more;
          number = p.number;
          whole = ap (λ (b : List ℕ). b ++ more) p.whole ∙ append_assoc (through_program p.before h.object h.verb h.is.source) p.after more;
          reading = stands_on limited n bytes more p.reading;
          verb = p.verb;
          lines = p.lines;
          ended = stands_on limited (n + 1) bytes more p.ended;
          kept = p.kept;
          there = p.there;
        };
        blamed = h.is.blamed;
        parsed = h.is.parsed;
      };
    }

-- more bytes change no refusal
pub refused_then : (bytes more : List ℕ) (e : DbFault) → IsRefused bytes (taken_on limited begin bytes) e → IsRefused (bytes ++ more) (taken_on limited begin (bytes ++ more)) e
refused_then bytes more e (inl memory) = inl memory
refused_then bytes more e (inr (inl fault)) =
    inr (inl (subst (λ (r : Result Taken Told). IsRecordFault (bytes ++ more) r e) (sym (taken_on-append limited begin bytes more)) (record_then (bytes ++ more) (taken_on limited begin bytes) (λ t. taken_on limited t more) e (record_on bytes more (taken_on limited begin bytes) e fault))))
refused_then bytes more e (inr (inr program)) = inr (inr (program_then bytes more e program))

-- nor does the end
pub refused_whole : (bytes : List ℕ) (e : DbFault) → IsRefused bytes (taken_on limited begin bytes) e → IsRefused bytes (answer_to limited bytes) e
unfolding answer_to
refused_whole bytes e (inl memory) = inl memory
refused_whole bytes e (inr (inl fault)) = inr (inl (record_then bytes (taken_on limited begin bytes) finished e fault))
refused_whole bytes e (inr (inr program)) = inr (inr program)

-- ---- the calls of a reader

pub read_failed : (r : ProgramReader) (e : DbFault) (bytes : List ℕ) → HasRefused r e → HasRead r bytes → IsRefused bytes (taken_on limited begin bytes) e
read_failed r e bytes failed h = at r.outcome failed h
  where
    at : (o : Result ⊤ DbFault) → o ≡ Err e → Reads o r bytes → IsRefused bytes (taken_on limited begin bytes) e
    at (Ok x) is h = absurd cc
    at (Err d) is h = subst (IsRefused bytes (taken_on limited begin bytes)) (let same : d ≡ e = cc in same) h

pub read_well : (r : ProgramReader) (bytes : List ℕ) → IsWell r → HasRead r bytes → IsAfter r bytes
read_well r bytes well h = at r.outcome well h
  where
    at : (o : Result ⊤ DbFault) → o ≡ Ok tt → Reads o r bytes → IsAfter r bytes
    at (Ok x) is h = h
    at (Err d) is h = absurd cc

-- the result of the bytes is kept
pub read_kept : (result : Result ⊤ DbFault) (s : ProgramReader) (bytes : List ℕ) → Reads result s bytes → HasRead (record s { outcome = result }) bytes
read_kept (Ok x) s bytes h = record { going = h.going; at = h.at; parsed = h.parsed }
read_kept (Err e) s bytes h = h

pub reads_join : (r s t : ProgramReader) (front more : List ℕ) (result : Result ⊤ DbFault) → ReadsOn r front (Ok tt) s → ReadsOn s more result t → ReadsOn r (front ++ more) result t
reads_join r s t front more result a b = λ bytes h. subst (Reads result t) (append_assoc bytes front more) (b (bytes ++ front) (a bytes h))

pub reads_stop : (r s : ProgramReader) (front more : List ℕ) (e : DbFault) → ReadsOn r front (Err e) s → ReadsOn r (front ++ more) (Err e) s
reads_stop r s front more e a = λ bytes h. subst (Reads (Err e) s) (append_assoc bytes front more) (refused_then (bytes ++ front) more e (a bytes h))

-- the text of the whole is what has come
pub answered_text : (bytes : List ℕ) (s : Taken) (t : Text) → taken_on limited begin bytes ≡ Ok s → answer_to limited bytes ≡ Ok t → s.progress.text ≡ t
unfolding answer_to
answered_text bytes s t a b = finished_text s t (sym (ap (λ (r : Result Taken Told). and_then r finished) a) ∙ b)

pub read_says : (r : ProgramReader) (bytes : List ℕ) (dump : Dump) → IsAfter r bytes → (t : Text) → answer_to limited bytes ≡ Ok t → outline t ≡ outline (text_of dump) → IsRead bytes (record { players = dump.players; objects = dump.objects; programs = r.programs; connections = dump.connections })
read_says r bytes dump h t a same =
    let text = answered_text bytes h.at.state t h.at.leads a in
    record {
      text = t;
      records = a;
      says = record {
        players = sym (ap (λ (u : Text). u.players) same);
        objects = sym (ap (λ (u : Text). u.objects) same);
        programs = subst (λ (u : Text). AreParsedAs u.programs (programs_of r.programs)) text h.parsed;
        links = sym (ap (λ (u : Text). u.links) same);
      };
    }
