-- The state of a reader after the bytes that it has taken.
use Rattle.std.proofs.Common.{◌≡◌, ℕ, Bool, true, false, eqb, eq-eqb, suc, ◌+◌, ◌-◌, List, [], ◌∷◌, ◌++◌, length, Option, Some, None, Result, Ok, Err, ◌⊎◌, inl, inr, refl, sym, ap, subst, ◌∙◌, append_assoc, arith, MatchResult}
use Rattle.std.specs.Prelude.{codes, map, ⊤}
use Rattle.std.specs.Fmt.{signed_decimal}
use Rattle.std.proofs.lemmas.Bool.{eqb-true}
use Rattle.std.specs.Global.{Vec}
use Rattle.std.specs.List.{flat_map}
use Rattle.std.proofs.lemmas.List.{append-nil, length-append}
use Rattle.moo_syntax_ast.specs.Tree.{Block}
use Rattle.moo_dbtext_object.specs.Lines.{Line, limited, unlines, count_line}
use Rattle.moo_dbtext_object.proofs.ValueFound.{flat_map_push}
use Rattle.moo_syntax_grammar.specs.declared.names.Names.TheVariants.{Any}
use Rattle.moo_syntax_grammar.specs.Texts.{IsParsed}
use Rattle.moo_syntax.specs.declared.syntax_fault.SyntaxFaultKind.{SyntaxFaultKind}
use Rattle.moo_syntax.specs.Programs.{Blames}
use Rattle.moo_dbtext_record.specs.Sparing.{AreAlike, AreAlikeTaken, IsAt}
use Rattle.moo_dbtext_record.specs.Programs.{entry_at, is_open, program_line, program_lines}
use Rattle.moo_dbtext_record.specs.Texts.{Text, Slack, Spells, header_line, objects_lines}
use Rattle.moo_dbtext_record.specs.declared.fault.DbFault.{DbFault}
use Rattle.moo_dbtext_record.specs.declared.fault.ProgramFaultKind.{ProgramFaultKind}
use Rattle.moo_dbtext_record.specs.DumpReading.{Progress, verb_read}
use Rattle.moo_dbtext_record.specs.Answer.{IsWholeLine, Told, Taken, taken_of, taken_on, begin, and_then, HasTaken, IsGoing, HasNoEnd, Stops}
use Rattle.moo_dbtext_record.specs.declared.record_reader.RecordReader.{RecordReader}
use Rattle.moo_dbtext_record.specs.declared.record_reader.RecordFault.{RecordFault}
use Rattle.moo_dbtext_record.specs.declared.dump_reader.Section.{Section}
use Rattle.moo_dbtext_record.specs.declared.dump_reader.Section.TheVariants as section
use Rattle.moo_dbtext_record.proofs.TakenLaws.{taken_on-append, rest_taken}
use Rattle.moo_dbtext_record.proofs.AnswerFound.{IsTaken}
use Rattle.moo_dbtext_record.proofs.Standing.{stands_on, stand_at, stand_so}
use Rattle.moo_dbtext_record.proofs.DumpProgress.{progress_read, programmed}
use Rattle.moo_dbtext_record.proofs.Sources.{SameSources, EndsSource, Does, none_read, reads_on, ends, IsPast, line_past, line_does, taken_so, source_of_text, free_in, dot_puts}
use Rattle.moo_dbtext_record.proofs.Sparing.{open_alike, reads_alike, alike_self, alike_then, at_on}
use Rattle.moo_dbtext_read.specs.Says.{Programs, programs_of, HasSource, IsParsedAs, AreParsedAs, HasProgramsWithin}
use Rattle.moo_dbtext_read.specs.Faults.{told_kind, source_kind_of, HasProgramAt, through_program}
use Rattle.moo_dbtext_read.specs.declared.program_reader.ProgramReader.{ProgramReader}
use Rattle.moo_dbtext_read.specs.Reading.{IsAfter, IsRefused, IsSourceRefused, ended_between, verb_at, sources_at}

-- ---- the records

-- a reader without a fault is in the state to which the bytes lead
pub taken_going : (r : RecordReader) (bytes : List ℕ) → IsGoing r → HasTaken r bytes → taken_on limited begin bytes ≡ Ok (taken_of r)
taken_going r bytes going h = at r.outcome going h
  where
    at : (o : Result ⊤ RecordFault) → o ≡ Ok tt → MatchResult o (λ _. taken_on limited begin bytes ≡ Ok (taken_of r)) (λ e. Stops e (taken_on limited begin bytes)) → taken_on limited begin bytes ≡ Ok (taken_of r)
    at (Ok x) e h = h
    at (Err x) e h = absurd cc

-- from one state to another
pub taken_between : (bytes more : List ℕ) (s t : Taken) → taken_on limited begin bytes ≡ Ok s → taken_on limited begin (bytes ++ more) ≡ Ok t → taken_on limited s more ≡ Ok t
taken_between bytes more s t a b = sym (taken_on-append limited begin bytes more ∙ ap (λ (r : Result Taken Told). and_then r (λ u. taken_on limited u more)) a) ∙ b

-- bytes without an end change no source
pub part_sources : (bytes part : List ℕ) (s t : Taken) → HasNoEnd part → taken_on limited begin bytes ≡ Ok s → taken_on limited begin (bytes ++ part) ≡ Ok t → t.progress ≡ s.progress
part_sources bytes part s t clean a b =
    let ok : Taken → Result Taken Told = λ x. Ok x in
    let e : ok (record s { rest = s.rest ++ part }) ≡ ok t = sym (rest_taken limited s part clean) ∙ taken_between bytes part s t a b in
    let same : record s { rest = s.rest ++ part } ≡ t = cc in
    sym (ap (λ (u : Taken). u.progress) same)

-- ---- what a whole line does

pub record Passes (s : Taken) (bytes line : List ℕ) (t : Taken) : Type 0 where
  pub front : Line
  pub is : line ≡ front ++ 10 ∷ []
  pub clean : HasNoEnd front
  pub past : IsPast s front t
  pub before : IsTaken limited s bytes
  pub does : Does s.progress.section s.progress (s.rest ++ front) t.progress

pub line_passes : (bytes line : List ℕ) (s t : Taken) → IsWholeLine line → taken_on limited begin bytes ≡ Ok s → taken_on limited begin (bytes ++ line) ≡ Ok t → Passes s bytes line t
line_passes bytes line s t whole a b =
    let on = taken_between bytes line s t a b in
    let past = line_past s whole.line t whole.clean (ap (taken_on limited s) (sym whole.is) ∙ on) in
    let before = taken_so limited bytes s a in
    record { front = whole.line; is = whole.is; clean = whole.clean; past = past; before = before; does = line_does limited s bytes (s.rest ++ whole.line) t.progress before past.step }

-- if no program ends, no source comes
pub still_sources : (s t : Taken) (bytes line : List ℕ) → Passes s bytes line t → ended_between (verb_read s.progress.section s.progress) (verb_read t.progress.section t.progress) ≡ None → SameSources s.progress t.progress
still_sources s t bytes line h none = by h.does
  where
    by : Does s.progress.section s.progress (s.rest ++ h.front) t.progress → SameSources s.progress t.progress
    by (none_read e same) = same
    by (reads_on verb e same) = same
    by (ends is dot after ended) =
        absurd (
        let verb : verb_read s.progress.section s.progress ≡ Some (s.progress.object, s.progress.verb) = ap (λ (x : Section). verb_read x s.progress) is in
        let e : ended_between (Some (s.progress.object, s.progress.verb)) None ≡ None = sym (ap (λ (x : Option (ℕ × ℕ)). ended_between x (verb_read t.progress.section t.progress)) verb ∙ ap (ended_between (Some (s.progress.object, s.progress.verb))) after) ∙ none in
        cc
        )

-- if one ends
pub record Ends (s : Taken) (bytes line : List ℕ) (t : Taken) (h : Passes s bytes line t) (o v : ℕ) : Type 0 where
  pub section : s.progress.section ≡ section.Source
  pub object : s.progress.object ≡ o
  pub verb : s.progress.verb ≡ v
  pub dot : s.rest ++ h.front ≡ codes "."
  pub ended : EndsSource s.progress t.progress

pub ends_source : (s t : Taken) (bytes line : List ℕ) (h : Passes s bytes line t) (o v : ℕ) → ended_between (verb_read s.progress.section s.progress) (verb_read t.progress.section t.progress) ≡ Some (o, v) → Ends s bytes line t h o v
ends_source s t bytes line h o v some = by h.does
  where
    some_verb : Option (ℕ × ℕ)
    some_verb = Some (o, v)

    other : (x y : Option (ℕ × ℕ)) (verb : ℕ × ℕ) → y ≡ Some verb → ended_between x y ≡ Some (o, v) → ⊥
    other x None verb e f = cc
    other x (Some w) verb e f = cc

    no_verb : (x y : Option (ℕ × ℕ)) → x ≡ None → ended_between x y ≡ Some (o, v) → ⊥
    no_verb None None e f = cc
    no_verb None (Some w) e f = cc
    no_verb (Some w) y e f = cc

    by : Does s.progress.section s.progress (s.rest ++ h.front) t.progress → Ends s bytes line t h o v
    by (none_read e same) = absurd (no_verb (verb_read s.progress.section s.progress) (verb_read t.progress.section t.progress) e some)
    by (reads_on verb e same) = absurd (other (verb_read s.progress.section s.progress) (verb_read t.progress.section t.progress) verb e some)
    by (ends is dot after ended) =
        let verb : verb_read s.progress.section s.progress ≡ Some (s.progress.object, s.progress.verb) = ap (λ (x : Section). verb_read x s.progress) is in
        let pair : ℕ × ℕ → Option (ℕ × ℕ) = λ p. Some p in
        let e : pair (s.progress.object, s.progress.verb) ≡ pair (o, v) = sym (ap (λ (x : Option (ℕ × ℕ)). ended_between x (verb_read t.progress.section t.progress)) verb ∙ ap (ended_between (Some (s.progress.object, s.progress.verb))) after) ∙ some in
        record {
          section = is;
          object = ap (λ (x : Option (ℕ × ℕ)). elim x [ Some p ↦ p.0 | None ↦ 0 ]) e;
          verb = ap (λ (x : Option (ℕ × ℕ)). elim x [ Some p ↦ p.1 | None ↦ 0 ]) e;
          dot = dot;
          ended = ended;
        }

-- ---- the place of the program

-- the lines that have come before and in a program
programmed_front : (t : Text) (k : Slack) (m : ℕ) (more : List Line) → programmed t k m more ≡ programmed t k m [] ++ more
programmed_front t k m more =
    let players = map signed_decimal t.players in
    let objects = objects_lines 0 t.objects k.notes in
    let programs = flat_map program_lines k.programs in
    let front : List Line → List Line = λ ls. header_line t.version ∷ count_line (length t.objects) ∷ count_line m ∷ signed_decimal k.unused ∷ count_line (length t.players) ∷ ls in
    ap front (ap (λ (ls : List Line). players ++ (objects ++ (ls ++ more))) (sym (append-nil programs))
    ∙ ap (λ (ls : List Line). players ++ ls) (sym (append_assoc objects (programs ++ []) more)) ∙ sym (append_assoc players (objects ++ (programs ++ [])) more))

dot_after : (before source : List Line) (o v : ℕ) → through_program before o v source ≡ unlines (before ++ program_line o v ∷ source) ++ (codes "." ++ 10 ∷ [])
dot_after before source o v =
    ap unlines (sym (append_assoc before (program_line o v ∷ source) (codes "." ∷ []))) ∙ flat_map_push (λ (l : Line). l ++ 10 ∷ []) (before ++ program_line o v ∷ source) (codes ".")

-- the program is there, and this is what had come before its dot
pub record StandsAfter (bytes : List ℕ) (n o v : ℕ) (p : Progress) : Type 0 where
  pub place : HasProgramAt bytes n o v p.source
  pub same : place.reading.state.progress ≡ p

pub program_stands : (s t : Taken) (bytes line : List ℕ) (h : Passes s bytes line t) (o v n : ℕ) → taken_on limited begin bytes ≡ Ok s → taken_on limited begin (bytes ++ line) ≡ Ok t → Ends s bytes line t h o v
    → n ≡ t.lines - length s.progress.source - 1 → StandsAfter (bytes ++ line) n o v s.progress
program_stands s t bytes line h o v n leads taken e number =
    let p = s.progress in
    let k = h.before.slack in
    let before = programmed p.text k (length k.programs + suc p.programs_left) [] in
    let lines : List Line = before ++ program_line o v ∷ p.source in
    let read : progress_read p.section p k ≡ lines = ap (λ (x : Section). progress_read x p k) e.section ∙ programmed_front p.text k (length k.programs + suc p.programs_left) (program_line p.object p.verb ∷ p.source)
    ∙ ap (λ (i : ℕ). before ++ program_line i p.verb ∷ p.source) e.object ∙ ap (λ (i : ℕ). before ++ program_line o i ∷ p.source) e.verb in
    let same : bytes ++ line ≡ through_program before o v p.source =
    ap (λ (b : List ℕ). b ++ line) (h.before.whole ∙ ap (λ (ls : List Line). unlines ls ++ s.rest) read) ∙ ap (λ (b : List ℕ). (unlines lines ++ s.rest) ++ b) h.is ∙ append_assoc (unlines lines) s.rest (h.front ++ 10 ∷ [])
    ∙ ap (λ (b : List ℕ). unlines lines ++ b) (sym (append_assoc s.rest h.front (10 ∷ []))) ∙ ap (λ (b : List ℕ). unlines lines ++ (b ++ 10 ∷ [])) e.dot ∙ sym (dot_after before p.source o v) in
    let there : entry_at t.progress.text.programs o v ≡ Some p.source =
    ap (λ (i : ℕ). entry_at t.progress.text.programs i v) (sym e.object) ∙ ap (λ (i : ℕ). entry_at t.progress.text.programs p.object i) (sym e.verb) ∙ e.ended.there in
    let count : s.lines ≡ length before + suc (length p.source) = h.before.count ∙ ap length read ∙ length-append before (program_line o v ∷ p.source) in
    let next = h.past.lines in
    let reading = stand_so limited bytes s leads in
    let ended = stand_so limited (bytes ++ line) t taken in
    record {
      place = record {
        before = before;
        after = [];
        number = omega arith;
        whole = same ∙ sym (append-nil (through_program before o v p.source));
        reading = stand_at limited s.lines (n + length p.source) (bytes ++ line) (omega arith) (stands_on limited s.lines bytes line reading.stand);
        verb = ap (λ (q : Progress). verb_read q.section q) reading.same ∙ ap (λ (x : Section). verb_read x p) e.section ∙ ap (λ (i : ℕ). Some (i, p.verb)) e.object ∙ ap (λ (i : ℕ). Some (o, i)) e.verb;
        lines = ap (λ (q : Progress). q.source) reading.same;
        ended = stand_at limited t.lines (n + length p.source + 1) (bytes ++ line) (omega arith) ended.stand;
        kept = ap (λ (q : Progress). entry_at q.text.programs o v) ended.same ∙ there;
        there = λ more u spelled. source_of_text (bytes ++ line) t taken o v p.source there more u (subst (λ (b : List ℕ). Spells (b ++ more) u) (sym same) spelled);
      };
      same = reading.same;
    }

-- ---- the programs that are kept

pub some_source : (P : List Line → Block → Type 0) (b : Option Block) (s : List Line) → HasSource P (Some s) b → (c : Block) × P s c
some_source P None s h = absurd h
some_source P (Some b) s h = (b, h)

pub parsed_within : (t : Text) (ps : Programs) → AreParsedAs t.programs ps → HasProgramsWithin t
parsed_within t ps h o v s e = some_source (IsParsed Any) (entry_at ps o v) s (subst (λ (x : Option (List Line)). IsParsedAs x (entry_at ps o v)) e (h o v))

stays_parsed : (old new : Taken) (ps : Programs) → SameSources old.progress new.progress → AreParsedAs old.progress.text.programs ps → AreParsedAs new.progress.text.programs ps
stays_parsed old new ps same h o v = subst (λ (x : Option (List Line)). IsParsedAs x (entry_at ps o v)) (sym (same o v)) (h o v)

pub after_nothing : (r : ProgramReader) → IsGoing r.records → HasTaken r.records [] → r.programs.items ≡ [] → IsAfter r []
unfolding taken_on
after_nothing r going taken none = record {
  going = going;
  at = record { state = begin; leads = refl; alike = subst (AreAlikeTaken begin) same (alike_self begin) };
  parsed = λ o v. subst (λ (ps : Programs). IsParsedAs (entry_at [] o v) (entry_at ps o v)) (sym (ap (map (λ row. row.items)) none)) tt;
}
  where
    same : begin ≡ taken_of r.records
    same = let ok : Taken → Result Taken Told = λ x. Ok x in let e : ok begin ≡ ok (taken_of r.records) = taken_going r.records [] going taken in cc

-- a piece that ends no source
pub after_part : (old new : ProgramReader) (bytes part : List ℕ) → HasNoEnd part → IsAfter old bytes → IsGoing new.records → taken_on limited (taken_of old.records) part ≡ Ok (taken_of new.records) → new.programs ≡ old.programs → IsAfter new (bytes ++ part)
after_part old new bytes part clean h on e kept =
    let at = at_on old.records new.records bytes part h.at e in
    let same = part_sources bytes part h.at.state at.state clean h.at.leads at.leads in
    record {
      going = on;
      at = at;
      parsed = subst (λ (rows : Vec (Vec (Option Block))). AreParsedAs at.state.progress.text.programs (programs_of rows)) (sym kept)
          (stays_parsed h.at.state at.state (programs_of old.programs) (λ o v. ap (λ (p : Progress). entry_at p.text.programs o v) same) h.parsed);
    }

ended_alike : (s t l m : Progress) → AreAlike s l → AreAlike t m → ended_between (verb_read s.section s) (verb_read t.section t) ≡ ended_between (verb_read l.section l) (verb_read m.section m)
ended_alike s t l m h k = ap (λ (x : Option (ℕ × ℕ)). ended_between x (verb_read t.section t)) (reads_alike s l h) ∙ ap (ended_between (verb_read l.section l)) (reads_alike t m k)

pub after_still : (old new : ProgramReader) (bytes line : List ℕ) → IsWholeLine line → IsAfter old bytes → IsGoing new.records → taken_on limited (taken_of old.records) line ≡ Ok (taken_of new.records) → ended_between (verb_at old.records) (verb_at new.records) ≡ None → new.programs ≡ old.programs → IsAfter new (bytes ++ line)
after_still old new bytes line whole h on e none kept =
    let at = at_on old.records new.records bytes line h.at e in
    let s = h.at.state in
    let t = at.state in
    let p = line_passes bytes line s t whole h.at.leads at.leads in
    let still = ended_alike s.progress t.progress (taken_of old.records).progress (taken_of new.records).progress h.at.alike.progress at.alike.progress ∙ none in
    record {
      going = on;
      at = at;
      parsed = subst (λ (rows : Vec (Vec (Option Block))). AreParsedAs t.progress.text.programs (programs_of rows)) (sym kept) (stays_parsed s t (programs_of old.programs) (still_sources s t bytes line p still) h.parsed);
    }

same_or_apart : (i o j v : ℕ) → ((i ≡ o) × (j ≡ v)) ⊎ (i ≡ o → j ≡ v → ⊥)
same_or_apart i o j v = decide (eqb i o) refl (eqb j v) refl
  where
    decide : (a : Bool) → eqb i o ≡ a → (b : Bool) → eqb j v ≡ b → ((i ≡ o) × (j ≡ v)) ⊎ (i ≡ o → j ≡ v → ⊥)
    decide true a true b = inl (eqb-true i o a, eqb-true j v b)
    decide true a false b = inr (λ e f. let g = eq-eqb j v f in cc)
    decide false a b is = inr (λ e f. let g = eq-eqb i o e in cc)

-- ---- the dot that ends a program

-- the states after the line before and after the dot, and the source between them, which the reader has
pub record IsAtDot (old new : RecordReader) (bytes line : List ℕ) (before : IsAt old bytes) (o v : ℕ) : Type 0 where
  pub after : IsAt new (bytes ++ line)
  pub passes : Passes before.state bytes line after.state
  pub ends : Ends before.state bytes line after.state passes o v
  pub there : entry_at after.state.progress.text.programs o v ≡ Some before.state.progress.source
  pub had : entry_at (sources_at new) o v ≡ Some before.state.progress.source

pub at_dot : (old new : RecordReader) (bytes line : List ℕ) (o v : ℕ) → IsWholeLine line → (before : IsAt old bytes) → taken_on limited (taken_of old) line ≡ Ok (taken_of new) → ended_between (verb_at old) (verb_at new) ≡ Some (o, v) → IsAtDot old new bytes line before o v
at_dot old new bytes line o v whole before e some = record { after = after; passes = p; ends = d; there = there; had = had }
  where
    l : Taken
    l = taken_of old

    after : IsAt new (bytes ++ line)
    after = at_on old new bytes line before e

    s : Taken
    s = before.state

    t : Taken
    t = after.state

    p : Passes s bytes line t
    p = line_passes bytes line s t whole before.leads after.leads

    d : Ends s bytes line t p o v
    d = ends_source s t bytes line p o v (ended_alike s.progress t.progress l.progress (taken_of new).progress before.alike.progress after.alike.progress ∙ some)

    there : entry_at t.progress.text.programs o v ≡ Some s.progress.source
    there = ap (λ (k : ℕ). entry_at t.progress.text.programs k v) (sym d.object) ∙ ap (λ (k : ℕ). entry_at t.progress.text.programs s.progress.object k) (sym d.verb) ∙ d.ended.there

    past : IsPast l p.front (taken_of new)
    past = line_past l p.front (taken_of new) p.clean (ap (taken_on limited l) (sym p.is) ∙ e)

    free : is_open l.progress.object l.progress.verb l.progress.text.programs ≡ true
    free = sym (ap (λ (r : Progress). is_open r.object r.verb l.progress.text.programs) before.alike.progress.rest) ∙ sym (open_alike s.progress.text.programs l.progress.text.programs s.progress.object s.progress.verb before.alike.progress.same) ∙ free_in limited s.progress.section s.progress p.before.slack p.before.is.keeps d.section

    had : entry_at (sources_at new) o v ≡ Some s.progress.source
    had =
        ap (λ (k : ℕ). entry_at (sources_at new) k v) (sym d.object ∙ ap (λ (r : Progress). r.object) before.alike.progress.rest)
        ∙ ap (λ (k : ℕ). entry_at (sources_at new) l.progress.object k) (sym d.verb ∙ ap (λ (r : Progress). r.verb) before.alike.progress.rest)
        ∙ dot_puts l.progress (l.rest ++ p.front) (taken_of new).progress free (sym (ap (λ (r : Progress). r.section) before.alike.progress.rest) ∙ d.section)
        (ap (λ (r : Line). r ++ p.front) (sym before.alike.rest) ∙ d.dot) past.step
        ∙ ap (λ (r : Progress). Some r.source) (sym before.alike.progress.rest)

pub after_ended : (old new : ProgramReader) (bytes line : List ℕ) (o v : ℕ) (middle : RecordReader) (h : IsAfter old bytes) (d : IsAtDot old.records middle bytes line h.at o v)
    → IsGoing new.records → AreAlikeTaken (taken_of middle) (taken_of new.records) → IsParsedAs (Some h.at.state.progress.source) (entry_at (programs_of new.programs) o v)
    → ((i j : ℕ) → (i ≡ o → j ≡ v → ⊥) → entry_at (programs_of new.programs) i j ≡ entry_at (programs_of old.programs) i j) → IsAfter new (bytes ++ line)
after_ended old new bytes line o v middle h d on dropped there others = record {
  going = on;
  at = record { state = t; leads = d.after.leads; alike = alike_then t (taken_of middle) (taken_of new.records) d.after.alike dropped };
  parsed = λ i j. elim (same_or_apart i o j v) [
    | inl is ↦
        subst (λ (k : ℕ). IsParsedAs (entry_at t.progress.text.programs k j) (entry_at qs k j)) (sym is.0)
        (subst (λ (k : ℕ). IsParsedAs (entry_at t.progress.text.programs o k) (entry_at qs o k)) (sym is.1)
        (subst (λ (x : Option (List Line)). IsParsedAs x (entry_at qs o v)) (sym d.there) there))
    | inr apart ↦
        let kept : entry_at t.progress.text.programs i j ≡ entry_at s.progress.text.programs i j = d.ends.ended.others i j (λ a b. apart (a ∙ d.ends.object) (b ∙ d.ends.verb)) in
        subst (λ (x : Option (List Line)). IsParsedAs x (entry_at qs i j)) (sym kept) (subst (IsParsedAs (entry_at s.progress.text.programs i j)) (sym (others i j apart)) (h.parsed i j))
  ];
}
  where
    s : Taken
    s = h.at.state

    t : Taken
    t = d.after.state

    qs : Programs
    qs = programs_of new.programs

-- ---- a source that is refused

told_source : (bytes : List ℕ) (o v : ℕ) (source : List Line) (e : DbFault) (at : ℕ) (k : SyntaxFaultKind) (x : Option ProgramFaultKind) → told_kind k ≡ x → e.kind ≡ source_kind_of o v at x → Blames Any source at k
    → (place : HasProgramAt bytes e.line o v source) → HasProgramsWithin place.reading.state.progress.text → IsRefused bytes (taken_on limited begin bytes) e
told_source bytes o v source e at k None told is blames place parsed = inl is
told_source bytes o v source e at k (Some x) told is blames place parsed = inr (inr (record {
  object = o;
  verb = v;
  fault = record { line = at; kind = x };
  told = is;
  is = record { source = source; place = place; blamed = record { kind = k; told = told; blames = blames }; parsed = parsed };
}))

pub source_refused : (r : ProgramReader) (new : RecordReader) (bytes line : List ℕ) (o v : ℕ) (e : DbFault) (h : IsAfter r bytes) → IsAtDot r.records new bytes line h.at o v
    → ((source : List Line) → entry_at (sources_at new) o v ≡ Some source → IsSourceRefused (taken_of new).lines o v source e) → IsRefused (bytes ++ line) (taken_on limited begin (bytes ++ line)) e
source_refused r new bytes line o v e h d refused =
    let s = h.at.state in
    let t = d.after.state in
    let source = s.progress.source in
    elim (refused source d.had) [
      | inl memory ↦ inl memory
      | inr fault ↦
          let stands = program_stands s t bytes line d.passes o v e.line h.at.leads d.after.leads d.ends (fault.line ∙ ap (λ (n : ℕ). n - length source - 1) (sym d.after.alike.lines)) in
          told_source (bytes ++ line) o v source e fault.at fault.fault (told_kind fault.fault) refl fault.kind fault.blames stands.place
          (subst (λ (p : Progress). HasProgramsWithin p.text) (sym stands.same) (parsed_within s.progress.text (programs_of r.programs) h.parsed))
    ]
