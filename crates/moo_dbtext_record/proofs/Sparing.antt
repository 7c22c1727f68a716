-- What is read does not rest on the sources that have come: a reader that dropped some goes on alike.
use Rattle.std.proofs.Common.{◌≡◌, ℕ, zero, suc, ◌+◌, Bool, true, false, cond, eqb, ltb, List, [], ◌∷◌, ◌++◌, length, Option, Some, None, Result, Ok, Err, refl, sym, ap, subst, ◌∙◌}
use Rattle.std.specs.Prelude.{is_some, slice_index_or, codes}
use Rattle.std.specs.Str.{bytes_eq}
use Rattle.std.proofs.lemmas.List.{map-append}
use Rattle.moo_dbtext_object.specs.Lines.{Line, ◌>>=◌, Sizes, limited, number_of, bounded_count_of, text_of}
use Rattle.moo_dbtext_object.specs.declared.fault.LineFault.{LineFault}
use Rattle.moo_dbtext_object.specs.declared.fault.LineFault.TheVariants.{Truncated, BadProgramLine}
use Rattle.moo_dbtext_object.specs.declared.fault.Refusal.{Refusal}
use Rattle.moo_dbtext_object.specs.declared.fault.Refusal.TheVariants as refusal
use Rattle.moo_dbtext_object.specs.Objects.{Object}
use Rattle.moo_dbtext_object.specs.ObjectReading.{Draft, object_line}
use Rattle.moo_dbtext_record.specs.Programs.{Row, Table, entry_at, blank_entry, is_open_in, is_open, with_source_in, with_source}
use Rattle.moo_dbtext_record.specs.Texts.{Text, text_of as text_of_dump}
use Rattle.moo_dbtext_record.specs.Headings.{version_of, head_of, open_verb, verb_named, program_head_of, tasks_of, connection_count_of, connection_of}
use Rattle.moo_dbtext_record.specs.DumpReading.{Progress, verb_read, with_object, after_programs, after_objects, after_players, after_connections, after_head, after_object_line, after_source, dump_step, end_of, ended}
use Rattle.moo_dbtext_record.specs.Answer.{Told, Taken, told, and_then, line_ended, taken_on, unended, finished, finished_with, begin, answer_to, taken_of, StopsAt, Stops, Answers}
use Rattle.moo_dbtext_record.specs.Sparing.{row_marks, marks_of, outline, AreAlike, AreAlikeTaken, IsAt, AnswersBut}
use Rattle.moo_dbtext_record.specs.declared.dump.Dump.{Dump}
use Rattle.moo_dbtext_record.specs.declared.dump_reader.Section.{Section}
use Rattle.moo_dbtext_record.specs.declared.dump_reader.Section.TheVariants as section
use Rattle.moo_dbtext_record.specs.declared.record_reader.RecordReader.{RecordReader}
use Rattle.moo_dbtext_record.specs.declared.record_reader.RecordFault.{RecordFault}
use Rattle.moo_dbtext_record.proofs.TakenLaws.{taken_on-append}

-- ---- which verbs have sources

open_mark_in : ℕ → List Bool → Bool
open_mark_in v [] = false
open_mark_in zero (false ∷ row) = true
open_mark_in zero (true ∷ row) = false
open_mark_in (suc v) (m ∷ row) = open_mark_in v row

open_mark : ℕ → ℕ → List (List Bool) → Bool
open_mark o v [] = false
open_mark zero v (row ∷ table) = open_mark_in v row
open_mark (suc o) v (row ∷ table) = open_mark o v table

open_marked_in : (row : Row) (v : ℕ) → is_open_in v row ≡ open_mark_in v (row_marks row)
unfolding open_mark_in
open_marked_in [] v = refl
open_marked_in (None ∷ row) zero = refl
open_marked_in (Some s ∷ row) zero = refl
open_marked_in (None ∷ row) (suc v) = open_marked_in row v
open_marked_in (Some s ∷ row) (suc v) = open_marked_in row v

open_marked : (t : Table) (o v : ℕ) → is_open o v t ≡ open_mark o v (marks_of t)
unfolding open_mark
open_marked [] o v = refl
open_marked (row ∷ t) zero v = open_marked_in row v
open_marked (row ∷ t) (suc o) v = open_marked t o v

pub open_alike : (a b : Table) (o v : ℕ) → marks_of a ≡ marks_of b → is_open o v a ≡ is_open o v b
open_alike a b o v h = open_marked a o v ∙ ap (open_mark o v) h ∙ sym (open_marked b o v)

put_mark_in : ℕ → List Bool → List Bool
put_mark_in v [] = []
put_mark_in zero (m ∷ row) = true ∷ row
put_mark_in (suc v) (m ∷ row) = m ∷ put_mark_in v row

put_mark : ℕ → ℕ → List (List Bool) → List (List Bool)
put_mark o v [] = []
put_mark zero v (row ∷ table) = put_mark_in v row ∷ table
put_mark (suc o) v (row ∷ table) = row ∷ put_mark o v table

put_marked_in : (row : Row) (v : ℕ) (s : List Line) → row_marks (with_source_in v s row) ≡ put_mark_in v (row_marks row)
unfolding put_mark_in
put_marked_in [] v s = refl
put_marked_in (p ∷ row) zero s = refl
put_marked_in (p ∷ row) (suc v) s = ap (λ (r : List Bool). is_some p ∷ r) (put_marked_in row v s)

put_marked : (t : Table) (o v : ℕ) (s : List Line) → marks_of (with_source o v s t) ≡ put_mark o v (marks_of t)
unfolding put_mark
put_marked [] o v s = refl
put_marked (row ∷ t) zero v s = ap (λ (r : List Bool). r ∷ marks_of t) (put_marked_in row v s)
put_marked (row ∷ t) (suc o) v s = ap (λ (m : List (List Bool)). row_marks row ∷ m) (put_marked t o v s)

put_alike : (a b : Table) (o v : ℕ) (s : List Line) → marks_of a ≡ marks_of b → marks_of (with_source o v s a) ≡ marks_of (with_source o v s b)
put_alike a b o v s h = put_marked a o v s ∙ ap (put_mark o v) h ∙ sym (put_marked b o v s)

push_alike : (a b : Table) (e : Option Object) → marks_of a ≡ marks_of b → marks_of (a ++ blank_entry e ∷ []) ≡ marks_of (b ++ blank_entry e ∷ [])
push_alike a b e h = map-append row_marks a (blank_entry e ∷ []) ∙ ap (λ (m : List (List Bool)). m ++ row_marks (blank_entry e) ∷ []) h ∙ sym (map-append row_marks b (blank_entry e ∷ []))

kept_in : (row : Row) (v : ℕ) (s x : List Line) → slice_index_or row v None ≡ Some x → row_marks (with_source_in v s row) ≡ row_marks row
kept_in [] v s x h = refl
kept_in (None ∷ row) zero s x h = absurd cc
kept_in (Some y ∷ row) zero s x h = refl
kept_in (p ∷ row) (suc v) s x h = ap (λ (r : List Bool). is_some p ∷ r) (kept_in row v s x h)

-- a verb that has a source has one, whatever becomes of it
pub marks_kept : (t : Table) (o v : ℕ) (s x : List Line) → entry_at t o v ≡ Some x → marks_of (with_source o v s t) ≡ marks_of t
marks_kept [] o v s x h = refl
marks_kept (row ∷ t) zero v s x h = ap (λ (r : List Bool). r ∷ marks_of t) (kept_in row v s x h)
marks_kept (row ∷ t) (suc o) v s x h = ap (λ (m : List (List Bool)). row_marks row ∷ m) (marks_kept t o v s x h)

-- ---- what comes next

abbrev texted : Progress → Text → Progress
texted p t = record p { text = t }

programs_alike : (p q : Progress) (t u : Text) (n : ℕ) → AreAlike (texted p t) (texted q u) → AreAlike (after_programs p t n) (after_programs q u n)
programs_alike p q t u zero h = record { rest = ap (λ (r : Progress). record r { section = section.Clocks }) h.rest; same = h.same }
programs_alike p q t u (suc n) h = record { rest = ap (λ (r : Progress). record r { section = section.ProgramHead; programs_left = n }) h.rest; same = h.same }

objects_alike : (p q : Progress) (t u : Text) (n : ℕ) → AreAlike (texted p t) (texted q u) → AreAlike (after_objects p t n) (after_objects q u n)
objects_alike p q t u zero h =
    let left : p.programs_left ≡ q.programs_left = ap (λ (r : Progress). r.programs_left) h.rest in
    subst (λ (n : ℕ). AreAlike (after_programs p t p.programs_left) (after_programs q u n)) left (programs_alike p q t u p.programs_left h)
objects_alike p q t u (suc n) h = record { rest = ap (λ (r : Progress). record r { section = section.Head; objects_left = n }) h.rest; same = h.same }

players_alike : (p q : Progress) (t u : Text) (n : ℕ) → AreAlike (texted p t) (texted q u) → AreAlike (after_players p t n) (after_players q u n)
players_alike p q t u zero h =
    let left : p.objects_left ≡ q.objects_left = ap (λ (r : Progress). r.objects_left) h.rest in
    subst (λ (n : ℕ). AreAlike (after_objects p t p.objects_left) (after_objects q u n)) left (objects_alike p q t u p.objects_left h)
players_alike p q t u (suc n) h = record { rest = ap (λ (r : Progress). record r { section = section.Player; left = n }) h.rest; same = h.same }

connections_alike : (p q : Progress) (t u : Text) (n : ℕ) → AreAlike (texted p t) (texted q u) → AreAlike (after_connections p t n) (after_connections q u n)
connections_alike p q t u zero h = record { rest = ap (λ (r : Progress). record r { section = section.End }) h.rest; same = h.same }
connections_alike p q t u (suc n) h = record { rest = ap (λ (r : Progress). record r { section = section.Connection; left = n }) h.rest; same = h.same }

-- ---- a line

abbrev AlikeSteps : Result Progress LineFault → Result Progress LineFault → Type 0
AlikeSteps (Ok p) (Ok q) = AreAlike p q
AlikeSteps (Err e) (Err f) = e ≡ f
AlikeSteps (Ok p) (Err f) = ⊥
AlikeSteps (Err e) (Ok q) = ⊥

abbrev tabled : Progress → Table → Progress
tabled p a = record p { text = record p.text { programs = a } }

same_bind : {A B : Type 0} (r : Result A LineFault) (f g : A → Result B LineFault) → ((x : A) → f x ≡ g x) → (r >>= f) ≡ (r >>= g)
same_bind (Ok x) f g h = h x
same_bind (Err e) f g h = refl

heads_alike : (a b : Table) (line : Line) → marks_of a ≡ marks_of b → program_head_of a line ≡ program_head_of b line
unfolding program_head_of
heads_alike a b line h = same_bind (verb_named line) (open_verb a) (open_verb b) (λ v. ap (λ (c : Bool). cond c (Ok v) (Err BadProgramLine)) (open_alike a b v.0 v.1 h))

module _ (z : Sizes) (p : Progress) (a b : Table) (h : marks_of a ≡ marks_of b) where
  both : {A : Type 0} (r : Result A LineFault) (f : Progress → A → Progress) → ((x : A) → AreAlike (f (tabled p a) x) (f (tabled p b) x)) → AlikeSteps (r >>= λ x. Ok (f (tabled p a) x)) (r >>= λ x. Ok (f (tabled p b) x))
  both (Ok x) f k = k x
  both (Err e) f k = refl

  head_alike : (live : Bool) → AreAlike (after_head (tabled p a) live) (after_head (tabled p b) live)
  head_alike true = record { rest = refl; same = h }
  head_alike false = objects_alike (tabled p a) (tabled p b) (with_object (tabled p a).text None) (with_object (tabled p b).text None) p.objects_left (record { rest = refl; same = push_alike a b None h })

  object_alike : (r : Draft × Option Object) → AreAlike (after_object_line (tabled p a) r) (after_object_line (tabled p b) r)
  object_alike (d, None) = record { rest = refl; same = h }
  object_alike (d, Some o) = objects_alike (record (tabled p a) { draft = d }) (record (tabled p b) { draft = d }) (with_object (tabled p a).text (Some o)) (with_object (tabled p b).text (Some o)) p.objects_left (record { rest = refl; same = push_alike a b (Some o) h })

  source_alike : (line : Line) (dot : Bool)
      → AlikeSteps (cond dot (Ok (after_source (tabled p a))) (text_of z line >>= λ x. Ok (record (tabled p a) { section = section.Source; source = p.source ++ x ∷ [] })))
      (cond dot (Ok (after_source (tabled p b))) (text_of z line >>= λ x. Ok (record (tabled p b) { section = section.Source; source = p.source ++ x ∷ [] })))
  source_alike line true = programs_alike (record (tabled p a) { source = [] }) (record (tabled p b) { source = [] }) (record p.text { programs = with_source p.object p.verb p.source a }) (record p.text { programs = with_source p.object p.verb p.source b }) p.programs_left
      (record { rest = refl; same = put_alike a b p.object p.verb p.source h })
  source_alike line false = both (text_of z line) (λ q x. record q { section = section.Source; source = q.source ++ x ∷ [] }) (λ x. record { rest = refl; same = h })

  step_tables : (x : Section) (line : Line) → AlikeSteps (dump_step z x (tabled p a) line) (dump_step z x (tabled p b) line)
  unfolding dump_step
  step_tables section.Header line = both (version_of line) (λ q v. record q { section = section.ObjectCount; text = record q.text { version = v } }) (λ v. record { rest = refl; same = h })
  step_tables section.ObjectCount line = both (bounded_count_of z line) (λ q n. record q { section = section.ProgramCount; objects_left = n }) (λ n. record { rest = refl; same = h })
  step_tables section.ProgramCount line = both (bounded_count_of z line) (λ q n. record q { section = section.Unused; programs_left = n }) (λ n. record { rest = refl; same = h })
  step_tables section.Unused line = both (number_of line) (λ q n. record q { section = section.PlayerCount }) (λ n. record { rest = refl; same = h })
  step_tables section.PlayerCount line = both (bounded_count_of z line) (λ q n. after_players q q.text n) (λ n. players_alike (tabled p a) (tabled p b) (tabled p a).text (tabled p b).text n (record { rest = refl; same = h }))
  step_tables section.Player line = both (number_of line) (λ q n. after_players q (record q.text { players = q.text.players ++ n ∷ [] }) q.left)
      (λ n. players_alike (tabled p a) (tabled p b) (record (tabled p a).text { players = p.text.players ++ n ∷ [] }) (record (tabled p b).text { players = p.text.players ++ n ∷ [] }) p.left (record { rest = refl; same = h }))
  step_tables section.Head line = both (head_of (length p.text.objects) line) after_head head_alike
  step_tables section.Object line = both (object_line z p.draft line) after_object_line object_alike
  step_tables section.ProgramHead line =
      subst (λ (r : Result (ℕ × ℕ) LineFault). AlikeSteps (program_head_of a line >>= λ v. Ok (record (tabled p a) { section = section.Source; object = v.0; verb = v.1 })) (r >>= λ v. Ok (record (tabled p b) { section = section.Source; object = v.0; verb = v.1 }))) (heads_alike a b line h)
      (both (program_head_of a line) (λ q v. record q { section = section.Source; object = v.0; verb = v.1 }) (λ v. record { rest = refl; same = h }))
  step_tables section.Source line = source_alike line (bytes_eq line (codes "."))
  step_tables section.Clocks line = both (tasks_of (codes "clocks") line) (λ q n. record q { section = section.Queued }) (λ n. record { rest = refl; same = h })
  step_tables section.Queued line = both (tasks_of (codes "queued tasks") line) (λ q n. record q { section = section.Suspended }) (λ n. record { rest = refl; same = h })
  step_tables section.Suspended line = both (tasks_of (codes "suspended tasks") line) (λ q n. record q { section = section.ConnectionCount }) (λ n. record { rest = refl; same = h })
  step_tables section.ConnectionCount line = both (connection_count_of z line) (λ q c. after_connections q (record q.text { form = c.0 }) c.1)
      (λ c. connections_alike (tabled p a) (tabled p b) (record (tabled p a).text { form = c.0 }) (record (tabled p b).text { form = c.0 }) c.1 (record { rest = refl; same = h }))
  step_tables section.Connection line = both (connection_of p.text.form line) (λ q l. after_connections q (record q.text { links = q.text.links ++ l ∷ [] }) q.left)
      (λ l. connections_alike (tabled p a) (tabled p b) (record (tabled p a).text { links = p.text.links ++ l ∷ [] }) (record (tabled p b).text { links = p.text.links ++ l ∷ [] }) p.left (record { rest = refl; same = h }))
  step_tables section.End line = refl

  reads_tables : (x : Section) → verb_read x (tabled p a) ≡ verb_read x (tabled p b)
  reads_tables section.Header = refl
  reads_tables section.ObjectCount = refl
  reads_tables section.ProgramCount = refl
  reads_tables section.Unused = refl
  reads_tables section.PlayerCount = refl
  reads_tables section.Player = refl
  reads_tables section.Head = refl
  reads_tables section.Object = refl
  reads_tables section.ProgramHead = refl
  reads_tables section.Source = refl
  reads_tables section.Clocks = refl
  reads_tables section.Queued = refl
  reads_tables section.Suspended = refl
  reads_tables section.ConnectionCount = refl
  reads_tables section.Connection = refl
  reads_tables section.End = refl

-- what is alike differs in its sources alone
tables_apart : (p q : Progress) → AreAlike p q → tabled p q.text.programs ≡ q
tables_apart p q h = ap (λ (r : Progress). tabled r q.text.programs) h.rest

step_alike : (z : Sizes) (p q : Progress) (line : Line) → AreAlike p q → AlikeSteps (dump_step z p.section p line) (dump_step z q.section q line)
step_alike z p q line h =
    subst (λ (r : Progress). AlikeSteps (dump_step z p.section p line) (dump_step z r.section r line)) (tables_apart p q h) (step_tables z p p.text.programs q.text.programs h.same p.section line)

pub reads_alike : (p q : Progress) → AreAlike p q → verb_read p.section p ≡ verb_read q.section q
reads_alike p q h = reads_tables limited p p.text.programs q.text.programs h.same p.section ∙ ap (λ (r : Progress). verb_read r.section r) (tables_apart p q h)

-- ---- bytes

abbrev AlikeAnswers : Result Taken Told → Result Taken Told → Type 0
AlikeAnswers (Ok s) (Ok t) = AreAlikeTaken s t
AlikeAnswers (Err e) (Err f) = e ≡ f
AlikeAnswers (Ok s) (Err f) = ⊥
AlikeAnswers (Err e) (Ok t) = ⊥

abbrev told_at : ℕ → LineFault → Told
told_at n f = record { line = n; fault = f }

same_told : (n m : ℕ) (e f : LineFault) → n ≡ m → e ≡ f → told_at n e ≡ told_at m f
same_told n m e f h k = ap (λ (i : ℕ). told_at i e) h ∙ ap (told_at m) k

line_alike : (z : Sizes) (s t : Taken) (line : Line) → AreAlikeTaken s t → AlikeAnswers (line_ended z s line) (line_ended z t line)
unfolding line_ended
line_alike z s t line h = past (dump_step z s.progress.section s.progress line) (dump_step z t.progress.section t.progress line) (step_alike z s.progress t.progress line h.progress)
  where
    past : (a b : Result Progress LineFault) → AlikeSteps a b
        → AlikeAnswers (and_then (told (s.lines + 1) a) (λ p. Ok (record { lines = s.lines + 1; progress = p; rest = [] }))) (and_then (told (t.lines + 1) b) (λ p. Ok (record { lines = t.lines + 1; progress = p; rest = [] })))
    past (Ok p) (Ok q) k = record { lines = ap (λ (n : ℕ). n + 1) h.lines; rest = refl; progress = k }
    past (Err e) (Err f) k = same_told (s.lines + 1) (t.lines + 1) e f (ap (λ (n : ℕ). n + 1) h.lines) k
    past (Ok p) (Err f) k = absurd k
    past (Err e) (Ok q) k = absurd k

pub bytes_alike : (z : Sizes) (bs : List ℕ) (s t : Taken) → AreAlikeTaken s t → AlikeAnswers (taken_on z s bs) (taken_on z t bs)
unfolding taken_on
bytes_alike z [] s t h = h
bytes_alike z (b ∷ bs) s t h = decide (eqb b 10) (λ u v k. bytes_alike z bs u v k)
  where
    next : ((u v : Taken) → AreAlikeTaken u v → AlikeAnswers (taken_on z u bs) (taken_on z v bs)) → (a c : Result Taken Told) → AlikeAnswers a c → AlikeAnswers (and_then a (λ u. taken_on z u bs)) (and_then c (λ u. taken_on z u bs))
    next rest (Ok u) (Ok v) k = rest u v k
    next rest (Err e) (Err f) k = k
    next rest (Ok u) (Err f) k = absurd k
    next rest (Err e) (Ok v) k = absurd k

    decide : (is : Bool) → ((u v : Taken) → AreAlikeTaken u v → AlikeAnswers (taken_on z u bs) (taken_on z v bs))
        → AlikeAnswers (cond is (and_then (line_ended z s s.rest) (λ u. taken_on z u bs)) (taken_on z (record s { rest = s.rest ++ b ∷ [] }) bs))
        (cond is (and_then (line_ended z t t.rest) (λ u. taken_on z u bs)) (taken_on z (record t { rest = t.rest ++ b ∷ [] }) bs))
    decide true rest = next rest (line_ended z s s.rest) (line_ended z t t.rest) (subst (λ (r : Line). AlikeAnswers (line_ended z s s.rest) (line_ended z t r)) h.rest (line_alike z s t s.rest h))
    decide false rest = rest (record s { rest = s.rest ++ b ∷ [] }) (record t { rest = t.rest ++ b ∷ [] }) (record { lines = h.lines; rest = ap (λ (r : Line). r ++ b ∷ []) h.rest; progress = h.progress })

-- ---- a reader

pub alike_self : (s : Taken) → AreAlikeTaken s s
alike_self s = record { lines = refl; rest = refl; progress = record { rest = refl; same = refl } }

pub alike_then : (s t u : Taken) → AreAlikeTaken s t → AreAlikeTaken t u → AreAlikeTaken s u
alike_then s t u h k = record {
  lines = h.lines ∙ k.lines;
  rest = h.rest ∙ k.rest;
  progress = record { rest = h.progress.rest ∙ k.progress.rest; same = h.progress.same ∙ k.progress.same };
}

leads_on : (r : RecordReader) (bytes piece : List ℕ) (h : IsAt r bytes) → taken_on limited begin (bytes ++ piece) ≡ taken_on limited h.state piece
leads_on r bytes piece h = taken_on-append limited begin bytes piece ∙ ap (λ (x : Result Taken Told). and_then x (λ t. taken_on limited t piece)) h.leads

-- a piece more
pub at_on : (r u : RecordReader) (bytes piece : List ℕ) → IsAt r bytes → taken_on limited (taken_of r) piece ≡ Ok (taken_of u) → IsAt u (bytes ++ piece)
at_on r u bytes piece h e = on (taken_on limited h.state piece) refl (subst (AlikeAnswers (taken_on limited h.state piece)) e (bytes_alike limited piece h.state (taken_of r) h.alike))
  where
    on : (a : Result Taken Told) → taken_on limited h.state piece ≡ a → AlikeAnswers a (Ok (taken_of u)) → IsAt u (bytes ++ piece)
    on (Ok s) f k = record { state = s; leads = leads_on r bytes piece h ∙ f; alike = k }
    on (Err x) f k = absurd k

stopped : (at : Told) (a : Result Taken Told) → AlikeAnswers a (Err at) → a ≡ Err at
stopped at (Ok s) k = absurd k
stopped at (Err e) k = ap Err k

pub at_stops : (r : RecordReader) (bytes piece : List ℕ) (e : RecordFault) → IsAt r bytes → Stops e (taken_on limited (taken_of r) piece) → Stops e (taken_on limited begin (bytes ++ piece))
at_stops r bytes piece e h stops = at e.kind stops
  where
    at : (k : Refusal) → StopsAt k e.line (taken_on limited (taken_of r) piece) → StopsAt k e.line (taken_on limited begin (bytes ++ piece))
    at refusal.Memory g = tt
    at (refusal.Fault f) g =
        leads_on r bytes piece h ∙ stopped (told_at e.line f) (taken_on limited h.state piece) (subst (AlikeAnswers (taken_on limited h.state piece)) g (bytes_alike limited piece h.state (taken_of r) h.alike))

-- ---- the end

abbrev AlikeEnds : {E : Type 0} → Result Text E → Result Text E → Type 0
AlikeEnds (Ok t) (Ok u) = outline t ≡ outline u
AlikeEnds (Err e) (Err f) = e ≡ f
AlikeEnds (Ok t) (Err f) = ⊥
AlikeEnds (Err e) (Ok u) = ⊥

end_alike : (x : Section) (t u : Text) → outline t ≡ outline u → AlikeEnds (end_of x t) (end_of x u)
end_alike section.End t u h = h
end_alike section.ConnectionCount t u h =
    subst (λ (v : ℕ). AlikeEnds (cond (ltb t.version 4) (Ok t) (Err Truncated)) (cond (ltb v 4) (Ok u) (Err Truncated))) (ap (λ (x : Text). x.version) h) (decide (ltb t.version 4))
  where
    decide : (low : Bool) → AlikeEnds (cond low (Ok t) (Err Truncated)) (cond low (Ok u) (Err Truncated))
    decide true = h
    decide false = refl
end_alike section.Header t u h = refl
end_alike section.ObjectCount t u h = refl
end_alike section.ProgramCount t u h = refl
end_alike section.Unused t u h = refl
end_alike section.PlayerCount t u h = refl
end_alike section.Player t u h = refl
end_alike section.Head t u h = refl
end_alike section.Object t u h = refl
end_alike section.ProgramHead t u h = refl
end_alike section.Source t u h = refl
end_alike section.Clocks t u h = refl
end_alike section.Queued t u h = refl
end_alike section.Suspended t u h = refl
end_alike section.Connection t u h = refl

told_alike : (n m : ℕ) (a b : Result Text LineFault) → n ≡ m → AlikeEnds a b → AlikeEnds (told n a) (told m b)
told_alike n m (Ok t) (Ok u) h k = k
told_alike n m (Err e) (Err f) h k = same_told n m e f h k
told_alike n m (Ok t) (Err f) h k = absurd k
told_alike n m (Err e) (Ok u) h k = absurd k

finished_alike : (s t : Taken) → AreAlikeTaken s t → AlikeEnds (finished s) (finished t)
unfolding finished ended
finished_alike s t h = subst (λ (r : Line). AlikeEnds (finished_with s s.rest) (finished_with t r)) h.rest (last s.rest)
  where
    next : s.lines + 1 ≡ t.lines + 1
    next = ap (λ (n : ℕ). n + 1) h.lines

    section_is : s.progress.section ≡ t.progress.section
    section_is = ap (λ (p : Progress). p.section) h.progress.rest

    last : (rest : Line) → AlikeEnds (finished_with s rest) (finished_with t rest)
    last [] = told_alike (s.lines + 1) (t.lines + 1) (end_of s.progress.section s.progress.text) (end_of t.progress.section t.progress.text) next
        (subst (λ (x : Section). AlikeEnds (end_of s.progress.section s.progress.text) (end_of x t.progress.text)) section_is (end_alike s.progress.section s.progress.text t.progress.text (ap (λ (p : Progress). p.text) h.progress.rest)))
    last (b ∷ bs) = same_told (s.lines + 1) (t.lines + 1) (unended s.progress.section) (unended t.progress.section) next (ap unended section_is)

pub at_end : (r : RecordReader) (bytes : List ℕ) (d : Result Dump RecordFault) → IsAt r bytes → Answers text_of_dump d (finished (taken_of r)) → AnswersBut d (answer_to limited bytes)
unfolding answer_to
at_end r bytes d h answers = subst (AnswersBut d) (sym (ap (λ (x : Result Taken Told). and_then x finished) h.leads)) (by d (finished h.state) (finished (taken_of r)) (finished_alike h.state (taken_of r) h.alike) answers)
  where
    ended_so : (k : Refusal) (n : ℕ) (a b : Result Text Told) → AlikeEnds a b → StopsAt k n b → StopsAt k n a
    ended_so refusal.Memory n a b k g = tt
    ended_so (refusal.Fault f) n (Ok t) b k g = absurd (subst (AlikeEnds (Ok t)) g k)
    ended_so (refusal.Fault f) n (Err e) b k g = ap Err (subst (AlikeEnds (Err e)) g k)

    by : (d : Result Dump RecordFault) (a b : Result Text Told) → AlikeEnds a b → Answers text_of_dump d b → AnswersBut d a
    by (Ok dump) (Ok t) b k g = (t, refl, subst (AlikeEnds (Ok t)) g k)
    by (Ok dump) (Err e) b k g = absurd (subst (AlikeEnds (Err e)) g k)
    by (Err e) a b k g = ended_so e.kind e.line a b k g
