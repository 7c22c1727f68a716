-- The sources that have come: what a line does to them, and that they stay.
use Rattle.std.proofs.Common.{◌≡◌, ℕ, zero, suc, ◌+◌, Bool, true, false, cond, eqb, ltb, List, [], ◌∷◌, ◌++◌, length, Option, Some, None, Result, Ok, Err, inl, inr, refl, sym, ap, subst, ◌∙◌, append_assoc}
use Rattle.std.specs.Prelude.{codes, map, slice_index_or}
use Rattle.std.specs.Str.{bytes_eq}
use Rattle.std.proofs.lemmas.Slice.Eq.{bytes_eq-Decides}
use Rattle.moo_dbtext_object.specs.declared.fault.LineFault.{LineFault}
use Rattle.moo_dbtext_object.specs.declared.fault.LineFault.TheVariants.{Truncated}
use Rattle.moo_dbtext_object.specs.Lines.{Line, ◌>>=◌, Sizes, limited, unlimited, number_of, bounded_count_of, text_of, unlines}
use Rattle.moo_dbtext_object.proofs.Steps.{ok_is}
use Rattle.moo_dbtext_object.proofs.LineLaws.{chosen_ok}
use Rattle.moo_dbtext_object.specs.Objects.{Verb, Object}
use Rattle.moo_dbtext_object.specs.ObjectReading.{Draft, object_line}
use Rattle.moo_dbtext_record.specs.Programs.{Row, Table, entry_at, no_program, blank_entry, is_open_in, is_open, with_source_in, with_source}
use Rattle.moo_dbtext_record.specs.Texts.{Text, Slack, Spells}
use Rattle.moo_dbtext_record.specs.Headings.{version_of, head_of, program_head_of, tasks_of, connection_count_of, connection_of}
use Rattle.moo_dbtext_record.specs.DumpReading.{Progress, verb_read, after_programs, after_objects, after_players, after_connections, with_object, after_head, after_object_line, after_source, dump_step, end_of, ended}
use Rattle.moo_dbtext_record.specs.Answer.{Told, Taken, told, and_then, line_ended, taken_on, finished, finished_with, begin, answer_to, HasNoEnd}
use Rattle.moo_dbtext_record.specs.declared.dump_reader.Section.{Section}
use Rattle.moo_dbtext_record.specs.declared.dump_reader.Section.TheVariants as section
use Rattle.moo_dbtext_record.proofs.DumpProgress.{Keeps, progress_read}
use Rattle.moo_dbtext_record.proofs.TakenLaws.{taken_on-append, line_taken}
use Rattle.moo_dbtext_record.proofs.AnswerFound.{IsTaken, then_ok, told_ok, line_found, taken_found, begins}
use Rattle.moo_dbtext_record.proofs.AnswerAgain.{answer_again}
use Rattle.moo_dbtext_record.proofs.AnswerCut.{taken_cut}

-- ---- the entry of a verb

there_in : (row : Row) (v : ℕ) (s : List Line) → is_open_in v row ≡ true → slice_index_or (with_source_in v s row) v None ≡ Some s
there_in [] v s h = absurd cc
there_in (p ∷ row) zero s h = refl
there_in (None ∷ row) (suc v) s h = there_in row v s h
there_in (Some x ∷ row) (suc v) s h = there_in row v s h

pub entry_there : (t : Table) (o v : ℕ) (s : List Line) → is_open o v t ≡ true → entry_at (with_source o v s t) o v ≡ Some s
entry_there [] o v s h = absurd cc
entry_there (row ∷ t) zero v s h = there_in row v s h
entry_there (row ∷ t) (suc o) v s h = entry_there t o v s h

other_in : (row : Row) (v : ℕ) (s : List Line) (j : ℕ) → (j ≡ v → ⊥) → slice_index_or (with_source_in v s row) j None ≡ slice_index_or row j None
other_in [] v s j h = refl
other_in (p ∷ row) zero s zero h = absurd (h refl)
other_in (p ∷ row) zero s (suc j) h = refl
other_in (p ∷ row) (suc v) s zero h = refl
other_in (p ∷ row) (suc v) s (suc j) h = other_in row v s j (λ e. h (ap suc e))

pub entry_other : (t : Table) (o v : ℕ) (s : List Line) (i j : ℕ) → (i ≡ o → j ≡ v → ⊥) → entry_at (with_source o v s t) i j ≡ entry_at t i j
entry_other [] o v s i j h = refl
entry_other (row ∷ t) zero v s zero j h = other_in row v s j (h refl)
entry_other (row ∷ t) zero v s (suc i) j h = refl
entry_other (row ∷ t) (suc o) v s zero j h = refl
entry_other (row ∷ t) (suc o) v s (suc i) j h = entry_other t o v s i j (λ e. h (ap suc e))

open_in : (row : Row) (v : ℕ) → is_open_in v row ≡ true → slice_index_or row v None ≡ None
open_in [] v h = refl
open_in (None ∷ row) zero h = refl
open_in (Some s ∷ row) zero h = absurd cc
open_in (None ∷ row) (suc v) h = open_in row v h
open_in (Some s ∷ row) (suc v) h = open_in row v h

entry_open : (t : Table) (o v : ℕ) → is_open o v t ≡ true → entry_at t o v ≡ None
entry_open [] o v h = absurd cc
entry_open (row ∷ t) zero v h = open_in row v h
entry_open (row ∷ t) (suc o) v h = entry_open t o v h

blank_in : (o : Option Object) (j : ℕ) → slice_index_or (blank_entry o) j None ≡ None
blank_in None j = refl
blank_in (Some o) j = blank o.body.verbs j
  where
    blank : (vs : List Verb) (j : ℕ) → slice_index_or (map no_program vs) j None ≡ None
    blank [] j = refl
    blank (v ∷ vs) zero = refl
    blank (v ∷ vs) (suc j) = blank vs j

entry_push : (t : Table) (o : Option Object) (i j : ℕ) → entry_at (t ++ blank_entry o ∷ []) i j ≡ entry_at t i j
entry_push [] o zero j = blank_in o j
entry_push [] o (suc i) j = refl
entry_push (row ∷ t) o zero j = refl
entry_push (row ∷ t) o (suc i) j = entry_push t o i j

-- ---- a line

-- no source came
abbrev pub SameSources : Progress → Progress → Type 0
SameSources p q = (o v : ℕ) → entry_at q.text.programs o v ≡ entry_at p.text.programs o v

-- the source that was being read came, and no other
pub record EndsSource (p q : Progress) : Type 0 where
  pub free : entry_at p.text.programs p.object p.verb ≡ None
  pub there : entry_at q.text.programs p.object p.verb ≡ Some p.source
  pub others : (o v : ℕ) → (o ≡ p.object → v ≡ p.verb → ⊥) → entry_at q.text.programs o v ≡ entry_at p.text.programs o v

-- What a line does: no source comes, and none was being read or one still is; or the dot ends one.
pub data Does (x : Section) (p : Progress) (line : Line) (q : Progress) : Type 0 where
  none_read : verb_read x p ≡ None → SameSources p q → Does x p line q
  reads_on : (verb : ℕ × ℕ) → verb_read q.section q ≡ Some verb → SameSources p q → Does x p line q
  ends : x ≡ section.Source → line ≡ codes "." → verb_read q.section q ≡ None → EndsSource p q → Does x p line q

pub after_programs_text : (p : Progress) (t : Text) (n : ℕ) → (after_programs p t n).text ≡ t
after_programs_text p t zero = refl
after_programs_text p t (suc n) = refl

after_objects_text : (p : Progress) (t : Text) (n : ℕ) → (after_objects p t n).text ≡ t
after_objects_text p t zero = after_programs_text p t p.programs_left
after_objects_text p t (suc n) = refl

after_players_text : (p : Progress) (t : Text) (n : ℕ) → (after_players p t n).text ≡ t
after_players_text p t zero = after_objects_text p t p.objects_left
after_players_text p t (suc n) = refl

pub after_connections_text : (p : Progress) (t : Text) (n : ℕ) → (after_connections p t n).text ≡ t
after_connections_text p t zero = refl
after_connections_text p t (suc n) = refl

same_text : (p q : Progress) (t : Text) → q.text ≡ t → t.programs ≡ p.text.programs → SameSources p q
same_text p q t e f o v = ap (λ (u : Text). entry_at u.programs o v) e ∙ ap (λ (ps : Table). entry_at ps o v) f

pushed_text : (p q : Progress) (e : Option Object) → q.text ≡ with_object p.text e → SameSources p q
pushed_text p q e f o v = ap (λ (u : Text). entry_at u.programs o v) f ∙ entry_push p.text.programs e o v

pub by_step : {A : Type 0} (P : Progress → Type 0) (found : Result A LineFault) (f : A → Progress) (q : Progress) → ((x : A) → P (f x)) → (found >>= λ x. Ok (f x)) ≡ Ok q → P q
by_step P (Ok x) f q h e = subst P (ok_is (f x) q e) (h x)
by_step P (Err d) f q h e = absurd cc

-- ---- the sections

head_does : (p : Progress) (live : Bool) → SameSources p (after_head p live)
head_does p true = λ o v. refl
head_does p false = pushed_text p (after_head p false) None (after_objects_text p (with_object p.text None) p.objects_left)

object_does : (p : Progress) (r : Draft × Option Object) → SameSources p (after_object_line p r)
object_does p (d, None) = λ o v. refl
object_does p (d, Some o) = pushed_text p (after_object_line p (d, Some o)) (Some o) (after_objects_text (record p { draft = d }) (with_object p.text (Some o)) p.objects_left)

after_programs_reads : (p : Progress) (t : Text) (n : ℕ) → verb_read (after_programs p t n).section (after_programs p t n) ≡ None
after_programs_reads p t zero = refl
after_programs_reads p t (suc n) = refl

source_ends : (p : Progress) → is_open p.object p.verb p.text.programs ≡ true → EndsSource p (after_source p)
source_ends p free =
    let t = record p.text { programs = with_source p.object p.verb p.source p.text.programs } in
    let is : (after_source p).text ≡ t = after_programs_text (record p { source = [] }) t p.programs_left in
    record {
      free = entry_open p.text.programs p.object p.verb free;
      there = ap (λ (u : Text). entry_at u.programs p.object p.verb) is ∙ entry_there p.text.programs p.object p.verb p.source free;
      others = λ o v h. ap (λ (u : Text). entry_at u.programs o v) is ∙ entry_other p.text.programs p.object p.verb p.source o v h;
    }

-- a dot puts the source that was being read
pub dot_puts : (p : Progress) (line : Line) (q : Progress) → is_open p.object p.verb p.text.programs ≡ true → p.section ≡ section.Source → line ≡ codes "." → dump_step limited p.section p line ≡ Ok q → entry_at q.text.programs p.object p.verb ≡ Some p.source
unfolding dump_step
dot_puts p line q free is dot e =
    let at_dot : dump_step limited section.Source p (codes ".") ≡ Ok q = subst (λ (x : Section). dump_step limited x p (codes ".") ≡ Ok q) is (subst (λ (l : Line). dump_step limited p.section p l ≡ Ok q) dot e) in
    subst (λ (r : Progress). entry_at r.text.programs p.object p.verb ≡ Some p.source) (ok_is (after_source p) q at_dot) (source_ends p free).there

source_does : (s : Sizes) (p : Progress) (line : Line) (q : Progress) → is_open p.object p.verb p.text.programs ≡ true → (dot : Bool) → bytes_eq line (codes ".") ≡ dot
    → cond dot (Ok (after_source p)) (text_of s line >>= λ x. Ok (record p { section = section.Source; source = p.source ++ x ∷ [] })) ≡ Ok q → Does section.Source p line q
source_does s p line q free true dot e =
    let t = record p.text { programs = with_source p.object p.verb p.source p.text.programs } in
    subst (Does section.Source p line) (ok_is (after_source p) q e)
    (ends refl ((bytes_eq-Decides line (codes ".")).0 dot) (after_programs_reads (record p { source = [] }) t p.programs_left) (source_ends p free))
source_does s p line q free false dot e = by_step (Does section.Source p line) (text_of s line) (λ x. record p { section = section.Source; source = p.source ++ x ∷ [] }) q
    (λ x. reads_on (p.object, p.verb) refl (λ o v. refl)) e

pub step_does : (s : Sizes) (x : Section) (p : Progress) (line : Line) (q : Progress) → (x ≡ section.Source → is_open p.object p.verb p.text.programs ≡ true) → dump_step s x p line ≡ Ok q → Does x p line q
unfolding dump_step
step_does s section.Header p line q free e = none_read refl (by_step (SameSources p) (version_of line) (λ v. record p { section = section.ObjectCount; text = record p.text { version = v } }) q (λ v o i. refl) e)
step_does s section.ObjectCount p line q free e = none_read refl (by_step (SameSources p) (bounded_count_of s line) (λ n. record p { section = section.ProgramCount; objects_left = n }) q (λ n o i. refl) e)
step_does s section.ProgramCount p line q free e = none_read refl (by_step (SameSources p) (bounded_count_of s line) (λ n. record p { section = section.Unused; programs_left = n }) q (λ n o i. refl) e)
step_does s section.Unused p line q free e = none_read refl (by_step (SameSources p) (number_of line) (λ z. record p { section = section.PlayerCount }) q (λ z o i. refl) e)
step_does s section.PlayerCount p line q free e = none_read refl (by_step (SameSources p) (bounded_count_of s line) (λ n. after_players p p.text n) q
    (λ n. same_text p (after_players p p.text n) p.text (after_players_text p p.text n) refl) e)
step_does s section.Player p line q free e = none_read refl (by_step (SameSources p) (number_of line) (λ z. after_players p (record p.text { players = p.text.players ++ z ∷ [] }) p.left) q
    (λ z. let t = record p.text { players = p.text.players ++ z ∷ [] } in same_text p (after_players p t p.left) t (after_players_text p t p.left) refl) e)
step_does s section.Head p line q free e = none_read refl (by_step (SameSources p) (head_of (length p.text.objects) line) (after_head p) q (head_does p) e)
step_does s section.Object p line q free e = none_read refl (by_step (SameSources p) (object_line s p.draft line) (after_object_line p) q (object_does p) e)
step_does s section.ProgramHead p line q free e = none_read refl (by_step (SameSources p) (program_head_of p.text.programs line) (λ v. record p { section = section.Source; object = v.0; verb = v.1 }) q (λ v o i. refl) e)
step_does s section.Source p line q free e = source_does s p line q (free refl) (bytes_eq line (codes ".")) refl e
step_does s section.Clocks p line q free e = none_read refl (by_step (SameSources p) (tasks_of (codes "clocks") line) (λ none. record p { section = section.Queued }) q (λ none o i. refl) e)
step_does s section.Queued p line q free e = none_read refl (by_step (SameSources p) (tasks_of (codes "queued tasks") line) (λ none. record p { section = section.Suspended }) q (λ none o i. refl) e)
step_does s section.Suspended p line q free e = none_read refl (by_step (SameSources p) (tasks_of (codes "suspended tasks") line) (λ none. record p { section = section.ConnectionCount }) q (λ none o i. refl) e)
step_does s section.ConnectionCount p line q free e = none_read refl (by_step (SameSources p) (connection_count_of s line) (λ c. after_connections p (record p.text { form = c.0 }) c.1) q
    (λ c. let t = record p.text { form = c.0 } in same_text p (after_connections p t c.1) t (after_connections_text p t c.1) refl) e)
step_does s section.Connection p line q free e = none_read refl (by_step (SameSources p) (connection_of p.text.form line) (λ l. after_connections p (record p.text { links = p.text.links ++ l ∷ [] }) p.left) q
    (λ l. let t = record p.text { links = p.text.links ++ l ∷ [] } in same_text p (after_connections p t p.left) t (after_connections_text p t p.left) refl) e)
step_does s section.End p line q free e = absurd cc

-- the verb whose program is read has none
pub free_in : (z : Sizes) (x : Section) (p : Progress) (k : Slack) → Keeps z x p k → x ≡ section.Source → is_open p.object p.verb p.text.programs ≡ true
free_in z section.Source p k h e = h.1.free
free_in z section.Header p k h e = absurd cc
free_in z section.ObjectCount p k h e = absurd cc
free_in z section.ProgramCount p k h e = absurd cc
free_in z section.Unused p k h e = absurd cc
free_in z section.PlayerCount p k h e = absurd cc
free_in z section.Player p k h e = absurd cc
free_in z section.Head p k h e = absurd cc
free_in z section.Object p k h e = absurd cc
free_in z section.ProgramHead p k h e = absurd cc
free_in z section.Clocks p k h e = absurd cc
free_in z section.Queued p k h e = absurd cc
free_in z section.Suspended p k h e = absurd cc
free_in z section.ConnectionCount p k h e = absurd cc
free_in z section.Connection p k h e = absurd cc
free_in z section.End p k h e = absurd cc

pub line_does : (z : Sizes) (s : Taken) (bytes : List ℕ) (line : Line) (q : Progress) → IsTaken z s bytes → dump_step z s.progress.section s.progress line ≡ Ok q → Does s.progress.section s.progress line q
line_does z s bytes line q h e = step_does z s.progress.section s.progress line q (free_in z s.progress.section s.progress h.slack h.is.keeps) e

-- ---- sources stay

-- a source that has come is still there
abbrev pub Stays : Progress → Progress → Type 0
Stays p q = (o v : ℕ) (source : List Line) → entry_at p.text.programs o v ≡ Some source → entry_at q.text.programs o v ≡ Some source

stays_on : (p q r : Progress) → Stays p q → Stays q r → Stays p r
stays_on p q r a b o v source e = b o v source (a o v source e)

same_stays : (p q : Progress) → SameSources p q → Stays p q
same_stays p q h o v source e = h o v ∙ e

ended_stays : (p q : Progress) → EndsSource p q → Stays p q
ended_stays p q h o v source e = h.others o v (λ i j. let free : entry_at p.text.programs o v ≡ None = ap (λ (k : ℕ). entry_at p.text.programs k v) i ∙ ap (λ (k : ℕ). entry_at p.text.programs p.object k) j ∙ h.free in absurd cc) ∙ e

does_stays : {x : Section} {p q : Progress} {line : Line} → Does x p line q → Stays p q
does_stays {p = p} {q = q} (none_read h same) = same_stays p q same
does_stays {p = p} {q = q} (reads_on verb h same) = same_stays p q same
does_stays {p = p} {q = q} (ends is dot after h) = ended_stays p q h

pub sources_stay : (z : Sizes) (bs : List ℕ) (s t : Taken) (bytes : List ℕ) → IsTaken z s bytes → taken_on z s bs ≡ Ok t → Stays s.progress t.progress
unfolding taken_on line_ended
sources_stay z [] s t bytes h e = let ok : Taken → Result Taken Told = λ x. Ok x in let f : ok s ≡ ok t = e in let same : s ≡ t = cc in
    subst (λ (u : Taken). Stays s.progress u.progress) same (λ o v source e. e)
sources_stay z (b ∷ bs) s t bytes h e = decide (eqb b 10) refl (λ u more k f. sources_stay z bs u t more k f) e
  where
    decide : (is : Bool) → eqb b 10 ≡ is → ((u : Taken) (more : List ℕ) → IsTaken z u more → taken_on z u bs ≡ Ok t → Stays u.progress t.progress)
        → cond is (and_then (line_ended z s s.rest) (λ u. taken_on z u bs)) (taken_on z (record s { rest = s.rest ++ b ∷ [] }) bs) ≡ Ok t → Stays s.progress t.progress
    decide true is rest f =
        let c = then_ok (line_ended z s s.rest) (λ u. taken_on z u bs) t f in
        let d = then_ok (told (s.lines + 1) (dump_step z s.progress.section s.progress s.rest)) (λ p. Ok (record { lines = s.lines + 1; progress = p; rest = [] })) c.0 c.1 in
        let made : Taken = record { lines = s.lines + 1; progress = d.0; rest = [] } in
        let same : made ≡ c.0 = let ok : Taken → Result Taken Told = λ x. Ok x in let f : ok made ≡ ok c.0 = d.2 in cc in
        let does = line_does z s bytes s.rest d.0 h (told_ok (s.lines + 1) (dump_step z s.progress.section s.progress s.rest) d.0 d.1) in
        stays_on s.progress c.0.progress t.progress (subst (λ (u : Taken). Stays s.progress u.progress) same (does_stays does)) (rest c.0 (bytes ++ 10 ∷ []) (line_found z s c.0 bytes h c.1) c.2)
    decide false is rest f =
        rest (record s { rest = s.rest ++ b ∷ [] }) (bytes ++ b ∷ []) (record {
          slack = h.slack;
          is = h.is;
          whole = ap (λ (k : List ℕ). k ++ b ∷ []) h.whole ∙ append_assoc (unlines (progress_read s.progress.section s.progress h.slack)) s.rest (b ∷ []);
          count = h.count;
        }) f

-- ---- sources are the text's

end_text : (x : Section) (t u : Text) → end_of x t ≡ Ok u → t ≡ u
end_text section.End t u e = let ok : Text → Result Text LineFault = λ x. Ok x in let f : ok t ≡ ok u = e in cc
end_text section.ConnectionCount t u e = (chosen_ok (ltb t.version 4) t u Truncated e).1
end_text section.Header t u e = absurd cc
end_text section.ObjectCount t u e = absurd cc
end_text section.ProgramCount t u e = absurd cc
end_text section.Unused t u e = absurd cc
end_text section.PlayerCount t u e = absurd cc
end_text section.Player t u e = absurd cc
end_text section.Head t u e = absurd cc
end_text section.Object t u e = absurd cc
end_text section.ProgramHead t u e = absurd cc
end_text section.Source t u e = absurd cc
end_text section.Clocks t u e = absurd cc
end_text section.Queued t u e = absurd cc
end_text section.Suspended t u e = absurd cc
end_text section.Connection t u e = absurd cc

pub finished_text : (s : Taken) (t : Text) → finished s ≡ Ok t → s.progress.text ≡ t
unfolding finished ended
finished_text s t e = last s.rest e
  where
    last : (rest : Line) → finished_with s rest ≡ Ok t → s.progress.text ≡ t
    last [] f = end_text s.progress.section s.progress.text t (told_ok (s.lines + 1) (end_of s.progress.section s.progress.text) t f)
    last (x ∷ rest) f = absurd cc

pub taken_so : (z : Sizes) (bytes : List ℕ) (s : Taken) → taken_on z begin bytes ≡ Ok s → IsTaken z s bytes
taken_so z bytes s e = taken_found z bytes begin s [] (begins z) e

pub taken_unlimited : (bytes : List ℕ) (s : Taken) → taken_on limited begin bytes ≡ Ok s → taken_on unlimited begin bytes ≡ Ok s
taken_unlimited bytes s e = elim (taken_cut begin bytes) [
  | inl same ↦ sym same ∙ e
  | inr large ↦ absurd (let f = sym large.1 ∙ e in cc)
]

-- each text that begins with these bytes has the sources that have come with them
pub source_of_text : (bytes : List ℕ) (s : Taken) → taken_on limited begin bytes ≡ Ok s → (o v : ℕ) (source : List Line) → entry_at s.progress.text.programs o v ≡ Some source
    → (more : List ℕ) (t : Text) → Spells (bytes ++ more) t → entry_at t.programs o v ≡ Some source
unfolding answer_to
source_of_text bytes s e o v source there more t h =
    let all = answer_again unlimited (bytes ++ more) t h.slack h.written h.lines in
    let c = then_ok (taken_on unlimited begin (bytes ++ more)) finished t all in
    let front = taken_unlimited bytes s e in
    let on : taken_on unlimited s more ≡ Ok c.0 = sym (taken_on-append unlimited begin bytes more ∙ ap (λ (r : Result Taken Told). and_then r (λ u. taken_on unlimited u more)) front) ∙ c.1 in
    let stayed = sources_stay unlimited more s c.0 bytes (taken_so unlimited bytes s front) on o v source there in
    sym (ap (λ (u : Text). entry_at u.programs o v) (finished_text c.0 t c.2)) ∙ stayed

-- ---- a whole line

-- a reader at the end of a line, from one that had begun it perhaps
pub record IsPast (s : Taken) (line : Line) (t : Taken) : Type 0 where
  pub step : dump_step limited s.progress.section s.progress (s.rest ++ line) ≡ Ok t.progress
  pub lines : t.lines ≡ s.lines + 1
  pub rest : t.rest ≡ []

pub line_past : (s : Taken) (line : Line) (t : Taken) → HasNoEnd line → taken_on limited s (line ++ 10 ∷ []) ≡ Ok t → IsPast s line t
unfolding line_ended taken_on
line_past s line t clean e =
    let f = sym (line_taken limited s line [] clean) ∙ e in
    let c = then_ok (line_ended limited s (s.rest ++ line)) (λ u. taken_on limited u []) t f in
    let d = then_ok (told (s.lines + 1) (dump_step limited s.progress.section s.progress (s.rest ++ line))) (λ p. Ok (record { lines = s.lines + 1; progress = p; rest = [] })) c.0 c.1 in
    let made : Taken = record { lines = s.lines + 1; progress = d.0; rest = [] } in
    let ok : Taken → Result Taken Told = λ x. Ok x in
    let same : made ≡ t = let f : ok made ≡ ok c.0 = d.2 in let g : ok c.0 ≡ ok t = c.2 in cc in
    subst (IsPast s line) same (record { step = told_ok (s.lines + 1) (dump_step limited s.progress.section s.progress (s.rest ++ line)) d.0 d.1; lines = refl; rest = refl })
