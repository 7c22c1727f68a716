-- Objects and players that have come stay, and are those of each text that begins so.
use Rattle.std.proofs.Common.{◌≡◌, ℕ, zero, suc, ◌+◌, ◌≤◌, Bool, true, false, cond, eqb, List, [], ◌∷◌, ◌++◌, length, Result, Ok, inl, inr, refl, sym, ap, subst, ◌∙◌, append_assoc, arith}
use Rattle.std.proofs.lemmas.Bool.{cases_lt}
use Rattle.std.specs.Prelude.{codes, map}
use Rattle.std.specs.Fmt.{signed_decimal}
use Rattle.std.specs.List.{flat_map}
use Rattle.std.proofs.lemmas.List.Concat.{flat_map-append}
use Rattle.std.specs.Str.{bytes_eq}
use Rattle.moo_dbtext_object.specs.Lines.{Line, ◌>>=◌, Sizes, limited, unlimited, text_of, count_line, unlines}
use Rattle.moo_dbtext_record.specs.Programs.{with_source, program_line, program_lines}
use Rattle.moo_dbtext_record.specs.Texts.{Text, Slack, Spells, header_line, objects_lines, link_line, connections_line, connections_lines, tasks_lines}
use Rattle.moo_dbtext_record.specs.Placing.{lines_to_objects, BeginsWithObjects}
use Rattle.moo_dbtext_record.specs.Headings.{program_head_of, tasks_of, connection_count_of, connection_of}
use Rattle.moo_dbtext_record.specs.DumpReading.{Progress, after_programs, after_connections, after_source, dump_step, end_of, ended}
use Rattle.moo_dbtext_record.specs.Answer.{Told, Taken, told, and_then, line_ended, taken_on, finished, finished_with, begin, answer_to, Stand}
use Rattle.moo_dbtext_record.specs.Sparing.{has_objects}
use Rattle.moo_dbtext_record.specs.declared.dump_reader.Section.{Section}
use Rattle.moo_dbtext_record.specs.declared.dump_reader.Section.TheVariants as section
use Rattle.moo_dbtext_record.proofs.TakenLaws.{taken_on-append}
use Rattle.moo_dbtext_record.proofs.AnswerFound.{then_ok, told_ok}
use Rattle.moo_dbtext_record.proofs.AnswerAgain.{answer_again}
use Rattle.moo_dbtext_record.proofs.Standing.{stand_so, stand_between}
use Rattle.moo_dbtext_record.proofs.DumpProgress.{programmed, progress_read}
use Rattle.moo_dbtext_record.proofs.Sources.{taken_so, by_step, after_programs_text, after_connections_text, taken_unlimited, finished_text}

-- the objects and the players stay, and all objects have come
pub record IsPastObjects (p q : Progress) : Type 0 where
  pub past : has_objects q.section ≡ true
  pub objects : q.text.objects ≡ p.text.objects
  pub players : q.text.players ≡ p.text.players

past_then : (p q r : Progress) → IsPastObjects p q → IsPastObjects q r → IsPastObjects p r
past_then p q r h k = record { past = k.past; objects = k.objects ∙ h.objects; players = k.players ∙ h.players }

past_programs : (p : Progress) (t : Text) (n : ℕ) → has_objects (after_programs p t n).section ≡ true
past_programs p t zero = refl
past_programs p t (suc n) = refl

past_connections : (p : Progress) (t : Text) (n : ℕ) → has_objects (after_connections p t n).section ≡ true
past_connections p t zero = refl
past_connections p t (suc n) = refl

source_past : (p : Progress) → IsPastObjects p (after_source p)
source_past p =
    let t = record p.text { programs = with_source p.object p.verb p.source p.text.programs } in
    let is = after_programs_text (record p { source = [] }) t p.programs_left in
    record { past = past_programs (record p { source = [] }) t p.programs_left; objects = ap (λ (u : Text). u.objects) is; players = ap (λ (u : Text). u.players) is }

connections_past : (p : Progress) (t : Text) (n : ℕ) → t.objects ≡ p.text.objects → t.players ≡ p.text.players → IsPastObjects p (after_connections p t n)
connections_past p t n os ps =
    let is = after_connections_text p t n in
    record { past = past_connections p t n; objects = ap (λ (u : Text). u.objects) is ∙ os; players = ap (λ (u : Text). u.players) is ∙ ps }

source_line : (z : Sizes) (p : Progress) (line : Line) (q : Progress) (dot : Bool) → cond dot (Ok (after_source p)) (text_of z line >>= λ x. Ok (record p { section = section.Source; source = p.source ++ x ∷ [] })) ≡ Ok q → IsPastObjects p q
source_line z p line q true e = let ok : Progress → Result Progress ℕ = λ x. Ok x in let same : after_source p ≡ q = cc in subst (IsPastObjects p) same (source_past p)
source_line z p line q false e = by_step (IsPastObjects p) (text_of z line) (λ x. record p { section = section.Source; source = p.source ++ x ∷ [] }) q (λ x. record { past = refl; objects = refl; players = refl }) e

step_past : (z : Sizes) (x : Section) (p : Progress) (line : Line) (q : Progress) → has_objects x ≡ true → dump_step z x p line ≡ Ok q → IsPastObjects p q
unfolding dump_step
step_past z section.Header p line q past e = absurd cc
step_past z section.ObjectCount p line q past e = absurd cc
step_past z section.ProgramCount p line q past e = absurd cc
step_past z section.Unused p line q past e = absurd cc
step_past z section.PlayerCount p line q past e = absurd cc
step_past z section.Player p line q past e = absurd cc
step_past z section.Head p line q past e = absurd cc
step_past z section.Object p line q past e = absurd cc
step_past z section.ProgramHead p line q past e = by_step (IsPastObjects p) (program_head_of p.text.programs line) (λ v. record p { section = section.Source; object = v.0; verb = v.1 }) q (λ v. record { past = refl; objects = refl; players = refl }) e
step_past z section.Source p line q past e = source_line z p line q (bytes_eq line (codes ".")) e
step_past z section.Clocks p line q past e = by_step (IsPastObjects p) (tasks_of (codes "clocks") line) (λ n. record p { section = section.Queued }) q (λ n. record { past = refl; objects = refl; players = refl }) e
step_past z section.Queued p line q past e = by_step (IsPastObjects p) (tasks_of (codes "queued tasks") line) (λ n. record p { section = section.Suspended }) q (λ n. record { past = refl; objects = refl; players = refl }) e
step_past z section.Suspended p line q past e = by_step (IsPastObjects p) (tasks_of (codes "suspended tasks") line) (λ n. record p { section = section.ConnectionCount }) q (λ n. record { past = refl; objects = refl; players = refl }) e
step_past z section.ConnectionCount p line q past e = by_step (IsPastObjects p) (connection_count_of z line) (λ c. after_connections p (record p.text { form = c.0 }) c.1) q (λ c. connections_past p (record p.text { form = c.0 }) c.1 refl refl) e
step_past z section.Connection p line q past e = by_step (IsPastObjects p) (connection_of p.text.form line) (λ l. after_connections p (record p.text { links = p.text.links ++ l ∷ [] }) p.left) q (λ l. connections_past p (record p.text { links = p.text.links ++ l ∷ [] }) p.left refl refl) e
step_past z section.End p line q past e = absurd cc

pub bytes_past : (z : Sizes) (bs : List ℕ) (s t : Taken) → has_objects s.progress.section ≡ true → taken_on z s bs ≡ Ok t → IsPastObjects s.progress t.progress
unfolding taken_on line_ended
bytes_past z [] s t past e =
    let ok : Taken → Result Taken Told = λ x. Ok x in
    let f : ok s ≡ ok t = e in
    let same : s ≡ t = cc in
    subst (λ (u : Taken). IsPastObjects s.progress u.progress) same (record { past = past; objects = refl; players = refl })
bytes_past z (b ∷ bs) s t past e = decide (eqb b 10) (λ u k f. bytes_past z bs u t k f) e
  where
    decide : (is : Bool) → ((u : Taken) → has_objects u.progress.section ≡ true → taken_on z u bs ≡ Ok t → IsPastObjects u.progress t.progress)
        → cond is (and_then (line_ended z s s.rest) (λ u. taken_on z u bs)) (taken_on z (record s { rest = s.rest ++ b ∷ [] }) bs) ≡ Ok t → IsPastObjects s.progress t.progress
    decide true rest f =
        let c = then_ok (line_ended z s s.rest) (λ u. taken_on z u bs) t f in
        let d = then_ok (told (s.lines + 1) (dump_step z s.progress.section s.progress s.rest)) (λ p. Ok (record { lines = s.lines + 1; progress = p; rest = [] })) c.0 c.1 in
        let made : Taken = record { lines = s.lines + 1; progress = d.0; rest = [] } in
        let same : made ≡ c.0 = let ok : Taken → Result Taken Told = λ x. Ok x in let f : ok made ≡ ok c.0 = d.2 in cc in
        let one = step_past z s.progress.section s.progress s.rest d.0 past (told_ok (s.lines + 1) (dump_step z s.progress.section s.progress s.rest) d.0 d.1) in
        let on = subst (λ (u : Taken). IsPastObjects s.progress u.progress) same one in
        past_then s.progress c.0.progress t.progress on (rest c.0 on.past c.2)
    decide false rest f = rest (record s { rest = s.rest ++ b ∷ [] }) past f

-- each text that begins with these bytes has the objects and the players that have come with them
pub record HasTheseObjects (p : Progress) (t : Text) : Type 0 where
  pub objects : t.objects ≡ p.text.objects
  pub players : t.players ≡ p.text.players

pub objects_of_text : (bytes : List ℕ) (s : Taken) → taken_on limited begin bytes ≡ Ok s → has_objects s.progress.section ≡ true → (more : List ℕ) (t : Text) → Spells (bytes ++ more) t → HasTheseObjects s.progress t
unfolding answer_to
objects_of_text bytes s e past more t h =
    let all = answer_again unlimited (bytes ++ more) t h.slack h.written h.lines in
    let c = then_ok (taken_on unlimited begin (bytes ++ more)) finished t all in
    let front = taken_unlimited bytes s e in
    let on : taken_on unlimited s more ≡ Ok c.0 = sym (taken_on-append unlimited begin bytes more ∙ ap (λ (r : Result Taken Told). and_then r (λ u. taken_on unlimited u more)) front) ∙ c.1 in
    let stayed = bytes_past unlimited more s c.0 past on in
    let text = finished_text c.0 t c.2 in
    record { objects = sym (ap (λ (u : Text). u.objects) text) ∙ stayed.objects; players = sym (ap (λ (u : Text). u.players) text) ∙ stayed.players }

-- if all objects have come with lines, they are those that have come with any other lines that have all
pub objects_stand : (z : Sizes) (m n : ℕ) (bytes : List ℕ) (h : Stand z m bytes) (k : Stand z n bytes) → m ≤ n → has_objects h.state.progress.section ≡ true → IsPastObjects h.state.progress k.state.progress
objects_stand z m n bytes h k le past =
    let on = stand_between z m n bytes h k le in
    bytes_past z on.0 h.state k.state past on.1

pub one_set_of_objects : (z : Sizes) (m n : ℕ) (bytes : List ℕ) (h : Stand z m bytes) (k : Stand z n bytes) → has_objects h.state.progress.section ≡ true → has_objects k.state.progress.section ≡ true → IsPastObjects h.state.progress k.state.progress
one_set_of_objects z m n bytes h k past other = elim (cases_lt m n) [
  | inl lt ↦ objects_stand z m n bytes h k (omega arith) past
  | inr ge ↦ let back = objects_stand z n m bytes k h ge other in record { past = other; objects = sym back.objects; players = sym back.players }
]

-- ---- the place of the objects

abbrev front_of : Text → Slack → ℕ → List Line
front_of t k m = lines_to_objects t.version m k.unused k.notes t.players t.objects

programmed_after : (t : Text) (k : Slack) (m : ℕ) (more : List Line) → programmed t k m more ≡ front_of t k m ++ (flat_map program_lines k.programs ++ more)
programmed_after t k m more =
    ap (λ (ls : List Line). header_line t.version ∷ count_line (length t.objects) ∷ count_line m ∷ signed_decimal k.unused ∷ count_line (length t.players) ∷ ls)
    (sym (append_assoc (map signed_decimal t.players) (objects_lines 0 t.objects k.notes) (flat_map program_lines k.programs ++ more)))

fronted : (x : Section) (p : Progress) (k : Slack) → has_objects x ≡ true → (m : ℕ) × (more : List Line) × (progress_read x p k ≡ front_of p.text k m ++ more)
fronted section.Header p k past = absurd cc
fronted section.ObjectCount p k past = absurd cc
fronted section.ProgramCount p k past = absurd cc
fronted section.Unused p k past = absurd cc
fronted section.PlayerCount p k past = absurd cc
fronted section.Player p k past = absurd cc
fronted section.Head p k past = absurd cc
fronted section.Object p k past = absurd cc
fronted section.ProgramHead p k past = (length k.programs + suc p.programs_left, _, programmed_after p.text k (length k.programs + suc p.programs_left) [])
fronted section.Source p k past = (length k.programs + suc p.programs_left, _, programmed_after p.text k (length k.programs + suc p.programs_left) (program_line p.object p.verb ∷ p.source))
fronted section.Clocks p k past = (length k.programs, _, programmed_after p.text k (length k.programs) [])
fronted section.Queued p k past = (length k.programs, _, programmed_after p.text k (length k.programs) (codes "0 clocks" ∷ []))
fronted section.Suspended p k past = (length k.programs, _, programmed_after p.text k (length k.programs) (codes "0 clocks" ∷ codes "0 queued tasks" ∷ []))
fronted section.ConnectionCount p k past = (length k.programs, _, programmed_after p.text k (length k.programs) (tasks_lines []))
fronted section.Connection p k past = (length k.programs, _, programmed_after p.text k (length k.programs) (tasks_lines (connections_line p.text.form (length p.text.links + suc p.left) ∷ map link_line p.text.links)))
fronted section.End p k past = (length k.programs, _, programmed_after p.text k (length k.programs) (tasks_lines (connections_lines p.text.form p.text.links)))

-- after its last object the bytes of a text begin with all of them
pub objects_begin : (bytes : List ℕ) (s : Taken) → taken_on limited begin bytes ≡ Ok s → has_objects s.progress.section ≡ true → BeginsWithObjects bytes s.progress.text.players s.progress.text.objects
objects_begin bytes s e past =
    let h = taken_so limited bytes s e in
    let k = h.slack in
    let f = fronted s.progress.section s.progress k past in
    let front = front_of s.progress.text k f.0 in
    let stands = stand_so limited bytes s e in
    record {
      version = s.progress.text.version;
      programs = f.0;
      unused = k.unused;
      notes = k.notes;
      after = unlines f.1 ++ s.rest;
      lines = s.lines;
      stand = stands.stand;
      all = ap (λ (p : Progress). has_objects p.section) stands.same ∙ past;
      players_come = ap (λ (p : Progress). p.text.players) stands.same;
      objects_come = ap (λ (p : Progress). p.text.objects) stands.same;
      whole = h.whole ∙ ap (λ (ls : List Line). unlines ls ++ s.rest) f.2 ∙ ap (λ (b : List ℕ). b ++ s.rest) (flat_map-append (λ (l : Line). l ++ 10 ∷ []) front f.1) ∙ append_assoc (unlines front) (unlines f.1) s.rest;
      players_there = λ more t spelled. (objects_of_text bytes s e past more t spelled).players;
      objects_there = λ more t spelled. (objects_of_text bytes s e past more t spelled).objects;
    }

end_past : (x : Section) (t u : Text) → end_of x t ≡ Ok u → has_objects x ≡ true
end_past section.Header t u e = absurd cc
end_past section.ObjectCount t u e = absurd cc
end_past section.ProgramCount t u e = absurd cc
end_past section.Unused t u e = absurd cc
end_past section.PlayerCount t u e = absurd cc
end_past section.Player t u e = absurd cc
end_past section.Head t u e = absurd cc
end_past section.Object t u e = absurd cc
end_past section.ProgramHead t u e = refl
end_past section.Source t u e = refl
end_past section.Clocks t u e = refl
end_past section.Queued t u e = refl
end_past section.Suspended t u e = refl
end_past section.ConnectionCount t u e = refl
end_past section.Connection t u e = refl
end_past section.End t u e = refl

finished_past : (s : Taken) (t : Text) → finished s ≡ Ok t → has_objects s.progress.section ≡ true
unfolding finished ended
finished_past s t e = last s.rest e
  where
    last : (rest : Line) → finished_with s rest ≡ Ok t → has_objects s.progress.section ≡ true
    last [] f = end_past s.progress.section s.progress.text t (told_ok (s.lines + 1) (end_of s.progress.section s.progress.text) t f)
    last (x ∷ rest) f = absurd cc

-- so do those of a whole text
pub whole_begins : (bytes : List ℕ) (t : Text) → answer_to limited bytes ≡ Ok t → BeginsWithObjects bytes t.players t.objects
unfolding answer_to
whole_begins bytes t e =
    let c = then_ok (taken_on limited begin bytes) finished t e in
    let text = finished_text c.0 t c.2 in
    subst (λ (u : Text). BeginsWithObjects bytes u.players u.objects) text (objects_begin bytes c.0 c.1 (finished_past c.0 t c.2))
