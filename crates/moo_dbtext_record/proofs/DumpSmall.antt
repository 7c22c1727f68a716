-- A text that is read under the limits on sizes is within them.
use Rattle.std.proofs.Common.{◌≡◌, ℕ, zero, suc, ◌+◌, ◌≤◌, Bool, true, false, cond, eqb, List, [], ◌∷◌, ◌++◌, length, Option, Some, None, Result, Ok, Err, refl, sym, ap, subst, ◌∙◌, append_assoc, arith}
use Rattle.std.specs.Prelude.{codes, map, count_by, is_some}
use Rattle.std.specs.List.{AllByRecursion, sum_by}
use Rattle.std.specs.Str.{bytes_eq}
use Rattle.std.proofs.lemmas.List.{length-append}
use Rattle.std.proofs.lemmas.List.Sums.{sum_by-cons}
use Rattle.moo_dbtext_object.specs.declared.fault.LineFault.{LineFault}
use Rattle.moo_dbtext_object.specs.Lines.{Line, ◌>>=◌, limited, unlimited, most_records, number_of, bounded_count_of, text_of, unlines}
use Rattle.moo_dbtext_object.proofs.Steps.{ok_is}
use Rattle.moo_dbtext_object.proofs.ValueFound.{All-push}
use Rattle.moo_dbtext_object.proofs.ValueSmall.{count_small}
use Rattle.moo_dbtext_object.specs.Objects.{Verb, Object}
use Rattle.moo_dbtext_object.specs.ObjectReading.{Draft, object_line}
use Rattle.moo_dbtext_object.proofs.ObjectDraft.{IsDraft}
use Rattle.moo_dbtext_object.proofs.ObjectSmall.{IsSmallObject, IsSmallPart, IsSmallRead, fresh_small, object_small, object_within}
use Rattle.moo_dbtext_record.specs.Programs.{Row, Table, no_program, blank_entry, blank_table, is_open_in, is_open, with_source_in, with_source, Program, Fills}
use Rattle.moo_dbtext_record.specs.Texts.{Text, Slack, IsEntry, Spells, SpellsWithin, HasRecordsWithin}
use Rattle.moo_dbtext_record.specs.Headings.{version_of, head_of, program_head_of, tasks_of, connection_count_of, connection_of}
use Rattle.moo_dbtext_record.specs.DumpReading.{Progress, after_programs, after_objects, after_players, after_connections, with_object, after_head, after_object_line, after_source, dump_step, end_of, ended, start}
use Rattle.moo_dbtext_record.specs.Answer.{Told, Taken, told, and_then, line_ended, taken_on, finished, finished_with, begin, answer_to}
use Rattle.moo_dbtext_record.specs.declared.dump_reader.Section.{Section}
use Rattle.moo_dbtext_record.specs.declared.dump_reader.Section.TheVariants as section
use Rattle.moo_dbtext_record.proofs.DumpProgress.{progress_read, Keeps}
use Rattle.moo_dbtext_record.proofs.AnswerFound.{IsTaken, then_ok, told_ok, line_found, begins, answer_read, answer_found}
use Rattle.moo_dbtext_record.proofs.Sources.{finished_text}

abbrev pub IsSmallEntry : Option Object → Type 0
IsSmallEntry None = Unit {0}
IsSmallEntry (Some o) = IsSmallObject o

-- how many programs there are
abbrev pub many_in : Row → ℕ
many_in row = count_by is_some row

abbrev pub many : Table → ℕ
many table = sum_by many_in table

-- the players, the objects and the programs, those that are still to come among them
pub record AreFewRecords (m n i : ℕ) : Type 0 where
  pub players : m ≤ most_records
  pub objects : n ≤ most_records
  pub programs : i ≤ most_records

abbrev pub Few : Section → Progress → Type 0
Few section.Header p = Unit {0}
Few section.ObjectCount p = Unit {0}
Few section.ProgramCount p = AreFewRecords 0 p.objects_left 0
Few section.Unused p = AreFewRecords 0 p.objects_left p.programs_left
Few section.PlayerCount p = AreFewRecords 0 p.objects_left p.programs_left
Few section.Player p = AreFewRecords (length p.text.players + suc p.left) p.objects_left p.programs_left
Few section.Head p = AreFewRecords (length p.text.players) (length p.text.objects + suc p.objects_left) p.programs_left
Few section.Object p = AreFewRecords (length p.text.players) (length p.text.objects + suc p.objects_left) p.programs_left
Few section.ProgramHead p = AreFewRecords (length p.text.players) (length p.text.objects) (many p.text.programs + suc p.programs_left)
Few section.Source p = AreFewRecords (length p.text.players) (length p.text.objects) (many p.text.programs + suc p.programs_left)
Few section.Clocks p = AreFewRecords (length p.text.players) (length p.text.objects) (many p.text.programs)
Few section.Queued p = AreFewRecords (length p.text.players) (length p.text.objects) (many p.text.programs)
Few section.Suspended p = AreFewRecords (length p.text.players) (length p.text.objects) (many p.text.programs)
Few section.ConnectionCount p = AreFewRecords (length p.text.players) (length p.text.objects) (many p.text.programs)
Few section.Connection p = AreFewRecords (length p.text.players) (length p.text.objects) (many p.text.programs)
Few section.End p = AreFewRecords (length p.text.players) (length p.text.objects) (many p.text.programs)

pub record IsSmallText (t : Text) (d : Draft) : Type 0 where
  pub entries : AllByRecursion IsSmallEntry t.objects
  pub draft : IsSmallPart d

pub record IsSmallProgress (p : Progress) : Type 0 where
  pub small : IsSmallText p.text p.draft
  pub few : Few p.section p

-- ---- how many programs there are

pub some_more : {A : Type 0} (x : A) (xs : List (Option A)) → count_by is_some (Some x ∷ xs) ≡ suc (count_by is_some xs)
some_more x xs = let e = sum_by-cons (λ y. cond (is_some y) 1 0) (Some x) xs in omega arith

pub none_more : {A : Type 0} (xs : List (Option A)) → count_by is_some (None ∷ xs) ≡ count_by is_some xs
none_more xs = let e = sum_by-cons (λ y. cond (is_some y) 1 0) None xs in omega arith

one_more_in : (row : Row) (v : ℕ) (s : List Line) → is_open_in v row ≡ true → many_in (with_source_in v s row) ≡ suc (many_in row)
one_more_in [] v s h = absurd cc
one_more_in (None ∷ row) zero s h = some_more s row ∙ ap suc (sym (none_more row))
one_more_in (Some x ∷ row) zero s h = absurd cc
one_more_in (None ∷ row) (suc v) s h = none_more (with_source_in v s row) ∙ one_more_in row v s h ∙ ap suc (sym (none_more row))
one_more_in (Some x ∷ row) (suc v) s h = some_more x (with_source_in v s row) ∙ ap suc (one_more_in row v s h) ∙ ap suc (sym (some_more x row))

pub rows_more : {A : Type 0} (row : List (Option A)) (rows : List (List (Option A))) → sum_by (count_by is_some) (row ∷ rows) ≡ count_by is_some row + sum_by (count_by is_some) rows
rows_more row rows = sum_by-cons (count_by is_some) row rows

one_more : (t : Table) (o v : ℕ) (s : List Line) → is_open o v t ≡ true → many (with_source o v s t) ≡ suc (many t)
one_more [] o v s h = absurd cc
one_more (row ∷ t) zero v s h =
    let e = one_more_in row v s h in
    let a = rows_more (with_source_in v s row) t in
    let b = rows_more row t in
    omega arith
one_more (row ∷ t) (suc o) v s h =
    let e = one_more t o v s h in
    let a = rows_more row (with_source o v s t) in
    let b = rows_more row t in
    omega arith

none_in : (vs : List Verb) → many_in (map no_program vs) ≡ 0
none_in [] = refl
none_in (v ∷ vs) = none_more (map no_program vs) ∙ none_in vs

none_blank : (os : List (Option Object)) → many (blank_table os) ≡ 0
none_blank [] = refl
none_blank (None ∷ os) =
    let a : many (blank_table (None ∷ os)) ≡ 0 + many (blank_table os) = rows_more [] (blank_table os) in
    let f = none_blank os in
    omega arith
none_blank (Some o ∷ os) =
    let a = rows_more (blank_entry (Some o)) (blank_table os) in
    let e = none_in o.body.verbs in
    let f = none_blank os in
    omega arith

-- ---- what is still to come

programs_few : (p : Progress) (t : Text) (n : ℕ) → IsSmallText t p.draft → length t.players ≤ most_records → length t.objects ≤ most_records → many t.programs + n ≤ most_records → IsSmallProgress (after_programs p t n)
programs_few p t zero h players objects few = record { small = h; few = record { players = players; objects = objects; programs = omega arith } }
programs_few p t (suc n) h players objects few = record { small = h; few = record { players = players; objects = objects; programs = few } }

objects_few : (p : Progress) (t : Text) (n : ℕ) → IsSmallText t p.draft → length t.players ≤ most_records → length t.objects + n ≤ most_records → many t.programs ≡ 0 → p.programs_left ≤ most_records → IsSmallProgress (after_objects p t n)
objects_few p t zero h players few none programs = programs_few p t p.programs_left h players (omega arith) (omega arith)
objects_few p t (suc n) h players few none programs = record { small = h; few = record { players = players; objects = few; programs = programs } }

players_few : (p : Progress) (t : Text) (n : ℕ) → IsSmallText t p.draft → length t.players + n ≤ most_records → length t.objects ≡ 0 → p.objects_left ≤ most_records → many t.programs ≡ 0 → p.programs_left ≤ most_records → IsSmallProgress (after_players p t n)
players_few p t zero h few nothing objects none programs = objects_few p t p.objects_left h (omega arith) (omega arith) none programs
players_few p t (suc n) h few nothing objects none programs = record { small = h; few = record { players = few; objects = objects; programs = programs } }

links_few : (p : Progress) (t : Text) (n : ℕ) → IsSmallText t p.draft → AreFewRecords (length t.players) (length t.objects) (many t.programs) → IsSmallProgress (after_connections p t n)
links_few p t zero h few = record { small = h; few = few }
links_few p t (suc n) h few = record { small = h; few = few }

by_line : {A : Type 0} (found : Result A LineFault) (f : A → Progress) (q : Progress) → ((x : A) → found ≡ Ok x → IsSmallProgress (f x)) → (found >>= λ x. Ok (f x)) ≡ Ok q → IsSmallProgress q
by_line (Ok x) f q good e = subst IsSmallProgress (ok_is (f x) q e) (good x refl)
by_line (Err d) f q good e = absurd cc

none_of : (t : Table) → t ≡ [] → many t ≡ 0
none_of t e = ap many e

-- ---- the sections

source_small : (p : Progress) (line : Line) (q : Progress) → IsSmallText p.text p.draft → Few section.Source p → is_open p.object p.verb p.text.programs ≡ true → (dot : Bool)
    → cond dot (Ok (after_source p)) (text_of limited line >>= λ x. Ok (record p { section = section.Source; source = p.source ++ x ∷ [] })) ≡ Ok q → IsSmallProgress q
source_small p line q h few free true e =
    let t = record p.text { programs = with_source p.object p.verb p.source p.text.programs } in
    let more = one_more p.text.programs p.object p.verb p.source free in
    let programs = few.programs in
    subst IsSmallProgress (ok_is (after_source p) q e) (programs_few (record p { source = [] }) t p.programs_left (record { entries = h.entries; draft = h.draft }) few.players few.objects (omega arith))
source_small p line q h few free false e = by_line (text_of limited line) (λ x. record p { section = section.Source; source = p.source ++ x ∷ [] }) q (λ x is. record { small = h; few = few }) e

pushed_few : (p : Progress) (o : Option Object) (d : Draft) → IsSmallText p.text p.draft → IsSmallEntry o → IsSmallPart d → Few section.Head p → p.text.programs ≡ blank_table p.text.objects → IsSmallProgress (after_objects (record p { draft = d }) (with_object p.text o) p.objects_left)
pushed_few p o d h small draft few blank =
    let objects = few.objects in
    let longer = length-append p.text.objects (o ∷ []) in
    let none : many (with_object p.text o).programs ≡ 0 = ap (λ (t : Table). many (t ++ blank_entry o ∷ [])) blank ∙ ap many (sym (blank_push p.text.objects)) ∙ none_blank (p.text.objects ++ o ∷ []) in
    objects_few (record p { draft = d }) (with_object p.text o) p.objects_left (record { entries = All-push IsSmallEntry p.text.objects o h.entries small; draft = draft }) few.players (omega arith) none few.programs
  where
    blank_push : (os : List (Option Object)) → blank_table (os ++ o ∷ []) ≡ blank_table os ++ blank_entry o ∷ []
    blank_push [] = refl
    blank_push (x ∷ os) = ap (λ (t : Table). blank_entry x ∷ t) (blank_push os)

dump_small : (x : Section) (p : Progress) (k : Slack) (line : Line) (q : Progress) → IsSmallText p.text p.draft → Few x p → IsDraft p.draft → Keeps limited x p k → dump_step limited x p line ≡ Ok q → IsSmallProgress q
unfolding dump_step
dump_small section.Header p k line q h few d keeps e = by_line (version_of line) (λ v. record p { section = section.ObjectCount; text = record p.text { version = v } }) q (λ v is. record { small = record { entries = h.entries; draft = h.draft }; few = tt }) e
dump_small section.ObjectCount p k line q h few d keeps e = by_line (bounded_count_of limited line) (λ n. record p { section = section.ProgramCount; objects_left = n }) q
    (λ n is. record { small = h; few = record { players = omega arith; objects = count_small line n is; programs = omega arith } }) e
dump_small section.ProgramCount p k line q h few d keeps e = by_line (bounded_count_of limited line) (λ n. record p { section = section.Unused; programs_left = n }) q
    (λ n is. record { small = h; few = record { players = omega arith; objects = few.objects; programs = count_small line n is } }) e
dump_small section.Unused p k line q h few d keeps e = by_line (number_of line) (λ z. record p { section = section.PlayerCount }) q (λ z is. record { small = h; few = few }) e
dump_small section.PlayerCount p k line q h few d keeps e = by_line (bounded_count_of limited line) (λ n. after_players p p.text n) q
    (λ n is.
    let nobody : length p.text.players ≡ 0 = ap length keeps.1 in
    let nothing : length p.text.objects ≡ 0 = ap length keeps.0.objects in
    let n_few = count_small line n is in
    players_few p p.text n h (omega arith) nothing few.objects (none_of p.text.programs keeps.0.table) few.programs) e
dump_small section.Player p k line q h few d keeps e = by_line (number_of line) (λ z. after_players p (record p.text { players = p.text.players ++ z ∷ [] }) p.left) q
    (λ z is.
    let nothing : length p.text.objects ≡ 0 = ap length keeps.0.objects in
    let players = few.players in
    let longer = length-append p.text.players (z ∷ []) in
    players_few p (record p.text { players = p.text.players ++ z ∷ [] }) p.left (record { entries = h.entries; draft = h.draft }) (omega arith) nothing few.objects (none_of p.text.programs keeps.0.table) few.programs) e
dump_small section.Head p k line q h few d keeps e = by_line (head_of (length p.text.objects) line) (after_head p) q (λ live is. each live) e
  where
    each : (live : Bool) → IsSmallProgress (after_head p live)
    each true = record { small = h; few = few }
    each false = pushed_few p None p.draft h tt h.draft few keeps.0.table
dump_small section.Object p k line q h few d keeps e = by_line (object_line limited p.draft line) (after_object_line p) q (λ r is. each r (object_small p.draft.awaited p.draft line r h.draft.small h.draft.counts d.keeps is)) e
  where
    each : (r : Draft × Option Object) → IsSmallRead r → IsSmallProgress (after_object_line p r)
    each (d, None) k = record { small = record { entries = h.entries; draft = k }; few = few }
    each (d, Some o) k = pushed_few p (Some o) d h k.0 (subst IsSmallPart (sym k.1) fresh_small) few keeps.table
dump_small section.ProgramHead p k line q h few d keeps e = by_line (program_head_of p.text.programs line) (λ v. record p { section = section.Source; object = v.0; verb = v.1 }) q (λ v is. record { small = h; few = few }) e
dump_small section.Source p k line q h few d keeps e = source_small p line q h few keeps.1.free (bytes_eq line (codes ".")) e
dump_small section.Clocks p k line q h few d keeps e = by_line (tasks_of (codes "clocks") line) (λ none. record p { section = section.Queued }) q (λ none is. record { small = h; few = few }) e
dump_small section.Queued p k line q h few d keeps e = by_line (tasks_of (codes "queued tasks") line) (λ none. record p { section = section.Suspended }) q (λ none is. record { small = h; few = few }) e
dump_small section.Suspended p k line q h few d keeps e = by_line (tasks_of (codes "suspended tasks") line) (λ none. record p { section = section.ConnectionCount }) q (λ none is. record { small = h; few = few }) e
dump_small section.ConnectionCount p k line q h few d keeps e = by_line (connection_count_of limited line) (λ c. after_connections p (record p.text { form = c.0 }) c.1) q
    (λ c is. links_few p (record p.text { form = c.0 }) c.1 (record { entries = h.entries; draft = h.draft }) few) e
dump_small section.Connection p k line q h few d keeps e = by_line (connection_of p.text.form line) (λ l. after_connections p (record p.text { links = p.text.links ++ l ∷ [] }) p.left) q
    (λ l is. links_few p (record p.text { links = p.text.links ++ l ∷ [] }) p.left (record { entries = h.entries; draft = h.draft }) few) e
dump_small section.End p k line q h few d keeps e = absurd cc

-- ---- bytes

taken_small : (bs : List ℕ) (s t : Taken) (bytes : List ℕ) → IsTaken limited s bytes → IsSmallProgress s.progress → taken_on limited s bs ≡ Ok t → IsSmallProgress t.progress
unfolding taken_on line_ended
taken_small [] s t bytes h small e = let ok : Taken → Result Taken Told = λ x. Ok x in let f : ok s ≡ ok t = e in let same : s ≡ t = cc in
    subst (λ (u : Taken). IsSmallProgress u.progress) same small
taken_small (b ∷ bs) s t bytes h small e = decide (eqb b 10) (λ u more k m f. taken_small bs u t more k m f) e
  where
    decide : (is : Bool) → ((u : Taken) (more : List ℕ) → IsTaken limited u more → IsSmallProgress u.progress → taken_on limited u bs ≡ Ok t → IsSmallProgress t.progress)
        → cond is (and_then (line_ended limited s s.rest) (λ u. taken_on limited u bs)) (taken_on limited (record s { rest = s.rest ++ b ∷ [] }) bs) ≡ Ok t → IsSmallProgress t.progress
    decide true rest f =
        let c = then_ok (line_ended limited s s.rest) (λ u. taken_on limited u bs) t f in
        let d = then_ok (told (s.lines + 1) (dump_step limited s.progress.section s.progress s.rest)) (λ p. Ok (record { lines = s.lines + 1; progress = p; rest = [] })) c.0 c.1 in
        let made : Taken = record { lines = s.lines + 1; progress = d.0; rest = [] } in
        let same : made ≡ c.0 = let ok : Taken → Result Taken Told = λ x. Ok x in let f : ok made ≡ ok c.0 = d.2 in cc in
        let step = dump_small s.progress.section s.progress h.slack s.rest d.0 small.small small.few h.is.draft h.is.keeps (told_ok (s.lines + 1) (dump_step limited s.progress.section s.progress s.rest) d.0 d.1) in
        rest c.0 (bytes ++ 10 ∷ []) (line_found limited s c.0 bytes h c.1) (subst (λ (u : Taken). IsSmallProgress u.progress) same step) c.2
    decide false rest f =
        rest (record s { rest = s.rest ++ b ∷ [] }) (bytes ++ b ∷ []) (record {
          slack = h.slack;
          is = h.is;
          whole = ap (λ (k : List ℕ). k ++ b ∷ []) h.whole ∙ append_assoc (unlines (progress_read s.progress.section s.progress h.slack)) s.rest (b ∷ []);
          count = h.count;
        }) small f

start_small : IsSmallProgress start
start_small = record { small = record { entries = tt; draft = fresh_small }; few = tt }

-- ---- whole texts

ended_few : (x : Section) (p : Progress) (t : Text) → end_of x p.text ≡ Ok t → Few x p → AreFewRecords (length p.text.players) (length p.text.objects) (many p.text.programs)
ended_few section.End p t e few = few
ended_few section.ConnectionCount p t e few = few
ended_few section.Header p t e few = absurd cc
ended_few section.ObjectCount p t e few = absurd cc
ended_few section.ProgramCount p t e few = absurd cc
ended_few section.Unused p t e few = absurd cc
ended_few section.PlayerCount p t e few = absurd cc
ended_few section.Player p t e few = absurd cc
ended_few section.Head p t e few = absurd cc
ended_few section.Object p t e few = absurd cc
ended_few section.ProgramHead p t e few = absurd cc
ended_few section.Source p t e few = absurd cc
ended_few section.Clocks p t e few = absurd cc
ended_few section.Queued p t e few = absurd cc
ended_few section.Suspended p t e few = absurd cc
ended_few section.Connection p t e few = absurd cc

entries_within : (os : List (Option Object)) → AllByRecursion (IsEntry unlimited) os → AllByRecursion IsSmallEntry os → AllByRecursion (IsEntry limited) os
entries_within [] h k = tt
entries_within (None ∷ os) h k = (tt, entries_within os h.1 k.1)
entries_within (Some o ∷ os) h k = (object_within o h.0 k.0, entries_within os h.1 k.1)

-- programs that fill a table which has none are as many as it has then
fills_many : (a : Table) (ps : List Program) (b : Table) → Fills a ps b → many b ≡ many a + length ps
fills_many a [] b h = let same : many a ≡ many b = ap many h in omega arith
fills_many a (p ∷ ps) b h =
    let one = one_more a p.object p.verb p.source h.0 in
    let rest = fills_many (with_source p.object p.verb p.source a) ps b h.1 in
    omega arith

pub answer_within : (bytes : List ℕ) (t : Text) → answer_to limited bytes ≡ Ok t → HasRecordsWithin t
unfolding answer_to finished ended
answer_within bytes t e =
    let b = then_ok (taken_on limited begin bytes) finished t e in
    let s = b.0 in
    let small = taken_small bytes begin s [] (begins limited) start_small b.1 in
    let text = finished_text s t b.2 in
    let spells = answer_found limited bytes t e in
    last s s.rest b.2 text small spells
  where
    last : (s : Taken) (rest : Line) → finished_with s rest ≡ Ok t → s.progress.text ≡ t → IsSmallProgress s.progress → Spells bytes t → HasRecordsWithin t
    last s [] f text small spells =
        let few = ended_few s.progress.section s.progress t (told_ok (s.lines + 1) (end_of s.progress.section s.progress.text) t f) small.few in
        record {
          objects = entries_within t.objects spells.written.objects (subst (λ (u : Text). AllByRecursion IsSmallEntry u.objects) text small.small.entries);
          object_count = subst (λ (u : Text). length u.objects ≤ most_records) text few.objects;
          player_count = subst (λ (u : Text). length u.players ≤ most_records) text few.players;
          program_count = subst (λ (u : Text). many u.programs ≤ most_records) text few.programs;
        }
    last s (x ∷ rest) f text small spells = absurd cc

-- what is read is within the limits, its lines too
pub answer_spelled : (bytes : List ℕ) (t : Text) → answer_to limited bytes ≡ Ok t → SpellsWithin bytes t
answer_spelled bytes t e =
    let h = answer_read limited bytes t e in
    let k = h.slack in
    let w = h.whole.written in
    let few = answer_within bytes t e in
    let none = none_blank t.objects in
    let as_many = fills_many (blank_table t.objects) k.programs t.programs w.fills in
    let programs = few.program_count in
    record {
      slack = k;
      written = record {
        version = w.version;
        unused = w.unused;
        players = w.players;
        player_count = few.player_count;
        objects = few.objects;
        notes = h.whole.sizes.notes;
        object_count = few.object_count;
        programs = h.whole.sizes.programs;
        fills = w.fills;
        program_count = omega arith;
        form = w.form;
        links = w.links;
        link_count = h.whole.sizes.links;
      };
      lines = h.bytes_are ∙ ap unlines h.whole.lines;
    }
