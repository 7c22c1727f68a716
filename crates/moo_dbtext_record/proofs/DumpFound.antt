-- A whole text that was read is spelled by its lines.
use Rattle.std.proofs.Common.{◌≡◌, ◌≢◌, ℕ, ℤ, zero, suc, ◌+◌, ◌<◌, ◌^◌, Bool, true, false, cond, List, [], ◌∷◌, ◌++◌, length, Option, Some, None, Result, Ok, Err, ◌⊎◌, inl, inr, refl, sym, ap, subst, ◌∙◌, arith, add-zero, zero-add}
use Rattle.std.specs.Prelude.{codes, FitsSigned, map}
use Rattle.std.specs.Int.{w32}
use Rattle.std.specs.Fmt.{signed_decimal}
use Rattle.std.specs.List.{flat_map, AllByRecursion}
use Rattle.std.specs.Str.{bytes_eq}
use Rattle.std.proofs.lemmas.List.{append-nil, length-append, map_push}
use Rattle.std.proofs.lemmas.Slice.Eq.{bytes_eq-Decides}
use Rattle.moo_dbtext_object.specs.declared.fault.LineFault.{LineFault}
use Rattle.moo_dbtext_object.specs.Lines.{Line, ◌>>=◌, Sizes, unlimited, IsStringOf, IsCountOf, number_of, bounded_count_of, text_of, count_line}
use Rattle.moo_dbtext_object.proofs.LineLaws.{number_found}
use Rattle.moo_dbtext_object.proofs.Steps.{bind_ok, ok_is}
use Rattle.moo_dbtext_object.proofs.TextLaws.{text_found, bounded_count_found}
use Rattle.moo_dbtext_object.proofs.ValueFound.{All-push, flat_map_push}
use Rattle.moo_dbtext_object.specs.Objects.{Object, object_lines}
use Rattle.moo_dbtext_object.specs.ObjectReading.{Draft, fresh_draft, object_line}
use Rattle.moo_dbtext_object.proofs.ObjectDraft.{draft_read, object_read, note_after, IsDraft, IsObjectRead, fresh_is}
use Rattle.moo_dbtext_object.proofs.ObjectFound.{object_found}
use Rattle.moo_dbtext_record.specs.Programs.{Table, blank_entry, blank_table, with_source, Program, program_line, program_lines, Fills, IsSourceLine, IsProgramText}
use Rattle.moo_dbtext_record.specs.Texts.{Text, Slack, Link, header_line, live_line, recycled_line, objects_lines, link_line, connections_line, connections_lines, tasks_lines, IsEntry, IsLink, MayHave}
use Rattle.moo_dbtext_record.specs.Headings.{version_of, head_of, program_head_of, tasks_of, connection_count_of, connection_of}
use Rattle.moo_dbtext_record.specs.DumpReading.{Progress, after_programs, after_objects, after_players, after_connections, with_object, after_head, after_object_line, after_source, dump_step}
use Rattle.moo_dbtext_record.specs.declared.dump.Form.{Form}
use Rattle.moo_dbtext_record.specs.declared.dump.Form.TheVariants as form
use Rattle.moo_dbtext_record.specs.declared.dump_reader.Section.{Section}
use Rattle.moo_dbtext_record.specs.declared.dump_reader.Section.TheVariants as section
use Rattle.moo_dbtext_record.proofs.HeadingAgain.{version_found, head_found, program_head_found, tasks_found, IsPresent, connection_count_found, connection_count_few, connection_found}
use Rattle.moo_dbtext_record.proofs.DumpProgress.{counts, objected, programmed, progress_read, HasFields, HasNoLinks, Keeps, AddsTo}
use Rattle.moo_dbtext_record.proofs.DumpLines.{objected_more, programmed_more, objects_lines_push, with_note, note_there, notes_before, notes_are_strings, fills_push, string_found, note_is_string}

reads : {A : Type 0} (s : Sizes) (lines : List Line) (line : Line) (k : Slack) (found : Result A LineFault) (f : A → Progress) (p : Progress) (good : (x : A) → found ≡ Ok x → AddsTo s lines line k (f x)) → (found >>= λ x. Ok (f x)) ≡ Ok p → AddsTo s lines line k p
reads s lines line k (Ok x) f p good e = subst (AddsTo s lines line k) (ok_is (f x) p e) (good x refl)
reads s lines line k (Err d) f p good e = absurd cc

-- ---- what is still to come

-- n programs
after_programs_adds : (s : Sizes) (p : Progress) (t : Text) (n : ℕ) (lines : List Line) (line : Line) (k : Slack) → HasFields s t k → IsDraft p.draft → length k.programs + n < 2 ^ 31 → length t.objects < 2 ^ 31 → length t.players < 2 ^ 31 → Fills (blank_table t.objects) k.programs t.programs → HasNoLinks t → p.source ≡ []
    → programmed t k (length k.programs + n) [] ≡ lines ++ line ∷ [] → AddsTo s lines line k (after_programs p t n)
after_programs_adds s p t zero lines line k fields draft count objects players fills last source read = record {
  read = ap (λ (m : ℕ). programmed t k m []) (omega arith) ∙ read;
  is = record { text = fields; draft = draft; keeps = record { count = omega arith; objects = objects; players = players; fills = fills; last = last } };
}
after_programs_adds s p t (suc n) lines line k fields draft count objects players fills last source read = record {
  read = read;
  is = record { text = fields; draft = draft; keeps = (record { count = count; objects = objects; players = players; fills = fills; last = last }, source) };
}

-- n objects, and then the programs
after_objects_adds : (s : Sizes) (p : Progress) (t : Text) (n : ℕ) (lines : List Line) (line : Line) (k : Slack) → HasFields s t k → p.draft ≡ fresh_draft → length t.objects + n < 2 ^ 31 → p.programs_left < 2 ^ 31 → length t.players < 2 ^ 31 → t.programs ≡ blank_table t.objects → k.programs ≡ [] → p.source ≡ [] → HasNoLinks t
    → objected t k (length t.objects + n) p.programs_left [] ≡ lines ++ line ∷ [] → AddsTo s lines line k (after_objects p t n)
after_objects_adds s p t zero lines line k fields idle count programs players table none source last read =
    let empty : length k.programs ≡ 0 = ap length none in
    after_programs_adds s p t p.programs_left lines line k fields (subst IsDraft (sym idle) fresh_is) (omega (arith, programs)) (omega (arith, count)) players
    (subst (λ (ps : List Program). Fills (blank_table t.objects) ps t.programs) (sym none) (sym table)) last source
    (ap (λ (ps : List Program). objected t k (length t.objects) (length ps + p.programs_left) (flat_map program_lines ps ++ [])) none
    ∙ ap (λ (m : ℕ). objected t k (length t.objects) m []) (zero-add p.programs_left) ∙ ap (λ (m : ℕ). objected t k m p.programs_left []) (sym (add-zero (length t.objects))) ∙ read)
after_objects_adds s p t (suc n) lines line k fields idle count programs players table none source last read = record {
  read = read;
  is = record { text = fields; draft = subst IsDraft (sym idle) fresh_is; keeps = (record { objects_count = count; programs_count = programs; players = players; table = table; programs = none; source = source; last = last }, idle) };
}

-- n players, and then the objects
after_players_adds : (s : Sizes) (p : Progress) (t : Text) (n : ℕ) (lines : List Line) (line : Line) (k : Slack) → HasFields s t k → p.draft ≡ fresh_draft → p.objects_left < 2 ^ 31 → p.programs_left < 2 ^ 31 → t.objects ≡ [] → t.programs ≡ [] → k.programs ≡ [] → p.source ≡ [] → HasNoLinks t → length t.players + n < 2 ^ 31
    → counts t k p.objects_left p.programs_left (length t.players + n) [] ≡ lines ++ line ∷ [] → AddsTo s lines line k (after_players p t n)
after_players_adds s p t zero lines line k fields idle ol pl none blank given source last count read =
    let no_objects : length t.objects ≡ 0 = ap length none in
    after_objects_adds s p t p.objects_left lines line k fields idle (omega arith) pl (omega arith) (blank ∙ sym (ap blank_table none)) given source last
    (ap (λ (os : List (Option Object)). counts t k (length os + p.objects_left) p.programs_left (length t.players) (objects_lines 0 os k.notes ++ [])) none
    ∙ ap (λ (m : ℕ). counts t k m p.programs_left (length t.players) []) (zero-add p.objects_left) ∙ ap (λ (m : ℕ). counts t k p.objects_left p.programs_left m []) (sym (add-zero (length t.players))) ∙ read)
after_players_adds s p t (suc n) lines line k fields idle ol pl none blank given source last count read = record {
  read = read;
  is = record { text = fields; draft = subst IsDraft (sym idle) fresh_is; keeps = (record { objects_count = ol; programs_count = pl; objects = none; table = blank; programs = given; draft = idle; source = source; last = last }, count) };
}

present_lines : (f : Form) (ls : List Link) → IsPresent f → connections_lines f ls ≡ connections_line f (length ls) ∷ map link_line ls
present_lines form.Absent ls h = absurd h
present_lines form.Plain ls h = refl
present_lines form.WithListeners ls h = refl

present_may : (v : ℕ) (f : Form) → IsPresent f → MayHave v f
present_may v form.Absent h = absurd h
present_may v form.Plain h = tt
present_may v form.WithListeners h = tt

-- n connections
after_connections_adds : (s : Sizes) (p : Progress) (t : Text) (n : ℕ) (lines : List Line) (line : Line) (k : Slack) → HasFields s t k → IsDraft p.draft → length t.players < 2 ^ 31 → length t.objects < 2 ^ 31 → length k.programs < 2 ^ 31 → Fills (blank_table t.objects) k.programs t.programs → IsPresent t.form → length t.links + n < 2 ^ 31 → IsCountOf s (length t.links + n)
    → programmed t k (length k.programs) (tasks_lines (connections_line t.form (length t.links + n) ∷ map link_line t.links)) ≡ lines ++ line ∷ [] → AddsTo s lines line k (after_connections p t n)
after_connections_adds s p t zero lines line k fields draft players objects programs fills present count few read = record {
  read = ap (λ (ls : List Line). programmed t k (length k.programs) (tasks_lines ls)) (present_lines t.form t.links present)
      ∙ ap (λ (m : ℕ). programmed t k (length k.programs) (tasks_lines (connections_line t.form m ∷ map link_line t.links))) (sym (add-zero (length t.links))) ∙ read;
  is = record {
    text = fields;
    draft = draft;
    keeps = record { objects = objects; players = players; programs = programs; fills = fills; form = present_may t.version t.form present; links = omega arith; few = subst (IsCountOf s) (add-zero (length t.links)) few };
  };
}
after_connections_adds s p t (suc n) lines line k fields draft players objects programs fills present count few read = record {
  read = read;
  is = record { text = fields; draft = draft; keeps = record { count = count; few = few; objects = objects; players = players; programs = programs; fills = fills; form = present } };
}

abbrev Added : Sizes → List Line → Line → Progress → Type 0
Added s lines line p = (k : Slack) × AddsTo s lines line k p

-- a dot, or a line of a source
branched : {A : Type 0} (b : Bool) (x y : A) (rest : Result A LineFault) → cond b (Ok x) rest ≡ Ok y → ((b ≡ true) × (x ≡ y)) ⊎ ((b ≡ false) × (rest ≡ Ok y))
branched true x y rest e = inl (refl, cc)
branched false x y rest e = inr (refl, e)

abbrev object_taken : Progress → Draft × Option Object → Result Progress LineFault
object_taken p r = Ok (after_object_line p r)

abbrev more_source : Progress → Line → Result Progress LineFault
more_source p x = Ok (record p { section = section.Source; source = p.source ++ x ∷ [] })

not_both : (b : Bool) → b ≡ true → b ≡ false → ⊥
not_both true e f = cc
not_both false e f = cc

pub dump_found : (s : Sizes) (x : Section) (p : Progress) (k : Slack) (line : Line) (q : Progress) → HasFields s p.text k → IsDraft p.draft → Keeps s x p k → dump_step s x p line ≡ Ok q → Added s (progress_read x p k) line q
unfolding dump_step
dump_found s section.Header p k line q fields draft h e = (
  k,
  reads s [] line k (version_of line) (λ v. record p { section = section.ObjectCount; text = record p.text { version = v } }) q
      (λ v is. let f = version_found line v is in record {
        read = ap (λ (l : Line). l ∷ []) (sym f.1);
        is = record {
          text = record { version = f.0; unused = fields.unused; players = fields.players; objects = fields.objects; notes = fields.notes; programs = fields.programs; links = fields.links };
          draft = draft;
          keeps = (record { objects_count = h.0.objects_count; programs_count = h.0.programs_count; objects = h.0.objects; table = h.0.table; programs = h.0.programs; draft = h.0.draft; source = h.0.source; last = record { form = h.0.last.form; links = h.0.last.links } }, h.1);
        };
      }) e,
)
dump_found s section.ObjectCount p k line q fields draft h e = (
  k,
  reads s (progress_read section.ObjectCount p k) line k (bounded_count_of s line) (λ n. record p { section = section.ProgramCount; objects_left = n }) q
      (λ n is. let f = bounded_count_found s line n is in record {
        read = ap (λ (l : Line). header_line p.text.version ∷ l ∷ []) (sym f.1);
        is = record { text = fields; draft = draft; keeps = (record { objects_count = f.0; programs_count = h.0.programs_count; objects = h.0.objects; table = h.0.table; programs = h.0.programs; draft = h.0.draft; source = h.0.source; last = h.0.last }, h.1) };
      }) e,
)
dump_found s section.ProgramCount p k line q fields draft h e = (
  k,
  reads s (progress_read section.ProgramCount p k) line k (bounded_count_of s line) (λ n. record p { section = section.Unused; programs_left = n }) q
      (λ n is. let f = bounded_count_found s line n is in record {
        read = ap (λ (l : Line). header_line p.text.version ∷ count_line p.objects_left ∷ l ∷ []) (sym f.1);
        is = record { text = fields; draft = draft; keeps = (record { objects_count = h.0.objects_count; programs_count = f.0; objects = h.0.objects; table = h.0.table; programs = h.0.programs; draft = h.0.draft; source = h.0.source; last = h.0.last }, h.1) };
      }) e,
)
dump_found s section.Unused p k line q fields draft h e =
    let b = bind_ok (number_of line) (λ z. Ok (record p { section = section.PlayerCount })) q e in
    let f = number_found line b.0 b.1 in
    let next = record p { section = section.PlayerCount } in
    let j = record k { unused = b.0 } in (
      j,
      subst (AddsTo s (progress_read section.Unused p k) line j) (ok_is next q b.2) (record {
        read = ap (λ (l : Line). header_line p.text.version ∷ count_line p.objects_left ∷ count_line p.programs_left ∷ l ∷ []) (sym f.1);
        is = record {
          text = record { version = fields.version; unused = f.0; players = fields.players; objects = fields.objects; notes = fields.notes; programs = fields.programs; links = fields.links };
          draft = draft;
          keeps = (record { objects_count = h.0.objects_count; programs_count = h.0.programs_count; objects = h.0.objects; table = h.0.table; programs = h.0.programs; draft = h.0.draft; source = h.0.source; last = h.0.last }, h.1);
        };
      }),
    )
dump_found s section.PlayerCount p k line q fields draft h e = (
  k,
  reads s (progress_read section.PlayerCount p k) line k (bounded_count_of s line) (λ n. after_players p p.text n) q
      (λ n is. let f = bounded_count_found s line n is in let none : length p.text.players ≡ 0 = ap length h.1 in
      let front : List Line → List Line = λ ls. header_line p.text.version ∷ count_line p.objects_left ∷ count_line p.programs_left ∷ signed_decimal k.unused ∷ ls in
      after_players_adds s p p.text n (progress_read section.PlayerCount p k) line k fields h.0.draft h.0.objects_count h.0.programs_count h.0.objects h.0.table h.0.programs h.0.source h.0.last (omega (arith, f.0))
      (ap (λ (ps : List ℤ). front (count_line (length ps + n) ∷ (map signed_decimal ps ++ []))) h.1 ∙ ap (λ (m : ℕ). front (count_line m ∷ [])) (zero-add n) ∙ ap (λ (l : Line). front (l ∷ [])) (sym f.1))) e,
)
dump_found s section.Player p k line q fields draft h e = (
  k,
  reads s (progress_read section.Player p k) line k (number_of line) (λ z. after_players p (record p.text { players = p.text.players ++ z ∷ [] }) p.left) q
      (λ z is. let f = number_found line z is in
      let t = record p.text { players = p.text.players ++ z ∷ [] } in
      let longer = length-append p.text.players (z ∷ []) in
      let front : List Line → List Line = λ ls. header_line p.text.version ∷ count_line p.objects_left ∷ count_line p.programs_left ∷ signed_decimal k.unused ∷ count_line (length p.text.players + suc p.left) ∷ ls in
      after_players_adds s p t p.left (progress_read section.Player p k) line k
      (record { version = fields.version; unused = fields.unused; players = All-push (FitsSigned w32) p.text.players z fields.players f.0; objects = fields.objects; notes = fields.notes; programs = fields.programs; links = fields.links })
      h.0.draft h.0.objects_count h.0.programs_count h.0.objects h.0.table h.0.programs h.0.source (record { form = h.0.last.form; links = h.0.last.links }) (omega (arith, h.1))
      (ap (λ (m : ℕ). counts t k p.objects_left p.programs_left m []) (omega arith)
      ∙ ap front (append-nil (map signed_decimal t.players) ∙ map_push signed_decimal p.text.players z ∙ ap (λ (l : Line). map signed_decimal p.text.players ++ l ∷ []) (sym f.1) ∙ ap (λ (ls : List Line). ls ++ line ∷ []) (sym (append-nil (map signed_decimal p.text.players)))))) e,
)
dump_found s section.Head p k line q fields draft h e =
    (k, reads s (progress_read section.Head p k) line k (head_of (length p.text.objects) line) (after_head p) q (λ live is. each live (head_found (length p.text.objects) line live is)) e)
  where
    each : (live : Bool) → line ≡ cond live (live_line (length p.text.objects)) (recycled_line (length p.text.objects)) → AddsTo s (progress_read section.Head p k) line k (after_head p live)
    each true is = record {
      read = ap (λ (d : Draft). objected p.text k (length p.text.objects + suc p.objects_left) p.programs_left (live_line (length p.text.objects) ∷ draft_read d.awaited d (k.notes (length p.text.objects)))) h.1
          ∙ ap (λ (l : Line). objected p.text k (length p.text.objects + suc p.objects_left) p.programs_left (l ∷ [])) (sym is) ∙ objected_more p.text k (length p.text.objects + suc p.objects_left) p.programs_left [] line;
      is = record { text = fields; draft = draft; keeps = record { objects_count = h.0.objects_count; programs_count = h.0.programs_count; players = h.0.players; table = h.0.table; programs = h.0.programs; source = h.0.source; last = h.0.last } };
    }
    each false is =
        let t = with_object p.text None in
        let n = length p.text.objects in
        let m = n + suc p.objects_left in
        let longer = length-append p.text.objects (None ∷ []) in
        after_objects_adds s p t p.objects_left (progress_read section.Head p k) line k
        (record { version = fields.version; unused = fields.unused; players = fields.players; objects = All-push (IsEntry unlimited) p.text.objects None fields.objects tt; notes = fields.notes; programs = fields.programs; links = fields.links })
        h.1 (omega (arith, h.0.objects_count)) h.0.programs_count h.0.players (ap (λ (x : Table). x ++ [] ∷ []) h.0.table ∙ sym (map_push blank_entry p.text.objects None)) h.0.programs h.0.source (record { form = h.0.last.form; links = h.0.last.links })
        (ap (λ (i : ℕ). objected t k i p.programs_left []) (omega arith)
        ∙ ap (λ (ls : List Line). counts p.text k m p.programs_left (length p.text.players) ls) (append-nil (objects_lines 0 t.objects k.notes) ∙ objects_lines_push 0 p.text.objects None k.notes)
        ∙ ap (λ (i : ℕ). objected p.text k m p.programs_left (recycled_line i ∷ [])) (zero-add n)
        ∙ ap (λ (l : Line). objected p.text k m p.programs_left (l ∷ [])) (sym is) ∙ objected_more p.text k m p.programs_left [] line)
dump_found s section.Object p k line q fields draft h e =
    let n = length p.text.objects in
    let m = n + suc p.objects_left in
    let b = bind_ok (object_line s p.draft line) (object_taken p) q e in
    let note = note_after p.draft.awaited (k.notes n) line in
    let j = record k { notes = with_note n note k.notes } in
    let a = object_found s p.draft.awaited p.draft (k.notes n) line b.0 draft.parts draft.keeps b.1 in
    let text = note_is_string s p.draft.awaited p.draft (k.notes n) line b.0 b.1 (fields.notes n) in
    (j, subst (AddsTo s (progress_read section.Object p k) line j) (ok_is (after_object_line p b.0) q b.2) (each (with_note n note k.notes) note (note_there n note k.notes) (notes_before 0 n note k.notes p.text.objects (omega arith)) (notes_are_strings s n note k.notes text fields.notes) b.0 a.read a.is))
  where
    each : (ns : ℕ → Line) (note : Line) → ns (length p.text.objects) ≡ note → objects_lines 0 p.text.objects ns ≡ objects_lines 0 p.text.objects k.notes → ((i : ℕ) → IsStringOf s (ns i))
        → (r : Draft × Option Object) → object_read r note ≡ draft_read p.draft.awaited p.draft (k.notes (length p.text.objects)) ++ line ∷ [] → IsObjectRead r → AddsTo s (progress_read section.Object p k) line (record k { notes = ns }) (after_object_line p r)
    each ns note there before texts (d, None) read is =
        let n = length p.text.objects in
        let m = n + suc p.objects_left in
        let j = record k { notes = ns } in
        let taken = live_line n ∷ draft_read p.draft.awaited p.draft (k.notes n) in
        record {
          read = ap (λ (x : Line). objected p.text j m p.programs_left (live_line n ∷ draft_read d.awaited d x)) there
              ∙ ap (λ (ls : List Line). objected p.text j m p.programs_left (live_line n ∷ ls)) read
              ∙ ap (λ (ls : List Line). counts p.text k m p.programs_left (length p.text.players) (ls ++ (taken ++ line ∷ []))) before
              ∙ objected_more p.text k m p.programs_left taken line;
          is = record {
            text = record { version = fields.version; unused = fields.unused; players = fields.players; objects = fields.objects; notes = texts; programs = fields.programs; links = fields.links };
            draft = is;
            keeps = record { objects_count = h.objects_count; programs_count = h.programs_count; players = h.players; table = h.table; programs = h.programs; source = h.source; last = h.last };
          };
        }
    each ns note there before texts (d, Some o) read is =
        let n = length p.text.objects in
        let m = n + suc p.objects_left in
        let j = record k { notes = ns } in
        let t = with_object p.text (Some o) in
        let taken = live_line n ∷ draft_read p.draft.awaited p.draft (k.notes n) in
        let longer = length-append p.text.objects (Some o ∷ []) in
        let front : List Line → List Line = counts p.text k m p.programs_left (length p.text.players) in
        after_objects_adds s (record p { draft = d }) t p.objects_left (progress_read section.Object p k) line j
        (record { version = fields.version; unused = fields.unused; players = fields.players; objects = All-push (IsEntry unlimited) p.text.objects (Some o) fields.objects is.0; notes = texts; programs = fields.programs; links = fields.links })
        is.1 (omega (arith, h.objects_count)) h.programs_count h.players (ap (λ (x : Table). x ++ blank_entry (Some o) ∷ []) h.table ∙ sym (map_push blank_entry p.text.objects (Some o))) h.programs h.source (record { form = h.last.form; links = h.last.links })
        (ap (λ (i : ℕ). objected t j i p.programs_left []) (omega arith)
        ∙ ap front (append-nil (objects_lines 0 t.objects ns) ∙ objects_lines_push 0 p.text.objects (Some o) ns)
        ∙ ap (λ (i : ℕ). front (objects_lines 0 p.text.objects ns ++ live_line i ∷ (object_lines o (ns i) ++ []))) (zero-add n)
        ∙ ap (λ (x : Line). front (objects_lines 0 p.text.objects ns ++ live_line n ∷ (object_lines o x ++ []))) there
        ∙ ap (λ (ls : List Line). front (objects_lines 0 p.text.objects ns ++ live_line n ∷ ls)) (append-nil (object_lines o note) ∙ read)
        ∙ ap (λ (ls : List Line). front (ls ++ (taken ++ line ∷ []))) before
        ∙ objected_more p.text k m p.programs_left taken line)
dump_found s section.ProgramHead p k line q fields draft h e = (
  k,
  reads s (progress_read section.ProgramHead p k) line k (program_head_of p.text.programs line) (λ v. record p { section = section.Source; object = v.0; verb = v.1 }) q
      (λ v is. let f = program_head_found p.text.programs line v is in let m = length k.programs + suc p.programs_left in record {
        read = ap (λ (ls : List Line). programmed p.text k m (program_line v.0 v.1 ∷ ls)) h.1 ∙ ap (λ (l : Line). programmed p.text k m (l ∷ [])) (sym f.3) ∙ programmed_more p.text k m [] line;
        is = record {
          text = fields;
          draft = draft;
          keeps = (record { count = h.0.count; objects = h.0.objects; players = h.0.players; fills = h.0.fills; last = h.0.last }, record { object = f.0; verb = f.1; free = f.2; source = subst (AllByRecursion (IsSourceLine s)) (sym h.1) tt });
        };
      }) e,
)
dump_found s section.Source p k line q fields draft h e =
    elim (branched (bytes_eq line (codes ".")) (after_source p) q (text_of s line >>= more_source p) e) [
      | inl dot ↦
          let is_dot : line ≡ codes "." = (bytes_eq-Decides line (codes ".")).0 dot.0 in
          let x : Program = record { object = p.object; verb = p.verb; source = p.source } in
          let j = record k { programs = k.programs ++ x ∷ [] } in
          let t = record p.text { programs = with_source p.object p.verb p.source p.text.programs } in
          let m = length k.programs + suc p.programs_left in
          let longer = length-append k.programs (x ∷ []) in (
            j,
            subst (AddsTo s (progress_read section.Source p k) line j) dot.1
                (after_programs_adds s (record p { source = [] }) t p.programs_left (progress_read section.Source p k) line j
                (record { version = fields.version; unused = fields.unused; players = fields.players; objects = fields.objects; notes = fields.notes; programs = All-push (IsProgramText s) k.programs x fields.programs (record { object = h.1.object; verb = h.1.verb; source = h.1.source }); links = fields.links })
                draft (omega (arith, h.0.count)) h.0.objects h.0.players (fills_push (blank_table p.text.objects) k.programs p.text.programs x h.0.fills h.1.free) (record { form = h.0.last.form; links = h.0.last.links }) refl
                (ap (λ (i : ℕ). programmed t j i []) (omega arith)
                ∙ ap (objected p.text k (length p.text.objects) m) (append-nil (flat_map program_lines j.programs) ∙ flat_map_push program_lines k.programs x)
                ∙ ap (λ (l : Line). programmed p.text k m (program_line p.object p.verb ∷ (p.source ++ l ∷ []))) (sym is_dot)
                ∙ programmed_more p.text k m (program_line p.object p.verb ∷ p.source) line)),
          )
      | inr other ↦
          let m = length k.programs + suc p.programs_left in (
            k,
            reads s (progress_read section.Source p k) line k (text_of s line) (λ x. record p { section = section.Source; source = p.source ++ x ∷ [] }) q
                (λ x is. let f = text_found s line x is in
                let not_dot : x ≢ codes "." = λ same. not_both (bytes_eq line (codes ".")) ((bytes_eq-Decides line (codes ".")).1 (f.1 ∙ same)) other.0 in
                record {
                  read = ap (λ (l : Line). programmed p.text k m (program_line p.object p.verb ∷ (p.source ++ l ∷ []))) (sym f.1) ∙ programmed_more p.text k m (program_line p.object p.verb ∷ p.source) line;
                  is = record {
                    text = fields;
                    draft = draft;
                    keeps = (
                      record { count = h.0.count; objects = h.0.objects; players = h.0.players; fills = h.0.fills; last = h.0.last },
                      record { object = h.1.object; verb = h.1.verb; free = h.1.free; source = All-push (IsSourceLine s) p.source x h.1.source (record { text = string_found s line x is; more = not_dot }) },
                    );
                  };
                }) other.1,
          )
    ]
dump_found s section.Clocks p k line q fields draft h e = (
  k,
  reads s (progress_read section.Clocks p k) line k (tasks_of (codes "clocks") line) (λ none. record p { section = section.Queued }) q
      (λ u is. record {
        read = ap (λ (l : Line). programmed p.text k (length k.programs) (l ∷ [])) (sym (tasks_found (codes "clocks") line u is)) ∙ programmed_more p.text k (length k.programs) [] line;
        is = record { text = fields; draft = draft; keeps = h };
      }) e,
)
dump_found s section.Queued p k line q fields draft h e = (
  k,
  reads s (progress_read section.Queued p k) line k (tasks_of (codes "queued tasks") line) (λ none. record p { section = section.Suspended }) q
      (λ u is. record {
        read = ap (λ (l : Line). programmed p.text k (length k.programs) (codes "0 clocks" ∷ l ∷ [])) (sym (tasks_found (codes "queued tasks") line u is)) ∙ programmed_more p.text k (length k.programs) (codes "0 clocks" ∷ []) line;
        is = record { text = fields; draft = draft; keeps = h };
      }) e,
)
dump_found s section.Suspended p k line q fields draft h e = (
  k,
  reads s (progress_read section.Suspended p k) line k (tasks_of (codes "suspended tasks") line) (λ none. record p { section = section.ConnectionCount }) q
      (λ u is. record {
        read = ap (λ (l : Line). programmed p.text k (length k.programs) (codes "0 clocks" ∷ codes "0 queued tasks" ∷ l ∷ [])) (sym (tasks_found (codes "suspended tasks") line u is)) ∙ programmed_more p.text k (length k.programs) (codes "0 clocks" ∷ codes "0 queued tasks" ∷ []) line;
        is = record { text = fields; draft = draft; keeps = h };
      }) e,
)
dump_found s section.ConnectionCount p k line q fields draft h e = (
  k,
  reads s (progress_read section.ConnectionCount p k) line k (connection_count_of s line) (λ c. after_connections p (record p.text { form = c.0 }) c.1) q
      (λ c is. let f = connection_count_found s line c is in
      let t = record p.text { form = c.0 } in
      let none : length p.text.links ≡ 0 = ap length h.last.links in
      let m = length k.programs in
      after_connections_adds s p t c.1 (progress_read section.ConnectionCount p k) line k
      (record { version = fields.version; unused = fields.unused; players = fields.players; objects = fields.objects; notes = fields.notes; programs = fields.programs; links = subst (AllByRecursion (IsLink c.0)) (sym h.last.links) tt })
      draft h.players h.objects h.count h.fills f.0 (omega (arith, f.1)) (subst (IsCountOf s) (omega arith) (connection_count_few s line c is))
      (ap (λ (ls : List Link). programmed p.text k m (tasks_lines (connections_line c.0 (length ls + c.1) ∷ map link_line ls))) h.last.links
      ∙ ap (λ (i : ℕ). programmed p.text k m (tasks_lines (connections_line c.0 i ∷ []))) (zero-add c.1)
      ∙ ap (λ (l : Line). programmed p.text k m (tasks_lines (l ∷ []))) (sym f.2) ∙ programmed_more p.text k m (tasks_lines []) line)) e,
)
dump_found s section.Connection p k line q fields draft h e = (
  k,
  reads s (progress_read section.Connection p k) line k (connection_of p.text.form line) (λ l. after_connections p (record p.text { links = p.text.links ++ l ∷ [] }) p.left) q
      (λ l is. let f = connection_found p.text.form line l h.form is in
      let t = record p.text { links = p.text.links ++ l ∷ [] } in
      let longer = length-append p.text.links (l ∷ []) in
      let m = length k.programs in
      let i = length p.text.links + suc p.left in
      after_connections_adds s p t p.left (progress_read section.Connection p k) line k
      (record { version = fields.version; unused = fields.unused; players = fields.players; objects = fields.objects; notes = fields.notes; programs = fields.programs; links = All-push (IsLink p.text.form) p.text.links l fields.links f.0 })
      draft h.players h.objects h.programs h.fills h.form (omega (arith, h.count)) (subst (IsCountOf s) (omega arith) h.few)
      (ap (λ (j : ℕ). programmed p.text k m (tasks_lines (connections_line p.text.form j ∷ map link_line (p.text.links ++ l ∷ [])))) (omega arith)
      ∙ ap (λ (ls : List Line). programmed p.text k m (tasks_lines (connections_line p.text.form i ∷ ls))) (map_push link_line p.text.links l ∙ ap (λ (w : Line). map link_line p.text.links ++ w ∷ []) (sym f.1))
      ∙ programmed_more p.text k m (tasks_lines (connections_line p.text.form i ∷ map link_line p.text.links)) line)) e,
)
dump_found s section.End p k line q fields draft h e = absurd cc
