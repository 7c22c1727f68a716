-- A whole text that was written is read again.
use Rattle.std.proofs.Common.{◌≡◌, ◌≢◌, ℕ, ℤ, zero, suc, ◌+◌, Bool, true, false, List, [], ◌∷◌, ◌++◌, length, Option, Some, None, Result, Ok, Err, refl, sym, ap, ◌∙◌, append_assoc}
use Rattle.std.specs.Prelude.{codes, FitsSigned, map}
use Rattle.std.specs.Int.{w32}
use Rattle.std.specs.Fmt.{signed_decimal}
use Rattle.std.specs.List.{flat_map, AllByRecursion}
use Rattle.std.specs.Str.{bytes_eq}
use Rattle.std.proofs.lemmas.List.{append-nil, length-append}
use Rattle.std.proofs.lemmas.Bool.{lt-ltb}
use Rattle.std.proofs.lemmas.Slice.Eq.{bytes_eq-Decides}
use Rattle.moo_dbtext_object.specs.declared.fault.LineFault.{LineFault}
use Rattle.moo_dbtext_object.specs.Lines.{Line, ◌>>=◌, Sizes, IsStringOf, IsCountOf}
use Rattle.moo_dbtext_object.specs.Until.{Place, until}
use Rattle.moo_dbtext_object.proofs.Resuming.{resumed}
use Rattle.moo_dbtext_object.proofs.TextLaws.{text_again as string_again, number_again, bounded_count_again}
use Rattle.moo_dbtext_object.specs.Objects.{Object, object_lines}
use Rattle.moo_dbtext_object.specs.ObjectReading.{Draft, fresh_draft, object_line}
use Rattle.moo_dbtext_object.proofs.ObjectAgain.{object_again}
use Rattle.moo_dbtext_record.specs.Programs.{Table, blank_entry, blank_table, with_source, Program, program_line, program_lines, Fills, IsSourceLine, IsProgramText}
use Rattle.moo_dbtext_record.specs.Texts.{Text, Slack, Link, live_line, recycled_line, objects_lines, link_line, connections_lines, tasks_lines, text_lines, IsEntry, IsLink, MayHave, IsWritten}
use Rattle.moo_dbtext_record.specs.DumpReading.{Progress, after_programs, after_objects, after_players, after_connections, with_object, after_object_line, after_source, dump_step, ended, empty_text, start, run}
use Rattle.moo_dbtext_record.specs.declared.dump.Form.{Form}
use Rattle.moo_dbtext_record.specs.declared.dump.Form.TheVariants as form
use Rattle.moo_dbtext_record.specs.declared.dump_reader.Section.{Section}
use Rattle.moo_dbtext_record.specs.declared.dump_reader.Section.TheVariants as section
use Rattle.moo_dbtext_record.proofs.HeadingAgain.{version_again, live_again, recycled_again, program_head_again, tasks_again, connection_count_again, connection_again}

-- a state between two records, with the counts of those that are to come and the verb of the last program
abbrev at : Section → Text → ℕ → ℕ → ℕ → ℕ → ℕ → Progress
at x t l ol pl o v = record { section = x; text = t; left = l; objects_left = ol; programs_left = pl; draft = fresh_draft; object = o; verb = v; source = [] }

-- what follows the last record of a kind does not depend on the section before
abbrev base : ℕ → ℕ → ℕ → ℕ → ℕ → Progress
base l ol pl o v = at section.Header empty_text l ol pl o v

to_programs : (x : Section) (b t : Text) (l ol pl o v n : ℕ) → after_programs (at x b l ol pl o v) t n ≡ after_programs (base l ol pl o v) t n
to_programs x b t l ol pl o v zero = refl
to_programs x b t l ol pl o v (suc n) = refl

to_objects : (x : Section) (b t : Text) (l ol pl o v n : ℕ) → after_objects (at x b l ol pl o v) t n ≡ after_objects (base l ol pl o v) t n
to_objects x b t l ol pl o v zero = to_programs x b t l ol pl o v pl
to_objects x b t l ol pl o v (suc n) = refl

to_players : (x : Section) (b t : Text) (l ol pl o v n : ℕ) → after_players (at x b l ol pl o v) t n ≡ after_players (base l ol pl o v) t n
to_players x b t l ol pl o v zero = to_objects x b t l ol pl o v ol
to_players x b t l ol pl o v (suc n) = refl

abbrev with_players : Text → List ℤ → Text
with_players t ps = record t { players = t.players ++ ps }

abbrev with_objects : Text → List (Option Object) → Text
with_objects t os = record t { objects = t.objects ++ os; programs = t.programs ++ blank_table os }

abbrev with_links : Text → List Link → Text
with_links t ls = record t { links = t.links ++ ls }

-- the players that are still to come, and then the objects
players_again : (s : Sizes) (ps : List ℤ) → AllByRecursion (FitsSigned w32) ps → (t : Text) (l ol pl o v : ℕ) (rest : List Line)
    → (k : ℕ) × (run s (after_players (base l ol pl o v) t (length ps)) (map signed_decimal ps ++ rest) ≡ run s (after_objects (base k ol pl o v) (with_players t ps) ol) rest)
unfolding dump_step
players_again s [] h t l ol pl o v rest = (l, ap (λ (ps : List ℤ). run s (after_objects (base l ol pl o v) (record t { players = ps }) ol) rest) (sym (append-nil t.players)))
players_again s (p ∷ ps) h t l ol pl o v rest =
    let next = with_players t (p ∷ []) in
    let n = length ps in
    let one : run s (at section.Player t n ol pl o v) (signed_decimal p ∷ (map signed_decimal ps ++ rest)) ≡ run s (after_players (at section.Player t n ol pl o v) next n) (map signed_decimal ps ++ rest) =
    rw (number_again p h.0) refl in
    let more = players_again s ps h.1 next n ol pl o v rest in (
      more.0,
      one ∙ ap (λ (q : Progress). run s q (map signed_decimal ps ++ rest)) (to_players section.Player t next n ol pl o v n) ∙ more.1
          ∙ ap (λ (all : List ℤ). run s (after_objects (base more.0 ol pl o v) (record t { players = all }) ol) rest) (append_assoc t.players (p ∷ []) ps),
    )

-- the reader of an object as the reader of the text sees it
abbrev object_seen : Sizes → Text → ℕ → ℕ → ℕ → ℕ → ℕ → Place Draft Object → Result Progress LineFault
object_seen s t l ol pl o v p = elim p.1 [ None ↦ Ok (record (at section.Object t l ol pl o v) { draft = p.0 }) | Some x ↦ run s (after_objects (record (at section.Object t l ol pl o v) { draft = p.0 }) (with_object t (Some x)) ol) p.2 ]

object_hosted : (s : Sizes) (t : Text) (l ol pl o v : ℕ) (d : Draft) (ls : List Line) → run s (record (at section.Object t l ol pl o v) { draft = d }) ls ≡ (until (object_line s) d ls >>= object_seen s t l ol pl o v)
unfolding dump_step
object_hosted s t l ol pl o v d [] = refl
object_hosted s t l ol pl o v d (line ∷ ls) = after (λ e. object_hosted s t l ol pl o v e ls) (object_line s d line)
  where
    after : ((e : Draft) → run s (record (at section.Object t l ol pl o v) { draft = e }) ls ≡ (until (object_line s) e ls >>= object_seen s t l ol pl o v)) → (r : Result (Draft × Option Object) LineFault)
        → ((r >>= λ x. Ok (after_object_line (record (at section.Object t l ol pl o v) { draft = d }) x)) >>= λ q. run s q ls) ≡ (resumed (object_line s) r ls >>= object_seen s t l ol pl o v)
    after rest (Ok (e, None)) = rest e
    after rest (Ok (e, Some x)) = refl
    after rest (Err f) = refl

-- the objects that are still to come, and then the programs
objects_again : (s : Sizes) (os : List (Option Object)) → AllByRecursion (IsEntry s) os → (notes : ℕ → Line) → ((n : ℕ) → IsStringOf s (notes n)) → (t : Text) (l ol pl o v : ℕ) (rest : List Line)
    → (m : ℕ) × (run s (after_objects (base l ol pl o v) t (length os)) (objects_lines (length t.objects) os notes ++ rest) ≡ run s (after_programs (base l m pl o v) (with_objects t os) pl) rest)
unfolding dump_step
objects_again s [] h notes hn t l ol pl o v rest = (
  ol,
  ap (λ (os : List (Option Object)). run s (after_programs (base l ol pl o v) (record t { objects = os }) pl) rest) (sym (append-nil t.objects))
      ∙ ap (λ (ps : Table). run s (after_programs (base l ol pl o v) (record t { objects = t.objects ++ []; programs = ps }) pl) rest) (sym (append-nil t.programs)),
)
objects_again s (None ∷ os) h notes hn t l ol pl o v rest =
    let next = with_object t None in
    let n = length os in
    let after = objects_lines (length t.objects + 1) os notes in
    let count : length next.objects ≡ length t.objects + 1 = length-append t.objects (None ∷ []) in
    let one : run s (at section.Head t l n pl o v) (recycled_line (length t.objects) ∷ (after ++ rest)) ≡ run s (after_objects (at section.Head t l n pl o v) next n) (after ++ rest) =
    rw (recycled_again (length t.objects)) refl in
    let more = objects_again s os h.1 notes hn next l n pl o v rest in (
      more.0,
      one ∙ ap (λ (q : Progress). run s q (after ++ rest)) (to_objects section.Head t next l n pl o v n) ∙ ap (λ (i : ℕ). run s (after_objects (base l n pl o v) next n) (objects_lines i os notes ++ rest)) (sym count) ∙ more.1
          ∙ ap (λ (all : List (Option Object)). run s (after_programs (base l more.0 pl o v) (record t { objects = all; programs = (t.programs ++ [] ∷ []) ++ blank_table os }) pl) rest) (append_assoc t.objects (None ∷ []) os)
          ∙ ap (λ (all : Table). run s (after_programs (base l more.0 pl o v) (record t { objects = t.objects ++ None ∷ os; programs = all }) pl) rest) (append_assoc t.programs ([] ∷ []) (blank_table os)),
    )
objects_again s (Some x ∷ os) h notes hn t l ol pl o v rest =
    let next = with_object t (Some x) in
    let n = length os in
    let i = length t.objects in
    let after = objects_lines (i + 1) os notes in
    let count : length next.objects ≡ i + 1 = length-append t.objects (Some x ∷ []) in
    let one : run s (at section.Head t l n pl o v) (live_line i ∷ ((object_lines x (notes i) ++ after) ++ rest)) ≡ run s (at section.Object t l n pl o v) ((object_lines x (notes i) ++ after) ++ rest) =
    rw (live_again i) refl in
    let whole : run s (at section.Object t l n pl o v) (object_lines x (notes i) ++ (after ++ rest)) ≡ run s (after_objects (at section.Object t l n pl o v) next n) (after ++ rest) =
    object_hosted s t l n pl o v fresh_draft (object_lines x (notes i) ++ (after ++ rest)) ∙ ap (λ (p : Result (Place Draft Object) LineFault). p >>= object_seen s t l n pl o v) (object_again s x (notes i) h.0 (hn i) (after ++ rest)) in
    let more = objects_again s os h.1 notes hn next l n pl o v rest in (
      more.0,
      one ∙ ap (run s (at section.Object t l n pl o v)) (append_assoc (object_lines x (notes i)) after rest) ∙ whole
          ∙ ap (λ (q : Progress). run s q (after ++ rest)) (to_objects section.Object t next l n pl o v n)
          ∙ ap (λ (k : ℕ). run s (after_objects (base l n pl o v) next n) (objects_lines k os notes ++ rest)) (sym count) ∙ more.1
          ∙ ap (λ (all : List (Option Object)). run s (after_programs (base l more.0 pl o v) (record t { objects = all; programs = (t.programs ++ blank_entry (Some x) ∷ []) ++ blank_table os }) pl) rest) (append_assoc t.objects (Some x ∷ []) os)
          ∙ ap (λ (all : Table). run s (after_programs (base l more.0 pl o v) (record t { objects = t.objects ++ Some x ∷ os; programs = all }) pl) rest) (append_assoc t.programs (blank_entry (Some x) ∷ []) (blank_table os)),
    )

-- ---- programs

abbrev sourced : Text → ℕ → ℕ → ℕ → ℕ → ℕ → List Line → Progress
sourced t l ol pl o v src = record (at section.Source t l ol pl o v) { source = src }

not_dot : (line : Line) → line ≢ codes "." → bytes_eq line (codes ".") ≡ false
not_dot line h = decide (bytes_eq line (codes ".")) (λ e. h ((bytes_eq-Decides line (codes ".")).0 e))
  where
    decide : (b : Bool) → (b ≡ true → ⊥) → b ≡ false
    decide true no_way = absurd (no_way refl)
    decide false no_way = refl

source_again : (s : Sizes) (ls : List Line) → AllByRecursion (IsSourceLine s) ls → (t : Text) (l ol pl o v : ℕ) (src : List Line) (rest : List Line)
    → run s (sourced t l ol pl o v src) (ls ++ codes "." ∷ rest) ≡ run s (after_source (sourced t l ol pl o v (src ++ ls))) rest
unfolding dump_step
source_again s [] h t l ol pl o v src rest = ap (λ (x : List Line). run s (after_source (sourced t l ol pl o v x)) rest) (sym (append-nil src))
source_again s (x ∷ ls) h t l ol pl o v src rest =
    let one : run s (sourced t l ol pl o v src) (x ∷ (ls ++ codes "." ∷ rest)) ≡ run s (sourced t l ol pl o v (src ++ x ∷ [])) (ls ++ codes "." ∷ rest) =
    rw (not_dot x h.0.more, string_again s x h.0.text) refl in
    one ∙ source_again s ls h.1 t l ol pl o v (src ++ x ∷ []) rest ∙ ap (λ (y : List Line). run s (after_source (sourced t l ol pl o v y)) rest) (append_assoc src (x ∷ []) ls)

programs_again : (s : Sizes) (ps : List Program) → AllByRecursion (IsProgramText s) ps → (end : Table) (t : Text) → Fills t.programs ps end → (l ol pl o v : ℕ) (rest : List Line)
    → (m : ℕ) × (i : ℕ) × (j : ℕ) × (run s (after_programs (base l ol pl o v) t (length ps)) (flat_map program_lines ps ++ rest) ≡ run s (at section.Clocks (record t { programs = end }) l ol m i j) rest)
unfolding dump_step
programs_again s [] h end t f l ol pl o v rest = (pl, o, v, ap (λ (x : Table). run s (at section.Clocks (record t { programs = x }) l ol pl o v) rest) f)
programs_again s (p ∷ ps) h end t f l ol pl o v rest =
    let n = length ps in
    let more = flat_map program_lines ps ++ rest in
    let next = record t { programs = with_source p.object p.verb p.source t.programs } in
    let lines : (program_lines p ++ flat_map program_lines ps) ++ rest ≡ program_line p.object p.verb ∷ (p.source ++ codes "." ∷ more) =
    append_assoc (program_lines p) (flat_map program_lines ps) rest ∙ ap (λ (ls : List Line). program_line p.object p.verb ∷ ls) (append_assoc p.source (codes "." ∷ []) more) in
    let head : run s (at section.ProgramHead t l ol n o v) (program_line p.object p.verb ∷ (p.source ++ codes "." ∷ more)) ≡ run s (sourced t l ol n p.object p.verb []) (p.source ++ codes "." ∷ more) =
    rw (program_head_again t.programs p.object p.verb h.0.object h.0.verb f.0) refl in
    let others = programs_again s ps h.1 end next f.1 l ol n p.object p.verb rest in (
      others.0,
      others.1,
      others.2,
      ap (run s (at section.ProgramHead t l ol n o v)) lines ∙ head ∙ source_again s p.source h.0.source t l ol n p.object p.verb [] more
          ∙ ap (λ (q : Progress). run s q more) (to_programs section.Source t next l ol n p.object p.verb n) ∙ others.3,
    )

-- ---- the last section

links_again : (s : Sizes) (ls : List Link) (t : Text) → AllByRecursion (IsLink t.form) ls → (x : Section) (b : Text) (l ol pl o v : ℕ)
    → (k : ℕ) × (run s (after_connections (at x b l ol pl o v) t (length ls)) (map link_line ls) ≡ Ok (at section.End (with_links t ls) k ol pl o v))
unfolding dump_step
links_again s [] t h x b l ol pl o v = (l, ap (λ (ls : List Link). Ok (at section.End (record t { links = ls }) l ol pl o v)) (sym (append-nil t.links)))
links_again s (y ∷ ls) t h x b l ol pl o v =
    let next = with_links t (y ∷ []) in
    let n = length ls in
    let one : run s (at section.Connection t n ol pl o v) (link_line y ∷ map link_line ls) ≡ run s (after_connections (at section.Connection t n ol pl o v) next n) (map link_line ls) =
    rw (connection_again t.form y.who y.listener h.0) refl in
    let more = links_again s ls next h.1 section.Connection t n ol pl o v in
    (more.0, one ∙ more.1 ∙ ap (λ (all : List Link). Ok (at section.End (record t { links = all }) more.0 ol pl o v)) (append_assoc t.links (y ∷ []) ls))

connections_again : (s : Sizes) (f : Form) (ls : List Link) (b : Text) (l ol pl o v : ℕ) → MayHave b.version f → AllByRecursion (IsLink f) ls → IsCountOf s (length ls)
    → (p : Progress) × (run s (at section.ConnectionCount (record b { form = form.Absent; links = [] }) l ol pl o v) (connections_lines f ls) ≡ Ok p) × (ended p ≡ Ok (record b { form = f; links = ls }))
unfolding dump_step ended
connections_again s form.Absent [] b l ol pl o v may h count = (at section.ConnectionCount (record b { form = form.Absent; links = [] }) l ol pl o v, refl, rw (lt-ltb b.version 4 may) refl)
connections_again s form.Absent (x ∷ ls) b l ol pl o v may h count = absurd h.0
connections_again s form.Plain ls b l ol pl o v may h count =
    let t = record b { form = form.Plain; links = [] } in
    let more = links_again s ls t h section.ConnectionCount (record b { form = form.Absent; links = [] }) l ol pl o v in
    (at section.End (with_links t ls) more.0 ol pl o v, rw (connection_count_again s form.Plain (length ls) tt count) more.1, refl)
connections_again s form.WithListeners ls b l ol pl o v may h count =
    let t = record b { form = form.WithListeners; links = [] } in
    let more = links_again s ls t h section.ConnectionCount (record b { form = form.Absent; links = [] }) l ol pl o v in
    (at section.End (with_links t ls) more.0 ol pl o v, rw (connection_count_again s form.WithListeners (length ls) tt count) more.1, refl)

-- a whole text
pub text_again : (s : Sizes) (t : Text) (k : Slack) → IsWritten s t k → (p : Progress) × (run s start (text_lines t k) ≡ Ok p) × (ended p ≡ Ok t)
unfolding dump_step
text_again s t k h =
    let n = length t.objects in
    let m = length k.programs in
    let b = record empty_text { version = t.version } in
    let last = connections_lines t.form t.links in
    let tasks = tasks_lines last in
    let programs = flat_map program_lines k.programs ++ tasks in
    let rest = objects_lines 0 t.objects k.notes ++ programs in
    let first : run s start (text_lines t k) ≡ run s (after_players (at section.PlayerCount b 0 n m 0 0) b (length t.players)) (map signed_decimal t.players ++ rest) =
    rw (version_again t.version h.version, bounded_count_again s n h.object_count, bounded_count_again s m h.program_count, number_again k.unused h.unused, bounded_count_again s (length t.players) h.player_count) refl in
    let players = players_again s t.players h.players b 0 n m 0 0 rest in
    let with_p = with_players b t.players in
    let objects = objects_again s t.objects h.objects k.notes h.notes with_p players.0 n m 0 0 programs in
    let with_o = with_objects with_p t.objects in
    let given = programs_again s k.programs h.programs t.programs with_o h.fills players.0 objects.0 m 0 0 tasks in
    let with_g = record with_o { programs = t.programs } in
    let none : run s (at section.Clocks with_g players.0 objects.0 given.0 given.1 given.2) tasks ≡ run s (at section.ConnectionCount with_g players.0 objects.0 given.0 given.1 given.2) last =
    rw (tasks_again (codes "clocks"), tasks_again (codes "queued tasks"), tasks_again (codes "suspended tasks")) refl in
    let connections = connections_again s t.form t.links with_g players.0 objects.0 given.0 given.1 given.2 h.form h.links h.link_count in
    (connections.0, first ∙ ap (λ (q : Progress). run s q (map signed_decimal t.players ++ rest)) (to_players section.PlayerCount b b 0 n m 0 0 (length t.players)) ∙ players.1 ∙ objects.1 ∙ given.3 ∙ none ∙ connections.1, connections.2)
