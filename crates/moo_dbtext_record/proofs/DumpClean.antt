-- No line that is read of a text holds the end of a line.
use Rattle.std.proofs.Common.{◌≡◌, ◌≢◌, ℕ, ℤ, zero, suc, ◌<◌, ◌^◌, Bool, true, false, not, cond, eqb, [], ◌∷◌, ◌++◌, length, Option, Some, None, Ok, inl, inr, refl, subst, arith}
use Rattle.std.specs.Prelude.{codes}
use Rattle.std.specs.Fmt.{signed_decimal, decimal}
use Rattle.std.specs.List.{list_all}
use Rattle.std.specs.Str.{bytes_eq}
use Rattle.std.proofs.lemmas.Slice.Eq.{bytes_eq-Decides}
use Rattle.moo_dbtext_object.specs.Lines.{Line, ◌>>=◌, Sizes, number_of, bounded_count_of, text_of, count_line}
use Rattle.moo_dbtext_object.proofs.LineLaws.{both_true}
use Rattle.moo_dbtext_object.proofs.Steps.{branch}
use Rattle.moo_dbtext_object.proofs.Clean.{IsClean, clean-append, along, first_clean, decimal_clean, signed_clean, number_clean, bounded_count_clean, string_clean}
use Rattle.moo_dbtext_object.specs.ObjectReading.{object_line}
use Rattle.moo_dbtext_object.proofs.ObjectClean.{object_clean}
use Rattle.moo_dbtext_record.specs.Programs.{Table}
use Rattle.moo_dbtext_record.specs.Texts.{header_front, live_line, recycled_line, link_line, connections_line, IsLink}
use Rattle.moo_dbtext_record.specs.Headings.{version_of, head_of, program_head_of, tasks_of, connection_count_of, connection_of}
use Rattle.moo_dbtext_record.specs.DumpReading.{Progress, after_players, after_connections, after_head, after_object_line, after_source, dump_step}
use Rattle.moo_dbtext_record.specs.Answer.{HasNoEnd}
use Rattle.moo_dbtext_record.specs.declared.dump.Form.{Form}
use Rattle.moo_dbtext_record.specs.declared.dump.Form.TheVariants as form
use Rattle.moo_dbtext_record.specs.declared.dump_reader.Section.{Section}
use Rattle.moo_dbtext_record.specs.declared.dump_reader.Section.TheVariants as section
use Rattle.moo_dbtext_record.proofs.HeadingAgain.{version_found, head_found, program_head_found, tasks_found, IsPresent, connection_count_found, connection_found}

pub HasNoEnd-clean : (line : Line) → IsClean line → HasNoEnd line
HasNoEnd-clean [] h k lt e = absurd (omega arith)
HasNoEnd-clean (b ∷ line) h zero lt e = h.0 e
HasNoEnd-clean (b ∷ line) h (suc k) lt e = HasNoEnd-clean line h.1 k (omega arith) e

abbrev is_inside : ℕ → Bool
is_inside b = not (eqb b 10)

inside : (b : ℕ) → is_inside b ≡ true → b ≢ 10
inside b h e = absurd (let at_end : is_inside 10 ≡ true = subst (λ (k : ℕ). is_inside k ≡ true) e h in cc)

-- words that are written out
words_clean : (s : Line) → list_all is_inside s ≡ true → IsClean s
words_clean [] h = tt
words_clean (b ∷ s) h = let p = both_true (is_inside b) (list_all is_inside s) h in (inside b p.0, words_clean s p.1)

count_line_clean : (n : ℕ) → n < 2 ^ 31 → IsClean (count_line n)
count_line_clean n lt = decimal_clean n (omega arith)

version_clean : (line : Line) (v : ℕ) → version_of line ≡ Ok v → IsClean line
version_clean line v e =
    let f = version_found line v e in
    along line _ f.1 (clean-append header_front (count_line v ++ codes " **") (words_clean header_front refl)
    (clean-append (count_line v) (codes " **") (count_line_clean v (omega (arith, f.0.high))) (words_clean (codes " **") refl)))

head_clean : (n : ℕ) (line : Line) (live : Bool) → n < 2 ^ 64 → head_of n line ≡ Ok live → IsClean line
head_clean n line live small e = along line _ (head_found n line live e) (each live)
  where
    each : (live : Bool) → IsClean (cond live (live_line n) (recycled_line n))
    each true = (λ e. omega arith, decimal_clean n small)
    each false = (λ e. omega arith, clean-append (decimal n) (codes " recycled") (decimal_clean n small) (words_clean (codes " recycled") refl))

program_head_clean : (table : Table) (line : Line) (v : ℕ × ℕ) → program_head_of table line ≡ Ok v → IsClean line
program_head_clean table line v e =
    let f = program_head_found table line v e in
    along line _ f.3 (λ e. omega arith, clean-append (count_line v.0) (58 ∷ count_line v.1) (count_line_clean v.0 f.0) (λ e. omega arith, count_line_clean v.1 f.1))

tasks_clean : (words line : Line) (u : Unit {0}) → list_all is_inside (codes "0 " ++ words) ≡ true → tasks_of words line ≡ Ok u → IsClean line
tasks_clean words line u h e = along line _ (tasks_found words line u e) (words_clean (codes "0 " ++ words) h)

count_words_clean : (f : Form) (n : ℕ) → IsPresent f → n < 2 ^ 31 → IsClean (connections_line f n)
count_words_clean form.Absent n h lt = absurd h
count_words_clean form.Plain n h lt = clean-append (count_line n) (codes " active connections") (count_line_clean n lt) (words_clean (codes " active connections") refl)
count_words_clean form.WithListeners n h lt = clean-append (count_line n) (codes " active connections with listeners") (count_line_clean n lt) (words_clean (codes " active connections with listeners") refl)

link_clean : (f : Form) (who : ℤ) (listener : Option ℤ) → IsLink f (record { who = who; listener = listener }) → IsClean (link_line (record { who = who; listener = listener }))
link_clean form.Absent who listener h = absurd h
link_clean form.Plain who None h = clean-append (signed_decimal who) [] (signed_clean who h.0) tt
link_clean form.Plain who (Some z) h = absurd (let e = h.1 in cc)
link_clean form.WithListeners who None h = absurd h.1
link_clean form.WithListeners who (Some z) h = clean-append (signed_decimal who) (codes " " ++ signed_decimal z) (signed_clean who h.0) (λ e. omega arith, signed_clean z h.1)

-- the number of an object that comes is within its range
abbrev Counted : Progress → Type 0
Counted p = length p.text.objects < 2 ^ 64

pub dump_clean : (s : Sizes) (x : Section) (p : Progress) (line : Line) (q : Progress) → Counted p → (x ≡ section.Connection → IsPresent p.text.form) → dump_step s x p line ≡ Ok q → IsClean line
unfolding dump_step
dump_clean s section.Header p line q small present e = first_clean line (version_of line) (λ v. Ok (record p { section = section.ObjectCount; text = record p.text { version = v } })) q e (version_clean line)
dump_clean s section.ObjectCount p line q small present e = first_clean line (bounded_count_of s line) (λ n. Ok (record p { section = section.ProgramCount; objects_left = n })) q e (bounded_count_clean s line)
dump_clean s section.ProgramCount p line q small present e = first_clean line (bounded_count_of s line) (λ n. Ok (record p { section = section.Unused; programs_left = n })) q e (bounded_count_clean s line)
dump_clean s section.Unused p line q small present e = first_clean line (number_of line) (λ z. Ok (record p { section = section.PlayerCount })) q e (number_clean line)
dump_clean s section.PlayerCount p line q small present e = first_clean line (bounded_count_of s line) (λ n. Ok (after_players p p.text n)) q e (bounded_count_clean s line)
dump_clean s section.Player p line q small present e = first_clean line (number_of line) (λ z. Ok (after_players p (record p.text { players = p.text.players ++ z ∷ [] }) p.left)) q e (number_clean line)
dump_clean s section.Head p line q small present e = first_clean line (head_of (length p.text.objects) line) (λ live. Ok (after_head p live)) q e (λ live is. head_clean (length p.text.objects) line live small is)
dump_clean s section.Object p line q small present e = first_clean line (object_line s p.draft line) (λ r. Ok (after_object_line p r)) q e (object_clean s p.draft.awaited p.draft line)
dump_clean s section.ProgramHead p line q small present e = first_clean line (program_head_of p.text.programs line) (λ v. Ok (record p { section = section.Source; object = v.0; verb = v.1 })) q e (program_head_clean p.text.programs line)
dump_clean s section.Source p line q small present e =
    elim (branch (bytes_eq line (codes ".")) (after_source p) q (text_of s line >>= λ x. Ok (record p { section = section.Source; source = p.source ++ x ∷ [] })) e) [
      | inl dot ↦ along line _ ((bytes_eq-Decides line (codes ".")).0 dot.0) (words_clean (codes ".") refl)
      | inr more ↦ first_clean line (text_of s line) (λ x. Ok (record p { section = section.Source; source = p.source ++ x ∷ [] })) q more (string_clean s line)
    ]
dump_clean s section.Clocks p line q small present e = first_clean line (tasks_of (codes "clocks") line) (λ none. Ok (record p { section = section.Queued })) q e (λ u is. tasks_clean (codes "clocks") line u refl is)
dump_clean s section.Queued p line q small present e = first_clean line (tasks_of (codes "queued tasks") line) (λ none. Ok (record p { section = section.Suspended })) q e (λ u is. tasks_clean (codes "queued tasks") line u refl is)
dump_clean s section.Suspended p line q small present e = first_clean line (tasks_of (codes "suspended tasks") line) (λ none. Ok (record p { section = section.ConnectionCount })) q e (λ u is. tasks_clean (codes "suspended tasks") line u refl is)
dump_clean s section.ConnectionCount p line q small present e = first_clean line (connection_count_of s line) (λ c. Ok (after_connections p (record p.text { form = c.0 }) c.1)) q e
    (λ c is. let f = connection_count_found s line c is in along line _ f.2 (count_words_clean c.0 c.1 f.0 f.1))
dump_clean s section.Connection p line q small present e = first_clean line (connection_of p.text.form line) (λ l. Ok (after_connections p (record p.text { links = p.text.links ++ l ∷ [] }) p.left)) q e
    (λ l is. let f = connection_found p.text.form line l (present refl) is in along line _ f.1 (link_clean p.text.form l.who l.listener f.0))
dump_clean s section.End p line q small present e = absurd cc
