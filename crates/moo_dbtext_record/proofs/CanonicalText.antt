-- What may be written may be written with its programs in rising order.
use Rattle.std.proofs.Common.{◌≡◌, ℕ, zero, suc, ◌+◌, ◌<◌, ◌≤◌, ◌^◌, true, List, [], ◌∷◌, ◌++◌, length, Option, Some, None, refl, sym, ap, subst, ◌∙◌, arith}
use Rattle.std.specs.Prelude.{map}
use Rattle.std.specs.List.{AllByRecursion}
use Rattle.std.proofs.lemmas.List.{length-append, length-map}
use Rattle.std.proofs.lemmas.List.Elements.{All-nil}
use Rattle.moo_value.specs.Tree.{IsTextByte}
use Rattle.moo_dbtext_object.specs.Lines.{Line, Sizes, unlimited, limited, IsStringOf, IsCountOf, unlines}
use Rattle.moo_dbtext_object.specs.Objects.{Verb, Object}
use Rattle.moo_dbtext_record.specs.Programs.{Row, Table, no_program, blank_row, blank_entry, blank_table, is_open_in, is_open, with_source_in, with_source, Program, Fills, IsSourceLine, IsProgramText}
use Rattle.moo_dbtext_record.specs.Texts.{Text, Slack, IsEntry, IsWritten, Spells}
use Rattle.moo_dbtext_record.specs.Writing.{row_programs, table_programs, canonical, canonical_lines}
use Rattle.moo_dbtext_record.proofs.Canonical.{emptied_row, emptied, canonical_fills}

-- ---- the same verbs

emptied_in : (v : ℕ) (s : List Line) (row : Row) → emptied_row (with_source_in v s row) ≡ emptied_row row
emptied_in v s [] = refl
emptied_in zero s (p ∷ row) = refl
emptied_in (suc v) s (p ∷ row) = ap (λ (r : Row). None ∷ r) (emptied_in v s row)

emptied_with : (o v : ℕ) (s : List Line) (table : Table) → emptied (with_source o v s table) ≡ emptied table
emptied_with o v s [] = refl
emptied_with zero v s (row ∷ table) = ap (λ (r : Row). r ∷ emptied table) (emptied_in v s row)
emptied_with (suc o) v s (row ∷ table) = ap (λ (t : Table). emptied_row row ∷ t) (emptied_with o v s table)

fills_same : (a : Table) (ps : List Program) (b : Table) → Fills a ps b → emptied a ≡ emptied b
fills_same a [] b h = ap emptied h
fills_same a (p ∷ ps) b h = sym (emptied_with p.object p.verb p.source a) ∙ fills_same (with_source p.object p.verb p.source a) ps b h.1

verbs_empty : (vs : List Verb) → emptied_row (map no_program vs) ≡ map no_program vs
verbs_empty [] = refl
verbs_empty (v ∷ vs) = ap (λ (r : Row). None ∷ r) (verbs_empty vs)

blank_empty : (os : List (Option Object)) → emptied (blank_table os) ≡ blank_table os
blank_empty [] = refl
blank_empty (None ∷ os) = ap (λ (t : Table). [] ∷ t) (blank_empty os)
blank_empty (Some o ∷ os) = ap (λ (r : Row). r ∷ emptied (blank_table os)) (verbs_empty o.body.verbs) ∙ ap (λ (t : Table). blank_row o ∷ t) (blank_empty os)

-- ---- how many programs there are

one_more_in : (o i v : ℕ) (s : List Line) (row : Row) → is_open_in v row ≡ true → length (row_programs o i (with_source_in v s row)) ≡ length (row_programs o i row) + 1
one_more_in o i v s [] h = absurd cc
one_more_in o i zero s (None ∷ row) h = omega arith
one_more_in o i zero s (Some p ∷ row) h = absurd cc
one_more_in o i (suc v) s (None ∷ row) h = one_more_in o (i + 1) v s row h
one_more_in o i (suc v) s (Some p ∷ row) h = let more = one_more_in o (i + 1) v s row h in omega arith

one_more : (i o v : ℕ) (s : List Line) (table : Table) → is_open o v table ≡ true → length (table_programs i (with_source o v s table)) ≡ length (table_programs i table) + 1
one_more i o v s [] h = absurd cc
one_more i zero v s (row ∷ table) h =
    let more = one_more_in i 0 v s row h in
    let rest = table_programs (i + 1) table in
    let before = length-append (row_programs i 0 row) rest in
    let after = length-append (row_programs i 0 (with_source_in v s row)) rest in
    omega arith
one_more i (suc o) v s (row ∷ table) h =
    let more = one_more (i + 1) o v s table h in
    let before = length-append (row_programs i 0 row) (table_programs (i + 1) table) in
    let after = length-append (row_programs i 0 row) (table_programs (i + 1) (with_source o v s table)) in
    omega arith

none_in : (o i : ℕ) (vs : List Verb) → length (row_programs o i (map no_program vs)) ≡ 0
none_in o i [] = refl
none_in o i (v ∷ vs) = none_in o (i + 1) vs

none_yet : (i : ℕ) (os : List (Option Object)) → length (table_programs i (blank_table os)) ≡ 0
none_yet i [] = refl
none_yet i (None ∷ os) = none_yet (i + 1) os
none_yet i (Some o ∷ os) =
    let first = none_in i 0 o.body.verbs in
    let rest = none_yet (i + 1) os in
    let both = length-append (row_programs i 0 (blank_row o)) (table_programs (i + 1) (blank_table os)) in
    omega arith

fills_count : (a : Table) (ps : List Program) (b : Table) → Fills a ps b → length (table_programs 0 b) ≡ length (table_programs 0 a) + length ps
fills_count a [] b h = let same : length (table_programs 0 a) ≡ length (table_programs 0 b) = ap (λ (t : Table). length (table_programs 0 t)) h in omega arith
fills_count a (p ∷ ps) b h =
    let first = one_more 0 p.object p.verb p.source a h.0 in
    let rest = fills_count (with_source p.object p.verb p.source a) ps b h.1 in
    omega arith

-- ---- their lines

abbrev IsSlot : Sizes → Option (List Line) → Type 0
IsSlot s None = Unit {0}
IsSlot s (Some lines) = AllByRecursion (IsSourceLine s) lines

record IsRow (s : Sizes) (row : Row) : Type 0 where
  slots : AllByRecursion (IsSlot s) row
  count : length row < 2 ^ 31

put_slot : (s : Sizes) (v : ℕ) (lines : List Line) (row : Row) → AllByRecursion (IsSourceLine s) lines → AllByRecursion (IsSlot s) row → AllByRecursion (IsSlot s) (with_source_in v lines row)
put_slot s v lines [] h k = tt
put_slot s zero lines (p ∷ row) h k = (h, k.1)
put_slot s (suc v) lines (p ∷ row) h k = (k.0, put_slot s v lines row h k.1)

put_length : (v : ℕ) (lines : List Line) (row : Row) → length (with_source_in v lines row) ≡ length row
put_length v lines [] = refl
put_length zero lines (p ∷ row) = refl
put_length (suc v) lines (p ∷ row) = ap suc (put_length v lines row)

put_row : (s : Sizes) (o v : ℕ) (lines : List Line) (table : Table) → AllByRecursion (IsSourceLine s) lines → AllByRecursion (IsRow s) table → AllByRecursion (IsRow s) (with_source o v lines table)
put_row s o v lines [] h k = tt
put_row s zero v lines (row ∷ table) h k = (record { slots = put_slot s v lines row h k.0.slots; count = let same = put_length v lines row in omega (arith, k.0.count) }, k.1)
put_row s (suc o) v lines (row ∷ table) h k = (k.0, put_row s o v lines table h k.1)

fills_rows : (s : Sizes) (a : Table) (ps : List Program) (b : Table) → Fills a ps b → AllByRecursion (IsProgramText s) ps → AllByRecursion (IsRow s) a → AllByRecursion (IsRow s) b
fills_rows s a [] b h texts rows = subst (AllByRecursion (IsRow s)) h rows
fills_rows s a (p ∷ ps) b h texts rows = fills_rows s (with_source p.object p.verb p.source a) ps b h.1 texts.1 (put_row s p.object p.verb p.source a texts.0.source rows)

small : (s : Sizes) (n : ℕ) → IsCountOf s n → n < 2 ^ 31
small unlimited n h = h
small limited n h = omega arith

no_slots : (s : Sizes) (vs : List Verb) → AllByRecursion (IsSlot s) (map no_program vs)
no_slots s [] = tt
no_slots s (v ∷ vs) = (tt, no_slots s vs)

blank_rows : (s : Sizes) (os : List (Option Object)) → AllByRecursion (IsEntry s) os → AllByRecursion (IsRow s) (blank_table os)
blank_rows s [] h = tt
blank_rows s (None ∷ os) h = (record { slots = tt; count = omega arith }, blank_rows s os h.1)
blank_rows s (Some o ∷ os) h =
    let len = length-map o.body.verbs no_program in
    (record { slots = no_slots s o.body.verbs; count = omega (arith, small s (length o.body.verbs) h.0.verb_count) }, blank_rows s os h.1)

all_append : (s : Sizes) (ps qs : List Program) → AllByRecursion (IsProgramText s) ps → AllByRecursion (IsProgramText s) qs → AllByRecursion (IsProgramText s) (ps ++ qs)
all_append s [] qs h k = k
all_append s (p ∷ ps) qs h k = (h.0, all_append s ps qs h.1 k)

row_texts : (s : Sizes) (o v : ℕ) (row : Row) → AllByRecursion (IsSlot s) row → o < 2 ^ 31 → v + length row ≤ 2 ^ 31 → AllByRecursion (IsProgramText s) (row_programs o v row)
row_texts s o v [] h lt fits = tt
row_texts s o v (None ∷ row) h lt fits = row_texts s o (v + 1) row h.1 lt (omega arith)
row_texts s o v (Some lines ∷ row) h lt fits = (record { object = lt; verb = omega arith; source = h.0 }, row_texts s o (v + 1) row h.1 lt (omega arith))

table_texts : (s : Sizes) (o : ℕ) (table : Table) → AllByRecursion (IsRow s) table → o + length table ≤ 2 ^ 31 → AllByRecursion (IsProgramText s) (table_programs o table)
table_texts s o [] h fits = tt
table_texts s o (row ∷ table) h fits =
    all_append s (row_programs o 0 row) (table_programs (o + 1) table) (row_texts s o 0 row h.0.slots (omega arith) (omega (arith, h.0.count))) (table_texts s (o + 1) table h.1 (omega arith))

-- ---- the whole text

no_string : (s : Sizes) → IsStringOf s []
no_string unlimited = All-nil IsTextByte
no_string limited = record { text = All-nil IsTextByte; fits = omega arith }

pub canonical_written : (s : Sizes) (t : Text) (k : Slack) → IsWritten s t k → IsWritten s t (canonical t.programs)
canonical_written s t k h =
    let blank = blank_table t.objects in
    let shape : emptied t.programs ≡ blank = sym (fills_same blank k.programs t.programs h.fills) ∙ blank_empty t.objects in
    let count = fills_count blank k.programs t.programs h.fills in
    let none = none_yet 0 t.objects in
    let as_many : length (table_programs 0 t.programs) ≡ length k.programs = omega arith in
    let rows = fills_rows s blank k.programs t.programs h.fills h.programs (blank_rows s t.objects h.objects) in
    let long : length t.programs ≡ length t.objects = sym (length-map t.programs emptied_row) ∙ ap length shape ∙ length-map t.objects blank_entry in
    record {
      version = h.version;
      unused = record { sfits = omega arith };
      players = h.players;
      player_count = h.player_count;
      objects = h.objects;
      notes = λ n. no_string s;
      object_count = h.object_count;
      programs = table_texts s 0 t.programs rows (omega (arith, small s (length t.objects) h.object_count));
      fills = subst (λ (a : Table). Fills a (table_programs 0 t.programs) t.programs) shape (canonical_fills t.programs);
      program_count = subst (IsCountOf s) (sym as_many) h.program_count;
      form = h.form;
      links = h.links;
      link_count = h.link_count;
    }

-- the lines that a text is given spell it
pub canonical_spells : (bytes : List ℕ) (t : Text) → Spells bytes t → Spells (unlines (canonical_lines t)) t
canonical_spells bytes t h = record { slack = canonical t.programs; written = canonical_written unlimited t h.slack h.written; lines = refl }
