-- Records that are written one after another.
use Rattle.std.proofs.Common.{◌≡◌, ℕ, suc, ◌+◌, ◌<◌, List, [], ◌∷◌, ◌++◌, length, take, get_or, Option, sym, ap, ◌∙◌, append_assoc, arith, add-zero}
use Rattle.std.specs.Prelude.{map, pos}
use Rattle.std.specs.Fmt.{signed_decimal}
use Rattle.std.specs.List.{flat_map}
use Rattle.std.proofs.lemmas.List.{take_more, map-append, length-map, length-take-le, append-nil}
use Rattle.moo_dbtext_object.specs.Lines.{Line, unlines, count_line}
use Rattle.moo_dbtext_object.proofs.WritingLaws.{Appends, appends_then}
use Rattle.moo_dbtext_record.specs.Programs.{Row, Table, Program, program_lines}
use Rattle.moo_dbtext_record.specs.Texts.{Text, header_line, objects_lines, tasks_lines, connections_lines}
use Rattle.moo_dbtext_record.specs.Writing.{verb_programs, row_programs, table_programs, no_notes, canonical_lines}

-- ---- one more of a list

pub mapped_more : {X Y : Type 0} (f : X → Y) (xs : List X) (i : ℕ) (x : X) → i < length xs → x ≡ get_or xs i x → map f (take (i + 1) xs) ≡ map f (take i xs) ++ f x ∷ []
mapped_more f xs i x lt is = ap (map f) (take_more xs i x lt) ∙ map-append f (take i xs) (get_or xs i x ∷ []) ∙ ap (λ y. map f (take i xs) ++ f y ∷ []) (sym is)

pub so_many : {X Y : Type 0} (f : X → Y) (xs : List X) (i : ℕ) → i < length xs → length (map f (take i xs)) ≡ i
so_many f xs i lt = length-map (take i xs) f ∙ length-take-le i xs (omega arith)

pub grown : (old mid new : List ℕ) (a b c : List Line) → c ≡ a ++ b → mid ≡ old ++ unlines a → new ≡ mid ++ unlines b → new ≡ old ++ unlines c
grown old mid new a b c whole so_far more =
    (appends_then old mid new a b (record { is = so_far }) (record { is = more })).is ∙ ap (λ (ls : List Line). old ++ unlines ls) (sym whole)

-- ---- the lines of a source

pub source_more : (source : List Line) (i : ℕ) (line : Line) (old mid new : List ℕ) → i < length source → line ≡ get_or source i line
    → mid ≡ old ++ unlines (take i source) → new ≡ mid ++ unlines (line ∷ []) → new ≡ old ++ unlines (take (i + 1) source)
source_more source i line old mid new lt is so_far more =
    let whole : take (i + 1) source ≡ take i source ++ line ∷ [] = take_more source i line lt ∙ ap (λ (l : Line). take i source ++ l ∷ []) (sym is) in
    grown old mid new (take i source) (line ∷ []) (take (i + 1) source) whole so_far more

-- ---- programs

pub row_programs_push : (o v : ℕ) (row : Row) (p : Option (List Line)) → row_programs o v (row ++ p ∷ []) ≡ row_programs o v row ++ verb_programs o (v + length row) p
row_programs_push o v [] p = append-nil (verb_programs o v p) ∙ ap (λ (n : ℕ). verb_programs o n p) (sym (add-zero v))
row_programs_push o v (q ∷ row) p =
    ap (λ (ps : List Program). verb_programs o v q ++ ps) (row_programs_push o (v + 1) row p ∙ ap (λ (n : ℕ). row_programs o (v + 1) row ++ verb_programs o n p) (omega arith))
    ∙ sym (append_assoc (verb_programs o v q) (row_programs o (v + 1) row) (verb_programs o (v + suc (length row)) p))

pub table_programs_push : (o : ℕ) (table : Table) (row : Row) → table_programs o (table ++ row ∷ []) ≡ table_programs o table ++ row_programs (o + length table) 0 row
table_programs_push o [] row = append-nil (row_programs o 0 row) ∙ ap (λ (n : ℕ). row_programs n 0 row) (sym (add-zero o))
table_programs_push o (r ∷ table) row =
    ap (λ (ps : List Program). row_programs o 0 r ++ ps) (table_programs_push (o + 1) table row ∙ ap (λ (n : ℕ). table_programs (o + 1) table ++ row_programs n 0 row) (omega arith))
    ∙ sym (append_assoc (row_programs o 0 r) (table_programs (o + 1) table) (row_programs (o + suc (length table)) 0 row))

abbrev pub programs_lines : List Program → List Line
programs_lines ps = flat_map program_lines ps

-- ---- the whole text

pub whole_written : (t : Text) (n : ℕ) (o0 o1 o2 o3 o4 o5 : List ℕ) → n ≡ length t.objects
    → o1 ≡ o0 ++ unlines (header_line t.version ∷ count_line n ∷ count_line (length (table_programs 0 t.programs)) ∷ signed_decimal (pos 0) ∷ [])
    → o2 ≡ o1 ++ unlines (count_line (length t.players) ∷ map signed_decimal t.players)
    → o3 ≡ o2 ++ unlines (objects_lines 0 t.objects no_notes)
    → o4 ≡ o3 ++ unlines (programs_lines (table_programs 0 t.programs))
    → o5 ≡ o4 ++ unlines (tasks_lines (connections_lines t.form t.links))
    → o5 ≡ o0 ++ unlines (canonical_lines t)
whole_written t n o0 o1 o2 o3 o4 o5 count front players objects programs back =
    let heads : ℕ → List Line = λ (k : ℕ). header_line t.version ∷ count_line k ∷ count_line (length (table_programs 0 t.programs)) ∷ signed_decimal (pos 0) ∷ [] in
    let e1 : Appends o0 o1 (heads (length t.objects)) = record { is = front ∙ ap (λ (k : ℕ). o0 ++ unlines (heads k)) count } in
    let e2 : Appends o1 o2 (count_line (length t.players) ∷ map signed_decimal t.players) = record { is = players } in
    let e3 : Appends o2 o3 (objects_lines 0 t.objects no_notes) = record { is = objects } in
    let e4 : Appends o3 o4 (programs_lines (table_programs 0 t.programs)) = record { is = programs } in
    let e5 : Appends o4 o5 (tasks_lines (connections_lines t.form t.links)) = record { is = back } in
    (appends_then o0 o1 o5 _ _ e1 (appends_then o1 o2 o5 _ _ e2 (appends_then o2 o3 o5 _ _ e3 (appends_then o3 o4 o5 _ _ e4 e5)))).is
