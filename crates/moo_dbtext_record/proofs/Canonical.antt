-- The programs of a table in rising order give that table.
use Rattle.std.proofs.Common.{◌≡◌, ℕ, ◌+◌, true, List, [], ◌∷◌, ◌++◌, length, Option, Some, None, refl, sym, ap, subst, ◌∙◌, append_assoc, arith}
use Rattle.std.specs.Prelude.{map}
use Rattle.std.proofs.lemmas.List.{length-append}
use Rattle.moo_dbtext_object.specs.Lines.{Line}
use Rattle.moo_dbtext_record.specs.Programs.{Row, Table, is_open_in, is_open, with_source_in, with_source, Program, Fills}
use Rattle.moo_dbtext_record.specs.Writing.{row_programs, table_programs}

-- rows in which no verb has a program
abbrev none_for : Option (List Line) → Option (List Line)
none_for p = None

abbrev pub emptied_row : Row → Row
emptied_row row = map none_for row

abbrev pub emptied : Table → Table
emptied table = map emptied_row table

-- a verb after others
open_after_in : (front row : Row) → is_open_in (length front) (front ++ row) ≡ is_open_in 0 row
open_after_in [] row = refl
open_after_in (None ∷ front) row = open_after_in front row
open_after_in (Some s ∷ front) row = open_after_in front row

put_after_in : (front : Row) (s : List Line) (row : Row) → with_source_in (length front) s (front ++ row) ≡ front ++ with_source_in 0 s row
put_after_in [] s row = refl
put_after_in (p ∷ front) s row = ap (λ (r : Row). p ∷ r) (put_after_in front s row)

open_after : (front : Table) (v : ℕ) (table : Table) → is_open (length front) v (front ++ table) ≡ is_open 0 v table
open_after [] v table = refl
open_after (r ∷ front) v table = open_after front v table

put_after : (front : Table) (v : ℕ) (s : List Line) (table : Table) → with_source (length front) v s (front ++ table) ≡ front ++ with_source 0 v s table
put_after [] v s table = refl
put_after (r ∷ front) v s table = ap (λ (t : Table). r ∷ t) (put_after front v s table)

-- one filling after another
fills_then : (a b c : Table) (ps qs : List Program) → Fills a ps b → Fills b qs c → Fills a (ps ++ qs) c
fills_then a b c [] qs h k = subst (λ (t : Table). Fills t qs c) (sym h) k
fills_then a b c (p ∷ ps) qs h k = (h.0, fills_then (with_source p.object p.verb p.source a) b c ps qs h.1 k)

-- object o is after the rows of front, and its verb v after those of done
row_fills : (front : Table) (done row : Row) (back : Table) (o v : ℕ) → o ≡ length front → v ≡ length done
    → Fills (front ++ (done ++ emptied_row row) ∷ back) (row_programs o v row) (front ++ (done ++ row) ∷ back)
row_fills front done [] back o v at_o at_v = refl
row_fills front done (None ∷ row) back o v at_o at_v =
    let longer = length-append done (None ∷ []) in
    let more = row_fills front (done ++ None ∷ []) row back o (v + 1) at_o (omega arith) in
    subst (λ (r : Row). Fills (front ++ r ∷ back) (row_programs o (v + 1) row) (front ++ (done ++ None ∷ row) ∷ back)) (append_assoc done (None ∷ []) (emptied_row row))
    (subst (λ (r : Row). Fills (front ++ ((done ++ None ∷ []) ++ emptied_row row) ∷ back) (row_programs o (v + 1) row) (front ++ r ∷ back)) (append_assoc done (None ∷ []) row) more)
row_fills front done (Some s ∷ row) back o v at_o at_v =
    let longer = length-append done (Some s ∷ []) in
    let more = row_fills front (done ++ Some s ∷ []) row back o (v + 1) at_o (omega arith) in
    let rest = emptied_row row in
    let free : is_open o v (front ++ (done ++ None ∷ rest) ∷ back) ≡ true =
    ap (λ (i : ℕ). is_open i v (front ++ (done ++ None ∷ rest) ∷ back)) at_o ∙ open_after front v ((done ++ None ∷ rest) ∷ back)
    ∙ ap (λ (j : ℕ). is_open_in j (done ++ None ∷ rest)) at_v ∙ open_after_in done (None ∷ rest) in
    let put : with_source o v s (front ++ (done ++ None ∷ rest) ∷ back) ≡ front ++ ((done ++ Some s ∷ []) ++ rest) ∷ back =
    ap (λ (i : ℕ). with_source i v s (front ++ (done ++ None ∷ rest) ∷ back)) at_o ∙ put_after front v s ((done ++ None ∷ rest) ∷ back)
    ∙ ap (λ (j : ℕ). front ++ with_source_in j s (done ++ None ∷ rest) ∷ back) at_v ∙ ap (λ (r : Row). front ++ r ∷ back) (put_after_in done s (None ∷ rest))
    ∙ ap (λ (r : Row). front ++ r ∷ back) (sym (append_assoc done (Some s ∷ []) rest)) in (
      free,
      subst (λ (t : Table). Fills t (row_programs o (v + 1) row) (front ++ (done ++ Some s ∷ row) ∷ back)) (sym put)
          (subst (λ (r : Row). Fills (front ++ ((done ++ Some s ∷ []) ++ rest) ∷ back) (row_programs o (v + 1) row) (front ++ r ∷ back)) (append_assoc done (Some s ∷ []) row) more),
    )

table_fills : (front table : Table) (o : ℕ) → o ≡ length front → Fills (front ++ emptied table) (table_programs o table) (front ++ table)
table_fills front [] o at = refl
table_fills front (row ∷ table) o at =
    let longer = length-append front (row ∷ []) in
    let more = table_fills (front ++ row ∷ []) table (o + 1) (omega arith) in
    let first = row_fills front [] row (emptied table) o 0 at refl in
    fills_then (front ++ emptied_row row ∷ emptied table) (front ++ row ∷ emptied table) (front ++ row ∷ table) (row_programs o 0 row) (table_programs (o + 1) table) first
    (subst (λ (t : Table). Fills t (table_programs (o + 1) table) (front ++ row ∷ table)) (append_assoc front (row ∷ []) (emptied table))
    (subst (λ (t : Table). Fills ((front ++ row ∷ []) ++ emptied table) (table_programs (o + 1) table) t) (append_assoc front (row ∷ []) table) more))

pub canonical_fills : (table : Table) → Fills (emptied table) (table_programs 0 table) table
canonical_fills table = table_fills [] table 0 refl
