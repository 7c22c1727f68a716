-- Programs by object and verb: what is looked up and what is put.
use Rattle.std.proofs.Common.{◌≡◌, ℕ, zero, suc, ◌≤◌, ◌<◌, Bool, true, false, not, List, [], ◌∷◌, length, get_or, Option, Some, None, refl, ap, arith}
use Rattle.std.specs.Prelude.{map, slice_set}
use Rattle.std.specs.Global.{Vec}
use Rattle.std.specs.Option.{is_none, is_some}
use Rattle.moo_dbtext_object.specs.Lines.{Line}
use Rattle.moo_dbtext_record.specs.Programs.{Row, Table, source_of, row_of, is_open_in, is_open, with_source_in, with_source}

abbrev Slot : Type 0
Slot = Option (Vec Line)

pub none_told : (x : Slot) (c : Bool) → is_some x ≡ not c → c ≡ is_none x
none_told None true e = refl
none_told None false e = absurd cc
none_told (Some s) true e = absurd cc
none_told (Some s) false e = refl

pub open_past : (row : List Slot) (v : ℕ) → length row ≤ v → false ≡ is_open_in v (map source_of row)
open_past [] v h = refl
open_past (x ∷ row) zero h = absurd (omega arith)
open_past (None ∷ row) (suc v) h = open_past row v (omega arith)
open_past (Some x ∷ row) (suc v) h = open_past row v (omega arith)

pub open_at : (row : List Slot) (v : ℕ) (d : Slot) → v < length row → is_none (get_or row v d) ≡ is_open_in v (map source_of row)
open_at [] v d h = absurd (omega arith)
open_at (None ∷ row) zero d h = refl
open_at (Some s ∷ row) zero d h = refl
open_at (None ∷ row) (suc v) d h = open_at row v d (omega arith)
open_at (Some x ∷ row) (suc v) d h = open_at row v d (omega arith)

pub table_past : (table : List (Vec Slot)) (o v : ℕ) → length table ≤ o → false ≡ is_open o v (map row_of table)
table_past [] o v h = refl
table_past (r ∷ table) zero v h = absurd (omega arith)
table_past (r ∷ table) (suc o) v h = table_past table o v (omega arith)

pub table_at : (table : List (Vec Slot)) (o v : ℕ) (d : Vec Slot) → o < length table → is_open_in v (map source_of (get_or table o d).items) ≡ is_open o v (map row_of table)
table_at [] o v d h = absurd (omega arith)
table_at (r ∷ table) zero v d h = refl
table_at (r ∷ table) (suc o) v d h = table_at table o v d (omega arith)

pub put_past : (row : List Slot) (v : ℕ) (s : List Line) → length row ≤ v → map source_of row ≡ with_source_in v s (map source_of row)
put_past [] v s h = refl
put_past (x ∷ row) zero s h = absurd (omega arith)
put_past (x ∷ row) (suc v) s h = ap (λ (r : Row). source_of x ∷ r) (put_past row v s (omega arith))

pub put_at : (row : List Slot) (v : ℕ) (s : Vec Line) → map source_of (slice_set row v (Some s)) ≡ with_source_in v s.items (map source_of row)
put_at [] v s = refl
put_at (x ∷ row) zero s = refl
put_at (x ∷ row) (suc v) s = ap (λ (r : Row). source_of x ∷ r) (put_at row v s)

pub put_past_table : (table : List (Vec Slot)) (o v : ℕ) (s : List Line) → length table ≤ o → map row_of table ≡ with_source o v s (map row_of table)
put_past_table [] o v s h = refl
put_past_table (r ∷ table) zero v s h = absurd (omega arith)
put_past_table (r ∷ table) (suc o) v s h = ap (λ (t : Table). row_of r ∷ t) (put_past_table table o v s (omega arith))

pub put_in_table : (table : List (Vec Slot)) (o v : ℕ) (s : List Line) (d row : Vec Slot) → o < length table → row_of row ≡ with_source_in v s (row_of (get_or table o d)) → map row_of (slice_set table o row) ≡ with_source o v s (map row_of table)
put_in_table [] o v s d row lt e = absurd (omega arith)
put_in_table (r ∷ table) zero v s d row lt e = ap (λ (x : Row). x ∷ map row_of table) e
put_in_table (r ∷ table) (suc o) v s d row lt e = ap (λ (t : Table). row_of r ∷ t) (put_in_table table o v s d row (omega arith) e)
