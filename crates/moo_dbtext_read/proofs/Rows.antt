-- Programs by object and verb: rows that are added, and what is put into one.
use Rattle.std.proofs.Common.{◌≡◌, ℕ, zero, suc, ◌<◌, List, [], ◌∷◌, ◌++◌, length, Option, Some, None, refl, ap, arith}
use Rattle.std.specs.Prelude.{map, slice_index_or, slice_set}
use Rattle.std.specs.Global.{Vec}
use Rattle.moo_syntax_ast.specs.Tree.{Block}
use Rattle.moo_dbtext_record.specs.Programs.{entry_at}

abbrev Slots : Type 0
Slots = List (Option Block)

pub push_none : (row : Slots) (v : ℕ) → slice_index_or (row ++ None ∷ []) v None ≡ slice_index_or row v None
push_none [] zero = refl
push_none [] (suc v) = refl
push_none (x ∷ row) zero = refl
push_none (x ∷ row) (suc v) = push_none row v

pub set_there : (row : Slots) (v : ℕ) (b : Option Block) → v < length row → slice_index_or (slice_set row v b) v None ≡ b
set_there [] v b h = absurd (omega arith)
set_there (x ∷ row) zero b h = refl
set_there (x ∷ row) (suc v) b h = set_there row v b (omega arith)

pub set_other : (row : Slots) (v : ℕ) (b : Option Block) (j : ℕ) → (j ≡ v → ⊥) → slice_index_or (slice_set row v b) j None ≡ slice_index_or row j None
set_other [] v b j h = refl
set_other (x ∷ row) zero b zero h = absurd (h refl)
set_other (x ∷ row) zero b (suc j) h = refl
set_other (x ∷ row) (suc v) b zero h = refl
set_other (x ∷ row) (suc v) b (suc j) h = set_other row v b j (λ e. h (ap suc e))

abbrev items_of : Vec (Option Block) → Slots
items_of row = row.items

pub push_row : (rows : List (Vec (Option Block))) (row : Vec (Option Block)) (o v : ℕ) → row.items ≡ [] → entry_at (map items_of (rows ++ row ∷ [])) o v ≡ entry_at (map items_of rows) o v
push_row [] row zero v h = ap (λ (r : Slots). slice_index_or r v None) h
push_row [] row (suc o) v h = refl
push_row (r ∷ rows) row zero v h = refl
push_row (r ∷ rows) row (suc o) v h = push_row rows row o v h

pub set_row_there : (rows : List (Vec (Option Block))) (row : Vec (Option Block)) (o v : ℕ) (b : Block) → o < length rows → slice_index_or row.items v None ≡ Some b → entry_at (map items_of (slice_set rows o row)) o v ≡ Some b
set_row_there [] row o v b lt h = absurd (omega arith)
set_row_there (r ∷ rows) row zero v b lt h = h
set_row_there (r ∷ rows) row (suc o) v b lt h = set_row_there rows row o v b (omega arith) h

pub set_row_other : (rows : List (Vec (Option Block))) (row d : Vec (Option Block)) (o v : ℕ) (i j : ℕ) → o < length rows → ((k : ℕ) → (k ≡ v → ⊥) → slice_index_or row.items k None ≡ slice_index_or (slice_index_or rows o d).items k None)
    → (i ≡ o → j ≡ v → ⊥) → entry_at (map items_of (slice_set rows o row)) i j ≡ entry_at (map items_of rows) i j
set_row_other [] row d o v i j lt h apart = absurd (omega arith)
set_row_other (r ∷ rows) row d zero v zero j lt h apart = h j (apart refl)
set_row_other (r ∷ rows) row d zero v (suc i) j lt h apart = refl
set_row_other (r ∷ rows) row d (suc o) v zero j lt h apart = refl
set_row_other (r ∷ rows) row d (suc o) v (suc i) j lt h apart = set_row_other rows row d o v i j (omega arith) h (λ e. apart (ap suc e))
