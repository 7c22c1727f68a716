-- The programs of verbs, by object and verb.
use Rattle.std.specs.Prelude.{◌≡◌, ◌≢◌, ◌<◌, ◌^◌, ℕ, zero, suc, Bool, true, false, List, [], ◌∷◌, ◌++◌, map, slice_index_or, codes, Option, Some, None, option_map}
use Rattle.std.specs.List.{AllByRecursion}
use Rattle.std.specs.Global.{Vec}
use Rattle.moo_dbtext_object.specs.Lines.{Line, Sizes, IsStringOf, count_line}
use Rattle.moo_dbtext_object.specs.Objects.{Verb, Object}

-- for each verb the lines of its program, or none if it has no program
abbrev pub Row : Type 0
Row = List (Option (List Line))

abbrev pub Table : Type 0
Table = List Row

-- the entry of verb v of object o
abbrev pub entry_at : {A : Type 0} → List (List (Option A)) → ℕ → ℕ → Option A
entry_at table o v = slice_index_or (slice_index_or table o []) v None

abbrev pub source_of : Option (Vec Line) → Option (List Line)
source_of s = option_map (λ v. v.items) s

abbrev pub row_of : Vec (Option (Vec Line)) → Row
row_of r = map source_of r.items

abbrev pub table_of : Vec (Vec (Option (Vec Line))) → Table
table_of t = map row_of t.items

-- no verb of an object has a program
abbrev pub no_program : Verb → Option (List Line)
no_program v = None

abbrev pub blank_row : Object → Row
blank_row o = map no_program o.body.verbs

abbrev pub blank_entry : Option Object → Row
blank_entry None = []
blank_entry (Some o) = blank_row o

abbrev pub blank_table : List (Option Object) → Table
blank_table os = map blank_entry os

-- the verb exists, and has no program
abbrev pub is_open_in : ℕ → Row → Bool
is_open_in v [] = false
is_open_in zero (None ∷ row) = true
is_open_in zero (Some s ∷ row) = false
is_open_in (suc v) (p ∷ row) = is_open_in v row

abbrev pub is_open : ℕ → ℕ → Table → Bool
is_open o v [] = false
is_open zero v (row ∷ table) = is_open_in v row
is_open (suc o) v (row ∷ table) = is_open o v table

-- with a program for a verb
abbrev pub with_source_in : ℕ → List Line → Row → Row
with_source_in v s [] = []
with_source_in zero s (p ∷ row) = Some s ∷ row
with_source_in (suc v) s (p ∷ row) = p ∷ with_source_in v s row

abbrev pub with_source : ℕ → ℕ → List Line → Table → Table
with_source o v s [] = []
with_source zero v s (row ∷ table) = with_source_in v s row ∷ table
with_source (suc o) v s (row ∷ table) = row ∷ with_source o v s table

-- a program as a text has it
pub record Program : Type 0 where
  pub object : ℕ
  pub verb : ℕ
  pub source : List Line

-- the numbers of the object and of the verb, with a colon between them
abbrev pub program_line : ℕ → ℕ → Line
program_line o v = codes "#" ++ (count_line o ++ 58 ∷ count_line v)

abbrev pub program_lines : Program → List Line
program_lines p = program_line p.object p.verb ∷ (p.source ++ codes "." ∷ [])

-- Each of the programs is of a verb that had none, and with them all the table is this one.
abbrev pub Fills : Table → List Program → Table → Type 0
Fills table [] end = table ≡ end
Fills table (p ∷ ps) end = (is_open p.object p.verb table ≡ true) × Fills (with_source p.object p.verb p.source table) ps end

-- a line of a source: no line is a dot alone
pub record IsSourceLine (s : Sizes) (line : Line) : Type 0 where
  pub text : IsStringOf s line
  pub more : line ≢ codes "."

-- its verb has numbers of 32 bits
pub record IsProgramText (s : Sizes) (p : Program) : Type 0 where
  pub object : p.object < 2 ^ 31
  pub verb : p.verb < 2 ^ 31
  pub source : AllByRecursion (IsSourceLine s) p.source
