-- The texts that a crash may leave, in the order in which they entered: a first one, and those that came later.
use Rattle.std.specs.Prelude.{ℕ, ◌≡◌, ◌≢◌, ◌⊎◌, ◌↔◌, Bool, true, false, Contains, List, [], ◌∷◌, ◌++◌, drop, map, slice_index_or, AllPairs, Vec, MatchOption}
use Rattle.std.specs.declared.alloc.Global.{Global}
use Rattle.moo_disk.specs.Disk.{DiskView}

-- the first text, and the later ones from a place on
abbrev pub texts_from : List ℕ → List (Vec ℕ Global) → ℕ → List (List ℕ)
texts_from base later first = base ∷ map (λ text. text.items) (drop first later)

-- the start of the crash set at a moment
abbrev pub first_at : List ℕ → ℕ → ℕ → ℕ
first_at starts first moment = slice_index_or starts moment first

-- no two are equal
abbrev pub IsEachOnce : List (List ℕ) → Type 0
IsEachOnce texts = AllPairs (λ one other. one ≢ other) texts

-- equal texts, in any order
abbrev pub SameTexts : List (List ℕ) → List (List ℕ) → Type 0
SameTexts old new = (c : List ℕ) → Contains old c ↔ Contains new c

-- A text enters at the end, if it isn't one of them already.
abbrev pub Enters : List ℕ → List (List ℕ) → List (List ℕ) → Type 0
Enters text old new = (Contains old text × (new ≡ old)) ⊎ (¬ Contains old text × (new ≡ old ++ text ∷ []))

-- A file's text enters. If it isn't stable, the file may be found empty too.
abbrev pub Brings : Bool → List ℕ → List (List ℕ) → List (List ℕ) → Type 0
Brings true text old new = Enters text old new
Brings false text old new = (mid : List (List ℕ)) × Enters [] old mid × Enters text mid new

-- The spare's text is added, if there is a spare.
abbrev pub BringsSpare : DiskView → List (List ℕ) → List (List ℕ) → Type 0
BringsSpare disk old new = MatchOption disk.spare (new ≡ old) (λ text. Brings disk.stable text old new)
