-- What the operations keep to, besides their definitions.
use Rattle.std.specs.Prelude.{◌≡◌, ◌≢◌, ℕ, zero, suc, ℤ, pos, negsuc, ◌-◌, ◌^◌, ◌<◌, ◌≤◌, ◌+ℤ◌, ◌*ℤ◌, ◌≤ℤ◌, unsigned_abs, FitsSigned, List, length, Ok}
use Rattle.std.specs.List.{All, AllWithin, HoldsAt}
use Rattle.std.specs.Int.{w32}
use Rattle.moo_value.specs.Tree.{Tree, integer, list_of}
use Rattle.moo_value.specs.Compare.{fold_letters}
use Rattle.moo_syntax_ast.specs.declared.operator.BinaryOperator.TheVariants.{Divide, Remainder, In}
use Rattle.moo_builtin_operator.specs.Operators.{binary_of}
use Rattle.moo_builtin_operator.specs.Places.{index_of, range_of, length_of}

-- w is z in 32 bits, signed: the number of that range that differs from z by a multiple of 2^32
pub record IsWrapped (z w : ℤ) : Type 0 where
  pub fits : FitsSigned w32 w
  pub turns : ℤ
  pub differs : z ≡ w +ℤ turns *ℤ pos (2 ^ 32)

-- 0, or on the same side of 0
abbrev pub HasSignOf : ℤ → ℤ → Type 0
HasSignOf r (pos a) = pos 0 ≤ℤ r
HasSignOf r (negsuc a) = r ≤ℤ pos 0

-- a divided by b is q and leaves r, which is on a's side of 0 and nearer to it than b
pub record IsDivision (a b q r : ℤ) : Type 0 where
  pub whole : a ≡ q *ℤ b +ℤ r
  pub smaller : unsigned_abs r < unsigned_abs b
  pub sign : HasSignOf r a

-- the one quotient of two integers that is none
abbrev pub IsLeastByMinusOne : ℤ → ℤ → Type 0
IsLeastByMinusOne a b = (a ≡ negsuc (2 ^ 31 - 1)) × (b ≡ negsuc 0)

abbrev pub DividesTowardsZero : Type 0
DividesTowardsZero =
    (a b q r : ℤ) → FitsSigned w32 a → FitsSigned w32 b → (¬ IsLeastByMinusOne a b)
    → binary_of Divide (integer a) (integer b) ≡ Ok (integer q) → binary_of Remainder (integer a) (integer b) ≡ Ok (integer r) → IsDivision a b q r

-- what `in` returns for these elements: 0 if none is equal, else the place of the first one that is
abbrev pub IsFirstPlace : Tree → List Tree → ℕ → Type 0
IsFirstPlace t ts zero = All (λ u. fold_letters t ≢ fold_letters u) ts
IsFirstPlace t ts (suc k) = (k < length ts) × HoldsAt (λ u. fold_letters t ≡ fold_letters u) ts k × AllWithin (λ u. fold_letters t ≢ fold_letters u) ts 0 k

abbrev pub FindsFirstPlace : Type 0
FindsFirstPlace = (t : Tree) (ts : List Tree) (n : ℕ) → binary_of In t (list_of ts) ≡ Ok (integer (pos n)) → IsFirstPlace t ts n

-- an element of a range is that element of the base
abbrev pub IndexesRange : Type 0
IndexesRange =
    (base part : Tree) (low : ℤ) (i n : ℕ) → range_of base (integer low) (integer (low +ℤ pos n)) ≡ Ok part → i ≤ n
    → index_of part (integer (pos (suc i))) ≡ index_of base (integer (low +ℤ pos i))

-- a range has as many elements as there are places from its first to its last
abbrev pub MeasuresRange : Type 0
MeasuresRange = (base part : Tree) (low : ℤ) (n : ℕ) → range_of base (integer low) (integer (low +ℤ pos n)) ≡ Ok part → length_of part ≡ Ok (integer (pos (suc n)))
