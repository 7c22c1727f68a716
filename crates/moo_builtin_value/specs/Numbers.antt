-- The results of the functions on integers.
use Rattle.std.specs.Prelude.{ℤ, pos, List, [], ◌∷◌, Result, Ok, Err, if◌then◌else◌, int_lt}
use Rattle.std.specs.Int.{w32, int_wrapping_neg}
use Rattle.moo_value.specs.declared.error_code.ErrorCode.{ErrorCode}
use Rattle.moo_value.specs.declared.error_code.ErrorCode.TheVariants.{TypeMismatch}
use Rattle.moo_value.specs.Tree.{Tree, integer}

-- without its sign; the least integer stays as it is
abbrev pub absolute : List Tree → Result Tree ErrorCode
absolute (integer i ∷ []) = Ok (integer (if int_lt i (pos 0) then int_wrapping_neg w32 i else i))
absolute _ = Err TypeMismatch

-- the least of an integer and those that follow
abbrev pub least_of : ℤ → List Tree → Result Tree ErrorCode
least_of i [] = Ok (integer i)
least_of i (integer j ∷ ts) = least_of (if int_lt j i then j else i) ts
least_of i _ = Err TypeMismatch

abbrev pub least : List Tree → Result Tree ErrorCode
least (integer i ∷ ts) = least_of i ts
least _ = Err TypeMismatch

-- the greatest of an integer and those that follow
abbrev pub greatest_of : ℤ → List Tree → Result Tree ErrorCode
greatest_of i [] = Ok (integer i)
greatest_of i (integer j ∷ ts) = greatest_of (if int_lt i j then j else i) ts
greatest_of i _ = Err TypeMismatch

abbrev pub greatest : List Tree → Result Tree ErrorCode
greatest (integer i ∷ ts) = greatest_of i ts
greatest _ = Err TypeMismatch
