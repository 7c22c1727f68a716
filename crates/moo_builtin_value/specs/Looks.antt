-- The results of the functions that inspect any value.
use Rattle.std.specs.Prelude.{ℕ, ℤ, pos, List, [], ◌∷◌, Result, Ok, Err, codes}
use Rattle.std.specs.Int.{w32, cast_signed}
use Rattle.moo_value.specs.declared.error_code.ErrorCode.{ErrorCode}
use Rattle.moo_value.specs.declared.error_code.ErrorCode.TheVariants.{TypeMismatch}
use Rattle.moo_value.specs.Tree.{Tree, integer, object, error, string, list}
use Rattle.moo_builtin_operator.specs.Truth.{same_tree, truth_value}
use Rattle.moo_builtin_operator.specs.Places as places

abbrev pub type_number : Tree → ℤ
type_number (integer i) = pos 0
type_number (object o) = pos 1
type_number (string s) = pos 2
type_number (error e) = pos 3
type_number (list es) = pos 4

abbrev pub type_of : List Tree → Result Tree ErrorCode
type_of (t ∷ []) = Ok (integer (type_number t))
type_of _ = Err TypeMismatch

-- the number of bytes of a string, or of elements of a list
abbrev pub length_of : List Tree → Result Tree ErrorCode
length_of (t ∷ []) = places.length_of t
length_of _ = Err TypeMismatch

-- 1 if the two are one value, letters not folded, else 0
abbrev pub equal : List Tree → Result Tree ErrorCode
equal (a ∷ b ∷ []) = Ok (truth_value (same_tree a b))
equal _ = Err TypeMismatch

-- the moment in seconds, in 32 bits with a sign
abbrev pub time : ℕ → List Tree → Result Tree ErrorCode
time moment [] = Ok (integer (cast_signed w32 moment))
time moment _ = Err TypeMismatch

abbrev pub server_version : List Tree → Result Tree ErrorCode
server_version [] = Ok (string (codes "1.8-integer"))
server_version _ = Err TypeMismatch
