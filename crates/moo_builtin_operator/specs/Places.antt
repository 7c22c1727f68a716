-- Parts of strings and lists by their places, which are counted from 1.
use Rattle.std.specs.Prelude.{zero, suc, ℤ, pos, negsuc, ◌-◌, List, [], ◌∷◌, length, slice_get, slice_range, unsigned_abs, int_lt, int_le, ◌&&◌, if◌then◌else◌, Option, Some, None, Result, Ok, Err}
use Rattle.moo_value.specs.declared.error_code.ErrorCode.{ErrorCode}
use Rattle.moo_value.specs.declared.error_code.ErrorCode.TheVariants.{TypeMismatch, Range}
use Rattle.moo_value.specs.Tree.{Tree, integer, string, list, list_of, trees_of}
use Rattle.moo_builtin_operator.specs.Answer.{limited}

-- what is made of what was found, or E_RANGE if nothing was
abbrev pub or_range : {A : Type 0} → Option A → (A → Result Tree ErrorCode) → Result Tree ErrorCode
or_range None f = Err Range
or_range (Some x) f = f x

-- the element at a place, if there is one
abbrev pub at_place : {X : Type 0} → List X → ℤ → Option X
at_place xs (pos zero) = None
at_place xs (pos (suc k)) = slice_get xs k
at_place xs (negsuc n) = None

abbrev pub index_of : Tree → Tree → Result Tree ErrorCode
index_of (string s) (integer i) = or_range (at_place s i) (λ b. Ok (string (b ∷ [])))
index_of (list es) (integer i) = or_range (at_place (trees_of es) i) (λ t. Ok t)
index_of _ _ = Err TypeMismatch

-- the elements from one place to another: none if the first place is above the last, else both have to be inside
abbrev pub part : {X : Type 0} → List X → ℤ → ℤ → Option (List X)
part xs low high =
    if int_lt high low then Some []
    else if int_le (pos 1) low && int_le high (pos (length xs)) then Some (slice_range xs (unsigned_abs low - 1) (unsigned_abs high))
    else None

abbrev pub range_of : Tree → Tree → Tree → Result Tree ErrorCode
range_of (string s) (integer low) (integer high) = or_range (part s low high) (λ t. Ok (string t))
range_of (list es) (integer low) (integer high) = or_range (part (trees_of es) low high) (λ us. Ok (list_of us))
range_of _ _ _ = Err TypeMismatch

abbrev pub length_of : Tree → Result Tree ErrorCode
length_of (string s) = Ok (integer (pos (length s)))
length_of (list es) = Ok (integer (pos (length (trees_of es))))
length_of _ = Err TypeMismatch

-- the values that a list contributes when it is spliced
abbrev pub spliced_of : Tree → Result (List Tree) ErrorCode
spliced_of (list es) = Ok (trees_of es)
spliced_of _ = Err TypeMismatch

-- the list of these values
abbrev pub made_list : List Tree → Result Tree ErrorCode
made_list ts = limited (list_of ts)
