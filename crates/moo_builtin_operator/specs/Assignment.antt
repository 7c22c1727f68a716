-- Strings and lists with a part replaced.
use Rattle.std.specs.Prelude.{ℕ, zero, suc, ℤ, pos, negsuc, ◌+◌, ◌-◌, min, List, length, slice_set, nat_lt, int_lt, ◌==◌, ◌||◌, if◌then◌else◌, Option, Some, None, Result, Ok, Err}
use Rattle.moo_value.specs.declared.error_code.ErrorCode.{ErrorCode}
use Rattle.moo_value.specs.declared.error_code.ErrorCode.TheVariants.{TypeMismatch, InvalidArgument}
use Rattle.moo_value.specs.Tree.{Tree, integer, string, list, list_of, trees_of}
use Rattle.moo_value.specs.Splice.{spliced}
use Rattle.moo_builtin_operator.specs.Answer.{limited}
use Rattle.moo_builtin_operator.specs.Places.{or_range}

-- how many of n elements come before the one at a place, if there is one
abbrev pub before_place : ℤ → ℕ → Option ℕ
before_place (pos zero) n = None
before_place (pos (suc k)) n = if nat_lt k n then Some k else None
before_place (negsuc m) n = None

-- a string of one byte in place of the byte after the first k
abbrev pub with_byte : List ℕ → ℕ → List ℕ → Result Tree ErrorCode
with_byte s k t = if length t == 1 then Ok (string (spliced s k (k + 1) t)) else Err InvalidArgument

abbrev pub with_index_of : Tree → Tree → Tree → Result Tree ErrorCode
with_index_of (string s) (integer i) (string t) = or_range (before_place i (length s)) (λ k. with_byte s k t)
with_index_of (list es) (integer i) v = or_range (before_place i (length (trees_of es))) (λ k. limited (list_of (slice_set (trees_of es) k v)))
with_index_of _ _ _ = Err TypeMismatch

-- an integer, or 0 if it is below
abbrev pub at_least_zero : ℤ → ℕ
at_least_zero (pos n) = n
at_least_zero (negsuc n) = 0

-- How many of n elements come before the place low, and how many up to the place high. A low below 1 counts as 1, a
-- high above n as n.
abbrev pub ends : ℤ → ℤ → ℕ → Option (ℕ × ℕ)
ends low high n =
    if int_lt (pos (n + 1)) low || int_lt high (pos 0) then None
    else Some (at_least_zero low - 1, min (at_least_zero high) n)

abbrev pub with_range_of : Tree → Tree → Tree → Tree → Result Tree ErrorCode
with_range_of (string s) (integer low) (integer high) (string t) = or_range (ends low high (length s)) (λ e. limited (string (spliced s e.0 e.1 t)))
with_range_of (list es) (integer low) (integer high) (list fs) = or_range (ends low high (length (trees_of es))) (λ e. limited (list_of (spliced (trees_of es) e.0 e.1 (trees_of fs))))
with_range_of _ _ _ _ = Err TypeMismatch
