-- Comparisons, and the place of an element.
use Rattle.std.specs.Prelude.{ℕ, suc, pos, Bool, Option, Some, None, position, Result, Ok, Err}
use Rattle.std.specs.declared.cmp.Ordering.{Ordering}
use Rattle.moo_value.specs.declared.error_code.ErrorCode.{ErrorCode}
use Rattle.moo_value.specs.declared.error_code.ErrorCode.TheVariants.{TypeMismatch}
use Rattle.moo_value.specs.Tree.{Tree, integer, list, trees_of}
use Rattle.moo_builtin_operator.specs.Truth.{equal, truth_value}

-- a test of how two values are ordered, if they have an order
abbrev pub compared : (Ordering → Bool) → Option Ordering → Result Tree ErrorCode
compared test None = Err TypeMismatch
compared test (Some o) = Ok (truth_value (test o))

-- a place counted from 1, or 0 for none
abbrev pub place_value : Option ℕ → Tree
place_value None = integer (pos 0)
place_value (Some k) = integer (pos (suc k))

-- the first place of an element that is equal to a value
abbrev pub place_in : Tree → Tree → Result Tree ErrorCode
place_in t (list es) = Ok (place_value (position (equal t) (trees_of es)))
place_in t _ = Err TypeMismatch
