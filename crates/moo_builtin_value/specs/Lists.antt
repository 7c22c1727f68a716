-- The results of the functions on lists. Places are counted from 1.
use Rattle.std.specs.Prelude.{ℕ, ◌+◌, ◌-◌, ℤ, min, List, [], ◌∷◌, length, slice_set, insert, remove, position, is_some, Option, Some, None, Result, Ok, Err, if◌then◌else◌}
use Rattle.moo_value.specs.declared.error_code.ErrorCode.{ErrorCode}
use Rattle.moo_value.specs.declared.error_code.ErrorCode.TheVariants.{TypeMismatch}
use Rattle.moo_value.specs.Tree.{Tree, integer, list, list_of, trees_of}
use Rattle.moo_builtin_operator.specs.Answer.{limited}
use Rattle.moo_builtin_operator.specs.Truth.{same_tree, equal}
use Rattle.moo_builtin_operator.specs.Comparison.{place_value}
use Rattle.moo_builtin_operator.specs.Places.{or_range}
use Rattle.moo_builtin_operator.specs.Assignment.{before_place, at_least_zero}

-- an integer, brought to the nearest of 0 to n
abbrev pub brought_to : ℤ → ℕ → ℕ
brought_to i n = min (at_least_zero i) n

-- the list with a value after its first k elements
abbrev pub put_in : List Tree → ℕ → Tree → Result Tree ErrorCode
put_in ts k t = limited (list_of (insert ts k t))

-- the list without the element after its first k
abbrev pub taken_out : List Tree → ℕ → Result Tree ErrorCode
taken_out ts k = limited (list_of (remove ts k))

-- after the last element, or after a place
abbrev pub list_append : List Tree → Result Tree ErrorCode
list_append (list es ∷ t ∷ []) = put_in (trees_of es) (length (trees_of es)) t
list_append (list es ∷ t ∷ integer i ∷ []) = put_in (trees_of es) (brought_to i (length (trees_of es))) t
list_append _ = Err TypeMismatch

-- before the first element, or before a place
abbrev pub list_insert : List Tree → Result Tree ErrorCode
list_insert (list es ∷ t ∷ []) = put_in (trees_of es) 0 t
list_insert (list es ∷ t ∷ integer i ∷ []) = put_in (trees_of es) (brought_to i (length (trees_of es) + 1) - 1) t
list_insert _ = Err TypeMismatch

-- the list with a value at a place
abbrev pub set_at : List Tree → ℤ → Tree → Result Tree ErrorCode
set_at ts i t = or_range (before_place i (length ts)) (λ k. limited (list_of (slice_set ts k t)))

abbrev pub list_set : List Tree → Result Tree ErrorCode
list_set (list es ∷ t ∷ integer i ∷ []) = set_at (trees_of es) i t
list_set _ = Err TypeMismatch

-- the list without the element at a place
abbrev pub delete_at : List Tree → ℤ → Result Tree ErrorCode
delete_at ts i = or_range (before_place i (length ts)) (taken_out ts)

abbrev pub list_delete : List Tree → Result Tree ErrorCode
list_delete (list es ∷ integer i ∷ []) = delete_at (trees_of es) i
list_delete _ = Err TypeMismatch

-- the list with a value at its end, if it has no equal element
abbrev pub with_member : List Tree → Tree → Result Tree ErrorCode
with_member ts t = if is_some (position (equal t) ts) then Ok (list_of ts) else put_in ts (length ts) t

abbrev pub set_add : List Tree → Result Tree ErrorCode
set_add (list es ∷ t ∷ []) = with_member (trees_of es) t
set_add _ = Err TypeMismatch

-- the list without the element at a place that was found
abbrev pub without_found : List Tree → Option ℕ → Result Tree ErrorCode
without_found ts None = Ok (list_of ts)
without_found ts (Some k) = taken_out ts k

-- the first equal element is taken out
abbrev pub set_remove : List Tree → Result Tree ErrorCode
set_remove (list es ∷ t ∷ []) = without_found (trees_of es) (position (equal t) (trees_of es))
set_remove _ = Err TypeMismatch

-- the first place of the value, letters not folded, or 0
abbrev pub is_member : List Tree → Result Tree ErrorCode
is_member (t ∷ list es ∷ []) = Ok (place_value (position (same_tree t) (trees_of es)))
is_member _ = Err TypeMismatch
