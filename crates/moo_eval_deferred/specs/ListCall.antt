-- Functions that make a list of their first argument, with an element more, less or replaced.
use Rattle.std.specs.Prelude.{◌≡◌, ℕ, ℤ, List, [], ◌∷◌, length, slice_set, Option, Some, Result, Ok}
use Rattle.moo_value.specs.Tree.{Tree, Elements, integer, list, list_of}
use Rattle.moo_value.specs.Size.{IsWithinLimits}
use Rattle.moo_value.specs.declared.error_code.ErrorCode.{ErrorCode}
use Rattle.moo_syntax_function.specs.declared.function.Function.{Function}
use Rattle.moo_syntax_function.specs.declared.function.Function.TheVariants as function
use Rattle.moo_builtin_operator.specs.Assignment.{before_place}
use Rattle.moo_builtin_value.specs.Calls.{plain_answer}
use Rattle.moo_builtin_value.specs.Lists.{list_append, list_insert, list_set, list_delete, set_add, set_remove}

-- the list that such a function makes of these arguments
pub data MakesList : Function → List Tree → Tree → Type 0 where
  appends : {es : Elements} {t w : Tree} → list_append (list es ∷ t ∷ []) ≡ Ok w → MakesList function.ListAppend (list es ∷ t ∷ []) w
  inserts : {es : Elements} {t w : Tree} → list_insert (list es ∷ t ∷ []) ≡ Ok w → MakesList function.ListInsert (list es ∷ t ∷ []) w
  appends_at : {es : Elements} {t w : Tree} {i : ℤ} → list_append (list es ∷ t ∷ integer i ∷ []) ≡ Ok w → MakesList function.ListAppend (list es ∷ t ∷ integer i ∷ []) w
  inserts_at : {es : Elements} {t w : Tree} {i : ℤ} → list_insert (list es ∷ t ∷ integer i ∷ []) ≡ Ok w → MakesList function.ListInsert (list es ∷ t ∷ integer i ∷ []) w
  adds : {es : Elements} {t w : Tree} → set_add (list es ∷ t ∷ []) ≡ Ok w → MakesList function.SetAdd (list es ∷ t ∷ []) w
  sets : {es : Elements} {t w : Tree} {i : ℤ} → list_set (list es ∷ t ∷ integer i ∷ []) ≡ Ok w → MakesList function.ListSet (list es ∷ t ∷ integer i ∷ []) w
  deletes : {es : Elements} {i : ℤ} {w : Tree} → list_delete (list es ∷ integer i ∷ []) ≡ Ok w → MakesList function.ListDelete (list es ∷ integer i ∷ []) w
  removes : {es : Elements} {t w : Tree} → set_remove (list es ∷ t ∷ []) ≡ Ok w → MakesList function.SetRemove (list es ∷ t ∷ []) w

abbrev pub HasList : Function → List Tree → Type 0
HasList f args = (w : Tree) × MakesList f args w

-- the list takes the value at the place, and stays within the limits
abbrev pub Takes : List Tree → ℤ → Tree → Type 0
Takes ts i t = (k : ℕ) × (before_place i (length ts) ≡ Some k) × IsWithinLimits (list_of (slice_set ts k t))

-- the value is the place of an element
abbrev pub HasPlace : List Tree → Tree → Type 0
HasPlace ts v = (i : ℤ) × (k : ℕ) × (v ≡ integer i) × (before_place i (length ts) ≡ Some k)

abbrev value_given : Option (Result Tree ErrorCode) → Tree
value_given (Some (Ok w)) = w
value_given _ = list_of []

-- what a function over values alone returns; an empty list for an error
abbrev pub value_of_call : Function → List Tree → Tree
value_of_call f args = value_given (plain_answer f 0 args)
