-- The slots of a program's variables, sorted by name.
use Rattle.std.specs.Prelude.{ℕ, ◌+◌, List, [], ◌∷◌}
use Rattle.std.specs.List.Sorted.{IsPermutation, IsSortedBy}
use Rattle.std.specs.Ordering.{nat_cmp, is_lt}
use Rattle.std.specs.Cmp.Lexicographic.{slice_cmp}
use Rattle.moo_syntax_program.specs.declared.order.Slot.{Slot}

-- names with their slots, of which the first is i
abbrev pub numbered : ℕ → List (List ℕ) → List Slot
numbered i [] = []
numbered i (name ∷ names) = record { name = name; slot = i } ∷ numbered (i + 1) names

-- the slots of these names, sorted by name
pub record AreOrdered (names : List (List ℕ)) (slots : List Slot) : Type 0 where
  pub moved : IsPermutation (numbered 0 names) slots
  pub ordered : IsSortedBy (λ a b. is_lt (slice_cmp nat_cmp a.name b.name)) slots
