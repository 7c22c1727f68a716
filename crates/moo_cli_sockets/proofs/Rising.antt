-- Sorted numbers without repetitions.
use Rattle.std.proofs.Common.{◌≡◌, ℕ, ◌<◌, List, Contains, subst, sym}
use Rattle.std.specs.Prelude.{eqb}
use Rattle.std.specs.List.{AllPairs, dedup}
use Rattle.std.specs.List.Sorted.{IsPermutation, IsSorted}
use Rattle.std.specs.Ordering.{nat_cmp}
use Rattle.std.proofs.lemmas.List.Kept.{AllPairs-from_increasing, Contains-dedup_nat}
use Rattle.std.proofs.lemmas.List.Sorted.{Contains-permutation}
use Rattle.std.proofs.lemmas.Map.Keys.{IsStrictlyIncreasing-dedup}

-- each is below all later ones
pub sorted_rises : (sorted new : List ℕ) → IsSorted nat_cmp sorted → new ≡ dedup eqb sorted → AllPairs (λ a b. a < b) new
sorted_rises sorted new order is = subst (λ (ns : List ℕ). AllPairs (λ a b. a < b) ns) (sym is) (AllPairs-from_increasing (dedup eqb sorted) (IsStrictlyIncreasing-dedup sorted order))

-- each number is still there
pub sorted_keeps : (old sorted new : List ℕ) → IsPermutation old sorted → new ≡ dedup eqb sorted → (c : ℕ) → Contains old c → Contains new c
sorted_keeps old sorted new moved is c there = subst (λ (ns : List ℕ). Contains ns c) (sym is) (Contains-dedup_nat sorted c (Contains-permutation old sorted c moved there))
