-- Connections for which something is pending, and those for which nothing is.
use Rattle.std.proofs.Common.{◌≡◌, ℕ, ◌<◌, suc, zero, Bool, true, false, List, [], ◌∷◌, ◌++◌, length, Contains, refl, sym, ap, subst, arith}
use Rattle.std.specs.Prelude.{◌==◌, ◌||◌, eqb, slice_index_or}
use Rattle.std.specs.List.{AllPairs, dedup, list_any}
use Rattle.std.specs.List.Sorted.{IsPermutation, IsSorted}
use Rattle.std.specs.Ordering.{nat_cmp}
use Rattle.std.proofs.lemmas.Bool.{eq-eqb, eqb-true, true≢false}
use Rattle.std.proofs.lemmas.List.Elements.{Contains-append_left, Contains-append_right}
use Rattle.std.proofs.lemmas.List.Kept.{AllPairs-from_increasing, Contains-dedup_nat, Contains-from_dedup}
use Rattle.std.proofs.lemmas.List.Sorted.{Contains-permutation, IsPermutation-sym}
use Rattle.std.proofs.lemmas.Map.Keys.{IsStrictlyIncreasing-dedup}
use Rattle.moo_session_connection.specs.Clients.{is_number}

-- a number that is found is in the list
found_step : (k : ℕ) (numbers : List ℕ) (c : ℕ) (b : Bool) → (k == c) ≡ b → (b || list_any (is_number c) numbers) ≡ true → (list_any (is_number c) numbers ≡ true → Contains numbers c) → Contains (k ∷ numbers) c
found_step k numbers c true here is below = (0, omega arith, eqb-true k c here)
found_step k numbers c false other is below = let rest = below is in (suc rest.0, omega (arith, rest.1), rest.2)

found : (numbers : List ℕ) (c : ℕ) → list_any (is_number c) numbers ≡ true → Contains numbers c
found [] c is = absurd (true≢false (sym is))
found (k ∷ numbers) c is = found_step k numbers c (k == c) refl is (found numbers c)

-- a number that is in neither part isn't leaving
pub none_leaves : (numbers leaving all : List ℕ) (c : ℕ) → all ≡ numbers ++ leaving → (Contains all c → ⊥) → list_any (is_number c) leaving ≡ false
none_leaves numbers leaving all c is none = by_test (list_any (is_number c) leaving) refl
  where
    by_test : (b : Bool) → list_any (is_number c) leaving ≡ b → b ≡ false
    by_test true there = absurd (none (subst (λ (ns : List ℕ). Contains ns c) (sym is) (Contains-append_right numbers leaving c (found leaving c there))))
    by_test false other = refl

-- nor is it in the first part
pub none_first : (numbers leaving all : List ℕ) (c : ℕ) → all ≡ numbers ++ leaving → (Contains all c → ⊥) → Contains numbers c → ⊥
none_first numbers leaving all c is none there = none (subst (λ (ns : List ℕ). Contains ns c) (sym is) (Contains-append_left numbers leaving c there))

or_right : (a b : Bool) → b ≡ true → (a || b) ≡ true
or_right true b is = refl
or_right false b is = is

listed : (numbers : List ℕ) (c k : ℕ) → k < length numbers → slice_index_or numbers k c ≡ c → list_any (is_number c) numbers ≡ true
listed [] c k lt is = absurd (omega (arith, lt))
listed (x ∷ xs) c zero lt is = ap (λ (b : Bool). b || list_any (is_number c) xs) (eq-eqb x c is)
listed (x ∷ xs) c (suc k) lt is = or_right (x == c) (list_any (is_number c) xs) (listed xs c k (omega (arith, lt)) is)

-- a number that is in the second part is leaving
pub leaves : (leaving : List ℕ) (c : ℕ) → Contains leaving c → list_any (is_number c) leaving ≡ true
leaves leaving c there = listed leaving c there.0 there.1 there.2

-- ---- numbers that are sorted, and then each kept once

-- each is below all later ones
pub sorted_rises : (sorted new : List ℕ) → IsSorted nat_cmp sorted → new ≡ dedup eqb sorted → AllPairs (λ a b. a < b) new
sorted_rises sorted new order is = subst (λ (ns : List ℕ). AllPairs (λ a b. a < b) ns) (sym is) (AllPairs-from_increasing (dedup eqb sorted) (IsStrictlyIncreasing-dedup sorted order))

-- each number is still there
pub sorted_keeps : (old sorted new : List ℕ) → IsPermutation old sorted → new ≡ dedup eqb sorted → (c : ℕ) → Contains old c → Contains new c
sorted_keeps old sorted new moved is c there = subst (λ (ns : List ℕ). Contains ns c) (sym is) (Contains-dedup_nat sorted c (Contains-permutation old sorted c moved there))

-- and no other
pub sorted_adds_none : (old sorted new : List ℕ) → IsPermutation old sorted → new ≡ dedup eqb sorted → (c : ℕ) → Contains new c → Contains old c
sorted_adds_none old sorted new moved is c there =
    Contains-permutation sorted old c (IsPermutation-sym old sorted moved) (Contains-from_dedup eqb sorted c (subst (λ (ns : List ℕ). Contains ns c) is there))
