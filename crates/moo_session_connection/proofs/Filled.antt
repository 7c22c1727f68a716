-- Numbers with and without bytes.
use Rattle.std.proofs.Common.{◌≡◌, ◌≢◌, ℕ, ◌<◌, ◌≤◌, suc, zero, Bool, true, false, cond, List, [], ◌∷◌, length, Contains, refl, sym, ◌∙◌, ap, subst, arith}
use Rattle.std.specs.Prelude.{filter, nat_lt, slice_index_or}
use Rattle.std.specs.BTreeSet.{BTreeSet, IsOrdered, contains}
use Rattle.std.specs.List.{AllPairs}
use Rattle.std.specs.Ordering.{nat_cmp}
use Rattle.std.proofs.lemmas.Bool.{ltb-false, true≢false}
use Rattle.std.proofs.lemmas.Cmp.{nat_cmp_total}
use Rattle.std.proofs.lemmas.List.Elements.{All-contains, filter_passes}
use Rattle.std.proofs.lemmas.List.Kept.{AllPairs-filter, AllPairs-from_increasing}
use Rattle.std.proofs.lemmas.Map.Keys.{IsStrictlyIncreasing-from_sorted}
use Rattle.std.proofs.lemmas.Map.Lookups.{exact_unsigned}
use Rattle.std.proofs.lemmas.Map.Views.{btree_set_contains_iff}
use Rattle.moo_session_connection.specs.Outbox.{Bytes}
use Rattle.moo_session_connection.specs.Rows.{OnlyFilled, has_waiting}
use Rattle.moo_session_connection.proofs.OutboxRows.{row}

-- nothing waits for a number that isn't among these
none_waits : (rows : List Bytes) (filled : BTreeSet ℕ) (numbers : List ℕ) (c : ℕ) → OnlyFilled rows filled → numbers ≡ filled.keys → (Contains numbers c → ⊥) → (row rows c).waiting ≡ []
none_waits rows filled numbers c only all none = by_test (contains nat_cmp filled c) refl
  where
    by_test : (b : Bool) → contains nat_cmp filled c ≡ b → (row rows c).waiting ≡ []
    by_test true there =
        absurd (none (subst (λ (ns : List ℕ). Contains ns c) (sym all) ((btree_set_contains_iff nat_cmp_total exact_unsigned filled c).0 there)))
    by_test false other = ap (λ (b : Bytes). b.waiting) (only c other)

-- ---- those for which bytes wait

kept_after : (b : Bool) (x : ℕ) (xs : List ℕ) (c : ℕ) → Contains xs c → Contains (cond b (x ∷ xs) xs) c
kept_after true x xs c there = (suc there.0, omega (arith, there.1), there.2)
kept_after false x xs c there = there

kept_at : (p : ℕ → Bool) (xs : List ℕ) (c k : ℕ) → p c ≡ true → k < length xs → slice_index_or xs k c ≡ c → Contains (filter p xs) c
kept_at p [] c k passes lt is = absurd (omega (arith, lt))
kept_at p (x ∷ xs) c zero passes lt is =
    subst (λ (b : Bool). Contains (cond b (x ∷ filter p xs) (filter p xs)) c) (sym (ap p is ∙ passes)) (0, omega arith, is)
kept_at p (x ∷ xs) c (suc k) passes lt is = kept_after (p x) x (filter p xs) c (kept_at p xs c k passes (omega (arith, lt)) is)

none_if : (bytes : List ℕ) → nat_lt 0 (length bytes) ≡ false → bytes ≡ []
none_if [] is = refl
none_if (b ∷ bytes) is = let none : length (b ∷ bytes) ≤ 0 = ltb-false 0 (length (b ∷ bytes)) is in absurd (omega (arith, none))

-- nothing waits for a number that isn't kept
pub none_kept : (rows : List Bytes) (filled : BTreeSet ℕ) (numbers kept : List ℕ) (c : ℕ) → OnlyFilled rows filled → numbers ≡ filled.keys → kept ≡ filter (has_waiting rows) numbers
    → (Contains kept c → ⊥) → (row rows c).waiting ≡ []
none_kept rows filled numbers kept c only all is none = by_test (has_waiting rows c) refl
  where
    by_test : (b : Bool) → has_waiting rows c ≡ b → (row rows c).waiting ≡ []
    by_test true waits =
        none_waits rows filled numbers c only all (λ there. none (subst (λ (ns : List ℕ). Contains ns c) (sym is) (kept_at (has_waiting rows) numbers c there.0 waits there.1 there.2)))
    by_test false nothing = none_if (row rows c).waiting nothing

-- bytes wait for a number that is kept
pub kept_waits : (rows : List Bytes) (numbers kept : List ℕ) (c : ℕ) → kept ≡ filter (has_waiting rows) numbers → Contains kept c → (row rows c).waiting ≢ []
kept_waits rows numbers kept c is there none =
    let waits : has_waiting rows c ≡ true =
    All-contains (λ (n : ℕ). has_waiting rows n ≡ true) (filter (has_waiting rows) numbers) c (filter_passes (has_waiting rows) numbers)
    (subst (λ (ns : List ℕ). Contains ns c) is there) in
    true≢false (sym waits ∙ ap (λ (bytes : List ℕ). nat_lt 0 (length bytes)) none)

-- the numbers that are kept rise
pub kept_rise : (rows : List Bytes) (filled : BTreeSet ℕ) (numbers kept : List ℕ) → IsOrdered nat_cmp filled → numbers ≡ filled.keys → kept ≡ filter (has_waiting rows) numbers → AllPairs (λ a b. a < b) kept
kept_rise rows filled numbers kept order all is =
    let rise : AllPairs (λ a b. a < b) numbers =
    subst (λ (ns : List ℕ). AllPairs (λ a b. a < b) ns) (sym all) (AllPairs-from_increasing filled.keys (IsStrictlyIncreasing-from_sorted filled.keys order)) in
    subst (λ (ns : List ℕ). AllPairs (λ a b. a < b) ns) (sym is) (AllPairs-filter (λ a b. a < b) (has_waiting rows) numbers rise)
