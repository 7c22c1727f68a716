-- The result of a search by the order of names.
use Rattle.std.proofs.Common.{◌≡◌, ℕ, zero, suc, ◌+◌, ◌<◌, Bool, true, false, nat_lt, List, [], ◌∷◌, Some, None, Err, Ordering, Less, Equal, Greater, Contains, All, length, get_or, position, ◌⊎◌, inl, inr, ⊎_elim, refl, sym, ap, subst, ◌∙◌, arith}
use Rattle.std.specs.List.{IsDistinct, HoldsAt}
use Rattle.std.specs.List.Sorted.{IsBinarySearchResult, IsPartitionPoint}
use Rattle.std.specs.Ordering.{nat_cmp}
use Rattle.std.specs.Cmp.Lexicographic.{slice_cmp, nat_list_cmp_total}
use Rattle.std.specs.Str.{bytes_eq}
use Rattle.std.proofs.lemmas.Bool.{cases_lt}
use Rattle.std.proofs.lemmas.List.Sorted.{All-permutation, Contains-permutation, searchable_from_sorted}
use Rattle.std.proofs.lemmas.List.Sums.{position_or_len_is}
use Rattle.std.proofs.lemmas.Map.Keys.{apart_from_distinct}
use Rattle.std.proofs.lemmas.Map.Text.{is_eq-slice_cmp}
use Rattle.std.proofs.lemmas.Map.Lookups.{exact_bytes}
use Rattle.std.specs.Ordering.{is_eq}
use Rattle.moo_syntax_program.specs.declared.order.Slot.{Slot}
use Rattle.moo_syntax_program.specs.Order.{numbered, AreOrdered}

slot_at : (i : ℕ) (names : List (List ℕ)) (k : ℕ) (d : Slot) → k < length names → get_or (numbered i names) k d ≡ record { name = get_or names k []; slot = i + k }
slot_at i [] k d h = absurd (omega arith)
slot_at i (x ∷ xs) zero d h = ap (λ n. record { name = x; slot = n }) (omega arith)
slot_at i (x ∷ xs) (suc k) d h =
    slot_at (i + 1) xs k d (omega (arith, h))
    ∙ ap (λ n. record { name = get_or xs k []; slot = n }) (omega arith)

count_of : (i : ℕ) (names : List (List ℕ)) → length (numbered i names) ≡ length names
count_of i [] = refl
count_of i (x ∷ xs) = ap suc (count_of (i + 1) xs)

-- the slot is that of its name
abbrev IsOwn : List (List ℕ) → Slot → Type 0
IsOwn names s = (s.slot < length names) × (get_or names s.slot [] ≡ s.name)

slot_of_first : (names : List (List ℕ)) (k : ℕ) (d : Slot) → k < length names → get_or (numbered 0 names) k d ≡ record { name = get_or names k []; slot = k }
slot_of_first names k d h = slot_at 0 names k d h ∙ ap (λ n. record { name = get_or names k []; slot = n }) (omega arith)

own : (names : List (List ℕ)) (slots : List Slot) → AreOrdered names slots → All (IsOwn names) slots
own names slots o = All-permutation (IsOwn names) _ _ o.moved (λ k d h. let l : k < length names = omega (arith, h, count_of 0 names) in subst (IsOwn names) (sym (slot_of_first names k d l)) (l, refl))

-- each name has a slot
has : (names : List (List ℕ)) (slots : List Slot) → AreOrdered names slots → (k : ℕ) → k < length names → Contains slots (record { name = get_or names k []; slot = k })
has names slots o k h = Contains-permutation _ _ _ o.moved (k, omega (arith, h, count_of 0 names), slot_of_first names k _ h)

within : (i n : ℕ) → i < n → nat_lt i n ≡ true
within i n h = grind arith

not_within : (n : ℕ) → nat_lt n n ≡ false
not_within n = grind arith

position_at : (p : List ℕ → Bool) (xs : List (List ℕ)) (i : ℕ) → i < length xs → p (get_or xs i []) ≡ true → ((k : ℕ) → k < i → p (get_or xs k []) ≡ false) → position p xs ≡ Some i
position_at p xs i h e a = rw (position_or_len_is p xs i [] (omega arith) a (λ l. e), within i (length xs) h) refl

position_nowhere : (p : List ℕ → Bool) (xs : List (List ℕ)) → ((k : ℕ) → k < length xs → p (get_or xs k []) ≡ false) → position p xs ≡ None
position_nowhere p xs a = rw (position_or_len_is p xs (length xs) [] (omega arith) a (λ l. absurd (omega arith)), not_within (length xs)) refl

module _ (names : List (List ℕ)) (slots : List Slot) (name : List ℕ) (o : AreOrdered names slots) where
  abbrev is_named : List ℕ → Bool
  is_named x = bytes_eq x name

  abbrev at : Slot → Ordering
  at s = slice_cmp nat_cmp s.name name

  -- the search finds the slot of the name, since no other slot has that name
  pub found : (i : ℕ) (d : Slot) → i < length slots → IsDistinct bytes_eq names → HoldsAt (λ s. at s ≡ Equal) slots i → position is_named names ≡ Some (get_or slots i d).slot
  found i d h u e =
      let s = get_or slots i d in
      let w : IsOwn names s = own names slots o i d h in
      let same : get_or names s.slot [] ≡ name = w.1 ∙ exact_bytes _ _ (e d) in
      let is : is_named (get_or names s.slot []) ≡ true = ap is_named w.1 ∙ sym (is_eq-slice_cmp s.name name) ∙ ap is_eq (e d) in
      position_at is_named names s.slot w.0 is (λ k l. ap (bytes_eq (get_or names k [])) (sym same) ∙ apart_from_distinct bytes_eq names k s.slot [] u l w.0)

  apart : (s : Slot) → (at s ≡ Less) ⊎ (at s ≡ Greater) → is_named s.name ≡ false
  apart s (inl e) = sym (is_eq-slice_cmp s.name name) ∙ ap is_eq e
  apart s (inr e) = sym (is_eq-slice_cmp s.name name) ∙ ap is_eq e

  -- where it finds nothing, no name is this one
  pub nowhere : (i : ℕ) → IsBinarySearchResult at slots (Err i) → position is_named names ≡ None
  nowhere i r =
      let p : IsPartitionPoint (λ s. at s ≡ Less) (λ s. at s ≡ Greater) slots i = r (searchable_from_sorted nat_list_cmp_total (λ s. s.name) slots name o.ordered) in
      position_nowhere is_named names
      (λ k h.
      let x : Slot = record { name = get_or names k []; slot = k } in
      let c = has names slots o k h in
      apart x (⊎_elim (λ l. inl (ap at (sym c.2) ∙ p.0 c.0 x (omega arith) l)) (λ l. inr (ap at (sym c.2) ∙ p.1 c.0 x l c.1)) (cases_lt c.0 i)))
