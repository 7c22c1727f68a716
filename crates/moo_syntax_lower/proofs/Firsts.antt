-- First occurrences of names, one after another.
use Rattle.std.proofs.Common.{ℕ, List, [], ◌∷◌, ◌≡◌, ◌||◌, ◌∙◌, refl, ap, sym, Bool, true, false, cond, Option, Some, is_some}
use Rattle.std.specs.BTreeMap as tree
use Rattle.std.specs.BTreeMap.{BTreeMap}
use Rattle.std.specs.Ordering.{nat_cmp}
use Rattle.std.specs.Cmp.Lexicographic.{slice_cmp}
use Rattle.std.specs.Str.{bytes_eq}
use Rattle.std.proofs.lemmas.Map.Text.{btree_map_updates_str}
use denote.Ref.{Bor}
use Rattle.moo_syntax_ast.specs.Slots.{firsts}

firsts_same : (p q : List ℕ → Bool) → ((y : List ℕ) → p y ≡ q y) → (xs : List (List ℕ)) → firsts p xs ≡ firsts q xs
firsts_same p q h [] = refl
firsts_same p q h (x ∷ xs) = rw (h x, firsts_same p q h xs, firsts_same (λ y. bytes_eq x y || p y) (λ y. bytes_eq x y || q y) (λ y. ap (λ v. bytes_eq x y || v) (h y)) xs) refl

module _ {X : Type 0} where
  -- the map has the name
  abbrev pub has : BTreeMap (Bor (List ℕ)) X → List ℕ → Bool
  has m y = is_some (tree.get_by (λ k. slice_cmp nat_cmp y k.now) m)

  some_or : (c : Bool) (v : X) (o : Option X) → is_some (cond c (Some v) o) ≡ (c || is_some o)
  some_or true v o = refl
  some_or false v o = refl

  -- the first occurrence of a name
  pub first_of : (m n : BTreeMap (Bor (List ℕ)) X) (v : X) (x : List ℕ) (xs : List (List ℕ)) → has m x ≡ false → tree.UpdatesBy (λ x y. slice_cmp nat_cmp x.now y.now) (λ k. slice_cmp nat_cmp x k.now) m n (Some v) → firsts (has m) (x ∷ xs) ≡ x ∷ firsts (has n) xs
  first_of m n v x xs h u =
      let after : (y : List ℕ) → has n y ≡ (bytes_eq x y || has m y) = λ y. ap is_some (btree_map_updates_str x m n (Some v) u y) ∙ some_or (bytes_eq x y) v (tree.get_by (λ k. slice_cmp nat_cmp y k.now) m) in
      rw h (ap (λ r. x ∷ r) (sym (firsts_same (has n) (λ y. bytes_eq x y || has m y) after xs)))

  -- a name that occurred before
  pub not_first : (m : BTreeMap (Bor (List ℕ)) X) (x : List ℕ) (xs : List (List ℕ)) → has m x ≡ true → firsts (has m) (x ∷ xs) ≡ firsts (has m) xs
  not_first m x xs h = rw h refl
