-- The test of two names is equality.
use Rattle.std.proofs.Common.{inl, inr, ◌≡◌, ℕ, ◌+◌, ◌-◌, ◌<◌, ◌≤◌, List, ◌++◌, Bool, true, false, sym, ◌∙◌, ap, rules, arith, IsTrue, length, get_or, take, drop}
use Rattle.std.specs.Str.{bytes_eq}
use Rattle.std.specs.Char.{to_ascii_lowercase}
use Rattle.std.proofs.lemmas.Bool.{cases_Bool, false≢true}
use Rattle.std.proofs.lemmas.List.{length-map, get_or-map, ext_get_or, take_all, take-append-drop, drop-drop, length-drop}
use Rattle.std.proofs.lemmas.Slice.Eq.{bytes_eq-Decides}
use Rattle.moo_value.specs.Compare.{folded}
use Rattle.moo_world_object.specs.Names.{same_name}

pub same_name-true : (a b : List ℕ) → same_name a b ≡ true → a ≡ b
same_name-true a b h = (bytes_eq-Decides a b).0 h

pub eq-same_name : (a b : List ℕ) → a ≡ b → same_name a b ≡ true
eq-same_name a b h = (bytes_eq-Decides a b).1 h

pub same_name-false : (a b : List ℕ) → same_name a b ≡ false → a ≡ b → ⊥
same_name-false a b differ h = false≢true (sym differ ∙ eq-same_name a b h)

pub ne-same_name : (a b : List ℕ) → (a ≡ b → ⊥) → same_name a b ≡ false
ne-same_name a b differ = elim (cases_Bool (same_name a b)) [
  | inl same ↦ absurd (differ (same_name-true a b same))
  | inr other ↦ other
]

-- a test that decides whether two names are equal in lower case is `same_name`
pub tested : (a b : List ℕ) (r : Bool) → (IsTrue r → folded a ≡ folded b) × (folded a ≡ folded b → IsTrue r) → r ≡ same_name (folded a) (folded b)
tested a b r h = search (rules, bytes_eq-Decides)

-- names of other lengths differ
pub other_length : (a b : List ℕ) → (length a ≡ length b → ⊥) → folded a ≡ folded b → ⊥
other_length a b differ same = differ (sym (length-map a to_ascii_lowercase) ∙ ap length same ∙ length-map b to_ascii_lowercase)

-- names with another letter differ
pub other_letter : (a b : List ℕ) (i : ℕ) → i < length a → length a ≡ length b → (to_ascii_lowercase (get_or a i 0) ≡ to_ascii_lowercase (get_or b i 0) → ⊥) → folded a ≡ folded b → ⊥
other_letter a b i low long differ same =
    differ (sym (get_or-map to_ascii_lowercase a i 0 0 low) ∙ ap (λ l. get_or l i 0) same ∙ get_or-map to_ascii_lowercase b i 0 0 (omega (arith, low, long)))

-- names whose letters are the same one by one
pub letters_same : (a b : List ℕ) (i : ℕ) → length a ≡ length b → length a ≤ i → ((k : ℕ) → k < i → to_ascii_lowercase (get_or a k 0) ≡ to_ascii_lowercase (get_or b k 0)) → folded a ≡ folded b
letters_same a b i long all same =
    ext_get_or 0 (folded a) (folded b) (length-map a to_ascii_lowercase ∙ long ∙ sym (length-map b to_ascii_lowercase))
    (λ k low. let within : k < length a = omega (arith, low, length-map a to_ascii_lowercase) in
    get_or-map to_ascii_lowercase a k 0 0 within ∙ same k (omega (arith, within, all)) ∙ sym (get_or-map to_ascii_lowercase b k 0 0 (omega (arith, within, long))))

-- two names whose ends are the same, if these meet or overlap
rest_same : (a b : List ℕ) (m n : ℕ) → n ≤ m → drop n a ≡ drop n b → drop m a ≡ drop m b
rest_same a b m n meet back =
    let sum : n + (m - n) ≡ m = omega (arith, meet) in
    ap (λ k. drop k a) (sym sum) ∙ sym (drop-drop (m - n) n a) ∙ ap (drop (m - n)) back ∙ drop-drop (m - n) n b ∙ ap (λ k. drop k b) sum

-- the bytes from a place on, as a range of a slice has them
rest_is : (a : List ℕ) (n : ℕ) → take (length a - n) (drop n a) ≡ drop n a
rest_is a n = take_all (length a - n) (drop n a) (omega (arith, length-drop n a))

pub rests_same : (a b : List ℕ) (n : ℕ) → take (length a - n) (drop n a) ≡ take (length b - n) (drop n b) → drop n a ≡ drop n b
rests_same a b n same = sym (rest_is a n) ∙ same ∙ rest_is b n

pub ends_same : (a b : List ℕ) (m n : ℕ) → n ≤ m → take m a ≡ take m b → drop n a ≡ drop n b → a ≡ b
ends_same a b m n meet front back =
    sym (take-append-drop m a) ∙ ap (λ l. l ++ drop m a) front ∙ ap (λ l. take m b ++ l) (rest_same a b m n meet back) ∙ take-append-drop m b

-- a name that begins with one of its length
pub prefix_same : (a b : List ℕ) → length a ≡ length b → bytes_eq b (take (length b) a) ≡ true → a ≡ b
prefix_same a b long begins = sym (take_all (length b) a (omega (arith, long))) ∙ sym ((bytes_eq-Decides b (take (length b) a)).0 begins)
