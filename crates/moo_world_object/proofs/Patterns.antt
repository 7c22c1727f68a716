-- The test of a pattern is the rule of patterns.
use Rattle.std.specs.List.{list_any}
use Rattle.std.proofs.Common.{inl, inr, ap, filter, ◌&&◌, ◌||◌, ◌≡◌, ℕ, List, [], ◌∷◌, Bool, refl, length, take, drop, ◌-◌, IsTrue}
use Rattle.std.specs.Bool.{Decides}
use Rattle.std.proofs.lemmas.Bool.{cases_Bool, leb-true, le-leb}
use Rattle.std.proofs.lemmas.Bool.Decides.{Decides-eqb, Decides-and, Decides-or, same_from_decides}
use Rattle.std.proofs.lemmas.Slice.Eq.{starts_is, ends_is}
use Rattle.moo_value.specs.Compare.{folded}
use Rattle.moo_world_object.specs.Patterns.{base, least, begins, ends_in_star, fits, Begins, EndsInStar, Fits}

begins_is : (front whole : List ℕ) → Decides (begins front whole) (Begins front whole)
begins_is front whole =
    let both = starts_is Decides-eqb (folded whole) (folded front) (begins front whole) refl in
    (λ yes. (drop (length (folded front)) (folded whole), both.0 yes), λ (following, is). both.1 following is)

pub ends_in_star_is : (pattern : List ℕ) → Decides (ends_in_star pattern) (EndsInStar pattern)
ends_in_star_is pattern =
    let both = ends_is Decides-eqb pattern (42 ∷ []) (ends_in_star pattern) refl in
    (λ yes. (take (length pattern - 1) pattern, both.0 yes), λ (front, is). both.1 front is)

pub fits_is : (pattern name : List ℕ) → Decides (fits pattern name) (Fits pattern name)
fits_is pattern name =
    Decides-or _ _
    (Decides-and _ _ (begins_is name (base pattern)) (leb-true (least pattern) (length name), le-leb (least pattern) (length name)))
    (Decides-and _ _ (ends_in_star_is pattern) (begins_is (base pattern) name))

pub fits_value : (pattern name : List ℕ) (r : Bool) → (IsTrue r → Fits pattern name) × (Fits pattern name → IsTrue r) → r ≡ fits pattern name
fits_value pattern name r decided = same_from_decides r (fits pattern name) decided (fits_is pattern name)

-- some element passes both tests where some of those that pass the first passes the second
pub any_among : (p q : List ℕ → Bool) (xs : List (List ℕ)) → list_any (λ x. p x && q x) xs ≡ list_any q (filter p xs)
any_among p q [] = refl
any_among p q (x ∷ xs) = elim (cases_Bool (p x)) [
  | inl passes ↦ rw (passes) (ap (λ t. q x || t) (any_among p q xs))
  | inr other ↦ rw (other) (any_among p q xs)
]

pub star_fits : (name : List ℕ) → IsTrue (fits (42 ∷ []) name)
star_fits name = (fits_is (42 ∷ []) name).1 (inr (([], refl), (folded name, refl)))
