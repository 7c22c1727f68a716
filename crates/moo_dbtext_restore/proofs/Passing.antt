-- The first object of which something doesn't hold, on a walk that enters each.
use Rattle.std.proofs.Common.{◌≡◌, ◌≢◌, ℕ, ◌<◌, ◌≤◌, List, [], ◌∷◌, ◌++◌, length, Option, Some, None, refl, sym, subst, ⊎_elim, arith}
use Rattle.std.proofs.lemmas.Bool.{cases_eq, cases_lt, lt-ltb, le-ltb}
use Rattle.moo_dbtext_restore.specs.declared.link.Link.{Link}
use Rattle.moo_dbtext_restore.specs.declared.tour.Visit.{Visit}
use Rattle.moo_dbtext_restore.specs.declared.tour.Visit.TheVariants.{Enter, Leave}
use Rattle.moo_dbtext_restore.specs.First.{IsFirst, least_of}
use Rattle.moo_dbtext_restore.specs.Links.{IsLineage}
use Rattle.moo_dbtext_restore.specs.Tours.{times_entered, IsTour}
use Rattle.moo_dbtext_restore.proofs.Touring.{entered_parts, entered_other}

-- it holds of each object that the visits enter, or this is the first of those of which it doesn't
abbrev pub IsFoundAmong : List (Option Link) → (ℕ → Type 0) → List Visit → Option ℕ → Type 0
IsFoundAmong links P vs None = (y : ℕ) → 0 < times_entered y vs → P y
IsFoundAmong links P vs (Some x) = ((ys : List ℕ) × IsLineage links x ys) × (¬ (P x)) × ((y : ℕ) → y < x → 0 < times_entered y vs → P y)

pub entered_before : (vs : List Visit) (x y : ℕ) → y ≢ x → 0 < times_entered y (vs ++ Enter x ∷ []) → 0 < times_entered y vs
entered_before vs x y ne some = let parts = entered_parts y vs (Enter x ∷ []) in let none = entered_other y x ne in omega (arith, parts, none, some)

pub entered_still : (vs : List Visit) (x y : ℕ) → 0 < times_entered y (vs ++ Leave x ∷ []) → 0 < times_entered y vs
entered_still vs x y some = let parts = entered_parts y vs (Leave x ∷ []) in let none : times_entered y (Leave x ∷ []) ≡ 0 = refl in omega (arith, parts, none, some)

module _ (links : List (Option Link)) (P : ℕ → Type 0) (vs : List Visit) (x : ℕ) where
  pub found_right : (f : Option ℕ) → P x → IsFoundAmong links P vs f → IsFoundAmong links P (vs ++ Enter x ∷ []) f
  found_right None p f = λ y some. ⊎_elim (λ same. subst P (sym same) p) (λ ne. f y (entered_before vs x y ne some)) (cases_eq y x)
  found_right (Some z) p f = (f.0, f.1, λ y low some. ⊎_elim (λ same. subst P (sym same) p) (λ ne. f.2 y low (entered_before vs x y ne some)) (cases_eq y x))

  pub found_wrong : (f : Option ℕ) (path : List ℕ) → IsLineage links x path → (¬ (P x)) → IsFoundAmong links P vs f → IsFoundAmong links P (vs ++ Enter x ∷ []) (least_of f (Some x))
  found_wrong None path way wrong f = ((path, way), wrong, λ y low some. f y (entered_before vs x y (λ e. omega (arith, e, low)) some))
  found_wrong (Some z) path way wrong f = ⊎_elim
      (λ lower. let test = lt-ltb x z lower in rw test ((path, way), wrong, λ y low some. f.2 y (omega (arith, low, lower)) (entered_before vs x y (λ e. omega (arith, e, low)) some)))
      (λ past. let test = le-ltb x z past in rw test (f.0, f.1, λ y low some. f.2 y low (entered_before vs x y (λ e. omega (arith, e, low, past)) some)))
      (cases_lt x z)

  pub found_on : (f : Option ℕ) → IsFoundAmong links P vs f → IsFoundAmong links P (vs ++ Leave x ∷ []) f
  found_on None f = λ y some. f y (entered_still vs x y some)
  found_on (Some z) f = (f.0, f.1, λ y low some. f.2 y low (entered_still vs x y some))

pub found_in_all : (links : List (Option Link)) (P : ℕ → Type 0) (tour : List Visit) (f : Option ℕ) → IsTour links tour → ((x : ℕ) → length links ≤ x → P x) → IsFoundAmong links P tour f →
    IsFirst (λ x. (ys : List ℕ) → IsLineage links x ys → P x) (length links) f
found_in_all links P tour None t past f = λ x low ys way. f x (t.whole x low ys way)
found_in_all links P tour (Some x) t past f =
    let low : x < length links = ⊎_elim (λ low. low) (λ over. absurd (f.1 (past x over))) (cases_lt x (length links)) in
    (low, λ w. f.1 (w f.0.0 f.0.1), λ y lower ys way. f.2 y lower (t.whole y (omega (arith, low, lower)) ys way))
