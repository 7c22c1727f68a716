-- Where a string occurs in another, with letters folded.
use Rattle.std.proofs.Common.{◌≡◌, ℕ, ◌+◌, ◌-◌, ◌<◌, ◌≤◌, List, [], ◌∷◌, Some, None, length, take, drop, slice_index, refl, sym, ap, subst, ◌∙◌, arith, ⊎_elim}
use Rattle.std.proofs.lemmas.List.{length-map, take-map, drop-map, get_or-map}
use Rattle.std.proofs.lemmas.Bool.{cases_eq}
use Rattle.std.specs.Char.{to_ascii_lowercase}
use Rattle.memchr.specs.Find.{Nowhere, OccursAt, FindsNeedle, matches}
use Rattle.memchr.proofs.lemmas.MatchLemmas.{OccursAt-part, OccursAt-from_part, matches-first, matches-none}
use Rattle.moo_value.specs.Compare.{folded}

-- the part of a text with its letters folded
folded_part : (text : List ℕ) (at m : ℕ) → take m (drop at (folded text)) ≡ folded (take m (drop at text))
folded_part text at m = ap (take m) (drop-map to_ascii_lowercase at text) ∙ take-map to_ascii_lowercase m (drop at text)

pub occurs_here : (text wanted : List ℕ) (at m : ℕ) → m ≡ length wanted → at + length wanted ≤ length text → folded (take m (drop at text)) ≡ folded wanted → OccursAt (folded text) (folded wanted) at
occurs_here text wanted at m is fits e =
    let many = length-map wanted to_ascii_lowercase in
    OccursAt-from_part (folded text) (folded wanted) at (omega (arith, fits, many, length-map text to_ascii_lowercase))
    (ap (λ k. take k (drop at (folded text))) (many ∙ sym is) ∙ folded_part text at m ∙ e)

pub occurs_so : (text wanted : List ℕ) (at m : ℕ) → m ≡ length wanted → OccursAt (folded text) (folded wanted) at → folded (take m (drop at text)) ≡ folded wanted
occurs_so text wanted at m is h =
    let many = length-map wanted to_ascii_lowercase in
    sym (folded_part text at m) ∙ ap (λ k. take k (drop at (folded text))) (is ∙ sym many) ∙ OccursAt-part (folded text) (folded wanted) at h

-- a longer string occurs nowhere
pub too_long : (text wanted : List ℕ) (from : ℕ) → length text < length wanted → FindsNeedle (folded text) (folded wanted) from None
too_long text wanted from long = λ k low high occurs. absurd (let fits = occurs.fits in omega (arith, fits, long, length-map wanted to_ascii_lowercase, length-map text to_ascii_lowercase))

-- nor does a string after the last place at which it fits
pub past_last : (text wanted : List ℕ) (from last at : ℕ) → length wanted ≤ length text → last ≡ length text - length wanted → last < at → Nowhere (OccursAt (folded text) (folded wanted)) from at
    → FindsNeedle (folded text) (folded wanted) from None
past_last text wanted from last at fit is past none = λ k low high occurs.
    let fits = occurs.fits in
    none k low (omega (arith, fits, fit, is, past, length-map wanted to_ascii_lowercase, length-map text to_ascii_lowercase)) occurs

pub found_here : (text wanted : List ℕ) (from at : ℕ) → from ≤ at → Nowhere (OccursAt (folded text) (folded wanted)) from at → OccursAt (folded text) (folded wanted) at
    → FindsNeedle (folded text) (folded wanted) from (Some at)
found_here text wanted from at low none occurs =
    let fits = occurs.fits in
    (record { low = low; high = omega (arith, fits); before = none }, occurs)

-- one place more
pub one_more : (text wanted : List ℕ) (from at : ℕ) → Nowhere (OccursAt (folded text) (folded wanted)) from at → ¬ OccursAt (folded text) (folded wanted) at
    → Nowhere (OccursAt (folded text) (folded wanted)) from (at + 1)
one_more text wanted from at none not_here = λ k low high occurs.
    ⊎_elim (λ same. not_here (subst (OccursAt (folded text) (folded wanted)) same occurs)) (λ other. none k low (omega (arith, high, other)) occurs) (cases_eq k at)

-- a match that was found and those after it
pub next_match : (text wanted : List ℕ) (last at : ℕ) → 0 < length wanted → FindsNeedle (folded text) (folded wanted) last (Some at)
    → matches (folded text) (folded wanted) last ≡ at ∷ matches (folded text) (folded wanted) (at + length wanted)
next_match text wanted last at some found =
    matches-first (folded text) (folded wanted) last at found.0 found.1
    ∙ ap (λ m. at ∷ matches (folded text) (folded wanted) m) (omega (arith, some, length-map wanted to_ascii_lowercase))

pub no_match : (text wanted : List ℕ) (last : ℕ) → FindsNeedle (folded text) (folded wanted) last None → matches (folded text) (folded wanted) last ≡ []
no_match text wanted last none = matches-none (folded text) (folded wanted) last none

pub match_fits : (text wanted : List ℕ) (last at : ℕ) → FindsNeedle (folded text) (folded wanted) last (Some at) → at + length wanted ≤ length text
match_fits text wanted last at found =
    let fits = found.1.fits in
    omega (arith, fits, length-map wanted to_ascii_lowercase, length-map text to_ascii_lowercase)

pub not_empty : (s : List ℕ) → ¬ (s ≡ []) → 0 < length s
not_empty [] h = absurd (h refl)
not_empty (b ∷ bs) h = omega arith

-- The bytes with which an occurrence begins are alike.
pub first_alike : (text wanted : List ℕ) (at : ℕ) → 0 < length wanted → at + length wanted ≤ length text → OccursAt (folded text) (folded wanted) at
    → to_ascii_lowercase (slice_index text at) ≡ to_ascii_lowercase (slice_index wanted 0)
first_alike text wanted at some fits occurs =
    let here : at ≡ at + 0 = omega arith in
    sym (get_or-map to_ascii_lowercase text at 0 0 (omega (arith, some, fits)))
    ∙ ap (slice_index (folded text)) here
    ∙ occurs.reads 0 (omega (arith, some, length-map wanted to_ascii_lowercase))
    ∙ get_or-map to_ascii_lowercase wanted 0 0 0 some
