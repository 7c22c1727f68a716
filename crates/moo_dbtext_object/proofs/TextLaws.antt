-- Strings and small numbers on a line.
use Rattle.std.proofs.Common.{◌≡◌, ℕ, ℤ, pos, negsuc, ◌<◌, ◌≤◌, ◌^◌, Bool, true, false, cond, leb, ltb, length, Ok, Err, refl, ap, subst, ◌∙◌, arith}
use Rattle.std.specs.Prelude.{FitsSigned}
use Rattle.std.specs.Int.{w32}
use Rattle.std.specs.List.{list_all}
use Rattle.std.proofs.lemmas.Bool.{leb-true, ltb-true, lt-ltb, le-leb}
use Rattle.std.specs.Fmt.{signed_decimal}
use Rattle.moo_value.specs.Tree.{IsText}
use Rattle.moo_value.specs.Size.{IsString, weight_limit}
use Rattle.moo_dbtext_object.specs.declared.fault.LineFault.TheVariants.{BadNumber, BadString, TooLarge}
use Rattle.moo_dbtext_object.specs.Lines.{Line, Sizes, unlimited, limited, within, natural_of, number_of, count_of, most_records, bounded_count_of, at_most, small_of, is_text_byte, text_of, IsStringOf, IsCountOf, count_line}
use Rattle.moo_dbtext_object.proofs.Steps.{bind_ok, ok_is, within_ok}
use Rattle.moo_dbtext_object.proofs.LineLaws.{number_is, number_found, chosen_ok, text_true, text_is_true}

refuted : (b : Bool) → (b ≡ true → ⊥) → b ≡ false
refuted true h = absurd (h refl)
refuted false h = refl

pub text_again : (s : Sizes) (line : Line) → IsStringOf s line → text_of s line ≡ Ok line
unfolding text_of
text_again unlimited line h = rw (text_is_true line h) refl
text_again limited line h = rw (text_is_true line h.text, lt-ltb _ _ h.fits) refl

pub text_bad : (line : Line) → ¬ (IsText line) → text_of limited line ≡ Err BadString
unfolding text_of
text_bad line h = rw (refuted (list_all is_text_byte line) (λ e. h (text_true line e))) refl

pub text_heavy : (line : Line) → IsText line → ¬ (IsString line) → text_of limited line ≡ Err TooLarge
unfolding text_of
text_heavy line h heavy = rw (text_is_true line h, refuted (ltb (length line) weight_limit) (λ e. heavy (record { text = h; fits = ltb-true _ _ e }))) refl

pub text_found : (s : Sizes) (line t : Line) → text_of s line ≡ Ok t → IsText t × (line ≡ t)
unfolding text_of
text_found s line t e = decide (list_all is_text_byte line) refl e
  where
    decide : (b : Bool) → list_all is_text_byte line ≡ b → cond b (within s (ltb (length line) weight_limit) line) (Err BadString) ≡ Ok t → IsText t × (line ≡ t)
    decide true is f = let same = within_ok s (ltb (length line) weight_limit) line t f in (subst IsText same (text_true line is), same)
    decide false is f = absurd cc

-- ---- numbers that count

pub number_again : (z : ℤ) → FitsSigned w32 z → number_of (signed_decimal z) ≡ Ok z
number_again z h = number_is (signed_decimal z) z h refl

pub count_again : (n : ℕ) → n < 2 ^ 31 → count_of (count_line n) ≡ Ok n
unfolding count_of
count_again n h = let fits : FitsSigned w32 (pos n) = record { sfits = omega arith } in rw (number_again (pos n) fits) refl

pub count_found : (line : Line) (n : ℕ) → count_of line ≡ Ok n → (n < 2 ^ 31) × (line ≡ count_line n)
unfolding count_of
count_found line n e =
    let b = bind_ok (number_of line) natural_of n e in
    let f = number_found line b.0 b.1 in
    counted b.0 f.0 f.1 b.2
  where
    counted : (z : ℤ) → FitsSigned w32 z → line ≡ signed_decimal z → natural_of z ≡ Ok n → (n < 2 ^ 31) × (line ≡ count_line n)
    counted (pos k) h is same = let k_is = ok_is k n same in (omega (arith, h.sfits), is ∙ ap count_line k_is)
    counted (negsuc k) h is same = absurd cc

pub bounded_count_found : (s : Sizes) (line : Line) (n : ℕ) → bounded_count_of s line ≡ Ok n → (n < 2 ^ 31) × (line ≡ count_line n)
unfolding bounded_count_of
bounded_count_found s line n e =
    let b = bind_ok (count_of line) (λ k. within s (leb k most_records) k) n e in
    let f = count_found line b.0 b.1 in
    let same = within_ok s (leb b.0 most_records) b.0 n b.2 in
    (omega (arith, f.0), f.1 ∙ ap count_line same)

pub bounded_count_again : (s : Sizes) (n : ℕ) → IsCountOf s n → bounded_count_of s (count_line n) ≡ Ok n
unfolding bounded_count_of
bounded_count_again unlimited n h = rw (count_again n h) refl
bounded_count_again limited n h = rw (count_again n (omega arith), le-leb n most_records h) refl

pub small_again : (most n : ℕ) → n ≤ most → most < 2 ^ 31 → small_of most (count_line n) ≡ Ok n
unfolding small_of
small_again most n le lt = rw (count_again n (omega arith), le-leb n most le) refl

pub small_found : (most : ℕ) (line : Line) (n : ℕ) → small_of most line ≡ Ok n → (n ≤ most) × (line ≡ count_line n)
unfolding small_of
small_found most line n e =
    let b = bind_ok (count_of line) (at_most most) n e in
    let f = count_found line b.0 b.1 in
    let p = chosen_ok (leb b.0 most) b.0 n BadNumber b.2 in
    let le = leb-true _ _ p.0 in
    (omega arith, f.1 ∙ ap count_line p.1)
