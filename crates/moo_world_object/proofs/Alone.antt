-- Names that are one name alone, without a star.
use Rattle.std.proofs.Common.{◌≡◌, ◌≢◌, ℕ, zero, suc, ◌+◌, ◌<◌, ◌≤◌, Bool, ◌++◌, inr, true, false, not, cond, filter, List, [], ◌∷◌, ◌||◌, length, get_or, inl, refl, sym, ap, ◌∙◌, arith}
use Rattle.std.specs.List.{list_any, slice_split}
use Rattle.std.proofs.lemmas.Bool.{ne_eqb, cases_Bool, false≢true}
use Rattle.std.proofs.lemmas.List.{append-nil, ext_get_or, get_or_at, length-append, length-map}
use Rattle.std.specs.Char.{to_ascii_lowercase}
use Rattle.std.proofs.lemmas.List.Splits.{slice_split_none}
use Rattle.moo_value.specs.Compare.{folded}
use Rattle.moo_world_object.specs.Patterns.{is_star, is_blank, is_word, base, least, fits, fits_names, Fits}
use Rattle.moo_world_object.specs.Names.{same_name}
use Rattle.moo_world_object.proofs.Names.{eq-same_name, ne-same_name}
use Rattle.moo_world_object.proofs.Fitting.{least_within}
use Rattle.moo_world_object.proofs.Patterns.{fits_is}

-- A byte that both have, and that is neither a star nor a blank.
abbrev pub IsPlain : List ℕ → List ℕ → ℕ → Type 0
IsPlain names name k = (get_or names k 0 ≡ get_or name k 0) × (is_star (get_or names k 0) ≡ false) × (is_blank (get_or names k 0) ≡ false)

any_default : (xs : List ℕ) (k d : ℕ) → k < length xs → get_or xs k d ≡ get_or xs k 0
any_default [] k d h = absurd (omega (arith, h))
any_default (x ∷ xs) zero d h = refl
any_default (x ∷ xs) (suc k) d h = any_default xs k d (omega (arith, h))

base_plain : (xs : List ℕ) → ((k : ℕ) → k < length xs → is_star (get_or xs k 0) ≡ false) → base xs ≡ xs
base_plain [] h = refl
base_plain (b ∷ bs) h =
    let first : is_star b ≡ false = h 0 (omega arith) in
    ap (λ t. cond (not t) (b ∷ base bs) (base bs)) first ∙ ap (λ ys. b ∷ ys) (base_plain bs (λ k l. h (suc k) (omega (arith, l))))

fits_itself : (names name : List ℕ) → names ≡ name → base names ≡ names → fits names name ≡ true
fits_itself names name same plain =
    (fits_is names name).1 (inl (([], ap folded (plain ∙ same) ∙ sym (append-nil (folded name))), omega (arith, least_within names, ap length same)))

alone : (names name : List ℕ) → fits names name ≡ true → slice_split is_blank names ≡ names ∷ [] → is_word names ≡ true → fits_names names name ≡ true
alone names name fit split word =
    ap (λ parts. list_any (λ pattern. fits pattern name) (filter is_word parts)) split
    ∙ ap (λ t. list_any (λ pattern. fits pattern name) (cond t (names ∷ []) [])) word
    ∙ ap (λ t. t || false) fit

pub just_fits : (names name : List ℕ) → length names ≡ length name → length names ≢ 0 → ((k : ℕ) → k < length names → IsPlain names name k) → fits_names names name ≡ true
just_fits names name long some plain =
    let same : names ≡ name = ext_get_or 0 names name long (λ k l. (plain k l).0) in
    let bare : base names ≡ names = base_plain names (λ k l. (plain k l).1) in
    let split : slice_split is_blank names ≡ names ∷ [] = slice_split_none is_blank names (λ k d l. ap is_blank (any_default names k d l) ∙ (plain k l).2) in
    let word : is_word names ≡ true = ap (λ t. not t) (ne_eqb (length names) 0 some) in
    alone names name (fits_itself names name same bare) split word

-- neither a star nor a blank
abbrev pub HasNoMark : List ℕ → Type 0
HasNoMark names = (k : ℕ) → k < length names → (is_star (get_or names k 0) ≡ false) × (is_blank (get_or names k 0) ≡ false)

least_plain : (xs : List ℕ) → ((k : ℕ) → k < length xs → is_star (get_or xs k 0) ≡ false) → least xs ≡ length xs
least_plain [] h = refl
least_plain (b ∷ bs) h =
    let first : is_star b ≡ false = h 0 (omega arith) in
    let more : least (b ∷ bs) ≡ 1 + least bs = (rw first refl) in
    omega (arith, more, least_plain bs (λ k l. h (suc k) (omega (arith, l))))

no_star_last : (names front : List ℕ) → ((k : ℕ) → k < length names → is_star (get_or names k 0) ≡ false) → names ≡ front ++ 42 ∷ [] → ⊥
no_star_last names front h is =
    let within : length front < length names = omega (arith, ap length is, length-append front (42 ∷ [])) in
    let last : get_or names (length front) 0 ≡ 42 = ap (λ w. get_or w (length front) 0) is ∙ get_or_at front 42 [] 0 (length front) refl in
    false≢true (sym (h (length front) within) ∙ ap is_star last)

nothing_more : (names name following : List ℕ) → length names ≤ length name → folded names ≡ folded name ++ following → folded names ≡ folded name
nothing_more names name [] long is = is ∙ append-nil (folded name)
nothing_more names name (b ∷ bs) long is = absurd (omega (arith, long, ap length is, length-append (folded name) (b ∷ bs), length-map names to_ascii_lowercase, length-map name to_ascii_lowercase))

fits_same : (names name : List ℕ) → ((k : ℕ) → k < length names → is_star (get_or names k 0) ≡ false) → Fits names name → folded names ≡ folded name
fits_same names name h (inl ((following, is), long)) =
    let bare : base names ≡ names = base_plain names h in
    nothing_more names name following (omega (arith, long, least_plain names h)) (ap folded (sym bare) ∙ is)
fits_same names name h (inr ((front, is), begins)) = absurd (no_star_last names front h is)

same_fits : (names name : List ℕ) → base names ≡ names → folded names ≡ folded name → fits names name ≡ true
same_fits names name bare same =
    let many : length names ≡ length name = omega (arith, ap length same, length-map names to_ascii_lowercase, length-map name to_ascii_lowercase) in
    (fits_is names name).1 (inl (([], ap folded bare ∙ same ∙ sym (append-nil (folded name))), omega (arith, least_within names, many)))

one_pattern : (names name : List ℕ) → slice_split is_blank names ≡ names ∷ [] → is_word names ≡ true → fits_names names name ≡ fits names name
one_pattern names name split word =
    ap (λ parts. list_any (λ pattern. fits pattern name) (filter is_word parts)) split
    ∙ ap (λ t. list_any (λ pattern. fits pattern name) (cond t (names ∷ []) [])) word
    ∙ or_none (fits names name)
  where
    or_none : (a : Bool) → (a || false) ≡ a
    or_none true = refl
    or_none false = refl

-- a name matches just itself
pub fits_alone : (names name : List ℕ) → length names ≢ 0 → HasNoMark names → fits_names names name ≡ same_name (folded names) (folded name)
fits_alone names name some plain =
    let stars = λ (k : ℕ) (l : k < length names). (plain k l).0 in
    let split : slice_split is_blank names ≡ names ∷ [] = slice_split_none is_blank names (λ k d l. ap is_blank (any_default names k d l) ∙ (plain k l).1) in
    let word : is_word names ≡ true = ap (λ t. not t) (ne_eqb (length names) 0 some) in
    one_pattern names name split word ∙ elim (cases_Bool (fits names name)) [
      | inl fit ↦ fit ∙ sym (eq-same_name (folded names) (folded name) (fits_same names name stars ((fits_is names name).0 fit)))
      | inr off ↦ off ∙ sym (ne-same_name (folded names) (folded name) (λ same. false≢true (sym off ∙ same_fits names name (base_plain names stars) same)))
    ]
