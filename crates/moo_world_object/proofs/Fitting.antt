-- A pattern against a name, one byte of the pattern after the other.
use Rattle.std.proofs.Common.{◌≡◌, ◌≢◌, ℕ, ◌+◌, ◌≤◌, ◌<◌, ◌⊎◌, inl, inr, Bool, true, false, not, cond, List, [], ◌∷◌, ◌++◌, length, take, drop, get_or, refl, ltb, Some, None, unwrap_or, sym, ap, ◌∙◌, arith}
use Rattle.std.proofs.lemmas.List.{append-nil, get_or_append_left, map-append, length-map, length-append, take-append-drop, take_more, drop_more, get_or_at, get_or-map, take_all}
use Rattle.std.proofs.lemmas.List.Elements.{filter-append}
use Rattle.std.proofs.lemmas.Bool.{cases_Bool, ltb-false}
use Rattle.std.specs.List.{position}
use Rattle.std.specs.Char.{to_ascii_lowercase}
use Rattle.moo_world_object.specs.Patterns.{is_star, base, least, Begins, EndsInStar, Fits}
use Rattle.moo_value.specs.Compare.{folded}

-- the base of the first i bytes has been found at the front of the name
pub record IsMatched (pattern name : List ℕ) (i matched : ℕ) : Type 0 where
  pub counted : matched ≡ length (base (take i pattern))
  pub fits : matched ≤ length name
  pub same : folded (take matched name) ≡ folded (base (take i pattern))

pub none_matched : (pattern name : List ℕ) → IsMatched pattern name 0 0
none_matched pattern name = record { counted = refl; fits = omega arith; same = refl }

base_next : (pattern : List ℕ) (i : ℕ) → i < length pattern
    → base (take (i + 1) pattern) ≡ base (take i pattern) ++ cond (not (is_star (get_or pattern i 0))) (get_or pattern i 0 ∷ []) []
base_next pattern i h = ap base (take_more pattern i 0 h) ∙ filter-append (λ b. not (is_star b)) (take i pattern) (get_or pattern i 0 ∷ [])

base_star : (pattern : List ℕ) (i : ℕ) → i < length pattern → is_star (get_or pattern i 0) ≡ true → base (take (i + 1) pattern) ≡ base (take i pattern)
base_star pattern i h star =
    base_next pattern i h
    ∙ ap (λ t. base (take i pattern) ++ cond (not t) (get_or pattern i 0 ∷ []) []) star
    ∙ append-nil (base (take i pattern))

base_byte : (pattern : List ℕ) (i : ℕ) → i < length pattern → is_star (get_or pattern i 0) ≡ false
    → base (take (i + 1) pattern) ≡ base (take i pattern) ++ get_or pattern i 0 ∷ []
base_byte pattern i h plain = base_next pattern i h ∙ ap (λ t. base (take i pattern) ++ cond (not t) (get_or pattern i 0 ∷ []) []) plain

pub star_matched : (pattern name : List ℕ) (i matched : ℕ) → IsMatched pattern name i matched → i < length pattern → is_star (get_or pattern i 0) ≡ true
    → IsMatched pattern name (i + 1) matched
star_matched pattern name i matched m h star = record {
  counted = m.counted ∙ ap length (sym (base_star pattern i h star));
  fits = m.fits;
  same = m.same ∙ ap folded (sym (base_star pattern i h star));
}

pub byte_matched : (pattern name : List ℕ) (i matched : ℕ) → IsMatched pattern name i matched → i < length pattern → is_star (get_or pattern i 0) ≡ false
    → matched < length name → to_ascii_lowercase (get_or pattern i 0) ≡ to_ascii_lowercase (get_or name matched 0)
    → IsMatched pattern name (i + 1) (matched + 1)
byte_matched pattern name i matched m h plain room alike = record {
  counted = omega (arith, m.counted, ap length (base_byte pattern i h plain), length-append (base (take i pattern)) (get_or pattern i 0 ∷ []));
  fits = omega arith;
  same =
      ap folded (take_more name matched 0 room)
      ∙ map-append to_ascii_lowercase (take matched name) (get_or name matched 0 ∷ [])
      ∙ ap (λ w. w ++ to_ascii_lowercase (get_or name matched 0) ∷ []) m.same
      ∙ ap (λ b. folded (base (take i pattern)) ++ b ∷ []) (sym alike)
      ∙ sym (map-append to_ascii_lowercase (base (take i pattern)) (get_or pattern i 0 ∷ []))
      ∙ ap folded (sym (base_byte pattern i h plain));
}

base_split : (pattern : List ℕ) (i : ℕ) → base pattern ≡ base (take i pattern) ++ base (drop i pattern)
base_split pattern i = ap base (sym (take-append-drop i pattern)) ∙ filter-append (λ b. not (is_star b)) (take i pattern) (drop i pattern)

base_at : (pattern : List ℕ) (i : ℕ) → i < length pattern → is_star (get_or pattern i 0) ≡ false
    → base pattern ≡ base (take i pattern) ++ get_or pattern i 0 ∷ base (drop (i + 1) pattern)
base_at pattern i h plain =
    base_split pattern i
    ∙ ap (λ w. base (take i pattern) ++ base w) (drop_more pattern i 0 h)
    ∙ ap (λ t. base (take i pattern) ++ cond (not t) (get_or pattern i 0 ∷ base (drop (i + 1) pattern)) (base (drop (i + 1) pattern))) plain

begins_short : (front whole : List ℕ) → Begins front whole → length front ≤ length whole
begins_short front whole (following, is) =
    omega (arith, ap length is, length-append (folded front) following, length-map front to_ascii_lowercase, length-map whole to_ascii_lowercase)

least_at_most : (pattern : List ℕ) → least pattern ≤ length (base pattern)
least_at_most [] = omega arith
least_at_most (b ∷ bs) = elim (cases_Bool (is_star b)) [
  | inl star ↦ rw (star) (omega arith)
  | inr plain ↦ rw (plain) (omega (arith, least_at_most bs))
]

-- the name ends before the base does
pub name_ends : (pattern name : List ℕ) (i matched : ℕ) → IsMatched pattern name i matched → i < length pattern → is_star (get_or pattern i 0) ≡ false
    → matched ≡ length name → (least pattern ≤ matched → Fits pattern name) × (Fits pattern name → least pattern ≤ matched)
name_ends pattern name i matched m h plain ends =
    let b : ℕ = get_or pattern i 0 in
    let rest : List ℕ = b ∷ base (drop (i + 1) pattern) in
    let whole : folded (base pattern) ≡ folded name ++ folded rest =
    ap folded (base_at pattern i h plain)
    ∙ map-append to_ascii_lowercase (base (take i pattern)) rest
    ∙ ap (λ w. w ++ folded rest) (sym m.same ∙ ap folded (take_all matched name (omega arith)))
    in
    let longer : length name < length (base pattern) =
    omega (arith, ends, m.counted, ap length (base_at pattern i h plain), length-append (base (take i pattern)) rest)
    in (
      λ enough. inl ((folded rest, whole), omega arith),
      λ fitting. elim fitting [ inl short ↦ omega (arith, short.1) | inr long ↦ absurd (omega (arith, begins_short (base pattern) name long.1)) ],
    )

same_at : (front whole : List ℕ) (k : ℕ) → Begins front whole → k < length front → to_ascii_lowercase (get_or front k 0) ≡ to_ascii_lowercase (get_or whole k 0)
same_at front whole k (following, is) h =
    let inside : k < length (folded front) = omega (arith, length-map front to_ascii_lowercase) in
    let inside' : k < length whole = omega (arith, begins_short front whole (following, is)) in
    sym (get_or-map to_ascii_lowercase front k 0 0 h)
    ∙ sym (get_or_append_left (folded front) following 0 k inside)
    ∙ ap (λ w. get_or w k 0) (sym is)
    ∙ get_or-map to_ascii_lowercase whole k 0 0 inside'

-- a byte of the name differs from the base's
pub name_differs : (pattern name : List ℕ) (i matched : ℕ) → IsMatched pattern name i matched → i < length pattern → is_star (get_or pattern i 0) ≡ false
    → matched < length name → to_ascii_lowercase (get_or pattern i 0) ≢ to_ascii_lowercase (get_or name matched 0) → Fits pattern name → ⊥
name_differs pattern name i matched m h plain room differs fitting =
    let b : ℕ = get_or pattern i 0 in
    let at : get_or (base pattern) matched 0 ≡ b =
    ap (λ w. get_or w matched 0) (base_at pattern i h plain)
    ∙ get_or_at (base (take i pattern)) b (base (drop (i + 1) pattern)) 0 matched (sym m.counted)
    in
    let within : matched < length (base pattern) =
    omega (arith, m.counted, ap length (base_at pattern i h plain), length-append (base (take i pattern)) (b ∷ base (drop (i + 1) pattern)))
    in
    elim fitting [
      | inl short ↦ differs (ap to_ascii_lowercase (sym at) ∙ sym (same_at name (base pattern) matched short.0 room))
      | inr long ↦ differs (ap to_ascii_lowercase (sym at) ∙ same_at (base pattern) name matched long.1 within)
    ]

-- the whole base is a prefix of the name
pub base_ends : (pattern name : List ℕ) (i matched : ℕ) → IsMatched pattern name i matched → length pattern ≤ i
    → ((matched ≡ length name) ⊎ EndsInStar pattern → Fits pattern name) × (Fits pattern name → matched ≢ length name → EndsInStar pattern)
base_ends pattern name i matched m h =
    let all : base (take i pattern) ≡ base pattern = ap base (take_all i pattern h) in
    let begins : folded name ≡ folded (base pattern) ++ folded (drop matched name) =
    ap folded (sym (take-append-drop matched name))
    ∙ map-append to_ascii_lowercase (take matched name) (drop matched name)
    ∙ ap (λ w. w ++ folded (drop matched name)) (m.same ∙ ap folded all)
    in (
      λ either. elim either [
        | inl ends ↦ inl (
          ([], sym (append-nil (folded name) ∙ ap folded (sym (take_all matched name (omega arith))) ∙ m.same ∙ ap folded all)),
          omega (arith, least_at_most pattern, ap length all, m.counted),
        )
        | inr star ↦ inr (star, (folded (drop matched name), begins))
      ],
      λ fitting unended. elim fitting [
        | inl short ↦ absurd (unended (omega (arith, begins_short name (base pattern) short.0, ap length all, m.counted, m.fits)))
        | inr long ↦ long.0
      ],
    )

pub least_within : (pattern : List ℕ) → least pattern ≤ length pattern
least_within [] = omega arith
least_within (b ∷ bs) = elim (cases_Bool (is_star b)) [
  | inl star ↦ rw (star) (omega arith)
  | inr plain ↦ rw (plain) (omega (arith, least_within bs))
]

found_or : (found : Bool) (k n : ℕ) → (found ≡ false → k ≡ n) → unwrap_or (cond found (Some k) None) n ≡ k
found_or true k n h = refl
found_or false k n h = sym (h refl)

-- the place of the first star, or the length
pub least_is : (pattern : List ℕ) → unwrap_or (position is_star pattern) (length pattern) ≡ least pattern
least_is pattern =
    found_or (ltb (least pattern) (length pattern)) (least pattern) (length pattern)
    (λ none. omega (arith, ltb-false (least pattern) (length pattern) none, least_within pattern))
