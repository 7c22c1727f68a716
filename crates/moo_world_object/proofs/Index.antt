-- A verb is in the bucket of each name that matches it.
use Rattle.std.proofs.Common.{◌≡◌, inl, inr, ℕ, zero, suc, ◌+◌, ◌*◌, ◌-◌, ◌/◌, ◌%◌, ◌≤◌, ◌<◌, Bool, true, false, ◌&&◌, ◌||◌, List, [], ◌∷◌, ◌++◌, length, take, get_or, filter, refl, sym, ap, ◌∙◌, subst, arith, eqb, ltb, IsTrue, ◌↔◌}
use Rattle.std.proofs.lemmas.Bool.{cases_Bool, eqb-true, eqb-false, false≢true, ltb-true, ltb-false}
use Rattle.std.proofs.lemmas.Bool.Decides.{same_from_decides}
use Rattle.std.proofs.lemmas.List.{length-map, length-append, get_or_default, get_or_append_left}
use Rattle.std.specs.List.{list_any, slice_split}
use Rattle.std.specs.Char.{to_ascii_lowercase}
use Rattle.moo_value.specs.Compare.{folded}
use Rattle.moo_world_object.specs.Patterns.{is_star, is_blank, is_word, base, least, ends_in_star, fits, Fits, EndsInStar}
use Rattle.moo_world_object.specs.Verbs.{fits_verb, is_needed, changed_at}
use Rattle.moo_world_object.specs.Filter.{passes}
use Rattle.moo_world_object.specs.Index.{bucket_of, Holds, IsInBucket, IsListed, Grows, CoversPattern, Covers, AreIndexed}
use Rattle.moo_world_object.specs.declared.verb.Verb.{Verb}
use Rattle.moo_world_object.specs.declared.verb.Need.{Need}
use Rattle.moo_world_object.specs.declared.verb_index.VerbIndex.{VerbIndex}
use Rattle.moo_syntax_ast.specs.NameHash.{first_letter, letters_hash, class_of, hash_of}
use Rattle.moo_world_object.proofs.Letters.{begins_so}
use Rattle.moo_world_object.proofs.Patterns.{fits_is, ends_in_star_is}

-- names that differ in the case of letters alone have one hash
lower_letter : (b : ℕ) → to_ascii_lowercase b % 32 ≡ b % 32
lower_letter b = elim (cases_Bool (ltb b 65)) [
  | inl low ↦ rw (low) refl
  | inr high ↦ rw (high) (elim (cases_Bool (ltb b 91)) [
    | inl upper ↦ rw (upper) (omega arith)
    | inr other ↦ rw (other) refl
  ])
]

letter_head : (a b : ℕ) → to_ascii_lowercase a ≡ to_ascii_lowercase b → a % 32 ≡ b % 32
letter_head a b same = sym (lower_letter a) ∙ ap (λ n. n % 32) same ∙ lower_letter b

same_letter : (a b : List ℕ) (i : ℕ) → folded a ≡ folded b → get_or a i 0 % 32 ≡ get_or b i 0 % 32
same_letter [] [] i same = refl
same_letter [] (y ∷ b) i same = absurd (cc)
same_letter (x ∷ a) [] i same = absurd (cc)
same_letter (x ∷ a) (y ∷ b) zero same = letter_head x y (cc)
same_letter (x ∷ a) (y ∷ b) (suc i) same = same_letter a b i (cc)

same_first : (a b : List ℕ) → folded a ≡ folded b → first_letter a ≡ first_letter b
same_first [] [] same = refl
same_first [] (y ∷ b) same = absurd (cc)
same_first (x ∷ a) [] same = absurd (cc)
same_first (x ∷ a) (y ∷ b) same = (cc)

same_letters_hash : (a b : List ℕ) → folded a ≡ folded b → letters_hash a ≡ letters_hash b
same_letters_hash a b same =
    let many : length a ≡ length b = sym (length-map a to_ascii_lowercase) ∙ ap length same ∙ length-map b to_ascii_lowercase in
    let letters = λ (i : ℕ). same_letter a b i same in
    let middle = letters (length b / 2) in
    let third = letters (length b - 3) in
    let second = letters (length b - 2) in
    let last = letters (length b - 1) in
    rw (many, middle, third, second, last) refl

pub same_hash : (a b : List ℕ) → folded a ≡ folded b → hash_of a ≡ hash_of b
same_hash a b same = ap (λ n. n * 2 + class_of (first_letter a)) (same_letters_hash a b same) ∙ ap (λ n. letters_hash b * 2 + class_of n) (same_first a b same)

-- the lowest bit of a hash
class_low : (first : ℕ) → class_of first < 2
class_low first = elim (cases_Bool (ltb first 65)) [
  | inl low ↦ rw (low) (omega arith)
  | inr high ↦ rw (high) (omega arith)
]

lowest_bit : (n c : ℕ) → c < 2 → (n * 2 + c) % 2 ≡ c
lowest_bit n c low = omega (arith, low)

class_of_hash : (name : List ℕ) → hash_of name % 2 ≡ class_of (first_letter name)
class_of_hash name = lowest_bit (letters_hash name) (class_of (first_letter name)) (class_low (first_letter name))

-- a name that fits a pattern is of its class, if that begins with no star
star_low : (b : ℕ) → is_star (to_ascii_lowercase b) ≡ false → is_star b ≡ false
star_low b off = elim (cases_Bool (eqb b 42)) [
  | inl is ↦ absurd (false≢true (sym off ∙ ap (λ n. is_star (to_ascii_lowercase n)) (eqb-true b 42 is)))
  | inr other ↦ other
]

first_of_fit : (pattern name : List ℕ) → is_star (first_letter pattern) ≡ false → Fits pattern name → first_letter name ≡ first_letter pattern
first_of_fit [] [] plain fit = refl
first_of_fit [] (n ∷ ns) plain (inl ((following, is), long)) = absurd (cc)
first_of_fit [] (n ∷ ns) plain (inr ((front, is), begins)) = absurd (omega (arith, ap length is, length-append front (42 ∷ [])))
first_of_fit (b ∷ bs) name plain fit = begins_so b bs name (star_low b plain) fit

-- a filter that lets a letter pass, or all names
abbrev pub PassesLetter : VerbIndex → ℕ → Type 0
PassesLetter index first = (hash : ℕ) → passes index.filter.words first hash ≡ true

pub open_covers : (index : VerbIndex) (i : ℕ) (pattern : List ℕ) → is_star (first_letter pattern) ≡ false → PassesLetter index (first_letter pattern) → Holds index (class_of (first_letter pattern)) i → CoversPattern index pattern i
open_covers index i pattern plain passed holds = λ name fit.
    let first = first_of_fit pattern name plain ((fits_is pattern name).0 fit) in
    let class : hash_of name % 2 ≡ class_of (first_letter pattern) = class_of_hash name ∙ ap class_of first in
    (subst (λ l. passes index.filter.words l (hash_of name) ≡ true) (sym first) (passed (hash_of name)), inr (subst (λ j. Holds index j i) (sym class) holds))

-- a place in both buckets of open patterns is listed for all names that pass
pub both_list : (index : VerbIndex) (i : ℕ) → ((first : ℕ) → PassesLetter index first) → Holds index 0 i → Holds index 1 i → (name : List ℕ) → IsListed index name i
both_list index i passed zeroth first name = (
  passed (first_letter name) (hash_of name),
  elim (cases_Bool (eqb (hash_of name % 2) 0)) [
    | inl is ↦ inr (subst (λ j. Holds index j i) (sym (eqb-true (hash_of name % 2) 0 is)) zeroth)
    | inr other ↦ let one : hash_of name % 2 ≡ 1 = omega (arith, eqb-false (hash_of name % 2) 0 other) in inr (subst (λ j. Holds index j i) (sym one) first)
  ],
)

in_bucket_later : (index later : VerbIndex) (hash i : ℕ) → Grows index later → IsInBucket index hash i → IsInBucket later hash i
in_bucket_later index later hash i grows (inl own) = inl (subst (λ m. Holds later (bucket_of m hash) i) (sym grows.0) (grows.2 (bucket_of index.mask hash) i own))
in_bucket_later index later hash i grows (inr shared) = inr (grows.2 (hash % 2) i shared)

pub listed_later : (index later : VerbIndex) (name : List ℕ) (i : ℕ) → Grows index later → IsListed index name i → IsListed later name i
listed_later index later name i grows listed = (grows.3 (first_letter name) (hash_of name) listed.0, in_bucket_later index later (hash_of name) i grows listed.1)

listed_alike : (index : VerbIndex) (a b : List ℕ) (i : ℕ) → folded a ≡ folded b → IsListed index a i → IsListed index b i
listed_alike index a b i same listed =
    let hash = same_hash a b same in
    let passed = subst (λ l. passes index.filter.words l (hash_of a) ≡ true) (same_first a b same) listed.0 in
    (subst (λ h. passes index.filter.words (first_letter b) h ≡ true) hash passed, subst (λ h. IsInBucket index h i) hash listed.1)

-- a name that matches a pattern without a star at its end is a prefix of the base
pub prefix_of_base : (pattern name : List ℕ) → ends_in_star pattern ≡ false → fits pattern name ≡ true →
    (least pattern ≤ length name) × (length name ≤ length (base pattern)) × (folded (take (length name) (base pattern)) ≡ folded name)
prefix_of_base pattern name closed fit = elim ((fits_is pattern name).0 fit) [
  | inl ((following, is), long) ↦
      let many : length (base pattern) ≡ length name + length following = omega (arith, ap length is, length-append (folded name) following, length-map name to_ascii_lowercase, length-map (base pattern) to_ascii_lowercase) in
      (long, omega (arith, many), map-take (length name) (base pattern) ∙ ap (take (length name)) is ∙ ap (λ n. take n (folded name ++ following)) (sym (length-map name to_ascii_lowercase)) ∙ take-front (folded name) following)
  | inr (star, begins) ↦ absurd (false≢true (sym closed ∙ (ends_in_star_is pattern).1 star))
]
  where
    map-take : (n : ℕ) (xs : List ℕ) → folded (take n xs) ≡ take n (folded xs)
    map-take zero xs = refl
    map-take (suc n) [] = refl
    map-take (suc n) (x ∷ xs) = ap (λ ys. to_ascii_lowercase x ∷ ys) (map-take n xs)

    take-front : (xs ys : List ℕ) → take (length xs) (xs ++ ys) ≡ xs
    take-front [] ys = refl
    take-front (x ∷ xs) ys = ap (λ zs. x ∷ zs) (take-front xs ys)

-- all prefixes of the base are listed
abbrev pub HoldsPrefixes : VerbIndex → List ℕ → ℕ → ℕ → Type 0
HoldsPrefixes index pattern i end = (n : ℕ) → least pattern ≤ n → n < end → IsListed index (take n (base pattern)) i

pub prefixes_cover : (index : VerbIndex) (pattern : List ℕ) (i : ℕ) → HoldsPrefixes index pattern i (length (base pattern) + 1) → ends_in_star pattern ≡ false → CoversPattern index pattern i
prefixes_cover index pattern i all closed = λ name fit.
    let p = prefix_of_base pattern name closed fit in
    listed_alike index (take (length name) (base pattern)) name i p.2 (all (length name) p.0 (omega (arith, p.1)))

-- ends_in_star as a relation is the test
pub star_test : (pattern : List ℕ) (r : Bool) → (IsTrue r ↔ EndsInStar pattern) → r ≡ ends_in_star pattern
star_test pattern r both = same_from_decides r (ends_in_star pattern) both (ends_in_star_is pattern)

-- patterns as names
pub parts_cover : (index : VerbIndex) (i : ℕ) (parts : List (List ℕ)) → ((k : ℕ) → k < length parts → CoversPattern index (get_or parts k []) i)
    → (name : List ℕ) → list_any (λ pattern. fits pattern name) (filter is_word parts) ≡ true → IsListed index name i
parts_cover index i [] all name some = absurd (false≢true some)
parts_cover index i (part ∷ parts) all name some = elim (cases_Bool (is_word part)) [
  | inl word ↦
      let some' : fits part name || list_any (λ pattern. fits pattern name) (filter is_word parts) ≡ true = (rw word at some) in
      elim (cases_Bool (fits part name)) [
        | inl fit ↦ all 0 (omega arith) name fit
        | inr off ↦ parts_cover index i parts (λ k low. all (suc k) (omega (arith, low))) name (rw off at some')
      ]
  | inr blank ↦ parts_cover index i parts (λ k low. all (suc k) (omega (arith, low))) name (rw blank at some)
]

pub covers_patterns : (index : VerbIndex) (i : ℕ) (names : List ℕ) → ((k : ℕ) → k < length (slice_split is_blank names) → CoversPattern index (get_or (slice_split is_blank names) k []) i) → Covers index names i
covers_patterns index i names all = λ name fit. parts_cover index i (slice_split is_blank names) all name fit

-- what an earlier index covers
pub covers_later : (index later : VerbIndex) (i : ℕ) (names : List ℕ) → Grows index later → Covers index names i → Covers later names i
covers_later index later i names grows covers = λ name fit. listed_later index later name i grows (covers name fit)

pub pattern_later : (index later : VerbIndex) (i : ℕ) (pattern : List ℕ) → Grows index later → CoversPattern index pattern i → CoversPattern later pattern i
pattern_later index later i pattern grows covers = λ name fit. listed_later index later name i grows (covers name fit)

pub grows_more : (one two three : VerbIndex) → Grows one two → Grows two three → Grows one three
grows_more one two three first second = (second.0 ∙ first.0, second.1 ∙ first.1, λ j i holds. second.2 j i (first.2 j i holds), λ letter hash passed. second.3 letter hash (first.3 letter hash passed))

-- a verb outside the bucket of a name does not match it
pub outside : (index : VerbIndex) (verbs : List Verb) (need : Need) (name : List ℕ) (k : ℕ) (d : Verb) → AreIndexed index verbs → k < length verbs → (IsListed index name k → ⊥) → fits_verb need name (get_or verbs k d) ≡ false
outside index verbs need name k d indexed low out = elim (cases_Bool (fits_verb need name (get_or verbs k d))) [
  | inl fit ↦ absurd (out (indexed k (get_or verbs k d) low (get_or_default verbs k d (get_or verbs k d) low) name (and_second (is_needed need (get_or verbs k d)) fit)))
  | inr off ↦ off
]
  where
    and_second : (a : Bool) {b : Bool} → (a && b) ≡ true → b ≡ true
    and_second true h = h
    and_second false h = absurd (false≢true h)

-- a verb changed otherwise than in its names
names_at : (i : ℕ) (f : Verb → Verb) (verbs : List Verb) (k : ℕ) (d : Verb) → ((v : Verb) → (f v).names ≡ v.names) → (get_or (changed_at i f verbs) k d).names ≡ (get_or verbs k d).names
names_at i f [] k d keeps = refl
names_at zero f (v ∷ verbs) zero d keeps = keeps v
names_at zero f (v ∷ verbs) (suc k) d keeps = refl
names_at (suc i) f (v ∷ verbs) zero d keeps = refl
names_at (suc i) f (v ∷ verbs) (suc k) d keeps = names_at i f verbs k d keeps

as_many : (i : ℕ) (f : Verb → Verb) (verbs : List Verb) → length (changed_at i f verbs) ≡ length verbs
as_many i f [] = refl
as_many zero f (v ∷ verbs) = refl
as_many (suc i) f (v ∷ verbs) = ap suc (as_many i f verbs)

pub same_index : (index : VerbIndex) (i : ℕ) (f : Verb → Verb) (verbs : List Verb) → ((v : Verb) → (f v).names ≡ v.names) → AreIndexed index verbs → AreIndexed index (changed_at i f verbs)
same_index index i f verbs keeps indexed = λ k v low here.
    let inside : k < length verbs = omega (arith, low, as_many i f verbs) in
    let was = get_or verbs k v in
    let names : was.names ≡ v.names = sym (ap (λ (u : Verb). u.names) here ∙ names_at i f verbs k v keeps) in
    subst (λ ns. Covers index ns k) names (indexed k was inside (get_or_default verbs k v was inside))

-- the loops
pub prefixes_more : (index later : VerbIndex) (pattern : List ℕ) (i end : ℕ) → Grows index later → HoldsPrefixes index pattern i end → IsListed later (take end (base pattern)) i → HoldsPrefixes later pattern i (end + 1)
prefixes_more index later pattern i end grows all here = λ n enough low. elim (cases_Bool (ltb n end)) [
  | inl less ↦ listed_later index later (take n (base pattern)) i grows (all n enough (ltb-true n end less))
  | inr more ↦ let e : end ≡ n = omega (arith, low, ltb-false n end more) in subst (λ m. IsListed later (take m (base pattern)) i) e here
]

pub patterns_more : (index later : VerbIndex) (i : ℕ) (parts : List (List ℕ)) (n : ℕ) (part : List ℕ) → Grows index later → ((k : ℕ) → k < n → CoversPattern index (get_or parts k []) i) → n < length parts → part ≡ get_or parts n part
    → CoversPattern later part i → (k : ℕ) → k < n + 1 → CoversPattern later (get_or parts k []) i
patterns_more index later i parts n part grows all inside here covers k low = elim (cases_Bool (ltb k n)) [
  | inl less ↦ pattern_later index later i (get_or parts k []) grows (all k (ltb-true k n less))
  | inr more ↦
      let e : n ≡ k = omega (arith, low, ltb-false k n more) in
      let is : part ≡ get_or parts n [] = here ∙ get_or_default parts n part [] inside in
      subst (λ m. CoversPattern later (get_or parts m []) i) e (subst (λ p. CoversPattern later p i) is covers)
]

pub verbs_more : (index later : VerbIndex) (verbs : List Verb) (i : ℕ) (w : Verb) → Grows index later → ((k : ℕ) (v : Verb) → k < i → v ≡ get_or verbs k v → Covers index v.names k) → w ≡ get_or verbs i w → i < length verbs
    → Covers later w.names i → (k : ℕ) (v : Verb) → k < i + 1 → v ≡ get_or verbs k v → Covers later v.names k
verbs_more index later verbs i w grows all here inside covers k v low read = elim (cases_Bool (ltb k i)) [
  | inl less ↦ covers_later index later k v.names grows (all k v (ltb-true k i less) read)
  | inr more ↦
      let e : i ≡ k = omega (arith, low, ltb-false k i more) in
      let same : w ≡ v = here ∙ get_or_default verbs i w v inside ∙ ap (λ n. get_or verbs n v) e ∙ sym read in
      subst (λ n. Covers later v.names n) e (subst (λ (u : Verb). Covers later u.names i) same covers)
]

-- one verb more
pub last_indexed : (index later : VerbIndex) (front : List Verb) (v w : Verb) (verbs : List Verb) (n : ℕ) → verbs ≡ front ++ v ∷ [] → length verbs ≡ n + 1 → AreIndexed index front → Grows index later → w ≡ get_or verbs n w → Covers later w.names n → AreIndexed later verbs
last_indexed index later front v w verbs n is many indexed grows here covers =
    let long : length front ≡ n = omega (arith, many, ap length is, length-append front (v ∷ [])) in
    let below = λ (k : ℕ) (u : Verb) (low : k < n) (read : u ≡ get_or verbs k u).
    let inside : k < length front = omega (arith, low, long) in
    indexed k u inside (read ∙ ap (λ vs. get_or vs k u) is ∙ get_or_append_left front (v ∷ []) u k inside) in
    λ k u low read. verbs_more index later verbs n w grows below here (omega (arith, many)) covers k u (omega (arith, low, many)) read
