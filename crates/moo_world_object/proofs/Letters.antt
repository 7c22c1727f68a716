-- Filter letters exclude names that do not match the verbs of an object.
use Rattle.std.proofs.Common.{◌≡◌, ◌⊎◌, ℕ, zero, suc, ◌<◌, ◌+◌, not, subst, List, [], ◌∷◌, ◌++◌, Bool, true, false, ◌&&◌, ◌||◌, eqb, refl, sym, ◌∙◌, ap, ⊎_elim, inl, inr, arith, length, get_or, filter, set, ltb, ◌≤◌, Some, None}
use Rattle.std.specs.List.{list_any, remove, slice_split, position, position_or_len}
use Rattle.std.specs.Char.{to_ascii_lowercase}
use Rattle.std.proofs.lemmas.Bool.{cases_Bool, or_parts, eqb-true, eq-eqb, false≢true, lt-ltb, le-ltb, ne_eqb}
use Rattle.std.proofs.lemmas.List.{get_or_default}
use Rattle.std.proofs.lemmas.List.Sums.{position_or_len_is}
use Rattle.moo_value.specs.Compare.{folded}
use Rattle.moo_world_object.specs.Patterns.{is_star, is_blank, is_word, fits, Fits, base, least}
use Rattle.moo_syntax_ast.specs.NameHash.{first_letter}
use Rattle.moo_world_object.specs.Letters.{begins_otherwise, may_begin, IsLetter, AreLetters}
use Rattle.moo_world_object.specs.Verbs.{changed_at, is_needed, fits_verb}
use Rattle.moo_world_object.specs.declared.verb.Need.{Need}
use Rattle.moo_world_object.specs.declared.verb.Verb.{Verb}
use Rattle.moo_world_object.proofs.Patterns.{fits_is}

-- a name that fits a pattern begins with its letter, where that is no star
pub begins_so : (b : ℕ) (bs name : List ℕ) → is_star b ≡ false → Fits (b ∷ bs) name → first_letter name ≡ to_ascii_lowercase b
begins_so b bs [] plain (inl ((following, is), long)) =
    let some : least (b ∷ bs) ≡ 1 + least bs = (rw plain refl) in
    absurd (omega (arith, some, long))
begins_so b bs (n ∷ ns) plain (inl ((following, is), long)) =
    let whole : folded (base (b ∷ bs)) ≡ to_ascii_lowercase b ∷ folded (base bs) = (rw plain refl) in
    let same : to_ascii_lowercase b ∷ folded (base bs) ≡ to_ascii_lowercase n ∷ (folded ns ++ following) = sym whole ∙ is in
    cc
begins_so b bs [] plain (inr (star, (following, is))) =
    let whole : folded (base (b ∷ bs)) ≡ to_ascii_lowercase b ∷ folded (base bs) = (rw plain refl) in
    let none : [] ≡ to_ascii_lowercase b ∷ (folded (base bs) ++ following) = is ∙ ap (λ front. front ++ following) whole in
    absurd (cc)
begins_so b bs (n ∷ ns) plain (inr (star, (following, is))) =
    let whole : folded (base (b ∷ bs)) ≡ to_ascii_lowercase b ∷ folded (base bs) = (rw plain refl) in
    let same : to_ascii_lowercase n ∷ folded ns ≡ to_ascii_lowercase b ∷ (folded (base bs) ++ following) = is ∙ ap (λ front. front ++ following) whole in
    cc

-- a name that fits one of some words that all begin with a letter begins with it
some_fits : (letter : ℕ) (name : List ℕ) (parts : List (List ℕ)) → list_any (begins_otherwise letter) parts ≡ false → list_any (λ pattern. fits pattern name) (filter is_word parts) ≡ true → first_letter name ≡ letter
some_fits letter name [] so some = absurd (false≢true some)
some_fits letter name ([] ∷ parts) so some = some_fits letter name parts so some
some_fits letter name ((b ∷ bs) ∷ parts) so some =
    let long : eqb (suc (length bs)) 0 ≡ false = ne_eqb (suc (length bs)) 0 (λ e. omega (arith, e)) in
    let word : is_word (b ∷ bs) ≡ true = ap (λ t. not t) long in
    let split = or_parts (begins_otherwise letter (b ∷ bs)) (list_any (begins_otherwise letter) parts) so in
    let letters = or_parts (is_star b) (not (eqb (to_ascii_lowercase b) letter)) split.0 in
    ⊎_elim
    (λ here. begins_so b bs name letters.0 ((fits_is (b ∷ bs) name).0 here) ∙ eqb-true (to_ascii_lowercase b) letter (not_false (eqb (to_ascii_lowercase b) letter) letters.1))
    (λ off. some_fits letter name parts split.1 (let rest : fits (b ∷ bs) name || list_any (λ pattern. fits pattern name) (filter is_word parts) ≡ true = (rw word at some) in rw off at rest))
    (cases_Bool (fits (b ∷ bs) name))
  where
    not_false : (a : Bool) → not a ≡ false → a ≡ true
    not_false true h = refl
    not_false false h = sym h

pub letter_tells : (letter : ℕ) (names : List ℕ) → list_any (begins_otherwise letter) (slice_split is_blank names) ≡ false → IsLetter letter names
letter_tells letter names so = λ name fit.
    let begins = some_fits letter name (slice_split is_blank names) so fit in
    let same : eqb letter (first_letter name) ≡ true = eq-eqb letter (first_letter name) (sym begins) in
    or_true (eqb letter 0) same
  where
    or_true : (a : Bool) {b : Bool} → b ≡ true → (a || b) ≡ true
    or_true true h = refl
    or_true false h = h

pub nothing_told : (names : List ℕ) → IsLetter 0 names
nothing_told names = λ name fit. refl

-- the letter excludes no verb that matches
pub letter_first : (letter : ℕ) (need : Need) (name : List ℕ) (v : Verb) → IsLetter letter v.names → (may_begin letter (first_letter name) && fits_verb need name v) ≡ fits_verb need name v
letter_first letter need name v tells = elim (cases_Bool (fits_verb need name v)) [
  | inl fit ↦ ap (λ t. t && fits_verb need name v) (tells name (and_second (is_needed need v) fit))
  | inr off ↦ ap (λ t. may_begin letter (first_letter name) && t) off ∙ and_none (may_begin letter (first_letter name)) ∙ sym off
]
  where
    and_second : (a : Bool) {b : Bool} → (a && b) ≡ true → b ≡ true
    and_second true h = h
    and_second false h = absurd (false≢true h)

    and_none : (a : Bool) → (a && false) ≡ false
    and_none true = refl
    and_none false = refl

-- one verb more
pub more_verbs : (letters : List ℕ) (verbs : List Verb) (v : Verb) → AreLetters letters verbs → AreLetters letters (verbs ++ v ∷ [])
more_verbs [] verbs v all = tt
more_verbs (letter ∷ letters) [] v all = absurd all
more_verbs (letter ∷ letters) (w ∷ verbs) v all = (all.0, more_verbs letters verbs v all.1)

-- a verb and a letter more
pub told_more : (letters : List ℕ) (verbs : List Verb) (letter : ℕ) (v : Verb) → AreLetters letters verbs → length letters ≡ length verbs → IsLetter letter v.names → AreLetters (letters ++ letter ∷ []) (verbs ++ v ∷ [])
told_more [] [] letter v all same tells = (tells, tt)
told_more [] (w ∷ verbs) letter v all same tells = absurd (omega (arith, same))
told_more (l ∷ letters) [] letter v all same tells = absurd all
told_more (l ∷ letters) (w ∷ verbs) letter v all same tells = (all.0, told_more letters verbs letter v all.1 (omega (arith, same)) tells)

-- a verb more, and a letter if there is one for each other verb and memory for it
pub pushed : (old new : List ℕ) (verbs : List Verb) (many letter : ℕ) (v : Verb) → AreLetters old verbs → many ≡ length verbs → IsLetter letter v.names → ((length old ≡ many) × (new ≡ old ++ letter ∷ [])) ⊎ (new ≡ old) → AreLetters new (verbs ++ v ∷ [])
pushed old new verbs many letter v all same tells (inl (told, more)) = subst (λ letters. AreLetters letters (verbs ++ v ∷ [])) (sym more) (told_more old verbs letter v all (told ∙ same) tells)
pushed old new verbs many letter v all same tells (inr kept) = subst (λ letters. AreLetters letters (verbs ++ v ∷ [])) (sym kept) (more_verbs old verbs v all)

-- one letter more
pub more_letters : (letters : List ℕ) (verbs : List Verb) (letter : ℕ) (v : Verb) → AreLetters letters verbs → length letters < length verbs → v ≡ get_or verbs (length letters) v → IsLetter letter v.names →
    AreLetters (letters ++ letter ∷ []) verbs
more_letters [] [] letter v all room here tells = absurd (omega (arith, room))
more_letters [] (w ∷ verbs) letter v all room here tells = (subst (λ u. IsLetter letter u.names) here tells, tt)
more_letters (l ∷ letters) [] letter v all room here tells = absurd all
more_letters (l ∷ letters) (w ∷ verbs) letter v all room here tells = (all.0, more_letters letters verbs letter v all.1 (omega (arith, room)) here tells)

-- a verb less, and its letter
pub less_letters : (i : ℕ) (letters : List ℕ) (verbs : List Verb) → AreLetters letters verbs → AreLetters (remove letters i) (remove verbs i)
less_letters zero [] verbs all = tt
less_letters (suc i) [] verbs all = tt
less_letters i (l ∷ letters) [] all = absurd all
less_letters zero (l ∷ letters) (w ∷ verbs) all = all.1
less_letters (suc i) (l ∷ letters) (w ∷ verbs) all = (all.0, less_letters i letters verbs all.1)

-- a verb with other names, and its letter
pub other_letter : (i : ℕ) (letter : ℕ) (f : Verb → Verb) (letters : List ℕ) (verbs : List Verb) → ((v : Verb) → IsLetter letter (f v).names) → AreLetters letters verbs →
    AreLetters (changed_at i (λ _. letter) letters) (changed_at i f verbs)
other_letter i letter f [] verbs tells all = tt
other_letter i letter f (l ∷ letters) [] tells all = absurd all
other_letter zero letter f (l ∷ letters) (w ∷ verbs) tells all = (tells w, all.1)
other_letter (suc i) letter f (l ∷ letters) (w ∷ verbs) tells all = (all.0, other_letter i letter f letters verbs tells all.1)

-- a verb changed otherwise
pub same_letters : (i : ℕ) (f : Verb → Verb) (letters : List ℕ) (verbs : List Verb) → ((v : Verb) → (f v).names ≡ v.names) → AreLetters letters verbs → AreLetters letters (changed_at i f verbs)
same_letters i f [] verbs keeps all = tt
same_letters i f (l ∷ letters) [] keeps all = absurd all
same_letters zero f (l ∷ letters) (w ∷ verbs) keeps all = (subst (λ names. IsLetter l names) (sym (keeps w)) all.0, all.1)
same_letters (suc i) f (l ∷ letters) (w ∷ verbs) keeps all = (all.0, same_letters i f letters verbs keeps all.1)

-- the letter of a verb
pub letter_there : (letters : List ℕ) (verbs : List Verb) (i : ℕ) (letter : ℕ) (v : Verb) → AreLetters letters verbs → i < length letters → letter ≡ get_or letters i letter → v ≡ get_or verbs i v → IsLetter letter v.names
letter_there [] verbs i letter v all low here read = absurd (omega (arith, low))
letter_there (l ∷ letters) [] i letter v all low here read = absurd all
letter_there (l ∷ letters) (w ∷ verbs) zero letter v all low here read = subst (λ k. IsLetter k v.names) (sym here) (subst (λ u. IsLetter l u.names) (sym read) all.0)
letter_there (l ∷ letters) (w ∷ verbs) (suc i) letter v all low here read = letter_there letters verbs i letter v all.1 (omega (arith, low)) here read

-- a letter set at a place
pub set_at : (letters : List ℕ) (i letter : ℕ) → i < length letters → set letters i letter ≡ changed_at i (λ _. letter) letters
set_at [] i letter within = absurd (omega (arith, within))
set_at (l ∷ letters) zero letter within = refl
set_at (l ∷ letters) (suc i) letter within = ap (λ ls. l ∷ ls) (set_at letters i letter (omega (arith, within)))

pub set_past : (letters : List ℕ) (i letter : ℕ) → length letters ≤ i → letters ≡ changed_at i (λ _. letter) letters
set_past [] i letter past = refl
set_past (l ∷ letters) zero letter past = absurd (omega (arith, past))
set_past (l ∷ letters) (suc i) letter past = ap (λ ls. l ∷ ls) (set_past letters i letter (omega (arith, past)))

-- the first element that passes a test
pub first_at : {X : Type 0} (t : X → Bool) (xs : List X) (i : ℕ) (x : X) → i < length xs → ((k : ℕ) (d : X) → k < i → t (get_or xs k d) ≡ false) → x ≡ get_or xs i x → t x ≡ true → Some i ≡ position t xs
first_at t xs i x low before here passes =
    let at : position_or_len t xs ≡ i = position_or_len_is t xs i x (omega (arith, low)) (λ k l. before k x l) (λ l. ap t (sym here) ∙ passes) in
    let less : ltb i (length xs) ≡ true = lt-ltb i (length xs) low in
    rw (at, less) refl

pub first_place : {X : Type 0} (t : X → Bool) (xs : List X) (i : ℕ) → i < length xs → ((k : ℕ) (d : X) → k < i → t (get_or xs k d) ≡ false) → ((x : X) → x ≡ get_or xs i x → t x ≡ true) → Some i ≡ position t xs
first_place t [] i low before passes = absurd (omega (arith, low))
first_place t (x ∷ xs) i low before passes =
    let here = get_or_default (x ∷ xs) i x (get_or (x ∷ xs) i x) low in
    first_at t (x ∷ xs) i (get_or (x ∷ xs) i x) low before here (passes (get_or (x ∷ xs) i x) here)

pub none_at : {X : Type 0} (t : X → Bool) (xs : List X) → ((k : ℕ) (d : X) → k < length xs → t (get_or xs k d) ≡ false) → None ≡ position t xs
none_at t [] none = refl
none_at t (x ∷ xs) none =
    let at : position_or_len t (x ∷ xs) ≡ length (x ∷ xs) = position_or_len_is t (x ∷ xs) (length (x ∷ xs)) x (omega arith) (λ k l. none k x l) (λ l. absurd (omega (arith, l))) in
    let more : ltb (length (x ∷ xs)) (length (x ∷ xs)) ≡ false = le-ltb (length (x ∷ xs)) (length (x ∷ xs)) (omega arith) in
    rw (at, more) refl
