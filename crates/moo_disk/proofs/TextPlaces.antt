-- The indices of the texts of a crash set, and the swap of two of them.
use Rattle.std.proofs.Common.{◌≡◌, ◌≢◌, ◌⊎◌, inl, inr, ⊎_elim, ℕ, zero, suc, ◌+◌, ◌-◌, ◌<◌, ◌≤◌, get_or, set, List, [], ◌∷◌, ◌++◌, length, map, drop, Vec, Some, Bool, true, false, if◌then◌else◌, refl, sym, ◌∙◌, ap, subst, arith, slice_get, Contains}
use Rattle.std.specs.Option.{option_map}
use Rattle.std.proofs.lemmas.Bool.{cases_lt}
use Rattle.std.proofs.lemmas.Option.{slice_get-map, slice_get-get_or, slice_get_within, get_or_from_slice_get}
use Rattle.std.proofs.lemmas.List.{get_or-drop, length-drop, length-map, length-set, drop-set-add, set-set, set-get_or, get_or-set_same, drop-append-le, map-append, length_push, get_or_push, get_or_append_left, get_or_default, get_or_past}
use Rattle.std.proofs.lemmas.List.Elements.{Contains-get_or, Contains-append_left, Contains-push_cases}
use Rattle.std.proofs.lemmas.List.Quantifiers.{all_pairs_push}
use Rattle.std.specs.declared.alloc.Global.{Global}
use Rattle.moo_disk.specs.Disk.{Gains, NoText}
use Rattle.moo_disk.specs.Texts.{Enters, IsEachOnce, SameTexts, first_at, texts_from}
use Rattle.moo_disk.specs.TextLaws.{contains_cases, contains_here, contains_there}
use Rattle.moo_disk.specs.CrashSet.{crash_view_of}

pub later_at : (base : List ℕ) (later : List (Vec ℕ Global)) (first k : ℕ) (d : Vec ℕ Global) → first + k < length later
    → slice_get (texts_from base later first) (suc k) ≡ Some (get_or later (first + k) d).items
later_at base later first k d lt =
    let within : k < length (drop first later) = omega (arith, length-drop first later) in
    slice_get-map (λ (v : Vec ℕ Global). v.items) (drop first later) k
    ∙ ap (option_map (λ (v : Vec ℕ Global). v.items)) (slice_get-get_or (drop first later) k d within)
    ∙ ap (λ (v : Vec ℕ Global). Some v.items) (get_or-drop first later k d)

-- a list that holds none of these has no such text
pub not_among : (xs : List (Vec ℕ Global)) (c : List ℕ) → ((k : ℕ) (d : Vec ℕ Global) → k < length xs → (get_or xs k d).items ≢ c)
    → Contains (map (λ (v : Vec ℕ Global). v.items) xs) c → ⊥
not_among [] c none (k, lt, is) = omega (arith, lt)
not_among (x ∷ xs) c none contains =
    ⊎_elim (λ here. none zero x (omega arith) here)
    (λ there. not_among xs c (λ k d lt. none (suc k) d (omega (arith, lt))) there)
    (contains_cases x.items (map (λ (v : Vec ℕ Global). v.items) xs) c contains)

second : (y x : List ℕ) (xs : List (List ℕ)) (c : List ℕ) → Contains (y ∷ xs) c → Contains (y ∷ x ∷ xs) c
second y x xs c contains =
    ⊎_elim (λ here. contains_here y (x ∷ xs) c here) (λ there. contains_there y (x ∷ xs) c (contains_there x xs c there)) (contains_cases y xs c contains)

swap_has : (xs : List (Vec ℕ Global)) (a d : Vec ℕ Global) (i : ℕ) (c : List ℕ) → i < length xs
    → Contains (a.items ∷ map (λ (v : Vec ℕ Global). v.items) xs) c
    → Contains ((get_or xs i d).items ∷ map (λ (v : Vec ℕ Global). v.items) (set xs i a)) c
swap_has [] a d i c lt contains = absurd (omega (arith, lt))
swap_has (x ∷ xs) a d zero c lt contains =
    let rest = map (λ (v : Vec ℕ Global). v.items) xs in
    ⊎_elim (λ is. contains_there x.items (a.items ∷ rest) c (contains_here a.items rest c is))
    (λ others. second x.items a.items rest c others)
    (contains_cases a.items (x.items ∷ rest) c contains)
swap_has (x ∷ xs) a d (suc i) c lt contains =
    let rest = map (λ (v : Vec ℕ Global). v.items) xs in
    let after = map (λ (v : Vec ℕ Global). v.items) (set xs i a) in
    let within : i < length xs = omega (arith, lt) in
    ⊎_elim (λ is. second (get_or xs i d).items x.items after c (swap_has xs a d i c within (contains_here a.items rest c is)))
    (λ others. ⊎_elim
    (λ is. contains_there (get_or xs i d).items (x.items ∷ after) c (contains_here x.items after c is))
    (λ there. second (get_or xs i d).items x.items after c (swap_has xs a d i c within (contains_there a.items rest c there)))
    (contains_cases x.items rest c others))
    (contains_cases a.items (x.items ∷ rest) c contains)

-- the first text and the one at place i have changed places
swapped_front : (base d : Vec ℕ Global) (later : List (Vec ℕ Global)) (i k : ℕ) (c : List ℕ) → k ≤ i → i < length later
    → Contains (texts_from base.items later k) c → Contains (texts_from (get_or later i d).items (set later i base) k) c
swapped_front base d later i k c le lt contains =
    let n = i - k in
    let i_is : k + n ≡ i = omega arith in
    let within : n < length (drop k later) = omega (arith, length-drop k later) in
    let there = swap_has (drop k later) base d n c within contains in
    let text_is : get_or (drop k later) n d ≡ get_or later i d = get_or-drop k later n d ∙ ap (λ (j : ℕ). get_or later j d) i_is in
    let rest_is : set (drop k later) n base ≡ drop k (set later i base) = sym (drop-set-add k later n base) ∙ ap (λ (j : ℕ). drop k (set later j base)) i_is in
    let moved = subst (λ (v : Vec ℕ Global). Contains (v.items ∷ map (λ (w : Vec ℕ Global). w.items) (set (drop k later) n base)) c) text_is there in
    subst (λ (l : List (Vec ℕ Global)). Contains ((get_or later i d).items ∷ map (λ (w : Vec ℕ Global). w.items) l) c) rest_is moved

pub swapped : (base d : Vec ℕ Global) (later : List (Vec ℕ Global)) (i k : ℕ) → k ≤ i → i < length later
    → SameTexts (texts_from base.items later k) (texts_from (get_or later i d).items (set later i base) k)
swapped base d later i k le lt c = (
  swapped_front base d later i k c le lt,
  λ contains.
      let text = get_or later i d in
      let back = swapped_front text d (set later i base) i k c le (rw length-set lt) contains in
      let text_is : get_or (set later i base) i d ≡ base = get_or-set_same later i base d lt in
      let rest_is : set (set later i base) i text ≡ later = set-set later i base text ∙ set-get_or later i d in
      let moved = subst (λ (v : Vec ℕ Global). Contains (texts_from v.items (set (set later i base) i text) k) c) text_is back in
      subst (λ (l : List (Vec ℕ Global)). Contains (texts_from base.items l k) c) rest_is moved,
)

pub texts_len : (base : List ℕ) (later : List (Vec ℕ Global)) (first : ℕ) → length (texts_from base later first) ≡ suc (length later - first)
texts_len base later first = ap suc (length-map (drop first later) (λ (v : Vec ℕ Global). v.items) ∙ length-drop first later)

-- the text at an index past the first
pub text_at : (base : List ℕ) (later : List (Vec ℕ Global)) (first place : ℕ) (d : Vec ℕ Global) → (place ≡ 0 → ⊥)
    → place < length (texts_from base later first) → slice_get (texts_from base later first) place ≡ Some (get_or later (first + place - 1) d).items
text_at base later first zero d after lt = absurd (after refl)
text_at base later first (suc k) d after lt =
    let within : first + k < length later = omega (arith, lt, texts_len base later first) in
    let same : first + k ≡ first + suc k - 1 = omega arith in
    later_at base later first k d within ∙ ap (λ (j : ℕ). Some (get_or later j d).items) same

-- a text that isn't the first one and isn't among the later ones is none of them
pub not_contained : (base : List ℕ) (later : List (Vec ℕ Global)) (first : ℕ) (c : List ℕ) → base ≢ c
    → ((k : ℕ) (d : Vec ℕ Global) → k < length (drop first later) → (get_or (drop first later) k d).items ≢ c)
    → Contains (texts_from base later first) c → ⊥
not_contained base later first c other none contains =
    ⊎_elim other (not_among (drop first later) c none) (contains_cases base (map (λ (v : Vec ℕ Global). v.items) (drop first later)) c contains)

-- one text more
pub texts_push : (base : List ℕ) (later : List (Vec ℕ Global)) (text : Vec ℕ Global) (k : ℕ) → k ≤ length later
    → texts_from base (later ++ text ∷ []) k ≡ texts_from base later k ++ text.items ∷ []
texts_push base later text k le =
    ap (λ (l : List (Vec ℕ Global)). base ∷ map (λ (v : Vec ℕ Global). v.items) l) (drop-append-le k later (text ∷ []) le)
    ∙ ap (λ (l : List (List ℕ)). base ∷ l) (map-append (λ (v : Vec ℕ Global). v.items) (drop k later) (text ∷ []))

pub each_once_push : (base : List ℕ) (later : List (Vec ℕ Global)) (text : Vec ℕ Global) (first : ℕ) → first ≤ length later
    → IsEachOnce (texts_from base later first) → (Contains (texts_from base later first) text.items → ⊥)
    → IsEachOnce (texts_from base (later ++ text ∷ []) first)
each_once_push base later text first le once absent =
    let texts = texts_from base later first in
    let more : IsEachOnce (texts ++ text.items ∷ []) =
    all_pairs_push (λ (one other : List ℕ). one ≢ other) texts text.items once
    (λ k d lt same. absent (subst (λ (t : List ℕ). Contains texts t) same (Contains-get_or texts k d lt))) in
    subst (λ (l : List (List ℕ)). IsEachOnce l) (sym (texts_push base later text first le)) more

pub push_at : (base : List ℕ) (later : List (Vec ℕ Global)) (text : Vec ℕ Global) (first : ℕ) → first ≤ length later
    → slice_get (texts_from base (later ++ text ∷ []) first) (length later + 1 - first) ≡ Some text.items
push_at base later text first le =
    let texts = texts_from base later first in
    let place_is : length texts ≡ length later + 1 - first = omega (arith, texts_len base later first) in
    let within : length later + 1 - first < length (texts ++ text.items ∷ []) = omega (arith, length_push texts text.items) in
    ap (λ (l : List (List ℕ)). slice_get l (length later + 1 - first)) (texts_push base later text first le)
    ∙ slice_get-get_or (texts ++ text.items ∷ []) (length later + 1 - first) [] within
    ∙ ap (λ (t : List ℕ). Some t) (get_or_push texts text.items [] (length later + 1 - first) place_is)

pub push_gains : (base : List ℕ) (later : List (Vec ℕ Global)) (starts : List ℕ) (text : Vec ℕ Global) (first : ℕ) → first ≤ length later
    → ((t : ℕ) → first_at starts first t ≤ first)
    → Gains (λ c. c ≡ text.items) (crash_view_of base later starts first) (crash_view_of base (later ++ text ∷ []) starts first)
push_gains base later starts text first le rising = record {
  later = omega arith;
  now = λ c left. gained first c le left;
  since = λ t c _ left. gained (first_at starts first t) c (omega (arith, rising t)) left;
  remembers = λ t c _ left.
      let k = first_at starts first t in
      let in_range : k ≤ length later = omega (arith, rising t) in
      subst (λ (l : List (List ℕ)). Contains l c) (sym (texts_push base later text k in_range))
      (Contains-append_left (texts_from base later k) (text.items ∷ []) c left);
}
  where
    gained : (k : ℕ) (c : List ℕ) → k ≤ length later → Contains (texts_from base (later ++ text ∷ []) k) c → Contains (texts_from base later k) c ⊎ (c ≡ text.items)
    gained k c in_range left =
        ⊎_elim (λ was. inl was) (λ is. inr (sym is))
        (Contains-push_cases (texts_from base later k) text.items c (subst (λ (l : List (List ℕ)). Contains l c) (texts_push base later text k in_range) left))

-- one text alone is left, and what might have been left before still might
pub settle_gains : (base base' : List ℕ) (later later' : List (Vec ℕ Global)) (starts : List ℕ) (first place : ℕ)
    → ((k : ℕ) → k ≤ first → SameTexts (texts_from base later k) (texts_from base' later' k))
    → slice_get (texts_from base later first) place ≡ Some base' → ((t : ℕ) → first_at starts first t ≤ first)
    → Gains NoText (crash_view_of base later starts first) (crash_view_of base' later' (starts ++ first ∷ []) (length later'))
settle_gains base base' later later' starts first place same front rising = record {
  later = omega (arith, length_push starts first);
  now = λ c left. inl (subst (λ (t : List ℕ). Contains (texts_from base later first) t) (only c left) has_front);
  since = λ t c le left.
      inl ((same (first_at starts first t) (rising t) c).1 (subst (λ (k : ℕ). Contains (texts_from base' later' k) c) (moments t le) left));
  remembers = λ t c le left.
      subst (λ (k : ℕ). Contains (texts_from base' later' k) c) (sym (moments t le)) ((same (first_at starts first t) (rising t) c).0 left);
}
  where
    moments : (t : ℕ) → t ≤ length starts → first_at (starts ++ first ∷ []) (length later') t ≡ first_at starts first t
    moments t le =
        ⊎_elim
        (λ lt. get_or_append_left starts (first ∷ []) (length later') t lt ∙ get_or_default starts t (length later') first lt)
        (λ past. get_or_push starts first (length later') t (omega arith) ∙ sym (get_or_past starts t first past))
        (cases_lt t (length starts))

    only : (c : List ℕ) → Contains (texts_from base' later' (length later')) c → base' ≡ c
    only c left =
        ⊎_elim (λ is. is)
        (λ others. absurd (not_among (drop (length later') later') c (λ k d lt is. omega (arith, lt, length-drop (length later') later')) others))
        (contains_cases base' (map (λ (v : Vec ℕ Global). v.items) (drop (length later') later')) c left)

    has_front : Contains (texts_from base later first) base'
    has_front =
        let within = slice_get_within (texts_from base later first) place base' front in
        (place, within, get_or_from_slice_get (texts_from base later first) place base' base' front)

-- after a push that may have been refused
pub each_once_pushed : (pushed : Bool) (base : List ℕ) (later new : List (Vec ℕ Global)) (text : Vec ℕ Global) (first : ℕ) → first ≤ length later
    → new ≡ (if pushed then later ++ text ∷ [] else later) → IsEachOnce (texts_from base later first)
    → (Contains (texts_from base later first) text.items → ⊥) → IsEachOnce (texts_from base new first)
each_once_pushed true base later new text first le is once absent =
    subst (λ (l : List (Vec ℕ Global)). IsEachOnce (texts_from base l first)) (sym is) (each_once_push base later text first le once absent)
each_once_pushed false base later new text first le is once absent =
    subst (λ (l : List (Vec ℕ Global)). IsEachOnce (texts_from base l first)) (sym is) once

pub entered : (base : List ℕ) (later : List (Vec ℕ Global)) (text : Vec ℕ Global) (first : ℕ) → first ≤ length later
    → (Contains (texts_from base later first) text.items → ⊥)
    → Enters text.items (texts_from base later first) (texts_from base (later ++ text ∷ []) first)
entered base later text first le absent = inr (absent, texts_push base later text first le)
