-- Lemmas on the texts that a crash may leave: the proofs of the laws of a disk in memory.
use Rattle.std.specs.Prelude.{◌≡◌, ◌⊎◌, ℕ, zero, suc, ◌+◌, ◌-◌, ◌<◌, ◌≤◌, ◌^◌, List, [], ◌∷◌, length, map, drop, Vec, Contains, slice_index_or}
use Rattle.std.proofs.Common.{inl, inr, ⊎_elim, subst, sym, ◌∙◌, ap, arith}
use Rattle.std.proofs.lemmas.List.{drop-drop, get_or_past}
use Rattle.std.proofs.lemmas.List.Elements.{Contains-get_or}
use Rattle.std.specs.declared.alloc.Global.{Global}
use Rattle.moo_disk.specs.Texts.{texts_from, first_at}

pub contains_cases : (x : List ℕ) (xs : List (List ℕ)) (c : List ℕ) → Contains (x ∷ xs) c → (x ≡ c) ⊎ Contains xs c
contains_cases x xs c (zero, lt, is) = inl is
contains_cases x xs c (suc k, lt, is) = inr (k, omega (arith, lt), is)

pub contains_there : (x : List ℕ) (xs : List (List ℕ)) (c : List ℕ) → Contains xs c → Contains (x ∷ xs) c
contains_there x xs c (k, lt, is) = (suc k, omega (arith, lt), is)

pub contains_here : (x : List ℕ) (xs : List (List ℕ)) (c : List ℕ) → x ≡ c → Contains (x ∷ xs) c
contains_here x xs c is = (zero, omega arith, is)

short_in : (xs : List (Vec ℕ Global)) (k : ℕ) → length (slice_index_or (map (λ (v : Vec ℕ Global). v.items) xs) k []) < 2 ^ 63
short_in [] k = omega arith
short_in (x ∷ xs) zero = omega (arith, x.ok.0, x.ok.1, x.small)
short_in (x ∷ xs) (suc k) = short_in xs k

-- a text that a `Vec` holds has fewer than 2^63 bytes
text_is_short : (base : Vec ℕ Global) (later : List (Vec ℕ Global)) (first place : ℕ)
    → length (slice_index_or (texts_from base.items later first) place []) < 2 ^ 63
text_is_short base later first zero = omega (arith, base.ok.0, base.ok.1, base.small)
text_is_short base later first (suc k) = short_in (drop first later) k

-- main, as it reads, is short enough, and is among the texts
pub main_is_left : (base : Vec ℕ Global) (later : List (Vec ℕ Global)) (first place : ℕ) → place < length (texts_from base.items later first)
    → (length (slice_index_or (texts_from base.items later first) place []) < 2 ^ 63)
    × Contains (texts_from base.items later first) (slice_index_or (texts_from base.items later first) place [])
main_is_left base later first place lt =
    (text_is_short base later first place, Contains-get_or (texts_from base.items later first) place [] lt)

contains_more : (n : ℕ) (xs : List (Vec ℕ Global)) (c : List ℕ) → Contains (map (λ (v : Vec ℕ Global). v.items) (drop n xs)) c
    → Contains (map (λ (v : Vec ℕ Global). v.items) xs) c
contains_more zero xs c has = has
contains_more (suc n) [] c has = has
contains_more (suc n) (x ∷ xs) c has = contains_there x.items (map (λ (v : Vec ℕ Global). v.items) xs) c (contains_more n xs c has)

-- from an earlier place on there are more
pub more_from : (base : List ℕ) (later : List (Vec ℕ Global)) (low high : ℕ) (c : List ℕ) → low ≤ high
    → Contains (texts_from base later high) c → Contains (texts_from base later low) c
more_from base later low high c le has =
    let n = high - low in
    let same : drop high later ≡ drop n (drop low later) =
    ap (λ (k : ℕ). drop k later) (let sum : high ≡ low + n = omega arith in sum) ∙ sym (drop-drop n low later) in
    ⊎_elim
    (λ is. contains_here base (map (λ (v : Vec ℕ Global). v.items) (drop low later)) c is)
    (λ others. contains_there base (map (λ (v : Vec ℕ Global). v.items) (drop low later)) c
    (contains_more n (drop low later) c (subst (λ (l : List (Vec ℕ Global)). Contains (map (λ (v : Vec ℕ Global). v.items) l) c) same others)))
    (contains_cases base (map (λ (v : Vec ℕ Global). v.items) (drop high later)) c has)

-- since the present moment there is no other
pub now_since_now : (base : List ℕ) (later : List (Vec ℕ Global)) (starts : List ℕ) (first : ℕ) (c : List ℕ)
    → Contains (texts_from base later (first_at starts first (length starts))) c → Contains (texts_from base later first) c
now_since_now base later starts first c has =
    let same : first_at starts first (length starts) ≡ first = get_or_past starts (length starts) first (omega arith) in
    subst (λ (n : ℕ). Contains (texts_from base later n) c) same has
