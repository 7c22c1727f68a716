-- One name after the other given along a walk.
use Rattle.std.proofs.Common.{◌≡◌, ℕ, ◌+◌, ◌<◌, List, [], ◌∷◌, ◌++◌, Option, None, refl, sym, ◌∙◌, ap, arith, length, get_or, set, map, take, drop}
use Rattle.std.proofs.lemmas.List.{get_or_read, drop_more, take_more, length-append, length-drop, length-map, map-append}
use Rattle.moo_world_tree.specs.Walk.{met, step_at}
use Rattle.moo_world_tree.specs.declared.walk.Step.{Step}
use Rattle.moo_world_object.specs.Objects.{Object}
use Rattle.moo_world_table.specs.World.{object_of}
use Rattle.moo_world_table.specs.Steps.{changed_along}

-- a name once for each step
abbrev pub names_for : List ℕ → List Step → List (List ℕ)
names_for n walk = map (λ (s : Step). n) walk

abbrev first_of : List ℕ → List (List ℕ) → List ℕ
first_of n [] = n
first_of n (x ∷ xs) = x

abbrev rest_of : List (List ℕ) → List (List ℕ)
rest_of [] = []
rest_of (x ∷ xs) = xs

-- the last of equal names, and those before it
last_name : (n x : List ℕ) (left : List (List ℕ)) (s : Step) (walk : List Step) → left ++ x ∷ [] ≡ names_for n (s ∷ walk) → (x ≡ n) × (left ≡ names_for n walk)
last_name n x [] s [] h = (ap (first_of n) h, refl)
last_name n x [] s (t ∷ walk) h = absurd (let long = ap length h in omega (arith, long))
last_name n x (a ∷ left) s [] h = absurd (let long = ap length h in let more = length-append left (x ∷ []) in omega (arith, long, more))
last_name n x (a ∷ left) s (t ∷ walk) h =
    let rest = last_name n x left t walk (ap rest_of h) in
    (rest.0, ap (λ names. a ∷ names) rest.1 ∙ ap (λ b. b ∷ names_for n walk) (ap (first_of n) h))

-- a name taken for the next step
pub name_taken : (n x : List ℕ) (names left : List (List ℕ)) (walk : List Step) (i : ℕ) → i < length walk → names ≡ names_for n (drop i walk) → names ≡ left ++ x ∷ [] →
    (x ≡ n) × (left ≡ names_for n (drop (i + 1) walk))
name_taken n x names left walk i low given taken =
    last_name n x left (get_or walk i (record { node = 0; from = 0 })) (drop (i + 1) walk) (sym taken ∙ given ∙ ap (names_for n) (drop_more walk i (record { node = 0; from = 0 }) low))

-- while there is a step, there is a name for it
pub name_there : (n : List ℕ) (names : List (List ℕ)) (walk : List Step) (i : ℕ) → i < length walk → names ≡ names_for n (drop i walk) → length names ≡ 0 → ⊥
name_there n names walk i low given none =
    let many : length names ≡ length (drop i walk) = ap length given ∙ length-map (drop i walk) (λ (s : Step). n) in
    let left = length-drop i walk in
    omega (arith, many, left, none)

-- and the object of this step is changed
pub next_changed : (f : Option Object → Option Object) (objects all : List (Option Object)) (walk : List Step) (i : ℕ) (read slot : Option Object) → i < length walk → (step_at walk i).node < length objects →
    read ≡ get_or objects (step_at walk i).node read → slot ≡ f read → changed_along f objects (met (drop i walk)) ≡ all → changed_along f (set objects (step_at walk i).node slot) (met (drop (i + 1) walk)) ≡ all
next_changed f objects all walk i read slot low inside read_is slot_is rest =
    let next : drop i walk ≡ step_at walk i ∷ drop (i + 1) walk = drop_more walk i (record { node = 0; from = 0 }) low in
    let at : read ≡ object_of objects (step_at walk i).node = get_or_read objects (step_at walk i).node read inside read_is None in
    ap (λ o. changed_along f (set objects (step_at walk i).node o) (met (drop (i + 1) walk))) (slot_is ∙ ap f at) ∙ sym (ap (λ ys. changed_along f objects (met ys)) next) ∙ rest

-- and the names so far are one more
pub name_copied : (n x : List ℕ) (names : List (List ℕ)) (walk : List Step) (i : ℕ) → i < length walk → names ≡ names_for n (take i walk) → x ≡ n → names ++ x ∷ [] ≡ names_for n (take (i + 1) walk)
name_copied n x names walk i low given is =
    ap (λ y. names ++ y ∷ []) is ∙ ap (λ ns. ns ++ n ∷ []) given ∙ sym (map-append (λ (s : Step). n) (take i walk) (step_at walk i ∷ [])) ∙ sym (ap (names_for n) (take_more walk i (record { node = 0; from = 0 }) low))
