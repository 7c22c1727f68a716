-- An integer that is put into a list in a list.
use Rattle.std.proofs.Common.{◌≡◌, ◌≤◌, ◌<◌, ℕ, ℤ, List, [], length, set, get_or, Bool, true, false, IsTrue, IsFalse, Some, Result, Ok, Err, IfOk, refl, sym, ap, ◌∙◌, arith}
use Rattle.std.specs.Prelude.{slice_get}
use Rattle.std.proofs.lemmas.List.{set-set, set-get_or}
use Rattle.std.proofs.lemmas.Option.{get_or_from_slice_get, slice_get_within}
use Rattle.moo_value.specs.Tree.{Tree, integer, list_of}
use Rattle.moo_value.specs.Size.{weight, depth, IsWithinLimits}
use Rattle.moo_value.proofs.Replaced.{list_weight-set, list_depth-set, list_depth-around}

-- an element takes the place of one that is as heavy at least and nests as deep at least
light_set : (ts : List Tree) (i : ℕ) (old new : Tree) → slice_get ts i ≡ Some old → weight new ≤ weight old → depth new ≤ depth old → IsWithinLimits (list_of ts) → IsWithinLimits (list_of (set ts i new))
light_set ts i old new there light flat limits =
    let h : i < length ts = slice_get_within ts i old there in
    let at : get_or ts i old ≡ old = get_or_from_slice_get ts i old old there in
    let heavy : weight (get_or ts i old) ≡ weight old = ap weight at in
    let deep : depth (get_or ts i old) ≡ depth old = ap depth at in
    record {
      weight = omega (arith, list_weight-set ts i new old h, heavy, light, limits.weight);
      depth = omega (arith, list_depth-set ts i new h, list_depth-around ts i old h, deep, flat, limits.depth);
    }

-- the empty list takes the place of a list
pub empty_set : (ts own : List Tree) (i : ℕ) → slice_get ts i ≡ Some (list_of own) → IsWithinLimits (list_of ts) → IsWithinLimits (list_of (set ts i (list_of [])))
empty_set ts own i there limits = light_set ts i (list_of own) (list_of []) there (omega arith) (omega arith) limits

-- an integer in the place of another is as heavy
number_weighs : (own : List Tree) (j : ℕ) (m n : ℤ) → slice_get own j ≡ Some (integer m) → weight (list_of (set own j (integer n))) ≤ weight (list_of own)
number_weighs own j m n there =
    let at : weight (get_or own j (integer m)) ≡ weight (integer m) = ap weight (get_or_from_slice_get own j (integer m) (integer m) there) in
    omega (arith, list_weight-set own j (integer n) (integer m) (slice_get_within own j (integer m) there), at)

number_nests : (own : List Tree) (j : ℕ) (m n : ℤ) → slice_get own j ≡ Some (integer m) → depth (list_of (set own j (integer n))) ≤ depth (list_of own)
number_nests own j m n there =
    let h : j < length own = slice_get_within own j (integer m) there in
    let at : depth (get_or own j (integer m)) ≡ depth (integer m) = ap depth (get_or_from_slice_get own j (integer m) (integer m) there) in
    omega (arith, list_depth-set own j (integer n) h, list_depth-around own j (integer m) h, at)

-- the inner list with the integer in its place is within the limits of the whole
pub number_set : (ts own : List Tree) (i j : ℕ) (m n : ℤ) → slice_get ts i ≡ Some (list_of own) → IsWithinLimits (list_of ts) → slice_get own j ≡ Some (integer m) → IsWithinLimits (list_of (set ts i (list_of (set own j (integer n)))))
number_set ts own i j m n outer limits inner =
    light_set ts i (list_of own) (list_of (set own j (integer n))) outer (number_weighs own j m n inner) (number_nests own j m n inner) limits

-- a list that is put back changes nothing
pub back_set : (ts own : List Tree) (i : ℕ) → slice_get ts i ≡ Some (list_of own) → set (set ts i (list_of [])) i (list_of own) ≡ ts
back_set ts own i there = set-set ts i (list_of []) (list_of own) ∙ ap (set ts i) (sym (get_or_from_slice_get ts i (list_of own) (list_of own) there)) ∙ set-get_or ts i (list_of own)

-- the inner list comes back, with the integer or as it was
pub own_within : (ts own us whole : List Tree) (i j : ℕ) (m n : ℤ) (done : Bool) → whole ≡ set ts i (list_of []) → slice_get ts i ≡ Some (list_of own) → IsWithinLimits (list_of ts) → slice_get own j ≡ Some (integer m) → (IsTrue done → us ≡ set own j (integer n)) → (IsFalse done → us ≡ own) → IsWithinLimits (list_of (set whole i (list_of us)))
own_within ts own us whole i j m n true was outer limits inner put kept =
    rw (was, put refl, set-set ts i (list_of []) (list_of (set own j (integer n)))) (number_set ts own i j m n outer limits inner)
own_within ts own us whole i j m n false was outer limits inner put kept =
    rw (was, kept refl, back_set ts own i outer) limits

-- what follows from what a result is known of
pub if_ok_map : {A E : Type 0} {P Q : A → Type 0} (r : Result A E) → ((x : A) → P x → Q x) → IfOk r P → IfOk r Q
if_ok_map (Ok x) f p = f x p
if_ok_map (Err e) f p = p
