-- How many programs there are, before and after a change.
use Rattle.std.proofs.Common.{◌≡◌, ℕ, zero, suc, ◌<◌, ◌≤◌, ◌+◌, List, get_or, [], ◌∷◌, ◌++◌, Option, Some, None, IsSome, refl, ◌∙◌, ap, arith, length, set, map, is_some, cond}
use Rattle.std.specs.Option.{unwrap_or, option_map}
use Rattle.std.specs.List.{remove}
use Rattle.std.proofs.lemmas.List.Sums.{sum_by-cons, sum_by-set, sum_by_push, get_or-le-sum_by, sum_by-remove}
use Rattle.std.proofs.lemmas.Bool.{false≢true}
use Rattle.moo_world_tree.specs.Forest.{Links, ancestors}
use Rattle.moo_world_object.specs.Cells.{Cell, Key}
use Rattle.moo_world_object.specs.Objects.{Object}
use Rattle.moo_world_object.specs.Verbs.{changed_at, with_program}
use Rattle.moo_world_object.specs.declared.verb.Verb.{Verb}
use Rattle.moo_syntax_ast.specs.Tree.{Block}
use Rattle.moo_world_table.specs.World.{nothing, object_of, thing_of, programs_of, programs_in, with_cells, refitted, fitted_along}
use Rattle.moo_world_table.specs.Changes.{changed_on, with_definition, with_definition_on, without_cell, without_name}
use Rattle.moo_world_table.specs.Edits.{with_respelled, with_renamed_cell}
use Rattle.moo_world_table.specs.Recycling.{without_cells_of}
use Rattle.moo_world_table.specs.Verbs.{has_program, one_for}
use Rattle.moo_world_table.proofs.Refitting.{object_refitted, length_refitted}

-- the programs of the object at a number
abbrev pub programs_on : Option Object → ℕ
programs_on o = programs_of (unwrap_or o nothing).verbs

-- objects with the same verbs have as many
pub programs_alike : (xs ys : List (Option Object)) → length xs ≡ length ys → ((x : ℕ) → (thing_of xs x).verbs ≡ (thing_of ys x).verbs) → programs_in xs ≡ programs_in ys
programs_alike [] [] many same = refl
programs_alike [] (y ∷ ys) many same = absurd (omega (arith, many))
programs_alike (x ∷ xs) [] many same = absurd (omega (arith, many))
programs_alike (x ∷ xs) (y ∷ ys) many same =
    let head : programs_on x ≡ programs_on y = ap programs_of (same 0) in
    let rest = programs_alike xs ys (omega (arith, many)) (λ k. same (suc k)) in
    omega (arith, sum_by-cons programs_on x xs, sum_by-cons programs_on y ys, head, rest)

pub programs_mapped : (g : Option Object → Option Object) → ((o : Option Object) → (unwrap_or (g o) nothing).verbs ≡ (unwrap_or o nothing).verbs) → (xs : List (Option Object)) → programs_in (map g xs) ≡ programs_in xs
programs_mapped g same [] = refl
programs_mapped g same (x ∷ xs) =
    let head : programs_on (g x) ≡ programs_on x = ap programs_of (same x) in
    let rest = programs_mapped g same xs in
    omega (arith, sum_by-cons programs_on (g x) (map g xs), sum_by-cons programs_on x xs, head, rest)

-- one of the objects put anew
pub programs_set : (xs : List (Option Object)) (x : ℕ) (o : Option Object) → x < length xs → programs_in (set xs x o) + programs_on (object_of xs x) ≡ programs_in xs + programs_on o
programs_set xs x o low = sum_by-set programs_on xs x o None low

pub programs_kept : (xs : List (Option Object)) (x : ℕ) (o : Option Object) → x < length xs → (unwrap_or o nothing).verbs ≡ (thing_of xs x).verbs → programs_in (set xs x o) ≡ programs_in xs
programs_kept xs x o low same =
    let put = programs_set xs x o low in
    let alike : programs_on o ≡ programs_on (object_of xs x) = ap programs_of same in
    omega (arith, put, alike)

pub programs_below : (xs : List (Option Object)) (x : ℕ) → x < length xs → programs_of (thing_of xs x).verbs ≤ programs_in xs
programs_below xs x low = get_or-le-sum_by programs_on xs x None low

pub programs_added : (xs : List (Option Object)) (o : Object) → o.verbs ≡ [] → programs_in (xs ++ Some o ∷ []) ≡ programs_in xs
programs_added xs o bare =
    let none : programs_on (Some o) ≡ 0 = ap programs_of bare in
    omega (arith, sum_by_push programs_on xs (Some o), none)

-- one of the objects changed
pub programs_changed : (xs : List (Option Object)) (x : ℕ) (f : Object → Object) → x < length xs → IsSome (object_of xs x) →
    programs_in (changed_on xs x f) + programs_of (thing_of xs x).verbs ≡ programs_in xs + programs_of (f (thing_of xs x)).verbs
programs_changed xs x f low valid =
    let put = programs_set xs x (option_map f (object_of xs x)) low in
    let here : programs_on (option_map f (object_of xs x)) ≡ programs_of (f (thing_of xs x)).verbs = ap (λ (o : Object). programs_of o.verbs) (mapped (object_of xs x) valid) in
    omega (arith, put, here)
  where
    mapped : (o : Option Object) → IsSome o → unwrap_or (option_map f o) nothing ≡ f (unwrap_or o nothing)
    mapped None valid = absurd (false≢true valid)
    mapped (Some o) valid = refl

pub programs_stay : (xs : List (Option Object)) (x : ℕ) (f : Object → Object) → x < length xs → IsSome (object_of xs x) → programs_of (f (thing_of xs x)).verbs ≡ programs_of (thing_of xs x).verbs →
    programs_in (changed_on xs x f) ≡ programs_in xs
programs_stay xs x f low valid same = let changed = programs_changed xs x f low valid in omega (arith, changed, same)

-- other cells and definitions leave the verbs
same_verbs : (o : Option Object) (cells : List Cell) → (unwrap_or (with_cells o cells) nothing).verbs ≡ (unwrap_or o nothing).verbs
same_verbs None cells = refl
same_verbs (Some o) cells = refl

pub programs_refitted : (objects : List (Option Object)) (tree : List Links) → programs_in (refitted objects tree) ≡ programs_in objects
programs_refitted objects tree = programs_alike (refitted objects tree) objects (length_refitted objects tree)
    (λ x. ap (λ o. (unwrap_or o nothing).verbs) (object_refitted objects tree x) ∙ same_verbs (object_of objects x) (fitted_along objects (x ∷ ancestors tree x)))

pub programs_defined : (objects : List (Option Object)) (tree : List Links) (x : ℕ) (name : List ℕ) (cell : Cell) → x < length objects → programs_in (refitted (with_definition_on objects x name cell) tree) ≡ programs_in objects
programs_defined objects tree x name cell low =
    programs_refitted (with_definition_on objects x name cell) tree ∙ programs_kept objects x (with_definition name cell (object_of objects x)) low (with_it (object_of objects x))
  where
    with_it : (o : Option Object) → (unwrap_or (with_definition name cell o) nothing).verbs ≡ (unwrap_or o nothing).verbs
    with_it None = refl
    with_it (Some o) = refl

pub programs_undefined : (objects : List (Option Object)) (x : ℕ) (name : List ℕ) → x < length objects → programs_in (map (without_cell (x, name)) (set objects x (without_name name (object_of objects x)))) ≡ programs_in objects
programs_undefined objects x name low =
    programs_mapped (without_cell (x, name)) without (set objects x (without_name name (object_of objects x))) ∙ programs_kept objects x (without_name name (object_of objects x)) low (forgot (object_of objects x))
  where
    without : (o : Option Object) → (unwrap_or (without_cell (x, name) o) nothing).verbs ≡ (unwrap_or o nothing).verbs
    without None = refl
    without (Some o) = refl

    forgot : (o : Option Object) → (unwrap_or (without_name name o) nothing).verbs ≡ (unwrap_or o nothing).verbs
    forgot None = refl
    forgot (Some o) = refl

pub programs_renamed : (objects : List (Option Object)) (x : ℕ) (k : Key) (name folded_name spelling : List ℕ) → x < length objects →
    programs_in (map (option_map (with_renamed_cell k folded_name)) (changed_on objects x (with_respelled name spelling))) ≡ programs_in objects
programs_renamed objects x k name folded_name spelling low =
    programs_mapped (option_map (with_renamed_cell k folded_name)) renamed (changed_on objects x (with_respelled name spelling)) ∙
    programs_kept objects x (option_map (with_respelled name spelling) (object_of objects x)) low (respelled (object_of objects x))
  where
    renamed : (o : Option Object) → (unwrap_or (option_map (with_renamed_cell k folded_name) o) nothing).verbs ≡ (unwrap_or o nothing).verbs
    renamed None = refl
    renamed (Some o) = refl

    respelled : (o : Option Object) → (unwrap_or (option_map (with_respelled name spelling) o) nothing).verbs ≡ (unwrap_or o nothing).verbs
    respelled None = refl
    respelled (Some o) = refl

-- the programs of a recycled object are gone
pub programs_recycled : (objects : List (Option Object)) (x : ℕ) → x < length objects → programs_in (map (without_cells_of x) (set objects x None)) + programs_of (thing_of objects x).verbs ≡ programs_in objects
programs_recycled objects x low =
    let lost = programs_mapped (without_cells_of x) without (set objects x None) in
    let put = programs_set objects x None low in
    let none : programs_on None ≡ 0 = refl in
    omega (arith, lost, put, none)
  where
    without : (o : Option Object) → (unwrap_or (without_cells_of x o) nothing).verbs ≡ (unwrap_or o nothing).verbs
    without None = refl
    without (Some o) = refl

-- one for a verb with a program
abbrev pub program_of : Verb → ℕ
program_of v = cond (is_some v.program) 1 0

-- the verb at a place among these
pub program_at : (vs : List Verb) (i : ℕ) (d : Verb) → i < length vs → one_for (has_program vs i) ≡ program_of (get_or vs i d)
program_at [] i d low = absurd (omega (arith, low))
program_at (v ∷ vs) zero d low = refl
program_at (v ∷ vs) (suc i) d low = program_at vs i d (omega (arith, low))

pub programs_with_it : (vs : List Verb) (i : ℕ) → one_for (has_program vs i) ≤ programs_of vs
programs_with_it [] i = omega arith
programs_with_it (v ∷ vs) zero = omega (arith, sum_by-cons program_of v vs)
programs_with_it (v ∷ vs) (suc i) = let rest = programs_with_it vs i in omega (arith, sum_by-cons program_of v vs, rest)

-- a verb taken away, and one with another program, or none
pub programs_removed : (vs : List Verb) (i : ℕ) (d : Verb) → i < length vs → programs_of (remove vs i) + one_for (has_program vs i) ≡ programs_of vs
programs_removed vs i d low = let less = sum_by-remove program_of vs i d low in let one = program_at vs i d low in omega (arith, less, one)

pub programs_given : (vs : List Verb) (i : ℕ) (p : Option Block) → i < length vs → programs_of (changed_at i (with_program p) vs) + one_for (has_program vs i) ≡ programs_of vs + one_for (is_some p)
programs_given [] i p low = absurd (omega (arith, low))
programs_given (v ∷ vs) zero p low = omega (arith, sum_by-cons program_of (with_program p v) vs, sum_by-cons program_of v vs)
programs_given (v ∷ vs) (suc i) p low =
    let rest = programs_given vs i p (omega (arith, low)) in
    omega (arith, sum_by-cons program_of v (changed_at i (with_program p) vs), sum_by-cons program_of v vs, rest)

-- a change that leaves a verb its program
pub programs_as_before : (vs : List Verb) (i : ℕ) (f : Verb → Verb) → ((v : Verb) → (f v).program ≡ v.program) → programs_of (changed_at i f vs) ≡ programs_of vs
programs_as_before [] i f same = refl
programs_as_before (v ∷ vs) zero f same =
    let one : program_of (f v) ≡ program_of v = ap (λ p. cond (is_some p) 1 0) (same v) in
    omega (arith, sum_by-cons program_of (f v) vs, sum_by-cons program_of v vs, one)
programs_as_before (v ∷ vs) (suc i) f same =
    let rest = programs_as_before vs i f same in
    omega (arith, sum_by-cons program_of v (changed_at i f vs), sum_by-cons program_of v vs, rest)

pub programs_with_one_more : (vs : List Verb) (v : Verb) → v.program ≡ None → programs_of (vs ++ v ∷ []) ≡ programs_of vs
programs_with_one_more vs v bare =
    let none : program_of v ≡ 0 = ap (λ p. cond (is_some p) 1 0) bare in
    omega (arith, sum_by_push program_of vs v, none)
