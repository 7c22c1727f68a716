-- Which names a text covers, and what is found by them.
use Rattle.std.proofs.Common.{◌≡◌, ◌≢◌, ℕ, zero, suc, ℤ, pos, negsuc, Bool, true, false, cond, eqb, ◌||◌, List, [], ◌∷◌, ◌++◌, length, map, take, Option, Some, None, is_some, slice_get, refl, sym, ap, ◌∙◌, inl, inr}
use Rattle.std.specs.List.{list_any, list_all, filter_map, find}
use Rattle.std.specs.Option.{option_and_then, unwrap_or}
use Rattle.std.specs.Ordering.{int_eq}
use Rattle.std.specs.Char.{to_ascii_lowercase}
use Rattle.std.proofs.lemmas.Bool.{cases_Bool, true≢false, eqb-true, eqb-false}
use Rattle.std.proofs.lemmas.Bool.Decides.{Decides-int_eq}
use Rattle.std.proofs.lemmas.List.{length-map}
use Rattle.std.proofs.lemmas.List.Elements.{filter-append}
use Rattle.moo_value.specs.Tree.{Tree, integer, object, error, string, list, elements_of}
use Rattle.moo_value.specs.TreeCode.{trees_of-elements_of}
use Rattle.moo_value.specs.Compare.{folded}
use Rattle.moo_world_object.specs.Names.{same_name}
use Rattle.moo_world_object.specs.Patterns.{begins}
use Rattle.moo_world_object.specs.Objects.{Object}
use Rattle.moo_world_tree.specs.Forest.{Links, climb, ancestors}
use Rattle.moo_world_table.specs.World.{World, IsWellFormed, object_of, nothing, definitions, keys_along}
use Rattle.moo_world_table.specs.Properties.{read, values_above}
use Rattle.moo_world.specs.Calls.{number_of}
use Rattle.moo_command.specs.declared.named.Found.{Found}
use Rattle.moo_command.specs.declared.named.Found.TheVariants.{Nothing, One, Several}
use Rattle.moo_command.specs.declared.named.Extent.{Extent}
use Rattle.moo_command.specs.declared.named.Extent.TheVariants.{Whole, Beginning}
use Rattle.moo_command.specs.Objects.{string_in, strings_in, sole, best, several_named, room_of, contents_of, near, names_of, named_by, named_near}
use Rattle.moo_command.specs.Inner.{covers, is_covered, with_found, with_all_found, found_among, number_found}

-- strings among values
pub covered_strings : (e : Extent) (text : List ℕ) (ts : List Tree) → list_any (covers e text) (filter_map string_in ts) ≡ list_any (is_covered e text) ts
covered_strings e text [] = refl
covered_strings e text (string s ∷ ts) = ap (λ b. covers e text s || b) (covered_strings e text ts)
covered_strings e text (integer i ∷ ts) = covered_strings e text ts
covered_strings e text (object o ∷ ts) = covered_strings e text ts
covered_strings e text (error x ∷ ts) = covered_strings e text ts
covered_strings e text (list es ∷ ts) = covered_strings e text ts

pub any_mapped : {X Y : Type 0} (p : Y → Bool) (f : X → Y) (xs : List X) → list_any p (map f xs) ≡ list_any (λ x. p (f x)) xs
any_mapped p f [] = refl
any_mapped p f (x ∷ xs) = ap (λ b. p (f x) || b) (any_mapped p f xs)

-- the strings of a list of these values
pub covered_in_list : (e : Extent) (text : List ℕ) (ts : List Tree) → list_any (covers e text) (strings_in (Some (list (elements_of ts)))) ≡ list_any (is_covered e text) ts
covered_in_list e text ts = ap (λ us. list_any (covers e text) (filter_map string_in us)) (trees_of-elements_of ts) ∙ covered_strings e text ts

-- a beginning of a name, cut out of it
pub begins_cut : (text name : List ℕ) → same_name (folded text) (folded (take (length text) name)) ≡ begins text name
begins_cut text name = rw (length-map text to_ascii_lowercase, map_take to_ascii_lowercase (length text) name) refl
  where
    map_take : (f : ℕ → ℕ) (n : ℕ) (xs : List ℕ) → map f (take n xs) ≡ take n (map f xs)
    map_take f zero xs = refl
    map_take f (suc n) [] = refl
    map_take f (suc n) (x ∷ xs) = ap (λ ys. f x ∷ ys) (map_take f n xs)

climb_nowhere : (n : ℕ) (tree : List Links) → climb n tree None ≡ []
climb_nowhere zero tree = refl
climb_nowhere (suc n) tree = refl

-- what is not valid has no property
nothing_read : (w : World) (x : ℕ) (name : List ℕ) → IsWellFormed w → object_of w.objects x ≡ None → read w x name ≡ None
nothing_read w x name formed none = ap (λ ks. option_and_then (λ k. slice_get (values_above w.objects w.inheritance k x) 0) (find (λ k. same_name k.1 name) ks)) nothing_defined
  where
    above : ancestors w.inheritance x ≡ []
    above = ap (λ (l : Links). climb (length w.inheritance) w.inheritance l.above) (formed.parents.free x none) ∙ climb_nowhere (length w.inheritance) w.inheritance

    nothing_defined : definitions w.objects w.inheritance x ≡ []
    nothing_defined =
        ap (λ o. map (λ n. (x, folded n)) (unwrap_or o nothing).defined ++ keys_along w.objects (ancestors w.inheritance x)) none
        ∙ ap (keys_along w.objects) above

pub read_there : (w : World) (x : ℕ) (name : List ℕ) → IsWellFormed w → option_and_then (λ y. read w y name) (number_of w.objects (pos x)) ≡ read w x name
read_there w x name formed = go (object_of w.objects x) refl
  where
    go : (o : Option Object) → object_of w.objects x ≡ o → option_and_then (λ y. read w y name) (number_of w.objects (pos x)) ≡ read w x name
    go None is = ap (λ o. option_and_then (λ y. read w y name) (cond (is_some o) (Some x) None)) is ∙ sym (nothing_read w x name formed is)
    go (Some o) is = ap (λ o. option_and_then (λ y. read w y name) (cond (is_some o) (Some x) None)) is

-- finding one object after another
pub found_append : (f : Found) (xs ys : List ℕ) → with_all_found f (xs ++ ys) ≡ with_all_found (with_all_found f xs) ys
found_append f [] ys = refl
found_append f (x ∷ xs) ys = found_append (with_found f (pos x)) xs ys

several_stays : (xs : List ℕ) → with_all_found Several xs ≡ Several
several_stays [] = refl
several_stays (x ∷ xs) = several_stays xs

abbrev magnitude : ℤ → ℕ
magnitude (pos n) = n
magnitude (negsuc n) = 0

same_number : (x y : ℕ) → int_eq (pos x) (pos y) ≡ eqb x y
same_number x y =
    elim (cases_Bool (eqb x y)) [
      | inl same ↦ (Decides-int_eq (pos x) (pos y)).1 (ap pos (eqb-true x y same)) ∙ sym same
      | inr other ↦ elim (cases_Bool (int_eq (pos x) (pos y))) [
        | inl equal ↦ absurd (eqb-false x y other (ap magnitude ((Decides-int_eq (pos x) (pos y)).0 equal)))
        | inr unequal ↦ unequal ∙ sym other
      ]
    ]

one_found : (x : ℕ) (xs : List ℕ) → number_found (with_all_found (One (pos x)) xs) ≡ cond (list_all (λ y. eqb x y) xs) (pos x) several_named
one_found x [] = refl
one_found x (y ∷ ys) =
    ap (λ b. number_found (with_all_found (cond b (One (pos x)) Several) ys)) (same_number x y)
    ∙ elim (cases_Bool (eqb x y)) [
      | inl same ↦ rw same (one_found x ys)
      | inr other ↦ rw other (ap number_found (several_stays ys))
    ]

-- one object, however often, none or several
sole_found : (xs : List ℕ) → number_found (found_among xs) ≡ sole xs
sole_found [] = refl
sole_found (x ∷ xs) = one_found x xs

abbrev is_something : Found → Bool
is_something Nothing = false
is_something (One o) = true
is_something Several = true

some_found : (o : ℤ) (xs : List ℕ) → is_something (with_all_found (One o) xs) ≡ true
some_found o [] = refl
some_found o (x ∷ xs) =
    elim (cases_Bool (int_eq o (pos x))) [
      | inl same ↦ ap (λ b. is_something (with_all_found (cond b (One o) Several) xs)) same ∙ some_found o xs
      | inr other ↦ ap (λ b. is_something (with_all_found (cond b (One o) Several) xs)) other ∙ ap is_something (several_stays xs)
    ]

-- a whole match beats a beginning
pub best_begun : (whole begun : List ℕ) → found_among whole ≡ Nothing → number_found (found_among begun) ≡ best whole begun
best_begun [] begun e = sole_found begun
best_begun (x ∷ xs) begun e = absurd (true≢false (sym (some_found (pos x) xs) ∙ ap is_something e))

pub best_whole : (whole begun : List ℕ) → (found_among whole ≡ Nothing → ⊥) → number_found (found_among whole) ≡ best whole begun
best_whole [] begun some = absurd (some refl)
best_whole (x ∷ xs) begun some = sole_found (x ∷ xs)

-- what is found in two places, one after the other
pub found_both : (w : World) (test : List ℕ → Bool) (a b player room : ℤ) (before all : Found) → a ≡ player → b ≡ room → before ≡ found_among (named_by w test (contents_of w a))
    → all ≡ with_all_found before (named_by w test (contents_of w b)) → all ≡ found_among (named_by w test (contents_of w player ++ contents_of w room))
found_both w test a b player room before all same_player same_room is is_all =
    is_all
    ∙ ap (λ f. with_all_found f (named_by w test (contents_of w b))) is
    ∙ sym (found_append Nothing (named_by w test (contents_of w a)) (named_by w test (contents_of w b)))
    ∙ ap found_among (sym (filter-append (λ x. list_any test (names_of w x)) (contents_of w a) (contents_of w b)))
    ∙ ap (λ o. found_among (named_by w test (contents_of w o ++ contents_of w b))) same_player
    ∙ ap (λ o. found_among (named_by w test (contents_of w player ++ contents_of w o))) same_room

pub near_begun : (w : World) (text : List ℕ) (player a b : ℤ) (whole begun : Found) → a ≡ player → b ≡ room_of w player
    → whole ≡ found_among (named_by w (covers Whole text) (contents_of w a ++ contents_of w b)) → begun ≡ found_among (named_by w (covers Beginning text) (contents_of w a ++ contents_of w b))
    → whole ≡ Nothing → number_found begun ≡ named_near w text (near w player)
near_begun w text player a b whole begun same_player same_room is_whole is_begun none =
    ap number_found is_begun
    ∙ best_begun (named_by w (covers Whole text) (contents_of w a ++ contents_of w b)) (named_by w (covers Beginning text) (contents_of w a ++ contents_of w b)) (sym is_whole ∙ none)
    ∙ ap (λ o. named_near w text (contents_of w o ++ contents_of w b)) same_player
    ∙ ap (λ o. named_near w text (contents_of w player ++ contents_of w o)) same_room

pub near_whole : (w : World) (text : List ℕ) (player a b : ℤ) (whole found : Found) → a ≡ player → b ≡ room_of w player
    → whole ≡ found_among (named_by w (covers Whole text) (contents_of w a ++ contents_of w b)) → found ≡ whole → (whole ≡ Nothing → ⊥)
    → number_found found ≡ named_near w text (near w player)
near_whole w text player a b whole found same_player same_room is_whole is some =
    ap number_found (is ∙ is_whole)
    ∙ best_whole (named_by w (covers Whole text) (contents_of w a ++ contents_of w b)) (named_by w (covers Beginning text) (contents_of w a ++ contents_of w b)) (λ e. some (is_whole ∙ e))
    ∙ ap (λ o. named_near w text (contents_of w o ++ contents_of w b)) same_player
    ∙ ap (λ o. named_near w text (contents_of w player ++ contents_of w o)) same_room
