-- The first occurrences are all names, each once.
use Rattle.std.proofs.Common.{ℕ, List, [], ◌∷◌, ◌++◌, ◌≡◌, ◌⊎◌, inl, inr, ◌||◌, ◌&&◌, ◌∙◌, not, refl, ap, sym, subst, Bool, true, false, map, ⊎_elim}
use Rattle.std.specs.List.{IsDistinct, AllByRecursion, list_any}
use Rattle.std.specs.Str.{bytes_eq}
use Rattle.std.proofs.lemmas.Slice.Eq.{bytes_eq-Decides}
use Rattle.moo_value.specs.Compare.{folded}
use Rattle.moo_syntax_ast.specs.Tree.{Block}
use Rattle.moo_syntax_ast.specs.Slots.{block_variables, firsts, slots}

either : (b : Bool) → (b ≡ true) ⊎ (b ≡ false)
either true = inl refl
either false = inr refl

-- a name that was seen is passed over, another one is kept
seen_before : (seen : List ℕ → Bool) (x : List ℕ) (xs : List (List ℕ)) → seen x ≡ true → firsts seen (x ∷ xs) ≡ firsts seen xs
seen_before seen x xs e = rw e refl

seen_first : (seen : List ℕ → Bool) (x : List ℕ) (xs : List (List ℕ)) → seen x ≡ false → firsts seen (x ∷ xs) ≡ x ∷ firsts (λ y. bytes_eq x y || seen y) xs
seen_first seen x xs e = rw e refl

front_begins : (seen : List ℕ → Bool) (xs ys : List (List ℕ)) → (rest : List (List ℕ)) × (firsts seen (xs ++ ys) ≡ firsts seen xs ++ rest)
front_begins seen [] ys = (firsts seen ys, refl)
front_begins seen (x ∷ xs) ys =
    ⊎_elim
    (λ e. let r = front_begins seen xs ys in (r.0, seen_before seen x (xs ++ ys) e ∙ r.1 ∙ ap (λ v. v ++ r.0) (sym (seen_before seen x xs e))))
    (λ e. let r = front_begins (λ y. bytes_eq x y || seen y) xs ys in (r.0, seen_first seen x (xs ++ ys) e ∙ ap (λ v. x ∷ v) r.1 ∙ ap (λ v. v ++ r.0) (sym (seen_first seen x xs e))))
    (either (seen x))

first_of_neither : (a b : Bool) → (a || b) ≡ false → a ≡ false
first_of_neither false b e = refl
first_of_neither true b e = e

second_of_neither : (a b : Bool) → (a || b) ≡ false → b ≡ false
second_of_neither false b e = e
second_of_neither true b e = absurd cc

-- no name that was seen is kept
none_seen : (seen : List ℕ → Bool) (xs : List (List ℕ)) (x : List ℕ) → ((y : List ℕ) → seen y ≡ false → bytes_eq x y ≡ false) → AllByRecursion (λ y. bytes_eq x y ≡ false) (firsts seen xs)
none_seen seen [] x h = tt
none_seen seen (z ∷ xs) x h =
    ⊎_elim
    (λ e. subst (AllByRecursion (λ y. bytes_eq x y ≡ false)) (sym (seen_before seen z xs e)) (none_seen seen xs x h))
    (λ e. subst (AllByRecursion (λ y. bytes_eq x y ≡ false)) (sym (seen_first seen z xs e)) (h z e, none_seen (λ y. bytes_eq z y || seen y) xs x (λ y f. h y (second_of_neither (bytes_eq z y) (seen y) f))))
    (either (seen z))

each_once : (seen : List ℕ → Bool) (xs : List (List ℕ)) → IsDistinct bytes_eq (firsts seen xs)
unfolding IsDistinct
each_once seen [] = tt
each_once seen (x ∷ xs) =
    ⊎_elim
    (λ e. subst (IsDistinct bytes_eq) (sym (seen_before seen x xs e)) (each_once seen xs))
    (λ e. subst (IsDistinct bytes_eq) (sym (seen_first seen x xs e)) (none_seen (λ y. bytes_eq x y || seen y) xs x (λ y f. first_of_neither (bytes_eq x y) (seen y) f), each_once (λ y. bytes_eq x y || seen y) xs))
    (either (seen x))

same_bytes : (x y : List ℕ) → bytes_eq x y ≡ true → x ≡ y
same_bytes x y e = (bytes_eq-Decides x y).0 e

other_way : (x y : List ℕ) → bytes_eq x y ≡ true → bytes_eq y x ≡ true
other_way x y e = (bytes_eq-Decides y x).1 (sym (same_bytes x y e))

passed : (a b c : Bool) → (a ≡ true → c ≡ true) → (b && not c) ≡ ((a || b) && not c)
passed false b c h = refl
passed true true c h = refl
passed true false c h = rw (h refl) refl

kept : (a other b c : Bool) → (a ≡ true → c ≡ false) → (other ≡ true → a ≡ true) → (a || (b && not (other || c))) ≡ ((a || b) && not c)
kept true other b c h k = rw (h refl) refl
kept false false b c h k = refl
kept false true b c h k = absurd (let e = k refl in cc)

names_left : (seen : List ℕ → Bool) (xs : List (List ℕ)) (y : List ℕ) → list_any (bytes_eq y) (firsts seen xs) ≡ (list_any (bytes_eq y) xs && not (seen y))
names_left seen [] y = refl
names_left seen (x ∷ xs) y =
    ⊎_elim
    (λ e. ap (list_any (bytes_eq y)) (seen_before seen x xs e) ∙ names_left seen xs y ∙ passed (bytes_eq y x) (list_any (bytes_eq y) xs) (seen y) (λ f. ap seen (same_bytes y x f) ∙ e))
    (λ e. ap (list_any (bytes_eq y)) (seen_first seen x xs e) ∙ ap (λ v. bytes_eq y x || v) (names_left (λ z. bytes_eq x z || seen z) xs y) ∙ kept (bytes_eq y x) (bytes_eq x y) (list_any (bytes_eq y) xs) (seen y) (λ f. ap seen (same_bytes y x f) ∙ e) (other_way x y))
    (either (seen x))

not_false : (b : Bool) → (b && not false) ≡ b
not_false true = refl
not_false false = refl

pub once : (b : Block) → IsDistinct bytes_eq (slots b)
once b = each_once (λ _. false) (map folded (block_variables b))

pub each : (b : Block) (name : List ℕ) → list_any (bytes_eq name) (slots b) ≡ list_any (bytes_eq name) (map folded (block_variables b))
each b name = names_left (λ _. false) (map folded (block_variables b)) name ∙ not_false (list_any (bytes_eq name) (map folded (block_variables b)))

pub order : (b : Block) (front back : List (List ℕ)) → map folded (block_variables b) ≡ front ++ back → (rest : List (List ℕ)) × (slots b ≡ firsts (λ _. false) front ++ rest)
order b front back e = let r = front_begins (λ _. false) front back in (r.0, ap (firsts (λ _. false)) e ∙ r.1)
