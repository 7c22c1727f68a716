-- A binding of a name that no binding before it has.
use Rattle.std.proofs.Common.{◌≡◌, ℕ, List, [], ◌∷◌, ◌++◌, Some, Bool, true, false, cond, refl, sym, ap, ◌∙◌}
use Rattle.std.specs.List.{find}
use Rattle.std.specs.Str.{bytes_eq}
use Rattle.moo_value.specs.Tree.{Tree}
use Rattle.moo_value.specs.Compare.{folded}
use Rattle.moo_eval_slot.specs.Bindings.{Binding, bind, value_of_name, with_variable}
use Rattle.moo_eval_slot.proofs.Names.{split}
use Rattle.moo_eval_frame.proofs.Stored.{two_tests, apart}

-- a name that none of these bindings has
abbrev is_new : List ℕ → List Binding → Bool
is_new name [] = true
is_new name (b ∷ bs) = cond (bytes_eq (folded b.name) (folded name)) false (is_new name bs)

is_not : (b c : Bool) → cond b false c ≡ true → b ≡ false
is_not true c h = absurd cc
is_not false c h = refl

among_others : (b c : Bool) → cond b false c ≡ true → c ≡ true
among_others true c h = absurd cc
among_others false c h = h

first_at : (name n : List ℕ) (w : Tree) (xs ys : List Binding) → is_new name xs ≡ true → value_of_name (xs ++ bind name w ∷ ys) n ≡ cond (bytes_eq (folded name) n) (Some w) (value_of_name (xs ++ ys) n)
first_at name n w [] ys h = split (bytes_eq (folded name) n) (bind name w) (find (λ y. bytes_eq (folded y.name) n) ys)
first_at name n w (b ∷ bs) ys h =
    let differs = is_not (bytes_eq (folded b.name) (folded name)) (is_new name bs) h in
    let others = among_others (bytes_eq (folded b.name) (folded name)) (is_new name bs) h in
    split (bytes_eq (folded b.name) n) b (find (λ y. bytes_eq (folded y.name) n) (bs ++ bind name w ∷ ys))
    ∙ ap (cond (bytes_eq (folded b.name) n) (Some b.value)) (first_at name n w bs ys others)
    ∙ sym (two_tests (bytes_eq (folded name) n) (bytes_eq (folded b.name) n) (Some w) (Some b.value) (value_of_name (bs ++ ys) n) (apart name b.name n differs))
    ∙ ap (cond (bytes_eq (folded name) n) (Some w)) (sym (split (bytes_eq (folded b.name) n) b (find (λ y. bytes_eq (folded y.name) n) (bs ++ ys))))

-- It could as well be the first.
pub first : (name : List ℕ) (w : Tree) (xs ys : List Binding) → is_new name xs ≡ true → value_of_name (xs ++ bind name w ∷ ys) ≡ with_variable (value_of_name (xs ++ ys)) (bind name w)
first name w xs ys h = λ j n. first_at name n w xs ys h j
