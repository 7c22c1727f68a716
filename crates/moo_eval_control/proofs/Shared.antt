-- The values of a scatter that fits are dealt, each of them once.
use Rattle.std.proofs.Common.{◌≡◌, ℕ, zero, suc, ◌+◌, ◌-◌, ◌≤◌, List, [], ◌∷◌, Bool, true, false, ◌&&◌, ◌||◌, cond, nat_le, length, take, drop, refl, sym, subst, ◌∙◌, arith}
use Rattle.std.proofs.lemmas.List.{take-append-drop, length-drop}
use Rattle.std.proofs.lemmas.Bool.Decides.{nat_tests}
use Rattle.moo_value.specs.Tree.{Tree, list_of}
use Rattle.moo_syntax_ast.specs.Tree.{variable, Items, no_items, element, splice, optional, defaulted}
use Rattle.moo_syntax_ast.specs.Target.{are_names}
use Rattle.moo_eval_slot.specs.Bindings.{bind}
use Rattle.moo_eval_control.specs.Scatter.{required, optionals, takes_rest, fits, shares, lacking, given, missing}
use Rattle.moo_eval_control.specs.Dealing.{Deals, all_dealt, plain, others, filled, filled_default, without, takes_default}

-- after one name with `@` there is no other
pub no_rest : (xs : Items) → are_names true xs ≡ true → takes_rest xs ≡ false
no_rest no_items h = refl
no_rest (element (variable x) xs) h = no_rest xs h
no_rest (element e xs) h = absurd cc
no_rest (splice e xs) h = absurd cc
no_rest (optional x xs) h = no_rest xs h
no_rest (defaulted x d xs) h = no_rest xs h

-- how many are left for the name after `@`, which is none after it
rest_counted : (xs : Items) (n rest : ℕ) → takes_rest xs ≡ false → n ≡ required xs + optionals xs + rest → n - rest ≡ required xs + optionals xs + cond (takes_rest xs) rest 0
rest_counted xs n rest none h = subst (λ b. n - rest ≡ required xs + optionals xs + cond b rest 0) (sym none) (omega (arith, h))

-- each name gets a value
all_filled : (spliced : Bool) (xs : Items) (spare rest : ℕ) (vs : List Tree) → are_names spliced xs ≡ true → optionals xs ≤ spare → length vs ≡ required xs + optionals xs + cond (takes_rest xs) rest 0 → Deals false true xs vs (shares xs spare rest vs) (lacking xs spare)
all_filled spliced no_items spare rest [] h k n = all_dealt
all_filled spliced no_items spare rest (v ∷ vs) h k n = absurd (omega (arith, n))
all_filled spliced (element (variable x) xs) spare rest [] h k n = absurd (omega (arith, n))
all_filled spliced (element (variable x) xs) spare rest (v ∷ vs) h k n = plain (all_filled spliced xs spare rest vs h k (omega (arith, n)))
all_filled spliced (element e xs) spare rest vs h k n = absurd cc
all_filled false (splice (variable x) xs) spare rest vs h k n =
    let m = rest_counted xs (length vs) rest (no_rest xs h) n in
    subst (λ ws. Deals false true (splice (variable x) xs) ws (bind x (list_of (take rest vs)) ∷ shares xs spare rest (drop rest vs)) (lacking xs spare)) (take-append-drop rest vs)
    (others (λ b. absurd cc) (all_filled true xs spare rest (drop rest vs) h k (length-drop rest vs ∙ m)))
all_filled false (splice e xs) spare rest vs h k n = absurd cc
all_filled true (splice e xs) spare rest vs h k n = absurd cc
all_filled spliced (optional x xs) zero rest vs h k n = absurd (omega (arith, k))
all_filled spliced (optional x xs) (suc spare) rest [] h k n = absurd (omega (arith, n))
all_filled spliced (optional x xs) (suc spare) rest (v ∷ vs) h k n = filled (all_filled spliced xs spare rest vs h (omega (arith, k)) (omega (arith, n)))
all_filled spliced (defaulted x d xs) zero rest vs h k n = absurd (omega (arith, k))
all_filled spliced (defaulted x d xs) (suc spare) rest [] h k n = absurd (omega (arith, n))
all_filled spliced (defaulted x d xs) (suc spare) rest (v ∷ vs) h k n = filled_default (all_filled spliced xs spare rest vs h (omega (arith, k)) (omega (arith, n)))

-- the last names with `?` get none
some_filled : (spliced : Bool) (xs : Items) (filling : Bool) (spare : ℕ) (vs : List Tree) → are_names spliced xs ≡ true → (filling ≡ false → spare ≡ 0) → spare ≤ optionals xs → length vs ≡ required xs + spare → Deals true filling xs vs (shares xs spare 0 vs) (lacking xs spare)
some_filled spliced no_items filling spare [] h z k n = all_dealt
some_filled spliced no_items filling spare (v ∷ vs) h z k n = absurd (omega (arith, k, n))
some_filled spliced (element (variable x) xs) filling spare [] h z k n = absurd (omega (arith, n))
some_filled spliced (element (variable x) xs) filling spare (v ∷ vs) h z k n = plain (some_filled spliced xs filling spare vs h z k (omega (arith, n)))
some_filled spliced (element e xs) filling spare vs h z k n = absurd cc
some_filled false (splice (variable x) xs) filling spare vs h z k n = others {us = []} (λ b. refl) (some_filled true xs filling spare vs h z k n)
some_filled false (splice e xs) filling spare vs h z k n = absurd cc
some_filled true (splice e xs) filling spare vs h z k n = absurd cc
some_filled spliced (optional x xs) filling zero vs h z k n = without refl (some_filled spliced xs false zero vs h (λ b. refl) (omega arith) n)
some_filled spliced (optional x xs) false (suc spare) vs h z k n = absurd (omega (arith, z refl))
some_filled spliced (optional x xs) true (suc spare) [] h z k n = absurd (omega (arith, n))
some_filled spliced (optional x xs) true (suc spare) (v ∷ vs) h z k n = filled (some_filled spliced xs true spare vs h (λ b. absurd cc) (omega (arith, k)) (omega (arith, n)))
some_filled spliced (defaulted x d xs) filling zero vs h z k n = takes_default refl (some_filled spliced xs false zero vs h (λ b. refl) (omega arith) n)
some_filled spliced (defaulted x d xs) false (suc spare) vs h z k n = absurd (omega (arith, z refl))
some_filled spliced (defaulted x d xs) true (suc spare) [] h z k n = absurd (omega (arith, n))
some_filled spliced (defaulted x d xs) true (suc spare) (v ∷ vs) h z k n = filled_default (some_filled spliced xs true spare vs h (λ b. absurd cc) (omega (arith, k)) (omega (arith, n)))

both : (a b : Bool) → (a && b) ≡ true → (a ≡ true) × (b ≡ true)
both true b h = (refl, h)
both false b h = absurd cc

-- with a name after `@` nothing is too much
count_of : (b : Bool) (n r o : ℕ) → r ≤ n → o ≤ n - r → (b || nat_le n (r + o)) ≡ true → n ≡ r + o + cond b (n - r - o) 0
count_of true n r o p q t = omega (arith, p, q)
count_of false n r o p q t = grind (arith, nat_tests)

by_spare : (xs : Items) (vs : List Tree) (enough : Bool) → nat_le (optionals xs) (length vs - required xs) ≡ enough → are_names false xs ≡ true → required xs ≤ length vs → (takes_rest xs || nat_le (length vs) (required xs + optionals xs)) ≡ true → (lacks : Bool) × Deals lacks true xs vs (given xs vs) (missing xs vs)
by_spare xs vs true e h r t =
    let o : optionals xs ≤ length vs - required xs = grind (arith, nat_tests) in
    (false, all_filled false xs (length vs - required xs) (length vs - required xs - optionals xs) vs h o (count_of (takes_rest xs) (length vs) (required xs) (optionals xs) r o t))
by_spare xs vs false e h r t =
    let o : length vs - required xs ≤ optionals xs = grind (arith, nat_tests) in
    let z : length vs - required xs - optionals xs ≡ 0 = omega (arith, o) in
    (true, subst (λ x. Deals true true xs vs (shares xs (length vs - required xs) x vs) (missing xs vs)) (sym z) (some_filled false xs true (length vs - required xs) vs h (λ b. absurd cc) o (omega (arith, r))))

pub values_are_dealt : (xs : Items) (vs : List Tree) → are_names false xs ≡ true → fits xs (length vs) ≡ true → (lacks : Bool) × Deals lacks true xs vs (given xs vs) (missing xs vs)
values_are_dealt xs vs h f =
    let p = both (nat_le (required xs) (length vs)) (takes_rest xs || nat_le (length vs) (required xs + optionals xs)) f in
    let q : nat_le (required xs) (length vs) ≡ true = p.0 in
    let r : required xs ≤ length vs = grind (arith, nat_tests) in
    by_spare xs vs (nat_le (optionals xs) (length vs - required xs)) refl h r p.1
