-- Names of functions: each is in small letters, no two functions have one, and a name calls one whose name is as long.
use Rattle.std.proofs.Common.{arith, ◌≡◌, ℕ, Bool, true, false, List, [], ◌∷◌, Option, refl, ap, sym, ◌∙◌}
use Rattle.std.specs.Prelude.{find, filter, Some, cond, length, ◌==◌}
use Rattle.std.proofs.lemmas.Bool.Decides.{nat_tests}
use Rattle.std.proofs.lemmas.List.{length-map}
use Rattle.std.specs.Str.{bytes_eq}
use Rattle.std.proofs.lemmas.Slice.Eq.{bytes_eq-Decides}
use Rattle.moo_value.specs.Compare.{folded}
use Rattle.moo_syntax_function.specs.declared.function.Function.{Function}
use Rattle.moo_syntax_function.specs.declared.function.Function.TheVariants as function
use Rattle.moo_syntax_function.specs.Table.{function_name, all_functions}
use Rattle.moo_syntax_function.specs.Names.{is_called, function_of, of_length}
use Rattle.moo_syntax_function.specs.Laws.{CallsByName}

pub folded-name : (f : Function) → folded (function_name f) ≡ function_name f
folded-name function.Typeof = refl
folded-name _ = refl

-- the function of a name in small letters
abbrev named : List ℕ → Option Function
named name = find (λ f. bytes_eq (function_name f) name) all_functions

named-name : (f : Function) → named (function_name f) ≡ Some f
named-name function.Typeof = refl
named-name _ = refl

-- a function that is found passes the test
step : (test : Function → Bool) (f g : Function) (rest : Option Function) → (rest ≡ Some f → test f ≡ true) → (b : Bool) → b ≡ test g → cond b (Some g) rest ≡ Some f → test f ≡ true
step test f g rest later true b is = let same : g ≡ f = cc in ap test (sym same) ∙ sym b
step test f g rest later false b is = later is

passes : (test : Function → Bool) (f : Function) (gs : List Function) → find test gs ≡ Some f → test f ≡ true
passes test f [] is = cc
passes test f (g ∷ gs) is = step test f g (find test gs) (passes test f gs) (test g) refl is

pub calls_by_name : CallsByName
unfolding function_of
calls_by_name name f =
    (λ is. sym ((bytes_eq-Decides (function_name f) (folded name)).0 (passes (is_called name) f all_functions is)), λ is. ap named is ∙ named-name f)

-- a name that is spelled as a function's calls it
pub called_as_spelled : (name : List ℕ) (f : Function) → name ≡ function_name f → function_of name ≡ Some f
called_as_spelled name f is = (calls_by_name name f).1 (ap folded is ∙ folded-name f)

skipped : {A : Type 0} (x : A) (t : Bool) (found later : Option A) → (t ≡ true → false ≡ true) → found ≡ later → found ≡ cond t (Some x) later
skipped x true found later h same = let apart = h refl in cc
skipped x false found later h same = same

one_kept : {A : Type 0} (test : A → Bool) (x : A) (kept rest : List A) (b : Bool) → (test x ≡ true → b ≡ true) → find test kept ≡ find test rest → find test (cond b (x ∷ kept) kept) ≡ cond (test x) (Some x) (find test rest)
one_kept test x kept rest true h same = ap (cond (test x) (Some x)) same
one_kept test x kept rest false h same = skipped x (test x) (find test kept) (find test rest) h same

-- a function that passes a test is found among those that pass a weaker test
find-filter : {A : Type 0} (test needed : A → Bool) → ((x : A) → test x ≡ true → needed x ≡ true) → (xs : List A) → find test (filter needed xs) ≡ find test xs
find-filter test needed h [] = refl
find-filter test needed h (x ∷ xs) = one_kept test x (filter needed xs) xs (needed x) (h x) (find-filter test needed h xs)

called_length : (name : List ℕ) (f : Function) → is_called name f ≡ true → (length (function_name f) == length name) ≡ true
called_length name f is =
    let same = ap length ((bytes_eq-Decides (function_name f) (folded name)).0 is) ∙ length-map name _ in
    grind (arith, nat_tests)

-- the function that a name calls is one whose name is as long
pub found_by_length : (name : List ℕ) → find (is_called name) (of_length (length name)) ≡ function_of name
unfolding function_of
found_by_length name = find-filter (is_called name) (λ f. length (function_name f) == length name) (called_length name) all_functions
