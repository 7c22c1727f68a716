-- Which name every frame has.
use Rattle.std.proofs.Common.{◌≡◌, ℕ, Bool, true, false, cond, List, [], ◌∷◌, Option, Some, None, length, get_or, slice_get, refl, sym, ap, ◌∙◌}
use Rattle.std.specs.List.{find}
use Rattle.std.specs.Str.{bytes_eq}
use Rattle.std.specs.Char.{to_ascii_lowercase}
use Rattle.std.proofs.lemmas.List.{length-map}
use Rattle.std.proofs.lemmas.Slice.Eq.{bytes_eq-Decides}
use Rattle.moo_value.specs.Compare.{folded}
use Rattle.moo_syntax_ast.specs.declared.given.Given.{Given}
use Rattle.moo_syntax_ast.specs.declared.given.Given.TheVariants as given
use Rattle.moo_syntax_ast.specs.Given.{given_name, all_given, is_given, given_of, likely}

-- the one of a name whose letters are folded
abbrev pub named : List ℕ → Option Given
named n = find (λ h. bytes_eq (folded (given_name h)) n) all_given

pub named_own : (g : Given) → named (folded (given_name g)) ≡ Some g
named_own given.Num = refl
named_own given.Int = refl
named_own given.Obj = refl
named_own given.Str = refl
named_own given.Err = refl
named_own given.List = refl
named_own given.Float = refl
named_own given.Player = refl
named_own given.This = refl
named_own given.Caller = refl
named_own given.Dobj = refl
named_own given.Iobj = refl
named_own given.Verb = refl
named_own given.Argstr = refl
named_own given.Dobjstr = refl
named_own given.Prepstr = refl
named_own given.Iobjstr = refl
named_own given.Args = refl

-- the one that a name may be, by its length and its first letter
abbrev likely_for : List ℕ → Option Given
likely_for n = likely (length n) (get_or n 0 0)

likely_own : (g : Given) → likely_for (folded (given_name g)) ≡ Some g
likely_own given.Num = refl
likely_own given.Int = refl
likely_own given.Obj = refl
likely_own given.Str = refl
likely_own given.Err = refl
likely_own given.List = refl
likely_own given.Float = refl
likely_own given.Player = refl
likely_own given.This = refl
likely_own given.Caller = refl
likely_own given.Dobj = refl
likely_own given.Iobj = refl
likely_own given.Verb = refl
likely_own given.Argstr = refl
likely_own given.Dobjstr = refl
likely_own given.Prepstr = refl
likely_own given.Iobjstr = refl
likely_own given.Args = refl

-- a variable that is found passes the test
step : {A : Type 0} (test : A → Bool) (f g : A) (rest : Option A) → (rest ≡ Some f → test f ≡ true) → (b : Bool) → b ≡ test g → cond b (Some g) rest ≡ Some f → test f ≡ true
step test f g rest later true b is = let same : g ≡ f = cc in ap test (sym same) ∙ sym b
step test f g rest later false b is = later is

pub passes : {A : Type 0} (test : A → Bool) (f : A) (gs : List A) → find test gs ≡ Some f → test f ≡ true
passes test f [] is = cc
passes test f (g ∷ gs) is = step test f g (find test gs) (passes test f gs) (test g) refl is

pub same_name : (name : List ℕ) (g : Given) → is_given name g ≡ true → folded (given_name g) ≡ folded name
same_name name g h = (bytes_eq-Decides (folded (given_name g)) (folded name)).0 h

is_found : (name : List ℕ) (g : Given) → is_given name g ≡ true → given_of name ≡ Some g
is_found name g h = ap named (sym (same_name name g h)) ∙ named_own g

is_likely : (name : List ℕ) (g : Given) → is_given name g ≡ true → likely_for (folded name) ≡ Some g
is_likely name g h = ap likely_for (sym (same_name name g h)) ∙ likely_own g

none_at : (name : List ℕ) (o : Option Given) → given_of name ≡ o → likely_for (folded name) ≡ None → ◌≡◌ {A = Option Given} None o
none_at name None e l = refl
none_at name (Some g) e l = sym l ∙ is_likely name g (passes (is_given name) g all_given e)

none_likely : (name : List ℕ) → likely_for (folded name) ≡ None → ◌≡◌ {A = Option Given} None (given_of name)
none_likely name l = none_at name (given_of name) refl l

other_at : (name : List ℕ) (g : Given) (o : Option Given) → given_of name ≡ o → likely_for (folded name) ≡ Some g → is_given name g ≡ false → ◌≡◌ {A = Option Given} None o
other_at name g None e l isnt = refl
other_at name g (Some h) e l isnt =
    let yes = passes (is_given name) h all_given e in
    let both : ◌≡◌ {A = Option Given} (Some g) (Some h) = sym l ∙ is_likely name h yes in
    let same : g ≡ h = cc in
    let bad : false ≡ true = sym isnt ∙ ap (is_given name) same ∙ yes in absurd cc

not_likely : (name : List ℕ) (g : Given) → likely_for (folded name) ≡ Some g → is_given name g ≡ false → ◌≡◌ {A = Option Given} None (given_of name)
not_likely name g l isnt = other_at name g (given_of name) refl l isnt

-- the length and the first letter of a name are those of the name with its letters folded
as_likely : (name : List ℕ) (x letter : ℕ) → ◌≡◌ {A = Option ℕ} (Some x) (slice_get name 0) → letter ≡ to_ascii_lowercase x → likely (length name) letter ≡ likely_for (folded name)
as_likely [] x letter s l = absurd cc
as_likely (y ∷ ys) x letter s l =
    let both : ◌≡◌ {A = Option ℕ} (Some x) (Some y) = s in
    let same : x ≡ y = cc in
    ap (likely (length (y ∷ ys))) (l ∙ ap to_ascii_lowercase same)
    ∙ ap (λ n. likely n (to_ascii_lowercase y)) (sym (length-map (y ∷ ys) to_ascii_lowercase))

-- a name that is like none is none
pub none_is : (name : List ℕ) (x letter : ℕ) → ◌≡◌ {A = Option ℕ} (Some x) (slice_get name 0) → letter ≡ to_ascii_lowercase x → None ≡ likely (length name) letter → ◌≡◌ {A = Option Given} None (given_of name)
none_is name x letter s l e = none_likely name (sym (as_likely name x letter s l) ∙ sym e)

-- a name that isn't the one that it is like is none
pub other_is : (name : List ℕ) (x letter : ℕ) (g : Given) → ◌≡◌ {A = Option ℕ} (Some x) (slice_get name 0) → letter ≡ to_ascii_lowercase x → Some g ≡ likely (length name) letter → is_given name g ≡ false → ◌≡◌ {A = Option Given} None (given_of name)
other_is name x letter g s l e isnt = not_likely name g (sym (as_likely name x letter s l) ∙ sym e) isnt
