-- One value more for `min` and `max`.
use Rattle.std.proofs.Common.{◌≡◌, ◌≢◌, ◌<◌, ◌≤◌, ◌+◌, ℕ, ℤ, List, [], ◌∷◌, ◌++◌, length, drop, get_or, Option, None, Some, Err, Ok, refl, sym, ap, ◌∙◌}
use Rattle.std.proofs.lemmas.List.{drop_more, drop_all}
use Rattle.moo_value.specs.declared.error_code.ErrorCode.TheVariants.{TypeMismatch}
use Rattle.moo_value.specs.declared.value.Value.{Value}
use Rattle.moo_value.specs.Tree.{Tree, integer, object, error, string, list}
use Rattle.moo_value.specs.View.{tree, trees}
use Rattle.moo_eval_call.specs.declared.spliced.Extreme.{Extreme}
use Rattle.moo_eval_call.specs.declared.spliced.Extreme.TheVariants.{Least, Greatest}
use Rattle.moo_eval_call.specs.Spliced.{better, extreme_from}

next_integer : (e : Extreme) (so_far : Option ℤ) (j : ℤ) (ts : List Tree) → extreme_from e so_far (integer j ∷ ts) ≡ extreme_from e (Some (better e so_far j)) ts
next_integer Least None j ts = refl
next_integer Greatest None j ts = refl
next_integer Least (Some i) j ts = refl
next_integer Greatest (Some i) j ts = refl

-- a number that is the only one
pub one_number : (e : Extreme) (i : ℤ) → extreme_from e (Some i) [] ≡ Ok (integer i)
one_number Least i = refl
one_number Greatest i = refl

-- a value that is no integer
no_integer : (e : Extreme) (so_far : Option ℤ) (t : Tree) (ts : List Tree) → ((i : ℤ) → t ≢ integer i) → extreme_from e so_far (t ∷ ts) ≡ Err TypeMismatch
no_integer e so_far (integer i) ts other = absurd (other i refl)
no_integer e None (object o) ts other = refl
no_integer Least (Some i) (object o) ts other = refl
no_integer Greatest (Some i) (object o) ts other = refl
no_integer e None (error code) ts other = refl
no_integer Least (Some i) (error code) ts other = refl
no_integer Greatest (Some i) (error code) ts other = refl
no_integer e None (string s) ts other = refl
no_integer Least (Some i) (string s) ts other = refl
no_integer Greatest (Some i) (string s) ts other = refl
no_integer e None (list es) ts other = refl
no_integer Least (Some i) (list es) ts other = refl
no_integer Greatest (Some i) (list es) ts other = refl

-- the values up to a place have been seen
abbrev pub HasSeen : Extreme → List Value → ℕ → Option ℤ → Option ℤ → Type 0
HasSeen e vs i so_far found = (more : List Tree) → extreme_from e so_far (trees vs ++ more) ≡ extreme_from e found (trees (drop i vs) ++ more)

at_value : (vs : List Value) (i : ℕ) (v : Value) (more : List Tree) → i < length vs → v ≡ get_or vs i v → trees (drop i vs) ++ more ≡ tree v ∷ (trees (drop (i + 1) vs) ++ more)
at_value vs i v more h is = ap (λ x. trees x ++ more) (drop_more vs i v h) ∙ ap (λ x. tree x ∷ (trees (drop (i + 1) vs) ++ more)) (sym is)

pub has_seen_more : (e : Extreme) (vs : List Value) (i : ℕ) (v : Value) (so_far found : Option ℤ) (j : ℤ) → i < length vs → v ≡ get_or vs i v → tree v ≡ integer j → HasSeen e vs i so_far found → HasSeen e vs (i + 1) so_far (Some (better e found j))
has_seen_more e vs i v so_far found j h is number seen more =
    let rest = trees (drop (i + 1) vs) ++ more in
    seen more ∙ ap (λ x. extreme_from e found x) (at_value vs i v more h is ∙ ap (λ t. t ∷ rest) number) ∙ next_integer e found j rest

pub has_seen_other : (e : Extreme) (vs : List Value) (i : ℕ) (v : Value) (so_far found : Option ℤ) → i < length vs → v ≡ get_or vs i v → ((j : ℤ) → tree v ≢ integer j) → HasSeen e vs i so_far found → (more : List Tree) → extreme_from e so_far (trees vs ++ more) ≡ Err TypeMismatch
has_seen_other e vs i v so_far found h is other seen more =
    let rest = trees (drop (i + 1) vs) ++ more in
    seen more ∙ ap (λ x. extreme_from e found x) (at_value vs i v more h is) ∙ no_integer e found (tree v) rest other

pub has_seen_all : (e : Extreme) (vs : List Value) (i : ℕ) (so_far found : Option ℤ) → length vs ≤ i → HasSeen e vs i so_far found → (more : List Tree) → extreme_from e so_far (trees vs ++ more) ≡ extreme_from e found more
has_seen_all e vs i so_far found h seen more = seen more ∙ ap (λ x. extreme_from e found (trees x ++ more)) (drop_all i vs h)
