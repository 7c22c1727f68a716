-- A list that is assigned to plain names alone.
use Rattle.std.proofs.Common.{◌≡◌, ℕ, suc, ◌+◌, ◌-◌, ◌<◌, ◌≤◌, List, [], ◌∷◌, true, false, ◌&&◌, nat_le, Ok, Err, Option, length, get_or, drop, refl, sym, ap, ◌∙◌, arith}
use Rattle.std.proofs.lemmas.Bool.Decides.{nat_tests}
use Rattle.std.proofs.lemmas.List.{drop_all}
use Rattle.moo_value.specs.declared.error_code.ErrorCode.TheVariants.{TypeMismatch, Arguments}
use Rattle.moo_value.specs.declared.value.Value.{Value}
use Rattle.moo_value.specs.declared.value.Value.TheVariants.{Int, Obj, Err as ErrorOf, Str, List as ListOf}
use Rattle.moo_value.specs.Tree.{Tree, list_of}
use Rattle.moo_value.specs.View.{tree, trees}
use Rattle.moo_syntax_ast.specs.Tree.{Items}
use Rattle.moo_syntax_node.specs.Blocks.{named_items}
use Rattle.moo_eval_frame.specs.Variables.{with_all}
use Rattle.moo_eval_slot.specs.Bindings.{bind, with_variable}
use Rattle.moo_eval_control.specs.Scatter.{required, optionals, takes_rest, fits, dealt, shares, given}
use Rattle.moo_eval_control.proofs.Rest.{drop_next, next_tree}
use Rattle.moo_eval_control.proofs.Scattered.{dealt_list}

all_required : (names : List (List ℕ)) → required (named_items names) ≡ length names
all_required [] = refl
all_required (name ∷ names) = ap suc (all_required names)

none_optional : (names : List (List ℕ)) → optionals (named_items names) ≡ 0
none_optional [] = refl
none_optional (name ∷ names) = none_optional names

none_takes_rest : (names : List (List ℕ)) → takes_rest (named_items names) ≡ false
none_takes_rest [] = refl
none_takes_rest (name ∷ names) = none_takes_rest names

-- a number of values fits if it is the number of names
names_fit : (names : List (List ℕ)) (n : ℕ) → fits (named_items names) n ≡ (nat_le (length names) n && nat_le n (length names + 0))
names_fit names n = rw (all_required names, none_optional names, none_takes_rest names) refl

same_number : (m n : ℕ) → m ≡ n → (nat_le m n && nat_le n (m + 0)) ≡ true
same_number m n h = grind (arith, nat_tests)

other_number : (m n : ℕ) → (m ≡ n → ⊥) → (nat_le m n && nat_le n (m + 0)) ≡ false
other_number m n h = grind (arith, nat_tests)

-- what is no list isn't dealt
pub unlisted : (xs : Items) (v : Value) → ((ts : List Tree) → v ≡ ListOf ts → ⊥) → dealt xs (tree v) ≡ Err TypeMismatch
unlisted xs (Int i) h = refl
unlisted xs (Obj o) h = refl
unlisted xs (ErrorOf e) h = refl
unlisted xs (Str s) h = refl
unlisted xs (ListOf ts) h = absurd (h ts refl)

-- as many values as names are dealt
pub names_dealt : (names : List (List ℕ)) (ts : List Tree) → length names ≡ length ts → dealt (named_items names) (list_of ts) ≡ Ok ts
names_dealt names ts h = dealt_list (named_items names) ts true (sym (names_fit names (length ts) ∙ same_number (length names) (length ts) h))

-- any other number is refused
pub names_refused : (names : List (List ℕ)) (ts : List Tree) → (length names ≡ length ts → ⊥) → dealt (named_items names) (list_of ts) ≡ Err Arguments
names_refused names ts h = dealt_list (named_items names) ts false (sym (names_fit names (length ts) ∙ other_number (length names) (length ts) h))

-- the first of several names gets the first value
first_given : (name : List ℕ) (names : List (List ℕ)) (t : Tree) (ts : List Tree) → given (named_items (name ∷ names)) (t ∷ ts) ≡ bind name t ∷ given (named_items names) ts
first_given name names t ts =
    let e : length (t ∷ ts) - required (named_items (name ∷ names)) ≡ length ts - required (named_items names) = omega arith in
    ap (λ n. bind name t ∷ shares (named_items names) n (n - optionals (named_items names)) ts) e

-- with the next name set, what is left is given to the names after it
pub next_named : (variables : List ℕ → Option Tree) (names : List (List ℕ)) (values : List Value) (i : ℕ) (name : List ℕ) (v : Value) → i < length names → i < length values → name ≡ get_or names i name → v ≡ get_or values i v → with_all variables (given (named_items (drop i names)) (drop i (trees values))) ≡ with_all (with_variable variables (bind name (tree v))) (given (named_items (drop (i + 1) names)) (drop (i + 1) (trees values)))
next_named variables names values i name v h k d e =
    ap (λ ns. with_all variables (given (named_items ns) (drop i (trees values)))) (drop_next names i name h d)
    ∙ ap (λ ts. with_all variables (given (named_items (name ∷ drop (i + 1) names)) ts)) (next_tree values i v k e)
    ∙ ap (with_all variables) (first_given name (drop (i + 1) names) (tree v) (drop (i + 1) (trees values)))

-- no name is left
pub all_named : (variables : List ℕ → Option Tree) (names : List (List ℕ)) (ts : List Tree) (i : ℕ) → length names ≤ i → with_all variables (given (named_items (drop i names)) ts) ≡ variables
all_named variables names ts i h = ap (λ ns. with_all variables (given (named_items ns) ts)) (drop_all i names h)
