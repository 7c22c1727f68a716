-- Calls of `length` and `typeof`.
use Rattle.std.proofs.Common.{◌≡◌, ℕ, ◌<◌, ◌-◌, ℤ, List, [], ◌∷◌, Bool, Option, Some, None, Ok, refl, ap, sym}
use Rattle.moo_value.specs.Tree.{Tree, integer, string, list}
use Rattle.moo_value.specs.Compare.{folded}
use Rattle.moo_syntax_ast.specs.Tree.{variable, call, element, no_items}
use Rattle.moo_syntax_function.specs.declared.function.Function.{Function}
use Rattle.moo_syntax_function.specs.declared.function.Function.TheVariants.{Length, Typeof}
use Rattle.moo_syntax_function.specs.Names.{function_of}
use Rattle.moo_syntax_function.specs.Table.{row}
use Rattle.moo_syntax_function.specs.Check.{refusal}
use Rattle.moo_builtin_operator.specs.Places.{length_of}
use Rattle.moo_builtin_value.specs.Calls.{simply}
use Rattle.moo_builtin_value.specs.Looks.{type_number}
use Rattle.moo_builtin_world.specs.Objects.{is_valid}
use Rattle.moo_builtin.specs.Calls.{follows, given}
use Rattle.moo_eval_semantics.specs.VerbCalls.{verb_caller}
use Rattle.moo_eval_semantics.specs.Meaning.{begins, applies, no_more, element_then, call_is}
use Rattle.moo_eval_integer.specs.Functions.{GivesFor}
use Rattle.moo_eval_integer.specs.Integers.{GivesInteger, GivesValue}
use Rattle.moo_eval_integer.proofs.Given.{variable_gives}

-- a value that has a length is not refused
unrefused : (valid : ℤ → Bool) (x : Tree) {i : ℤ} → length_of x ≡ Ok (integer i) → refusal valid (row Length) (x ∷ []) ≡ None
unrefused valid (string s) r = refl
unrefused valid (list es) r = refl
unrefused valid _ r = cc

-- the function `length` gives the length, and the state stays
pub length_gives : (x : Tree) {i : ℤ} → length_of x ≡ Ok (integer i) → GivesFor Length x i
length_gives x {i = i} r = λ name f. (
  ap verb_caller f,
  λ c s.
      rw f (Ok (integer i), s.world, follows f (unrefused (is_valid s.world) x r) (ap (λ o. given (simply (Some o))) (sym r), refl), refl, refl),
)

-- no value is refused by `typeof`
any_type : (valid : ℤ → Bool) (x : Tree) → refusal valid (row Typeof) (x ∷ []) ≡ None
any_type valid (integer i) = refl
any_type valid (string s) = refl
any_type valid (list es) = refl
any_type valid _ = refl

-- the function `typeof` gives the number of the type, and the state stays
pub type_gives : (x : Tree) → GivesFor Typeof x (type_number x)
type_gives x = λ name f. (
  ap verb_caller f,
  λ c s.
      rw f (Ok (integer (type_number x)), s.world, follows f (any_type (is_valid s.world) x) (refl, refl), refl, refl),
)

-- a call of such a function takes a tick before that of its variable
pub call_gives : (variables : List ℕ → Option Tree) {name function : List ℕ} {f : Function} {x : Tree} {i : ℤ} {n n' n'' : ℕ} → function_of function ≡ Some f → (0 < n) × (n' ≡ n - 1) → (0 < n') × (n'' ≡ n' - 1) → variables (folded name) ≡ Some x → GivesFor f x i → GivesInteger variables n (call function (element (variable name) no_items)) i n''
call_gives variables {name = name} {function = function} {x = x} {n' = n'} {n'' = n''} is z y h gives =
    let g : GivesValue variables n' (variable name) x n'' = variable_gives variables y h in
    λ c s e. begins z.0 (applies (element_then (rw z.1 at g c s e) no_more refl) no_more (call_is (gives function is).0 ((gives function is).1 _ _))) refl
