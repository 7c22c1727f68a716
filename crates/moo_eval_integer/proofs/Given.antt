-- Integers that expressions give.
use Rattle.std.proofs.Common.{◌≡◌, ℕ, suc, ◌<◌, ◌-◌, nat_lt, ℤ, pos, true, List, length, set, Option, Some, None, Ok, IfSome, refl, ap, ◌∙◌, arith}
use Rattle.std.specs.Prelude.{slice_get}
use Rattle.moo_value.specs.declared.error_code.ErrorCode.TheVariants.{VariableNotFound}
use Rattle.moo_value.specs.Tree.{Tree, integer, list_of}
use Rattle.moo_value.specs.TreeCode.{trees_of-elements_of}
use Rattle.moo_value.specs.Size.{IsWithinLimits}
use Rattle.moo_value.specs.Compare.{folded}
use Rattle.moo_syntax_ast.specs.declared.operator.BinaryOperator.{BinaryOperator}
use Rattle.moo_syntax_ast.specs.declared.tree.Literal.{Literal}
use Rattle.moo_syntax_ast.specs.declared.tree.Literal.TheVariants.{Integer}
use Rattle.moo_syntax_ast.specs.Tree.{Expr, literal, literal_value, variable, binary, index}
use Rattle.moo_builtin_operator.specs.Operators.{binary_of}
use Rattle.moo_builtin_operator.specs.Places.{or_range, index_of}
use Rattle.moo_builtin_operator.specs.Assignment.{before_place, with_index_of}
use Rattle.moo_builtin_operator.proofs.Lawful.{limited_within}
use Rattle.moo_builtin_operator.proofs.Replaced.{set_in_list}
use Rattle.moo_eval_frame.specs.Outcome.{answers, or_error}
use Rattle.moo_eval_semantics.specs.Meaning.{begins, applies, no_more, element_then, literal_is, variable_is, binary_is, index_is}
use Rattle.moo_eval_integer.specs.Integers.{GivesInteger, GivesLeafInteger, GivesLeafValue, GivesValue}

-- an integer that is written out takes a tick
pub literal_gives : (variables : List ℕ → Option Tree) {i : ℤ} {n n' : ℕ} → (0 < n) × (n' ≡ n - 1) → GivesInteger variables n (literal (Integer i)) i n'
literal_gives variables z = λ c s e. rw z.1 (begins z.0 (applies no_more no_more literal_is) refl)

-- a variable takes a tick
pub variable_gives : (variables : List ℕ → Option Tree) {name : List ℕ} {x : Tree} {n n' : ℕ} → (0 < n) × (n' ≡ n - 1) → variables (folded name) ≡ Some x → GivesValue variables n (variable name) x n'
variable_gives variables {name = name} z h = λ c s e. rw z.1 (begins z.0 (applies no_more no_more (variable_is (ap (λ o. answers (or_error o VariableNotFound)) (ap (λ f. f (folded name)) e ∙ h)))) refl)

-- an index takes a tick before those of the variable and of the place
pub element_gives : (variables : List ℕ → Option Tree) {name : List ℕ} {place : Expr} {x v : Tree} {i : ℤ} {n n' n'' m : ℕ} → (0 < n) × (n' ≡ n - 1) → (0 < n') × (n'' ≡ n' - 1) → variables (folded name) ≡ Some x → GivesInteger variables n'' place i m → index_of x (integer i) ≡ Ok v → GivesValue variables n (index (variable name) place) v m
element_gives variables {name = name} {x = x} {n' = n'} {n'' = n''} z y h g r = let f : GivesValue variables n' (variable name) x n'' = variable_gives variables y h in λ c s e. begins z.0 (applies (element_then (rw z.1 at f c s e) no_more refl) (element_then (g _ s e) no_more refl) (index_is (ap answers r))) refl

-- an operator takes a tick before those of its operands
pub operator_gives : (variables : List ℕ → Option Tree) {op : BinaryOperator} {a b : Expr} {i j k : ℤ} {n n' n'' m : ℕ} → (0 < n) × (n' ≡ n - 1) → GivesInteger variables n' a i n'' → GivesInteger variables n'' b j m → binary_of op (integer i) (integer j) ≡ Ok (integer k) → GivesInteger variables n (binary op a b) k m
operator_gives variables z f g h = λ c s e. begins z.0 (applies (element_then (rw z.1 at f c s e) (element_then (g c s e) no_more refl) refl) no_more (binary_is (ap answers h))) refl

-- how many elements come before a place, which counts from 1
pub before : (i : ℤ) (k n : ℕ) → i ≡ pos (suc k) → k < n → Some k ≡ before_place i n
before i k n e h = rw e (let w : nat_lt k n ≡ true = grind arith in rw w refl)

-- a list within the limits takes a value at a place
pub value_taken : (ts : List Tree) (i : ℤ) (k : ℕ) (v : Tree) → i ≡ pos (suc k) → k < length ts → IsWithinLimits (list_of (set ts k v)) → with_index_of (list_of ts) (integer i) v ≡ Ok (list_of (set ts k v))
value_taken ts i k v e h limits = set_in_list ts i k (length ts) v refl (before i k (length ts) e h) ∙ limited_within (list_of (set ts k v)) limits

pub list_takes : (ts : List Tree) (i n : ℤ) (k : ℕ) → i ≡ pos (suc k) → k < length ts → IsWithinLimits (list_of (set ts k (integer n))) → with_index_of (list_of ts) (integer i) (integer n) ≡ Ok (list_of (set ts k (integer n)))
list_takes ts i n k e h limits = value_taken ts i k (integer n) e h limits

-- the element of a list that comes after so many
pub element_there : (ts : List Tree) (k : ℕ) (v : Tree) → slice_get ts k ≡ Some v → index_of (list_of ts) (integer (pos (suc k))) ≡ Ok v
element_there ts k v h = ap (λ us. or_range (slice_get us k) (λ t. Ok t)) (trees_of-elements_of ts) ∙ ap (λ o. or_range o (λ t. Ok t)) h

-- an integer that is written out
pub literal_leaf : (variables : List ℕ → Option Tree) {i : ℤ} → GivesLeafInteger variables (literal (Integer i)) i
literal_leaf variables n m z = literal_gives variables z

-- a variable that holds an integer
pub variable_leaf : (variables : List ℕ → Option Tree) {name : List ℕ} {i : ℤ} → variables (folded name) ≡ Some (integer i) → GivesLeafInteger variables (variable name) i
variable_leaf variables h n m z = variable_gives variables z h

-- what follows from two facts of an answer
pub map_both : {A : Type 0} {P Q R : A → Type 0} (r : Option A) → ((x : A) → P x → Q x → R x) → IfSome r P → IfSome r Q → IfSome r R
map_both None f g h = tt
map_both (Some x) f g h = f x g h

-- an index takes a tick before those of its base and of its place
pub part_gives : (variables : List ℕ → Option Tree) {base place : Expr} {x v : Tree} {i : ℤ} {n n' n'' m : ℕ} → (0 < n) × (n' ≡ n - 1) → GivesValue variables n' base x n'' → GivesInteger variables n'' place i m → index_of x (integer i) ≡ Ok v → GivesValue variables n (index base place) v m
part_gives variables z f g r = λ c s e. begins z.0 (applies (element_then (rw z.1 at f c s e) no_more refl) (element_then (g _ s e) no_more refl) (index_is (ap answers r))) refl

-- an operator takes a tick before those of its operands
pub values_give : (variables : List ℕ → Option Tree) {op : BinaryOperator} {a b : Expr} {x y z : Tree} {n n' n'' m : ℕ} → (0 < n) × (n' ≡ n - 1) → GivesValue variables n' a x n'' → GivesValue variables n'' b y m → binary_of op x y ≡ Ok z → GivesValue variables n (binary op a b) z m
values_give variables t f g h = λ c s e. begins t.0 (applies (element_then (rw t.1 at f c s e) (element_then (g c s e) no_more refl) refl) no_more (binary_is (ap answers h))) refl

-- a literal takes a tick and gives its value
pub literal_told : (variables : List ℕ → Option Tree) {l : Literal} {n n' : ℕ} → (0 < n) × (n' ≡ n - 1) → GivesValue variables n (literal l) (literal_value l) n'
literal_told variables z = λ c s e. rw z.1 (begins z.0 (applies no_more no_more literal_is) refl)

-- an operator between two that take one tick each takes three
pub leaf_values_give : (variables : List ℕ → Option Tree) {op : BinaryOperator} {a b : Expr} {x y z : Tree} {n m : ℕ} → GivesLeafValue variables a x → GivesLeafValue variables b y → binary_of op x y ≡ Ok z → (2 < n) × (m ≡ n - 3) → GivesValue variables n (binary op a b) z m
leaf_values_give variables {n = n} {m = m} f g h t = values_give variables (omega (arith, t.0), refl) (f (n - 1) (n - 1 - 1) (omega (arith, t.0), refl)) (g (n - 1 - 1) m (omega (arith, t.0), omega (arith, t.0, t.1))) h
