-- Bounds of containers that are rebuilt.
use Rattle.std.proofs.Common.{◌≡◌, ℕ, zero, suc, ◌+◌, ◌-◌, ◌≤◌, ◌<◌, max, ℤ, List, [], ◌∷◌, ◌++◌, length, take, drop, set, get_or, Bool, true, false, cond, Some, None, Option, IfSome, Ok, Err, IsTrue, sym, ap, subst, ◌∙◌, arith, length-append}
use Rattle.std.specs.Prelude.{is_ok, is_some, slice_range}
use Rattle.std.proofs.lemmas.List.{length-take, length-drop}
use Rattle.moo_value.specs.declared.error_code.ErrorCode.TheVariants.{Quota, InvalidArgument}
use Rattle.moo_value.specs.declared.value.Value.{Value}
use Rattle.moo_value.specs.Tree.{Tree, integer, string, list, list_of, trees_of}
use Rattle.moo_value.specs.TreeCode.{elements_of-trees_of}
use Rattle.moo_value.specs.Size.{weight, depth, list_weight, list_depth, IsWithinLimits}
use Rattle.moo_value.specs.Splice.{spliced}
use Rattle.moo_value.specs.View.{tree, trees}
use Rattle.moo_value.proofs.Lists.{list_weight-push, list_depth-push}
use Rattle.moo_value.proofs.Parts.{list_weight-take, list_weight-drop, list_depth-take, list_depth-drop}
use Rattle.moo_value.proofs.Replaced.{tree_in, list_weight-set, weight-le-list_weight, list_depth-set, list_depth-around}
use Rattle.moo_builtin_operator.specs.Answer.{limited}
use Rattle.moo_builtin_operator.specs.Places.{or_range}
use Rattle.moo_builtin_operator.specs.Assignment.{before_place, with_byte, with_index_of}
use Rattle.moo_builtin_operator.proofs.Lawful.{limited_within}
use Rattle.moo_builtin_operator.proofs.Replaced.{set_in_list}
use Rattle.moo_eval_access.specs.declared.target.Step as code_step
use Rattle.moo_eval_access.specs.Bounds.{IsWithin}
use Rattle.moo_eval_access.specs.Target.{with_part, rebuilt}
use Rattle.moo_eval_access.specs.SeenTarget.{places_of, steps_of}
use Rattle.moo_eval_access.proofs.Containers.{last_step}

-- the element that goes weighs no more than the list
pub old_weighs : (vs : List Value) (ts : List Tree) (i w : ℕ) (old : Value) → trees vs ≡ ts → i < length ts → old ≡ get_or vs i old → w ≡ list_weight ts → weight (tree old) ≤ w
old_weighs vs ts i w old is h at whole =
    let old_is : weight (tree old) ≡ weight (get_or ts i (tree old)) = ap weight (tree_in vs ts i old is h at) in
    omega (arith, old_is, whole, weight-le-list_weight ts i (tree old) h)

-- the bounds of the list with the element replaced
pub replaced_within : (vs : List Value) (ts : List Tree) (i w d heaviest deepest : ℕ) (old : Value) (v : Tree) → trees vs ≡ ts → i < length ts → old ≡ get_or vs i old → w ≡ list_weight ts → d ≡ list_depth ts
    → IsWithin heaviest deepest v → IsWithin (w - weight (tree old) + heaviest) (max d (deepest + 1)) (list_of (set ts i v))
replaced_within vs ts i w d heaviest deepest old v is h at whole deep bounded =
    let old_is : weight (tree old) ≡ weight (get_or ts i (tree old)) = ap weight (tree_in vs ts i old is h at) in
    let heavy : weight (list_of (set ts i v)) ≤ w - weight (tree old) + heaviest = omega (arith, old_is, whole, bounded.weighs, list_weight-set ts i v (tree old) h, weight-le-list_weight ts i (tree old) h) in
    let nested : depth (list_of (set ts i v)) ≤ max d (deepest + 1) = omega (arith, deep, bounded.nests, list_depth-set ts i v h, list_depth-around ts i (tree old) h) in
    record { weighs = heavy; nests = nested }

-- a list takes a value if it stays within the limits
pub list_takes : (ts : List Tree) (i : ℤ) (k n : ℕ) (v : Tree) → n ≡ length ts → Some k ≡ before_place i n → IsWithinLimits (list_of (set ts k v)) → with_index_of (list_of ts) (integer i) v ≡ Ok (list_of (set ts k v))
list_takes ts i k n v e p limits = set_in_list ts i k n v e p ∙ limited_within (list_of (set ts k v)) limits

-- what is given if a test passes
pub chosen : {A E : Type 0} (b : Bool) (t w : A) (e : E) → cond b (Ok t) (Err e) ≡ Ok w → t ≡ w
chosen true t w e h = cc
chosen false t w e h = absurd cc

pub set_weight : (ts : List Tree) (k : ℕ) (v : Tree) → list_weight (set ts k v) ≤ list_weight ts + weight v
set_weight [] zero v = omega arith
set_weight [] (suc k) v = omega arith
set_weight (t ∷ ts) zero v = omega arith
set_weight (t ∷ ts) (suc k) v = omega (arith, set_weight ts k v)

pub set_depth : (ts : List Tree) (k : ℕ) (v : Tree) → list_depth (set ts k v) ≤ max (list_depth ts) (depth v + 1)
set_depth [] zero v = omega arith
set_depth [] (suc k) v = omega arith
set_depth (t ∷ ts) zero v = omega arith
set_depth (t ∷ ts) (suc k) v = omega (arith, set_depth ts k v)

element_within : (o : Option ℕ) (ts : List Tree) (v w : Tree) → or_range o (λ k. limited (list_of (set ts k v))) ≡ Ok w → IsWithin (list_weight ts + weight v) (max (list_depth ts) (depth v + 1)) w
element_within None ts v w h = absurd cc
element_within (Some k) ts v w h =
    subst (IsWithin (list_weight ts + weight v) (max (list_depth ts) (depth v + 1))) (chosen _ (list_of (set ts k v)) w Quota h)
    (record { weighs = set_weight ts k v; nests = set_depth ts k v })

byte_weight : (s t : List ℕ) (k : ℕ) → weight (string (spliced s k (k + 1) t)) ≤ weight (string s) + weight (string t)
byte_weight s t k = let long : length (take k s ++ t ++ drop (k + 1) s) ≤ length s + length t = simp (length-append, length-take, length-drop) (omega arith) in omega (arith, long)

byte_within : (o : Option ℕ) (s t : List ℕ) (w : Tree) → or_range o (λ k. with_byte s k t) ≡ Ok w → IsWithin (weight (string s) + weight (string t)) 1 w
byte_within None s t w h = absurd cc
byte_within (Some k) s t w h =
    subst (IsWithin (weight (string s) + weight (string t)) 1) (chosen _ (string (spliced s k (k + 1) t)) w InvalidArgument h)
    (record { weighs = byte_weight s t k; nests = omega arith })

-- what a place takes has these bounds
pub taken_within : (x i v w : Tree) → with_index_of x i v ≡ Ok w → IsWithin (weight x + weight v) (max (depth x) (depth v + 1)) w
taken_within (string s) (integer i) (string t) w h = byte_within (before_place i (length s)) s t w h
taken_within (list es) (integer i) v w h =
    subst (λ fs. IsWithin (weight (list fs) + weight v) (max (depth (list fs)) (depth v + 1)) w) (elements_of-trees_of es)
    (element_within (before_place i (length (trees_of es))) (trees_of es) v w h)
taken_within _ _ _ w h = absurd cc

-- what is taken inside is taken, if what is outside takes all that has the bounds
pub all_taken : (all outer : List code_step.Step) (step : code_step.Step) (v w : Tree) → all ≡ outer ++ step ∷ [] → with_part (tree step.container) (places_of step.places) v ≡ Ok w → IsTrue (is_ok (rebuilt (steps_of outer) (Ok w))) → IsTrue (is_ok (rebuilt (steps_of all) (Ok v)))
all_taken all outer step v w e h k =
    let same : rebuilt (steps_of all) (Ok v) ≡ rebuilt (steps_of outer) (Ok w) =
    ap (λ s. rebuilt (steps_of s) (Ok v)) e ∙ ap (λ s. rebuilt s (Ok v)) (last_step outer step) ∙ ap (rebuilt (steps_of outer)) h in
    subst (λ r. IsTrue (is_ok r)) (sym same) k

pub on_some : {A : Type 0} {P Q : A → Type 0} (o : Option A) → IfSome o P → ((a : A) → P a → Q a) → IfSome o Q
on_some None h f = tt
on_some (Some a) h f = f a h

-- the bounds of a list with one more element
pub longer_within : (ts : List Tree) (t : Tree) (w d : ℕ) → w ≡ list_weight ts + weight t → d ≡ max (list_depth ts) (depth t + 1) → IsWithin w d (list_of (ts ++ t ∷ []))
longer_within ts t w d e f = record { weighs = omega (arith, e, list_weight-push ts t); nests = omega (arith, f, list_depth-push ts t) }

-- what holds of what is given
pub given : {A : Type 0} {P : A → Type 0} (o : Option A) → IfSome o P → true ≡ is_some o → (a : A) × P a
given None h e = absurd cc
given (Some a) h e = (a, h)

-- a part of a list is no heavier and no deeper than the list
pub part_bounds : (ts : List Tree) (low high w d : ℕ) → w ≡ list_weight ts → d ≡ list_depth ts → IsWithin w d (list_of (slice_range ts low high))
part_bounds ts low high w d e f = record {
  weighs = omega (arith, e, list_weight-take (high - low) (drop low ts), list_weight-drop low ts);
  nests = omega (arith, f, list_depth-take (high - low) (drop low ts), list_depth-drop low ts);
}
