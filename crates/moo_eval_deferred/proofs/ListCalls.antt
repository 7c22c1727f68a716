-- Lists that functions on lists make.
use Rattle.std.proofs.Common.{◌≡◌, ℕ, ℤ, zero, suc, ◌+◌, ◌-◌, ◌≤◌, max, List, [], ◌∷◌, ◌++◌, length, Option, Some, None, Result, Ok, Err, IfSome, true, refl, ap, sym, arith}
use Rattle.std.specs.Prelude.{insert, remove, slice_set, position, is_some, IsTrue}
use Rattle.moo_value.specs.declared.value.Value.{Value}
use Rattle.moo_value.specs.Tree.{Tree, Elements, integer, list, list_of, elements_of, trees_of}
use Rattle.moo_value.specs.TreeCode.{trees_of-elements_of, elements_of-trees_of}
use Rattle.moo_value.specs.View.{tree}
use Rattle.moo_value.specs.Size.{IsWithinLimits, weight, depth, total_weight, greatest_depth}
use Rattle.moo_value.specs.declared.error_code.ErrorCode.TheVariants.{Quota}
use Rattle.moo_builtin_operator.specs.Assignment.{before_place}
use Rattle.moo_builtin_operator.specs.Answer.{limited}
use Rattle.moo_builtin_operator.specs.Places.{or_range}
use Rattle.moo_eval_access.specs.Bounds.{IsWithin}
use Rattle.moo_eval_access.proofs.Bounded.{chosen, set_weight, set_depth}
use Rattle.moo_syntax_function.specs.declared.function.Function.{Function}
use Rattle.moo_syntax_function.specs.declared.function.Function.TheVariants.{ListAppend, ListInsert, ListSet, ListDelete, SetAdd, SetRemove}
use Rattle.moo_builtin_operator.specs.declared.fault.OperationFault.{OperationFault}
use Rattle.moo_builtin_operator.specs.declared.fault.OperationFault.TheVariants.{Raise, Memory}
use Rattle.moo_builtin_operator.specs.Truth.{equal}
use Rattle.moo_builtin_operator.proofs.Lawful.{limited_within}
use Rattle.moo_builtin_value.specs.Calls.{plain_answer, GivesSome}
use Rattle.moo_builtin_value.specs.Lists.{brought_to, put_in, with_member, without_found, set_at, delete_at, taken_out}
use Rattle.moo_eval_deferred.specs.ListCall.{MakesList, appends, inserts, appends_at, inserts_at, adds, sets, deletes, removes, HasList, HasPlace, Takes, value_of_call}

insert_last : (ts : List Tree) (t : Tree) → insert ts (length ts) t ≡ ts ++ t ∷ []
insert_last [] t = refl
insert_last (u ∷ ts) t = ap (◌∷◌ u) (insert_last ts t)

-- a list with one more within the limits
pub append_has : (ts : List Tree) (t : Tree) → IsWithinLimits (list_of (ts ++ t ∷ [])) → HasList ListAppend (list_of ts ∷ t ∷ [])
append_has ts t h = (list_of (ts ++ t ∷ []), appends (rw (trees_of-elements_of ts, insert_last ts t) (limited_within _ h)))

pub insert_has : (ts : List Tree) (t : Tree) → IsWithinLimits (list_of (t ∷ ts)) → HasList ListInsert (list_of ts ∷ t ∷ [])
insert_has ts t h = (list_of (t ∷ ts), inserts (rw (trees_of-elements_of ts) (limited_within _ h)))

-- a list with one more at a place
insert_lighter : (ts : List Tree) (k : ℕ) (t : Tree) → total_weight (elements_of (insert ts k t)) ≤ weight t + total_weight (elements_of ts)
insert_lighter [] zero t = omega arith
insert_lighter [] (suc k) t = omega arith
insert_lighter (u ∷ ts) zero t = omega arith
insert_lighter (u ∷ ts) (suc k) t = omega (arith, insert_lighter ts k t)

insert_shallower : (ts : List Tree) (k : ℕ) (t : Tree) → greatest_depth (elements_of (insert ts k t)) ≤ greatest_depth (elements_of (t ∷ ts))
insert_shallower [] zero t = omega arith
insert_shallower [] (suc k) t = omega arith
insert_shallower (u ∷ ts) zero t = omega arith
insert_shallower (u ∷ ts) (suc k) t = omega (arith, insert_shallower ts k t)

placed_within : (ts : List Tree) (k : ℕ) (t : Tree) → IsWithinLimits (list_of (t ∷ ts)) → put_in ts k t ≡ Ok (list_of (insert ts k t))
placed_within ts k t h = limited_within _ (record { weight = omega (arith, h.weight, insert_lighter ts k t); depth = omega (arith, h.depth, insert_shallower ts k t) })

pub append_at_has : (ts : List Tree) (t : Tree) (i : ℤ) → IsWithinLimits (list_of (t ∷ ts)) → HasList ListAppend (list_of ts ∷ t ∷ integer i ∷ [])
append_at_has ts t i h = let k = brought_to i (length ts) in (list_of (insert ts k t), appends_at (rw (trees_of-elements_of ts) (placed_within ts k t h)))

pub insert_at_has : (ts : List Tree) (t : Tree) (i : ℤ) → IsWithinLimits (list_of (t ∷ ts)) → HasList ListInsert (list_of ts ∷ t ∷ integer i ∷ [])
insert_at_has ts t i h = let k = brought_to i (length ts + 1) - 1 in (list_of (insert ts k t), inserts_at (rw (trees_of-elements_of ts) (placed_within ts k t h)))

member_has : (ts : List Tree) (t : Tree) (found : Option ℕ) → IsWithinLimits (list_of (ts ++ t ∷ [])) → position (equal t) ts ≡ found → (w : Tree) × (with_member ts t ≡ Ok w)
member_has ts t None h e = (list_of (ts ++ t ∷ []), rw (e, insert_last ts t) (limited_within _ h))
member_has ts t (Some k) h e = (list_of ts, rw e refl)

pub add_has : (ts : List Tree) (t : Tree) → IsWithinLimits (list_of (ts ++ t ∷ [])) → HasList SetAdd (list_of ts ∷ t ∷ [])
add_has ts t h = let p = member_has ts t _ h refl in (p.0, adds (rw (trees_of-elements_of ts) p.1))

-- a list with an element replaced
pub set_has : (ts : List Tree) (i : ℤ) (t : Tree) → Takes ts i t → HasList ListSet (list_of ts ∷ t ∷ integer i ∷ [])
set_has ts i t (k, p, h) =
    let made : set_at (trees_of (elements_of ts)) i t ≡ Ok (list_of (slice_set ts k t)) = rw (trees_of-elements_of ts, p) (limited_within _ h) in
    (list_of (slice_set ts k t), sets made)

-- a list with one less
remove_lighter : (ts : List Tree) (k : ℕ) → total_weight (elements_of (remove ts k)) ≤ total_weight (elements_of ts)
remove_lighter [] zero = omega arith
remove_lighter [] (suc k) = omega arith
remove_lighter (t ∷ ts) zero = omega arith
remove_lighter (t ∷ ts) (suc k) = omega (arith, remove_lighter ts k)

remove_shallower : (ts : List Tree) (k : ℕ) → greatest_depth (elements_of (remove ts k)) ≤ greatest_depth (elements_of ts)
remove_shallower [] zero = omega arith
remove_shallower [] (suc k) = omega arith
remove_shallower (t ∷ ts) zero = omega arith
remove_shallower (t ∷ ts) (suc k) = omega (arith, remove_shallower ts k)

removed_within : (ts : List Tree) (k : ℕ) → IsWithinLimits (list_of ts) → taken_out ts k ≡ Ok (list_of (remove ts k))
removed_within ts k h = limited_within _ (record { weight = omega (arith, h.weight, remove_lighter ts k); depth = omega (arith, h.depth, remove_shallower ts k) })

pub delete_has : (ts : List Tree) (v : Tree) → HasPlace ts v → IsWithinLimits (list_of ts) → HasList ListDelete (list_of ts ∷ v ∷ [])
delete_has ts v (i, k, e, p) h =
    let made : delete_at (trees_of (elements_of ts)) i ≡ Ok (list_of (remove ts k)) = rw (trees_of-elements_of ts, p) (removed_within ts k h) in
    rw e (list_of (remove ts k), deletes made)

found_has : (ts : List Tree) (found : Option ℕ) → IsWithinLimits (list_of ts) → (w : Tree) × (without_found ts found ≡ Ok w)
found_has ts None h = (list_of ts, refl)
found_has ts (Some k) h = (list_of (remove ts k), removed_within ts k h)

pub remove_has : (ts : List Tree) (t : Tree) → IsWithinLimits (list_of ts) → HasList SetRemove (list_of ts ∷ t ∷ [])
remove_has ts t h = let p = found_has ts (position (equal t) ts) h in (p.0, removes (rw (trees_of-elements_of ts) p.1))

pub some_there : (o : Option ℕ) → IsTrue (is_some o) → (k : ℕ) × (o ≡ Some k)
some_there None h = absurd cc
some_there (Some k) h = (k, refl)

-- the answer of such a function
pub answer_is : {f : Function} {args : List Tree} {w : Tree} → MakesList f args w → plain_answer f 0 args ≡ Some (Ok w)
answer_is (appends e) = ap Some e
answer_is (inserts e) = ap Some e
answer_is (appends_at e) = ap Some e
answer_is (inserts_at e) = ap Some e
answer_is (adds e) = ap Some e
answer_is (sets e) = ap Some e
answer_is (deletes e) = ap Some e
answer_is (removes e) = ap Some e

-- what the program computes is that list
pub made_is : {f : Function} {args : List Tree} {r : Result Value OperationFault} (v : Value) → HasList f args → GivesSome f args (Some r) (plain_answer f 0 args) → r ≡ Ok v → MakesList f args (tree v)
made_is v (w, h) g is = let q = rw (answer_is h, is) at g in let same : w ≡ tree v = cc in rw (sym same) h

pub lacks_memory : {f : Function} {args : List Tree} {r : Result Value OperationFault} (fault : OperationFault) → HasList f args → GivesSome f args (Some r) (plain_answer f 0 args) → r ≡ Err fault → fault ≡ Memory
lacks_memory {args = args} (Raise e) (w, h) g is = let q = rw (answer_is h, is) at g in absurd cc
lacks_memory Memory h g is = refl

-- the value of the call is that list
pub value_is : {f : Function} {args : List Tree} {w : Tree} → MakesList f args w → value_of_call f args ≡ w
value_is h = rw (answer_is h) refl

pub call_makes : (f : Function) (args : List Tree) → HasList f args → MakesList f args (value_of_call f args)
call_makes f args (w, h) = rw (value_is h) h

-- the list that is made is no heavier than its two arguments together, and no deeper than one with the second as an element more
limited_is : (t w : Tree) → limited t ≡ Ok w → t ≡ w
limited_is t w h = chosen _ t w _ h

module _ (es : Elements) (t w : Tree) where
  back : elements_of (trees_of es) ≡ es
  back = elements_of-trees_of es

  inserted_bounds : (k : ℕ) → put_in (trees_of es) k t ≡ Ok w → IsWithin (weight (list es) + weight t) (max (depth (list es)) (depth t + 1)) w
  inserted_bounds k h = rw (← limited_is (list_of (insert (trees_of es) k t)) w h)
      (record { weighs = omega (arith, insert_lighter (trees_of es) k t, ap total_weight back); nests = omega (arith, insert_shallower (trees_of es) k t, ap greatest_depth back) })

  removed_bounds : (k : ℕ) → taken_out (trees_of es) k ≡ Ok w → IsWithin (weight (list es) + weight t) (max (depth (list es)) (depth t + 1)) w
  removed_bounds k h = rw (← limited_is (list_of (remove (trees_of es) k)) w h)
      (record { weighs = omega (arith, remove_lighter (trees_of es) k, ap total_weight back); nests = omega (arith, remove_shallower (trees_of es) k, ap greatest_depth back) })

  same_bounds : list_of (trees_of es) ≡ w → IsWithin (weight (list es) + weight t) (max (depth (list es)) (depth t + 1)) w
  same_bounds h = rw (← h) (record { weighs = omega (arith, ap total_weight back); nests = omega (arith, ap greatest_depth back) })

  set_bounds : (found : Option ℕ) → or_range found (λ k. limited (list_of (slice_set (trees_of es) k t))) ≡ Ok w → IsWithin (weight (list es) + weight t) (max (depth (list es)) (depth t + 1)) w
  set_bounds None h = absurd cc
  set_bounds (Some k) h = rw (← limited_is (list_of (slice_set (trees_of es) k t)) w h)
      (record { weighs = omega (arith, set_weight (trees_of es) k t, ap total_weight back); nests = omega (arith, set_depth (trees_of es) k t, ap greatest_depth back) })

  deleted_bounds : (found : Option ℕ) → or_range found (taken_out (trees_of es)) ≡ Ok w → IsWithin (weight (list es) + weight t) (max (depth (list es)) (depth t + 1)) w
  deleted_bounds None h = absurd cc
  deleted_bounds (Some k) h = removed_bounds k h

  without_bounds : (found : Option ℕ) → without_found (trees_of es) found ≡ Ok w → IsWithin (weight (list es) + weight t) (max (depth (list es)) (depth t + 1)) w
  without_bounds None h = same_bounds (chosen true (list_of (trees_of es)) w Quota h)
  without_bounds (Some k) h = removed_bounds k h

  added_bounds : (found : Option ℕ) → position (equal t) (trees_of es) ≡ found → with_member (trees_of es) t ≡ Ok w → IsWithin (weight (list es) + weight t) (max (depth (list es)) (depth t + 1)) w
  added_bounds None e h = inserted_bounds (length (trees_of es)) (rw e at h)
  added_bounds (Some k) e h = same_bounds (chosen true (list_of (trees_of es)) w Quota (rw e at h))

makes_within : {f : Function} {es : Elements} {t w : Tree} {rest : List Tree} → MakesList f (list es ∷ t ∷ rest) w → IsWithin (weight (list es) + weight t) (max (depth (list es)) (depth t + 1)) w
makes_within {es = es} {t = t} {w = w} (appends e) = inserted_bounds es t w (length (trees_of es)) e
makes_within {es = es} {t = t} {w = w} (inserts e) = inserted_bounds es t w 0 e
makes_within {es = es} {t = t} {w = w} (appends_at {i = i} e) = inserted_bounds es t w (brought_to i (length (trees_of es))) e
makes_within {es = es} {t = t} {w = w} (inserts_at {i = i} e) = inserted_bounds es t w (brought_to i (length (trees_of es) + 1) - 1) e
makes_within {es = es} {t = t} {w = w} (adds e) = added_bounds es t w (position (equal t) (trees_of es)) refl e
makes_within {es = es} {t = t} {w = w} (sets {i = i} e) = set_bounds es t w (before_place i (length (trees_of es))) e
makes_within {es = es} {w = w} (deletes {i = i} e) = deleted_bounds es (integer i) w (before_place i (length (trees_of es))) e
makes_within {es = es} {t = t} {w = w} (removes e) = without_bounds es t w (position (equal t) (trees_of es)) e

-- so are bounds that are as great
pub made_within : (f : Function) (ts : List Tree) (t w : Tree) (rest : List Tree) (heaviest deepest : ℕ) → heaviest ≡ weight (list_of ts) + weight t → deepest ≡ max (depth (list_of ts)) (depth t + 1) → MakesList f (list_of ts ∷ t ∷ rest) w → IsWithin heaviest deepest w
made_within f ts t w rest heaviest deepest e d h = let b = makes_within h in record { weighs = omega (arith, e, b.weighs); nests = omega (arith, d, b.nests) }

-- and those of a call
pub call_within : (found : Option (ℕ × ℕ)) (f : Function) (args : List Tree) (v : Tree) → v ≡ value_of_call f args → HasList f args → IfSome found (λ b. (g : Function) (w : Tree) → MakesList g args w → IsWithin b.0 b.1 w) → IfSome found (λ b. IsWithin b.0 b.1 v)
call_within None f args v is has h = tt
call_within (Some b) f args v is has h = rw is (h f (value_of_call f args) (call_makes f args has))
