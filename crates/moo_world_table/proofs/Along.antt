-- One change made along a walk down.
use Rattle.std.proofs.Common.{◌≡◌, ℕ, ◌<◌, ◌≤◌, ◌+◌, List, [], ◌∷◌, Option, None, false, cond, eqb, refl, sym, ◌∙◌, ap, subst, ⊎_elim, arith, length, set, map, IsSome}
use Rattle.std.specs.List.{list_any, All, count_by}
use Rattle.std.proofs.lemmas.List.{get_or-set_same, get_or-set_other, length-set, length-map, get_or-map, get_or_default, same_lists}
use Rattle.std.proofs.lemmas.List.Elements.{All-head, All-tail}
use Rattle.std.proofs.lemmas.Bool.{cases_Bool, eqb-true, eqb-false, eq-eqb}
use Rattle.moo_world_tree.specs.Forest.{Links, is_within}
use Rattle.moo_world_tree.specs.Walk.{met, IsWalkDown}
use Rattle.moo_world_tree.specs.declared.walk.Step.{Step}
use Rattle.moo_world_tree.proofs.Counting.{count-cons}
use Rattle.moo_world_tree.proofs.Walking.{node_met, any_counted}
use Rattle.moo_world_object.specs.Objects.{Object}
use Rattle.moo_world_table.specs.World.{object_of, IsJoined}
use Rattle.moo_world_table.specs.Steps.{changed_along}
use Rattle.moo_world_table.proofs.Joining.{walk_low}
use Rattle.moo_world_table.proofs.Rowing.{walk_lists}

-- none of them occurs twice
abbrev pub IsOnce : List ℕ → Type 0
IsOnce [] = Unit {0}
IsOnce (y ∷ ys) = (list_any (eqb y) ys ≡ false) × IsOnce ys

counted_once : (ys : List ℕ) → ((y : ℕ) → count_by (eqb y) ys ≤ 1) → IsOnce ys
counted_once [] few = tt
counted_once (y ∷ ys) few = (
  ⊎_elim
      (λ e. absurd (let some = any_counted y ys e in let all : count_by (eqb y) (y ∷ ys) ≡ 1 + count_by (eqb y) ys = head y in let one = few y in omega (arith, some, all, one)))
      (λ e. e)
      (cases_Bool (list_any (eqb y) ys)),
  counted_once ys (λ z. let one = few z in let more = tail z in omega (arith, one, more)),
)
  where
    head : (z : ℕ) → count_by (eqb z) (z ∷ ys) ≡ 1 + count_by (eqb z) ys
    head z = let same = eq-eqb z z refl in count-cons z z ys ∙ (rw same refl)

    tail : (z : ℕ) → count_by (eqb z) ys ≤ count_by (eqb z) (y ∷ ys)
    tail z = let more = count-cons z y ys in omega (arith, more)

-- a walk down meets nothing twice
pub walk_once : (tree : List Links) (x : ℕ) (walk : List Step) → IsWalkDown tree x walk → IsOnce (met walk)
walk_once tree x walk d = counted_once (met walk) few
  where
    few : (y : ℕ) → count_by (eqb y) (met walk) ≤ 1
    few y = let one = d.once y in ⊎_elim (λ e. let n : count_by (eqb y) (met walk) ≡ 1 = one ∙ (rw e refl) in omega (arith, n)) (λ e. let n : count_by (eqb y) (met walk) ≡ 0 = one ∙ (rw e refl) in omega (arith, n)) (cases_Bool (is_within tree y x))

module _ (f : Option Object → Option Object) where
  pub length_changed : (objects : List (Option Object)) (ys : List ℕ) → length (changed_along f objects ys) ≡ length objects
  length_changed objects [] = refl
  length_changed objects (y ∷ ys) = length_changed (set objects y (f (object_of objects y))) ys ∙ length-set objects y (f (object_of objects y))

  -- the object at each number after one change of each
  pub changed_at_each : (objects : List (Option Object)) (ys : List ℕ) → IsOnce ys → All (λ y. y < length objects) ys → (y : ℕ) →
      object_of (changed_along f objects ys) y ≡ cond (list_any (eqb y) ys) (f (object_of objects y)) (object_of objects y)
  changed_at_each objects [] once all y = refl
  changed_at_each objects (z ∷ ys) once all y =
      let next = set objects z (f (object_of objects z)) in
      let len = length-set objects z (f (object_of objects z)) in
      let low : z < length objects = All-head (λ n. n < length objects) z ys all in
      let tail = subst (λ n. All (λ q. q < n) ys) (sym len) (All-tail (λ n. n < length objects) z ys all) in
      changed_at_each next ys once.1 tail y ∙
      ⊎_elim
      (λ e.
      let same = eqb-true y z e in
      let here : object_of next y ≡ f (object_of objects y) = ap (object_of next) same ∙ get_or-set_same objects z (f (object_of objects z)) None low ∙ ap (λ n. f (object_of objects n)) (sym same) in
      let no_more : list_any (eqb y) ys ≡ false = ap (λ n. list_any (eqb n) ys) same ∙ once.0 in
      rw (e, no_more) here)
      (λ e. rw e (ap (λ o. cond (list_any (eqb y) ys) (f o) o) (get_or-set_other objects z y (f (object_of objects z)) None (eqb-false y z e))))
      (cases_Bool (eqb y z))

  -- a change of all objects within x is one of all objects, if it leaves the others as they are
  pub all_along : (objects : List (Option Object)) (tree : List Links) (x : ℕ) (walk : List Step) → IsWalkDown tree x walk → All (λ y. y < length objects) (met walk) →
      ((y : ℕ) → is_within tree y x ≡ false → f (object_of objects y) ≡ object_of objects y) → changed_along f objects (met walk) ≡ map f objects
  all_along objects tree x walk d members elsewhere =
      same_lists (changed_along f objects (met walk)) (map f objects) (length_changed objects (met walk) ∙ sym (length-map objects f))
      (λ y e h.
      let long = length_changed objects (met walk) in
      let low : y < length objects = omega (arith, long) in
      let mapped = length-map objects f in
      get_or_default (changed_along f objects (met walk)) y e None h ∙ changed_at_each objects (met walk) (walk_once tree x walk d) members y ∙
      ap (λ b. cond b (f (object_of objects y)) (object_of objects y)) (walk_lists tree x walk d y) ∙
      ⊎_elim (λ on. rw on refl) (λ off. rw off (sym (elsewhere y off))) (cases_Bool (is_within tree y x)) ∙
      sym (get_or_default (map f objects) y e None (omega (arith, mapped)) ∙ get_or-map f objects y None None low))

-- what a walk meets has a number that was given out
pub walk_members : (objects : List (Option Object)) (tree : List Links) → IsJoined objects tree → (x : ℕ) → IsSome (object_of objects x) → (walk : List Step) → IsWalkDown tree x walk →
    (new : List (Option Object)) → length new ≡ length objects → All (λ y. y < length new) (met walk)
walk_members objects tree f x valid walk d new same k e h =
    let n = length-map walk (λ (s : Step). s.node) in
    let small : k < length walk = omega (arith, n) in
    let low = walk_low objects tree f x valid walk d k small in
    let place = get_or_default (met walk) k e 0 h ∙ node_met walk k small in
    subst (λ y. y < length new) (sym place) (omega (arith, low, same))
