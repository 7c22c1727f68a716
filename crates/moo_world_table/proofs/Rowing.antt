-- Rows made along a walk down are those that the tree of parents asks for.
use Rattle.std.proofs.Common.{◌≡◌, ◌≢◌, ℕ, zero, suc, ◌+◌, ◌<◌, List, [], ◌∷◌, Option, Some, None, Bool, true, false, cond, eqb, refl, sym, ◌∙◌, ap, subst, ⊎_elim, arith, length, get_or, set, map, ltb}
use Rattle.std.specs.List.{range_with_len, list_any, count_by, All}
use Rattle.std.proofs.lemmas.List.{get_or-map, length-map, length-append, get_or_default, same_lists, length-set, get_or-set_same, get_or-set_other}
use Rattle.std.proofs.lemmas.List.FromFn.{get_or-range_with_len, length-range_with_len, fill_by_all}
use Rattle.std.proofs.lemmas.List.Folds.{list_any_at}
use Rattle.std.proofs.lemmas.List.Elements.{All-head, All-tail}
use Rattle.std.proofs.lemmas.Bool.{cases_Bool, cases_lt, eqb-true, eqb-false, or_cases, cases_eq, false≢true, both_ways, lt-ltb, le-ltb}
use Rattle.moo_world_tree.specs.Forest.{Links, above_of, ancestors, IsForest, IsWayUp, is_within}
use Rattle.moo_world_tree.specs.Walk.{met, step_at, IsWalkDown}
use Rattle.moo_world_tree.specs.declared.walk.Step.{Step}
use Rattle.moo_world_tree.proofs.Counting.{counted_if_any}
use Rattle.moo_world_tree.proofs.Climbing.{way_up_is_ancestors}
use Rattle.moo_world_tree.proofs.Dissolving.{above_apart}
use Rattle.moo_world_tree.proofs.Walking.{any_counted, counts_at, node_met}
use Rattle.moo_world_object.specs.Objects.{Object}
use Rattle.moo_world_object.specs.Cells.{Cell, key_of}
use Rattle.moo_world_table.specs.World.{object_of, thing_of, fitted_over, fitted_along, with_cells, refitted_object, refitted, has_clash, is_crowded, crowds, keys_along, keys_defined_on, definitions, most}
use Rattle.moo_world_table.specs.Steps.{AreFitted, with_rows, is_crowded_by}
use Rattle.moo_world_table.proofs.Refitting.{all_fail, passes, fails, cells_stay}

-- what a walk meets is within the node that it begins with
pub walked_within : (tree : List Links) (x : ℕ) (walk : List Step) → IsWalkDown tree x walk → (k : ℕ) → k < length walk → is_within tree (step_at walk k).node x ≡ true
walked_within tree x walk w k h =
    let many = length-map walk (λ (s : Step). s.node) in
    let counted = counts_at (met walk) k (omega (arith, many)) in
    let at = node_met walk k h in
    let some : 0 < count_by (eqb (step_at walk k).node) (met walk) = subst (λ n. 0 < count_by (eqb n) (met walk)) at counted in
    let once = w.once (step_at walk k).node in
    ⊎_elim (λ e. e) (λ e. absurd (let none : count_by (eqb (step_at walk k).node) (met walk) ≡ 0 = once ∙ (rw e refl) in omega (arith, none, some)))
    (cases_Bool (is_within tree (step_at walk k).node x))

pub walk_lists : (tree : List Links) (x : ℕ) (walk : List Step) → IsWalkDown tree x walk → (y : ℕ) → list_any (eqb y) (met walk) ≡ is_within tree y x
walk_lists tree x walk w y =
    let once = w.once y in
    ⊎_elim
    (λ e. rw e (counted_if_any y (met walk) (let one : count_by (eqb y) (met walk) ≡ 1 = once ∙ (rw e refl) in omega (arith, one))))
    (λ e. rw e (⊎_elim (λ on. absurd (let some = any_counted y (met walk) on in let none : count_by (eqb y) (met walk) ≡ 0 = once ∙ (rw e refl) in omega (arith, some, none))) (λ off. off) (cases_Bool (list_any (eqb y) (met walk)))))
    (cases_Bool (is_within tree y x))

-- later on it meets others than the first
pub later_is_other : (tree : List Links) (x : ℕ) (walk : List Step) → IsForest tree → IsWalkDown tree x walk → (i : ℕ) → 0 < i → i < length walk → (step_at walk i).node ≢ x
later_is_other tree x walk f w i some h same =
    let before = w.follows i some h in
    let up : above_of tree x ≡ Some (step_at walk (step_at walk i).from).node = ap (above_of tree) (sym same) ∙ w.linked i some h in
    both_ways (is_within tree (step_at walk (step_at walk i).from).node x) (above_apart tree f x (step_at walk (step_at walk i).from).node up)
    (walked_within tree x walk w (step_at walk i).from (omega (arith, before)))

ltb_shifted : (a b n m : ℕ) → m ≡ b + n → ltb (a + n) m ≡ ltb a b
ltb_shifted a b n m is = ⊎_elim
    (λ low. lt-ltb (a + n) m (omega (arith, is, low)) ∙ sym (lt-ltb a b low))
    (λ past. le-ltb (a + n) m (omega (arith, is, past)) ∙ sym (le-ltb a b past))
    (cases_lt a b)

with_cells_twice : (o : Option Object) (a b : List Cell) → with_cells (with_cells o a) b ≡ with_cells o b
with_cells_twice None a b = refl
with_cells_twice (Some o) a b = refl

pub length_rows : (objects : List (Option Object)) (ys : List ℕ) (rows : List (List Cell)) → length (with_rows objects ys rows) ≡ length objects
length_rows objects [] rows = refl
length_rows objects (y ∷ ys) [] = refl
length_rows objects (y ∷ ys) (row ∷ rows) = length-set (with_rows objects ys rows) y (with_cells (object_of (with_rows objects ys rows) y) row) ∙ length_rows objects ys rows

-- the object at each number once the rows are put in place
pub rows_put : (objects : List (Option Object)) (f : ℕ → List Cell) (ys : List ℕ) → All (λ y. y < length objects) ys → (y : ℕ) →
    object_of (with_rows objects ys (map f ys)) y ≡ cond (list_any (eqb y) ys) (with_cells (object_of objects y) (f y)) (object_of objects y)
rows_put objects f [] all y = refl
rows_put objects f (z ∷ ys) all y =
    let rest = with_rows objects ys (map f ys) in
    let low : z < length objects = All-head (λ k. k < length objects) z ys all in
    let tail = All-tail (λ k. k < length objects) z ys all in
    let len = length_rows objects ys (map f ys) in
    ⊎_elim
    (λ e.
    let same = eqb-true y z e in
    let there = rows_put objects f ys tail z in
    let twice : with_cells (object_of rest z) (f z) ≡ with_cells (object_of objects z) (f z) =
    ap (λ o. with_cells o (f z)) there ∙ ⊎_elim (λ on. rw on (with_cells_twice (object_of objects z) (f z) (f z))) (λ off. rw off refl) (cases_Bool (list_any (eqb z) ys)) in
    rw e (ap (object_of (set rest z (with_cells (object_of rest z) (f z)))) same ∙ get_or-set_same rest z (with_cells (object_of rest z) (f z)) None (omega (arith, low, len)) ∙ twice ∙
    ap (λ k. with_cells (object_of objects k) (f k)) (sym same)))
    (λ e. rw e (get_or-set_other rest z y (with_cells (object_of rest z) (f z)) None (eqb-false y z e) ∙ rows_put objects f ys tail y))
    (cases_Bool (eqb y z))

-- what is not within x has the cells that fitting gives it, and no two of one name, nor too many
pub record IsFittedOutside (objects : List (Option Object)) (tree : List Links) (x : ℕ) : Type 0 where
  pub fitted : (y : ℕ) → is_within tree y x ≡ false → fitted_along objects (y ∷ ancestors tree y) ≡ (thing_of objects y).cells
  pub once : (y : ℕ) → is_within tree y x ≡ false → has_clash objects tree y ≡ false
  pub roomy : (y : ℕ) → is_within tree y x ≡ false → is_crowded objects tree y ≡ false

-- another tree, in which only what is above x may differ
pub record IsRejoined (tree other : List Links) (x : ℕ) : Type 0 where
  pub forest : IsForest other
  pub above : (y : ℕ) → y ≢ x → above_of other y ≡ above_of tree y
  pub apart : (y : ℕ) → is_within tree y x ≡ false → ancestors other y ≡ ancestors tree y

-- the row of an object under a tree
abbrev pub row_for : List (Option Object) → List Links → ℕ → List Cell
row_for objects tree y = fitted_along objects (y ∷ ancestors tree y)

module _ (objects : List (Option Object)) (tree other : List Links) (x : ℕ) (walk : List Step) (f : IsForest tree) (r : IsRejoined tree other x) (w : IsWalkDown tree x walk) where
  rows_up_to : (top : List Cell) (rows : List (List Cell)) → top ≡ row_for objects other x → AreFitted objects walk top (length walk) rows → (n i : ℕ) → i < n → i < length walk →
      get_or rows i [] ≡ row_for objects other (step_at walk i).node
  rows_up_to top rows is a zero i h low = absurd (omega arith)
  rows_up_to top rows is a (suc n) i h low = ⊎_elim
      (λ e. rw e (a.first ∙ is ∙ ap (row_for objects other) (sym w.first)))
      (λ ne.
      let some : 0 < i = omega (arith, ne) in
      let before = w.follows i some low in
      let node = (step_at walk i).node in
      let p = (step_at walk (step_at walk i).from).node in
      let rest = rows_up_to top rows is a n (step_at walk i).from (omega (arith, before)) (omega (arith, before)) in
      let up : above_of other node ≡ Some p = r.above node (later_is_other tree x walk f w i some low) ∙ w.linked i some low in
      let whole = way_up_is_ancestors other r.forest.exact node (p ∷ ancestors other p) (up, r.forest.rooted p) in
      a.fitted i some low ∙ ap (fitted_over node (object_of objects node)) rest ∙ ap (λ ys. fitted_along objects (node ∷ ys)) (sym whole))
      (cases_eq i 0)

  pub rows_are : (top : List Cell) (rows : List (List Cell)) → top ≡ row_for objects other x → AreFitted objects walk top (length walk) rows → rows ≡ map (row_for objects other) (met walk)
  rows_are top rows is a =
      let many = length-map walk (λ (s : Step). s.node) in
      let made = length-map (met walk) (row_for objects other) in
      same_lists rows (map (row_for objects other) (met walk)) (omega (arith, many, made, a.many))
      (λ k d h.
      let low : k < length walk = omega (arith, a.many) in
      get_or_default rows k d [] h ∙ rows_up_to top rows is a (length walk) k low low ∙ ap (row_for objects other) (sym (node_met walk k low)) ∙
      sym (get_or-map (row_for objects other) (met walk) k 0 d (omega (arith, many))))

  -- the rows put in place fit the objects to the other tree
  pub rows_fit : length tree ≡ length objects → ((y : ℕ) → is_within tree y x ≡ true → y < length objects) → IsFittedOutside objects tree x → (top : List Cell) (rows : List (List Cell)) → top ≡ row_for objects other x →
      AreFitted objects walk top (length walk) rows → with_rows objects (met walk) rows ≡ refitted objects other
  rows_fit many inside outside top rows is a =
      let each = rows_are top rows is a in
      ap (with_rows objects (met walk)) each ∙
      fill_by_all (refitted_object objects other) (with_rows objects (met walk) (map (row_for objects other) (met walk))) (length objects) None (length_rows objects (met walk) (map (row_for objects other) (met walk)))
      (λ y h.
      rows_put objects (row_for objects other) (met walk) members y ∙ ap (λ b. cond b (with_cells (object_of objects y) (row_for objects other y)) (object_of objects y)) (walk_lists tree x walk w y) ∙
      ⊎_elim
      (λ e. rw e refl)
      (λ e.
      let same = r.apart y e in
      let cells = ap (λ ys. fitted_along objects (y ∷ ys)) same ∙ outside.fitted y e in
      rw e (sym (ap (with_cells (object_of objects y)) cells ∙ cells_stay (object_of objects y))))
      (cases_Bool (is_within tree y x)))
    where
      members : All (λ y. y < length objects) (met walk)
      members k d h =
          let n = length-map walk (λ (s : Step). s.node) in
          let low : k < length walk = omega (arith, n) in
          let at = get_or_default (met walk) k d 0 h ∙ node_met walk k low in
          subst (λ y. y < length objects) (sym at) (inside (step_at walk k).node (walked_within tree x walk w k low))

  -- a test along the walk is one of all objects, if those outside fail it
  walk_tested : (g u : ℕ → Bool) → ((y : ℕ) → is_within tree y x ≡ true → y < length objects) → ((y : ℕ) → is_within tree y x ≡ true → g y ≡ u y) → ((y : ℕ) → is_within tree y x ≡ false → u y ≡ false) →
      list_any g (met walk) ≡ list_any u (range_with_len 0 (length objects))
  walk_tested g u inside same none = ⊎_elim
      (λ e.
      let found = passes g (met walk) e in
      let within = sym (walk_lists tree x walk w found.0) ∙ found.1 in
      let low = inside found.0 within in
      let len = length-range_with_len 0 (length objects) in
      e ∙ sym (list_any_at u (range_with_len 0 (length objects)) found.0 0 (omega (arith, len))
      (let at = get_or-range_with_len 0 (length objects) found.0 0 low in ap u (at ∙ omega arith) ∙ sym (same found.0 within) ∙ found.2)))
      (λ e. e ∙ sym (all_fail u (range_with_len 0 (length objects)) (λ y here. ⊎_elim
      (λ within. sym (same y within) ∙ fails g (met walk) y e (walk_lists tree x walk w y ∙ within))
      (none y)
      (cases_Bool (is_within tree y x)))))
      (cases_Bool (list_any g (met walk)))

  -- what x and its descendants gain and lose in definitions
  module _ (gained lost : ℕ) (new : length (keys_along objects (ancestors other x)) ≡ gained) (old : length (keys_along objects (ancestors tree x)) ≡ lost) where
    many_on : (y : ℕ) (way : List ℕ) → length (keys_along objects (y ∷ way)) ≡ length (keys_defined_on objects y) + length (keys_along objects way)
    many_on y way = length-append (keys_defined_on objects y) (keys_along objects way)

    counted_at : (ys : List ℕ) → IsWayUp tree x ys → length (keys_along objects (x ∷ ancestors other x)) + lost ≡ length (keys_along objects (x ∷ ys)) + gained
    counted_at ys way =
        let same = ap (λ zs. length (keys_along objects zs)) (way_up_is_ancestors tree f.exact x ys way) in
        let one = many_on x (ancestors other x) in
        let two = many_on x ys in
        omega (arith, one, two, same, new, old)

    counted_along : (y : ℕ) (ys : List ℕ) → IsWayUp tree y ys → list_any (eqb x) (y ∷ ys) ≡ true → length (keys_along objects (y ∷ ancestors other y)) + lost ≡ length (keys_along objects (y ∷ ys)) + gained
    counted_along y [] way on = ⊎_elim
        (λ e. let same = eqb-true x y e in subst (λ z. length (keys_along objects (z ∷ ancestors other z)) + lost ≡ length (keys_along objects (z ∷ [])) + gained) same (counted_at [] (subst (λ z. IsWayUp tree z []) (sym same) way)))
        (λ later. absurd (false≢true later))
        (or_cases (eqb x y) false on)
    counted_along y (u ∷ us) way on = ⊎_elim
        (λ same. subst (λ z. length (keys_along objects (z ∷ ancestors other z)) + lost ≡ length (keys_along objects (z ∷ u ∷ us)) + gained) (sym same) (counted_at (u ∷ us) (subst (λ z. IsWayUp tree z (u ∷ us)) same way)))
        (λ ne.
        let later = ⊎_elim (λ e. absurd (ne (sym (eqb-true x y e)))) (λ h. h) (or_cases (eqb x y) (list_any (eqb x) (u ∷ us)) on) in
        let rest = counted_along u us way.1 later in
        let up : above_of other y ≡ Some u = r.above y ne ∙ way.0 in
        let whole = ap (λ zs. length (keys_along objects zs)) (way_up_is_ancestors other r.forest.exact y (u ∷ ancestors other u) (up, r.forest.rooted u)) in
        let one = many_on y (ancestors other y) in
        let two = many_on y (u ∷ us) in
        omega (arith, rest, whole, one, two))
        (cases_eq y x)

    -- who would have too many, by what each has now
    pub crowd_tested : IsFittedOutside objects tree x → ((y : ℕ) → map key_of (thing_of objects y).cells ≡ definitions objects tree y) → ((y : ℕ) → is_within tree y x ≡ true → y < length objects) →
        list_any (is_crowded_by objects gained lost) (met walk) ≡ crowds objects other
    crowd_tested outside exact inside = walk_tested (is_crowded_by objects gained lost) (is_crowded objects other) inside
        (λ y on.
        let has = sym (length-map (thing_of objects y).cells key_of) ∙ ap length (exact y) in
        let many = counted_along y (ancestors tree y) (f.rooted y) on in
        ltb_shifted most (length (definitions objects other y)) lost (length (thing_of objects y).cells + gained) (omega (arith, has, many)))
        (λ y off. ap (λ ys. ltb most (length (keys_along objects (y ∷ ys)))) (r.apart y off) ∙ outside.roomy y off)
