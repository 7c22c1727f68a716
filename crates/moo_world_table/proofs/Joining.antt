-- A walk down from an object whose parent changes, and the rows along it.
use Rattle.std.proofs.Common.{◌≡◌, ℕ, zero, suc, ◌+◌, ◌<◌, ◌≤◌, List, [], ◌∷◌, ◌++◌, Option, Some, None, true, false, eqb, refl, sym, ◌∙◌, ap, subst, ⊎_elim, arith, length, get_or, set, map, take, drop, IsSome}
use Rattle.std.specs.List.{list_any}
use Rattle.std.proofs.lemmas.List.{get_or_read, get_or_append_left, get_or_push, length_push, length-map, take-append-drop, take_at, drop_at, drop_more, append_assoc}
use Rattle.std.proofs.lemmas.Bool.{cases_lt, eqb-true, or_cases, false≢true}
use Rattle.moo_world_tree.specs.Forest.{Links, above_of, ancestors, climb, moved, is_within}
use Rattle.moo_world_tree.specs.Walk.{met, step_at, IsWalkDown}
use Rattle.moo_world_tree.specs.declared.walk.Step.{Step}
use Rattle.moo_world_tree.proofs.Climbing.{way_up_is_ancestors}
use Rattle.moo_world_tree.proofs.Walking.{node_met}
use Rattle.moo_world_object.specs.Objects.{Object}
use Rattle.moo_world_object.specs.Cells.{Cell, Key, key_of}
use Rattle.moo_world_table.specs.World.{World, object_of, thing_of, fitted_over, fitted_along, with_cells, cells_of, keys_along, has_twice, clashes, crowds, IsWellFormed, IsJoined}
use Rattle.moo_world_table.specs.Steps.{AreFitted, AreReady, with_rows, own_clash, is_crowded_by}
use Rattle.moo_world_table.specs.Changes.{would_loop}
use Rattle.moo_world_table.proofs.FittedRows.{own_exact, keys_fitted}
use Rattle.moo_world_table.proofs.Rowing.{row_for, rows_fit, crowd_tested, walked_within}
use Rattle.moo_world_table.proofs.Clashes.{clash_tested}
use Rattle.moo_world_table.proofs.Changing.{IsValidPlace, valid_within, joined_valid, outside_well_formed, rejoined, parent_cells, top_row}

module _ (objects : List (Option Object)) (tree : List Links) (f : IsJoined objects tree) (x : ℕ) (valid : IsSome (object_of objects x)) where
  -- what is within an object is one
  pub within_valid : (y : ℕ) → is_within tree y x ≡ true → IsSome (object_of objects y)
  within_valid y h = ⊎_elim
      (λ e. subst (λ n. IsSome (object_of objects n)) (eqb-true x y e) valid)
      (λ later. over (above_of tree y) refl later)
      (or_cases (eqb x y) (list_any (eqb x) (ancestors tree y)) h)
    where
      nothing_met : (n : ℕ) → climb n tree None ≡ []
      nothing_met zero = refl
      nothing_met (suc n) = refl

      over : (u : Option ℕ) → above_of tree y ≡ u → list_any (eqb x) (ancestors tree y) ≡ true → IsSome (object_of objects y)
      over None is on = absurd (false≢true (sym (ap (list_any (eqb x)) (ap (climb (length tree) tree) is ∙ nothing_met (length tree))) ∙ on))
      over (Some up) is on = joined_valid objects tree f y up is

  pub within_low : (y : ℕ) → is_within tree y x ≡ true → y < length objects
  within_low y h = valid_within objects y (within_valid y h)

  -- each object on a walk is valid
  pub walk_valid : (walk : List Step) → IsWalkDown tree x walk → (k : ℕ) → k < length walk → IsSome (object_of objects (step_at walk k).node)
  walk_valid walk w k h = within_valid (step_at walk k).node (walked_within tree x walk w k h)

  pub walk_low : (walk : List Step) → IsWalkDown tree x walk → (k : ℕ) → k < length walk → (step_at walk k).node < length objects
  walk_low walk w k h = valid_within objects (step_at walk k).node (walk_valid walk w k h)

module _ (w : World) (x : ℕ) (p : Option ℕ) (f : IsWellFormed w) (valid : IsSome (object_of w.objects x)) (p_valid : IsValidPlace w.objects p) (walk : List Step)
    (apart : would_loop w.inheritance x p ≡ false) (d : IsWalkDown w.inheritance x walk) where
  parent_once : (q : Option ℕ) → has_twice (map (λ (k : Key). k.1) (map key_of (cells_of w.objects q))) ≡ false
  parent_once None = refl
  parent_once (Some up) = ap (λ ks. has_twice (map (λ (k : Key). k.1) ks)) (f.stocked.exact_cells up) ∙ f.stocked.names_once up

  -- the names defined on x and below it against those of its new parent
  pub names_clash_is : list_any (own_clash w.objects (cells_of w.objects p)) (met walk) ≡ clashes w.objects (moved w.inheritance x p)
  names_clash_is =
      let r = rejoined w x p f valid p_valid apart in
      clash_tested w.objects w.inheritance (moved w.inheritance x p) x f.parents.forest r (cells_of w.objects p)
      (ap (map key_of) (parent_cells w x p f valid p_valid apart) ∙ keys_fitted w.objects (own_exact w f) (ancestors (moved w.inheritance x p) x))
      (parent_once p) f.stocked.names_once walk d (within_low w.objects w.inheritance f.parents x valid)
      (λ y off. ap (λ ys. has_twice (map (λ (k : Key). k.1) (keys_along w.objects (y ∷ ys)))) (r.apart y off) ∙ f.stocked.names_once y)

  -- the definitions above x: so many would go and so many come
  keys_above : (q : Option ℕ) → above_of w.inheritance x ≡ q → length (keys_along w.objects (ancestors w.inheritance x)) ≡ length (cells_of w.objects q)
  keys_above None is = ap (λ ys. length (keys_along w.objects ys)) (way_up_is_ancestors w.inheritance f.parents.forest.exact x [] is)
  keys_above (Some up) is =
      ap (λ ys. length (keys_along w.objects ys)) (way_up_is_ancestors w.inheritance f.parents.forest.exact x (up ∷ ancestors w.inheritance up) (is, f.parents.forest.rooted up)) ∙
      ap length (sym (f.stocked.exact_cells up)) ∙ length-map (thing_of w.objects up).cells key_of

  pub some_crowded_is : list_any (is_crowded_by w.objects (length (cells_of w.objects p)) (length (cells_of w.objects (above_of w.inheritance x)))) (met walk) ≡ crowds w.objects (moved w.inheritance x p)
  some_crowded_is =
      let tree = moved w.inheritance x p in
      crowd_tested w.objects w.inheritance tree x walk f.parents.forest (rejoined w x p f valid p_valid apart) d
      (length (cells_of w.objects p)) (length (cells_of w.objects (above_of w.inheritance x)))
      (ap length (sym (keys_fitted w.objects (own_exact w f) (ancestors tree x))) ∙ length-map (fitted_along w.objects (ancestors tree x)) key_of ∙ ap length (sym (parent_cells w x p f valid p_valid apart)))
      (keys_above (above_of w.inheritance x) refl)
      (outside_well_formed w x f) f.stocked.exact_cells (within_low w.objects w.inheritance f.parents x valid)

module _ (w : World) (x : ℕ) (p : Option ℕ) (f : IsWellFormed w) (valid : IsSome (object_of w.objects x)) (p_valid : IsValidPlace w.objects p) (walk : List Step) (rows : List (List Cell))
    (apart : would_loop w.inheritance x p ≡ false) (d : IsWalkDown w.inheritance x walk)
    (a : AreFitted w.objects walk (fitted_over (step_at walk 0).node (object_of w.objects (step_at walk 0).node) (cells_of w.objects p)) (length walk) rows) where
  top : fitted_over (step_at walk 0).node (object_of w.objects (step_at walk 0).node) (cells_of w.objects p) ≡ row_for w.objects (moved w.inheritance x p) x
  top = ap (λ n. fitted_over n (object_of w.objects n) (cells_of w.objects p)) d.first ∙ top_row w x p f valid p_valid apart

  pub rows_ready : AreReady w.objects (moved w.inheritance x p) walk rows
  rows_ready = record {
    many = a.many;
    within = walk_low w.objects w.inheritance f.parents x valid walk d;
    fit = rows_fit w.objects w.inheritance (moved w.inheritance x p) x walk f.parents.forest (rejoined w x p f valid p_valid apart) d f.parents.many (within_low w.objects w.inheritance f.parents x valid)
        (outside_well_formed w x f) (fitted_over (step_at walk 0).node (object_of w.objects (step_at walk 0).node) (cells_of w.objects p)) rows top a;
  }

-- the rows as the code made them
pub rows_made : (objects given : List (Option Object)) (walk lent : List Step) (p : Option ℕ) (rows : List (List Cell)) → given ≡ objects → lent ≡ walk →
    AreFitted given lent (fitted_over (step_at lent 0).node (object_of given (step_at lent 0).node) (cells_of given p)) (length lent) rows →
    AreFitted objects walk (fitted_over (step_at walk 0).node (object_of objects (step_at walk 0).node) (cells_of objects p)) (length walk) rows
rows_made objects given walk lent p rows is lent_is a =
    subst (λ ys. AreFitted objects ys (fitted_over (step_at ys 0).node (object_of objects (step_at ys 0).node) (cells_of objects p)) (length ys) rows) lent_is
    (subst (λ os. AreFitted os lent (fitted_over (step_at lent 0).node (object_of os (step_at lent 0).node) (cells_of os p)) (length lent) rows) is a)

pub valid_as_lent : (objects given : List (Option Object)) (walk lent : List Step) → given ≡ objects → lent ≡ walk → ((k : ℕ) → k < length walk → IsSome (object_of objects (step_at walk k).node)) →
    (k : ℕ) → k < length lent → IsSome (object_of given (step_at lent k).node)
valid_as_lent objects given walk lent is lent_is each =
    subst (λ os. (k : ℕ) → k < length lent → IsSome (object_of os (step_at lent k).node)) (sym is)
    (subst (λ ys. (k : ℕ) → k < length ys → IsSome (object_of objects (step_at ys k).node)) (sym lent_is) each)

-- the steps of the loops

popped : {A : Type 0} (whole old new : List A) (x : A) → old ≡ take (length old) whole → old ≡ new ++ x ∷ [] → (new ≡ take (length new) whole) × (drop (length new) whole ≡ x ∷ drop (length old) whole)
popped whole old new x left is =
    let split : whole ≡ new ++ (x ∷ drop (length old) whole) =
    sym (take-append-drop (length old) whole) ∙ ap (λ xs. xs ++ drop (length old) whole) (sym left ∙ is) ∙ append_assoc new (x ∷ []) (drop (length old) whole) in (
      sym (ap (take (length new)) split ∙ take_at new (x ∷ drop (length old) whole) (length new) refl),
      ap (drop (length new)) split ∙ drop_at new (x ∷ drop (length old) whole) (length new) refl,
    )

pub left_more : (whole old new : List (List Cell)) (row : List Cell) → old ≡ take (length old) whole → old ≡ new ++ row ∷ [] → new ≡ take (length new) whole
left_more whole old new row left is = (popped whole old new row left is).0

-- one more object has its new row
pub put_more : (start objects : List (Option Object)) (walk : List Step) (whole old new : List (List Cell)) (row : List Cell) (n : ℕ) (read slot : Option Object) →
    old ≡ take (length old) whole → old ≡ new ++ row ∷ [] → length old ≤ length walk → n ≡ length new → (step_at walk n).node < length objects →
    objects ≡ with_rows start (drop (length old) (met walk)) (drop (length old) whole) → read ≡ get_or objects (step_at walk n).node read → slot ≡ with_cells read row →
    set objects (step_at walk n).node slot ≡ with_rows start (drop (length new) (met walk)) (drop (length new) whole)
put_more start objects walk whole old new row n read slot left is short number low done read_is slot_is =
    let longer : length old ≡ length new + 1 = ap length is ∙ length_push new row in
    let many = length-map walk (λ (s : Step). s.node) in
    let inside : n < length walk = omega (arith, longer) in
    let rest = (popped whole old new row left is).1 in
    let head : drop (length new) (met walk) ≡ (step_at walk n).node ∷ drop (length old) (met walk) =
    drop_more (met walk) (length new) 0 (omega (arith, longer, many)) ∙ ap (λ k. get_or (met walk) k 0 ∷ drop (length new + 1) (met walk)) (sym number) ∙
    ap (λ k. k ∷ drop (length new + 1) (met walk)) (node_met walk n inside) ∙ ap (λ k. (step_at walk n).node ∷ drop k (met walk)) (sym longer) in
    let at = get_or_read objects (step_at walk n).node read low read_is None in
    let slot_so : slot ≡ with_cells (object_of objects (step_at walk n).node) row = slot_is ∙ ap (λ o. with_cells o row) at in
    let here : set objects (step_at walk n).node slot ≡ with_rows start ((step_at walk n).node ∷ drop (length old) (met walk)) (row ∷ drop (length old) whole) =
    ap (set objects (step_at walk n).node) slot_so ∙ ap (λ os. set os (step_at walk n).node (with_cells (object_of os (step_at walk n).node) row)) done in
    here ∙ ap (λ ys. with_rows start ys (row ∷ drop (length old) whole)) (sym head) ∙ ap (with_rows start (drop (length new) (met walk))) (sym rest)

-- one more row is made
pub fitted_begun : (objects : List (Option Object)) (walk : List Step) (top row : List Cell) → row ≡ top → AreFitted objects walk top 1 (row ∷ [])
fitted_begun objects walk top row is = record { many = refl; first = is; fitted = λ i some h. absurd (omega arith) }

pub fitted_more : (objects : List (Option Object)) (walk : List Step) (top : List Cell) (i : ℕ) (rows : List (List Cell)) (row : List Cell) → 1 ≤ i → ((k : ℕ) → 0 < k → k < length walk → (step_at walk k).from < k) → i < length walk →
    AreFitted objects walk top i rows → row ≡ fitted_over (step_at walk i).node (object_of objects (step_at walk i).node) (get_or rows (step_at walk i).from []) → AreFitted objects walk top (i + 1) (rows ++ row ∷ [])
fitted_more objects walk top i rows row begun follows inside a is = record {
  many = let more = length_push rows row in omega (arith, more, a.many);
  first = get_or_append_left rows (row ∷ []) [] 0 (omega (arith, a.many)) ∙ a.first;
  fitted = λ k some h. ⊎_elim
      (λ low.
      let before = follows k some (omega arith) in
      get_or_append_left rows (row ∷ []) [] k (omega (arith, a.many)) ∙ a.fitted k some low ∙
      ap (fitted_over (step_at walk k).node (object_of objects (step_at walk k).node)) (sym (get_or_append_left rows (row ∷ []) [] (step_at walk k).from (omega (arith, a.many, before)))))
      (λ past.
      let same : k ≡ i = omega arith in
      let before = follows i (omega arith) inside in
      rw same (get_or_push rows row [] i a.many ∙ is ∙
      ap (fitted_over (step_at walk i).node (object_of objects (step_at walk i).node)) (sym (get_or_append_left rows (row ∷ []) [] (step_at walk i).from (omega (arith, a.many, before))))))
      (cases_lt k i);
}

-- the test as the code makes it
pub clash_read : (objects given lent : List (Option Object)) (walk steps : List Step) (p : Option ℕ) (cells : List Cell) → given ≡ objects → lent ≡ objects → steps ≡ walk → cells ≡ cells_of lent p →
    list_any (own_clash given cells) (met steps) ≡ list_any (own_clash objects (cells_of objects p)) (met walk)
clash_read objects given lent walk steps p cells given_is lent_is steps_are cells_are =
    ap (λ os. list_any (own_clash os cells) (met steps)) given_is ∙
    ap (λ cs. list_any (own_clash objects cs) (met steps)) (cells_are ∙ ap (λ os. cells_of os p) lent_is) ∙
    ap (λ ys. list_any (own_clash objects (cells_of objects p)) (met ys)) steps_are

pub crowd_read : (objects given gains loses : List (Option Object)) (walk steps : List Step) (p q r : Option ℕ) (gained lost : List Cell) → given ≡ objects → gains ≡ objects → loses ≡ objects → steps ≡ walk →
    gained ≡ cells_of gains p → lost ≡ cells_of loses q → q ≡ r →
    list_any (is_crowded_by given (length gained) (length lost)) (met steps) ≡ list_any (is_crowded_by objects (length (cells_of objects p)) (length (cells_of objects r))) (met walk)
crowd_read objects given gains loses walk steps p q r gained lost given_is gains_are loses_are steps_are gained_is lost_is same =
    ap (λ os. list_any (is_crowded_by os (length gained) (length lost)) (met steps)) given_is ∙
    ap (λ cs. list_any (is_crowded_by objects (length cs) (length lost)) (met steps)) (gained_is ∙ ap (λ os. cells_of os p) gains_are) ∙
    ap (λ cs. list_any (is_crowded_by objects (length (cells_of objects p)) (length cs)) (met steps)) (lost_is ∙ ap (λ os. cells_of os q) loses_are ∙ ap (cells_of objects) same) ∙
    ap (λ ys. list_any (is_crowded_by objects (length (cells_of objects p)) (length (cells_of objects r))) (met ys)) steps_are
