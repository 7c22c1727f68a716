-- Ways up in a forest.
use Rattle.std.proofs.Common.{◌≡◌, ℕ, zero, suc, ◌+◌, ◌-◌, ◌<◌, ◌≤◌, List, [], ◌∷◌, ◌++◌, Some, None, true, false, eqb, refl, sym, ◌∙◌, ap, ⊎_elim, arith, length, get_or, take}
use Rattle.std.specs.List.{count_by, list_any, IsDistinct, AllByRecursion}
use Rattle.std.proofs.lemmas.List.{get_or_past, get_or_append_left, get_or-append_right, get_or-take, length-take}
use Rattle.std.proofs.lemmas.Bool.{cases_Bool, eqb-true, eq-eqb, ne_eqb, or_parts, or_cases, or_from, cases_lt, cases_eq, false≢true}
use Rattle.std.proofs.lemmas.Map.Steps.{length-le_from_distinct_below}
use Rattle.moo_world_tree.specs.Forest.{Links, alone, above_of, below_of, IsWayUp, climb, ancestors, times_below, IsForest, is_within}

-- the lists below are exact
abbrev pub IsExact : List Links → Type 0
IsExact nodes = (x y : ℕ) → count_by (eqb y) (below_of nodes x) ≡ times_below (above_of nodes y) x

-- climbing far enough goes the whole way
pub climb_whole : (n : ℕ) (nodes : List Links) (x : ℕ) (ys : List ℕ) → IsWayUp nodes x ys → length ys ≤ n → climb n nodes (above_of nodes x) ≡ ys
climb_whole zero nodes x [] way short = refl
climb_whole (suc n) nodes x [] way short = rw way refl
climb_whole zero nodes x (y ∷ ys) way short = absurd (omega arith)
climb_whole (suc n) nodes x (y ∷ ys) way short =
    let up = way.0 in
    let rest = climb_whole n nodes y ys way.1 (omega arith) in
    rw up (ap (λ zs. y ∷ zs) rest)

-- there is one way up
pub one_way_up : (nodes : List Links) (x : ℕ) (ys zs : List ℕ) → IsWayUp nodes x ys → IsWayUp nodes x zs → ys ≡ zs
one_way_up nodes x ys zs p q =
    sym (climb_whole (length ys + length zs) nodes x ys p (omega arith)) ∙ climb_whole (length ys + length zs) nodes x zs q (omega arith)

-- from each node met the rest of the way leads on, and is shorter
pub way_up_from : (nodes : List Links) (x y : ℕ) (ys : List ℕ) → IsWayUp nodes x ys → list_any (eqb y) ys ≡ true → (zs : List ℕ) × IsWayUp nodes y zs × (length zs < length ys)
way_up_from nodes x y [] way met = absurd (false≢true met)
way_up_from nodes x y (z ∷ zs) way met =
    ⊎_elim
    (λ e. let same = eqb-true y z e in (zs, (rw same way.1), omega arith))
    (λ later. let r = way_up_from nodes z y zs way.1 later in (r.0, r.1, omega (arith, r.2)))
    (or_cases (eqb y z) (list_any (eqb y) zs) met)

-- no way up comes back to where it began
pub never_back : (nodes : List Links) (x : ℕ) (ys : List ℕ) → IsWayUp nodes x ys → list_any (eqb x) ys ≡ true → ⊥
never_back nodes x ys way met =
    let r = way_up_from nodes x x ys way met in
    let same = one_way_up nodes x ys r.0 way r.1 in
    omega (arith, r.2, ap length same)

none_equal : (x : ℕ) (ys : List ℕ) → list_any (eqb x) ys ≡ false → AllByRecursion (λ y. eqb x y ≡ false) ys
none_equal x [] h = tt
none_equal x (y ∷ ys) h = let p = or_parts (eqb x y) (list_any (eqb x) ys) h in (p.0, none_equal x ys p.1)

-- a way up does not meet where it began
pub not_met : (nodes : List Links) (x : ℕ) (ys : List ℕ) → IsWayUp nodes x ys → list_any (eqb x) ys ≡ false
not_met nodes x ys way = ⊎_elim (λ e. absurd (never_back nodes x ys way e)) (λ e. e) (cases_Bool (list_any (eqb x) ys))

-- a way up meets no node twice
pub way_up_distinct : (nodes : List Links) (x : ℕ) (ys : List ℕ) → IsWayUp nodes x ys → IsDistinct eqb ys
unfolding IsDistinct
way_up_distinct nodes x [] way = tt
way_up_distinct nodes x (y ∷ ys) way = (none_equal y ys (not_met nodes y ys way.1), way_up_distinct nodes y ys way.1)

-- the number right above a node is a node
pub above_within : (nodes : List Links) → IsExact nodes → (x y : ℕ) → above_of nodes x ≡ Some y → y < length nodes
above_within nodes exact x y up =
    ⊎_elim (λ h. h)
    (λ past.
    let nobody : below_of nodes y ≡ [] = ap (λ n. n.below) (get_or_past nodes y alone past) in
    let count : count_by (eqb x) (below_of nodes y) ≡ 1 = exact y x ∙ (rw (up, eq-eqb y y refl) refl) in
    absurd (let none : count_by (eqb x) (below_of nodes y) ≡ 0 = ap (count_by (eqb x)) nobody in omega arith))
    (cases_lt y (length nodes))

pub way_up_within : (nodes : List Links) → IsExact nodes → (x : ℕ) (ys : List ℕ) → IsWayUp nodes x ys → (q : ℕ) → list_any (eqb q) ys ≡ true → q < length nodes
way_up_within nodes exact x [] way q met = absurd (false≢true met)
way_up_within nodes exact x (y ∷ ys) way q met =
    ⊎_elim
    (λ e. let same = eqb-true q y e in rw same (above_within nodes exact x y way.0))
    (λ later. way_up_within nodes exact y ys way.1 q later)
    (or_cases (eqb q y) (list_any (eqb q) ys) met)

-- a way up is no longer than there are nodes, so the ancestors are all of it
pub way_up_is_ancestors : (nodes : List Links) → IsExact nodes → (x : ℕ) (ys : List ℕ) → IsWayUp nodes x ys → ancestors nodes x ≡ ys
way_up_is_ancestors nodes exact x ys way =
    climb_whole (length nodes) nodes x ys way
    (length-le_from_distinct_below ys (length nodes) (way_up_distinct nodes x ys way) (way_up_within nodes exact x ys way))

-- exact lists and some way up from each node make a forest
pub forest_from : (nodes : List Links) → IsExact nodes → ((x : ℕ) → (ys : List ℕ) × IsWayUp nodes x ys) → IsForest nodes
forest_from nodes exact ways = record {
  rooted = λ x. let w = ways x in let same = way_up_is_ancestors nodes exact x w.0 w.1 in (rw same w.1);
  exact = exact;
}

-- with the same node above each, a way up stays one
pub way_up_along : (nodes others : List Links) → ((x : ℕ) → above_of others x ≡ above_of nodes x) → (x : ℕ) (ys : List ℕ) → IsWayUp nodes x ys → IsWayUp others x ys
way_up_along nodes others same x [] way = same x ∙ way
way_up_along nodes others same x (y ∷ ys) way = (same x ∙ way.0, way_up_along nodes others same y ys way.1)

-- nodes joined as those of a forest are one
pub forest_along : (nodes others : List Links) → ((x : ℕ) → above_of others x ≡ above_of nodes x) → ((x : ℕ) → below_of others x ≡ below_of nodes x) → IsForest nodes → IsForest others
forest_along nodes others above below f =
    forest_from others
    (λ x y. let b = below x in let a = above y in rw (b, a) (f.exact x y))
    (λ x. (ancestors nodes x, way_up_along nodes others above x (ancestors nodes x) (f.rooted x)))

-- one more node, joined to none
pub links_added : (nodes : List Links) (x : ℕ) → get_or (nodes ++ alone ∷ []) x alone ≡ get_or nodes x alone
links_added nodes x =
    ⊎_elim
    (λ h. get_or_append_left nodes (alone ∷ []) alone x h)
    (λ past. get_or-append_right nodes (alone ∷ []) (length nodes) x alone refl past ∙ (only_alone (x - length nodes) ∙ sym (get_or_past nodes x alone past)))
    (cases_lt x (length nodes))
  where
    only_alone : (k : ℕ) → get_or (alone ∷ []) k alone ≡ alone
    only_alone zero = refl
    only_alone (suc k) = refl

pub forest_added : (nodes : List Links) → IsForest nodes → IsForest (nodes ++ alone ∷ [])
forest_added nodes f =
    forest_along nodes (nodes ++ alone ∷ [])
    (λ x. ap (λ n. n.above) (links_added nodes x))
    (λ x. ap (λ n. n.below) (links_added nodes x)) f

-- one step of a climb, to a node that is not the one looked for
pub any_step : (nodes : List Links) (n m at up top : ℕ) → n ≡ suc m → above_of nodes at ≡ Some up → eqb top up ≡ false → list_any (eqb top) (climb n nodes (above_of nodes at)) ≡ list_any (eqb top) (climb m nodes (above_of nodes up))
any_step nodes n m at up top e above other = rw (e, above, other) refl

-- or to the one
pub any_found : (nodes : List Links) (n m at up top : ℕ) → n ≡ suc m → above_of nodes at ≡ Some up → eqb top up ≡ true → list_any (eqb top) (climb n nodes (above_of nodes at)) ≡ true
any_found nodes n m at up top e above this = rw (e, above, this) refl

-- nothing above
pub any_none : (nodes : List Links) (n at top : ℕ) → above_of nodes at ≡ None → list_any (eqb top) (climb n nodes (above_of nodes at)) ≡ false
any_none nodes zero at top above = refl
any_none nodes (suc n) at top above = rw above refl

-- a forest whose last node is joined to none is one without it
pub forest_removed : (nodes : List Links) → get_or nodes (length nodes - 1) alone ≡ alone → IsForest nodes → IsForest (take (length nodes - 1) nodes)
forest_removed nodes last f =
    let same = links_removed nodes last in
    forest_along nodes (take (length nodes - 1) nodes) (λ x. ap (λ n. n.above) (same x)) (λ x. ap (λ n. n.below) (same x)) f
  where
    links_removed : (ns : List Links) → get_or ns (length ns - 1) alone ≡ alone → (x : ℕ) → get_or (take (length ns - 1) ns) x alone ≡ get_or ns x alone
    links_removed ns last x =
        ⊎_elim
        (λ h. get_or-take (length ns - 1) ns x alone h)
        (λ past.
        let len = length-take (length ns - 1) ns in
        get_or_past (take (length ns - 1) ns) x alone (omega (arith, len)) ∙
        ⊎_elim
        (λ e. sym (ap (λ k. get_or ns k alone) e ∙ last))
        (λ ne. sym (get_or_past ns x alone (omega arith)))
        (cases_eq x (length ns - 1)))
        (cases_lt x (length ns - 1))

-- a new node is above none of the others
pub new_is_apart : (nodes : List Links) → IsForest nodes → (up : ℕ) → up < length nodes → is_within (nodes ++ alone ∷ []) up (length nodes) ≡ false
new_is_apart nodes f up h =
    let all = nodes ++ alone ∷ [] in
    let way = way_up_along nodes all (λ x. ap (λ n. n.above) (links_added nodes x)) up (ancestors nodes up) (f.rooted up) in
    let same = way_up_is_ancestors all (forest_added nodes f).exact up (ancestors nodes up) way in
    or_from (eqb (length nodes) up) (list_any (eqb (length nodes)) (ancestors all up)) (ne_eqb (length nodes) up (λ e. omega arith))
    (ap (list_any (eqb (length nodes))) same ∙
    ⊎_elim (λ e. absurd (let low = way_up_within nodes f.exact up (ancestors nodes up) (f.rooted up) (length nodes) e in omega arith)) (λ e. e) (cases_Bool (list_any (eqb (length nodes)) (ancestors nodes up))))
