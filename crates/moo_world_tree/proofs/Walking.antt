-- A walk down meets just the nodes within the one that it begins with.
use Rattle.std.proofs.Common.{◌≡◌, ℕ, zero, suc, ◌+◌, ◌-◌, ◌<◌, ◌≤◌, List, [], ◌∷◌, ◌++◌, Option, Some, None, Bool, true, false, cond, eqb, refl, sym, ◌∙◌, ap, ⊎_elim, arith, length, get_or, take, map, subst}
use Rattle.std.specs.List.{count_by, list_any, IsDistinct, AllByRecursion}
use Rattle.std.proofs.lemmas.List.{get_or_past, get_or_append_left, get_or-append_right, get_or-map, length-map, length-append, map-append, take-append-le, take_more, take_all}
use Rattle.std.proofs.lemmas.List.Sums.{sum_by-append, sum_by-take-le}
use Rattle.std.proofs.lemmas.Bool.{cases_Bool, eqb-true, eqb-false, eq-eqb, ne_eqb, or_left, or_cases, cases_lt, false≢true}
use Rattle.std.proofs.lemmas.Map.Steps.{length-le_from_distinct_below}
use Rattle.moo_world_tree.specs.Forest.{Links, alone, above_of, below_of, IsWayUp, ancestors, times_below, IsForest, is_within}
use Rattle.moo_world_tree.specs.Walk.{met, step_at, IsWalkDown}
use Rattle.moo_world_tree.specs.declared.walk.Step.{Step}
use Rattle.moo_world_tree.proofs.Counting.{count-cons, counted_if_any}
use Rattle.moo_world_tree.proofs.Climbing.{not_met}

-- the steps to nodes right below the one at a place of the walk
abbrev pub steps_to : ℕ → List ℕ → List Step
steps_to from ns = map (λ (node : ℕ). let s : Step = record { node = node; from = from } in s) ns

pub met_steps : (from : ℕ) (ns : List ℕ) → met (steps_to from ns) ≡ ns
met_steps from [] = refl
met_steps from (n ∷ ns) = ap (λ ms. n ∷ ms) (met_steps from ns)

pub from_steps : (from : ℕ) (ns : List ℕ) (k : ℕ) → k < length ns → (step_at (steps_to from ns) k).from ≡ from
from_steps from [] k h = absurd (omega arith)
from_steps from (n ∷ ns) zero h = refl
from_steps from (n ∷ ns) (suc k) h = from_steps from ns k (omega arith)

pub node_steps : (from : ℕ) (ns : List ℕ) (k : ℕ) → k < length ns → (step_at (steps_to from ns) k).node ≡ get_or ns k 0
node_steps from [] k h = absurd (omega arith)
node_steps from (n ∷ ns) zero h = refl
node_steps from (n ∷ ns) (suc k) h = node_steps from ns k (omega arith)

-- how often the node above is among these
abbrev pub times_met : Option ℕ → List ℕ → ℕ
times_met None ns = 0
times_met (Some up) ns = count_by (eqb up) ns

-- the walk once the nodes below its first i have been added
pub record IsWalking (nodes : List Links) (x i : ℕ) (walk : List Step) : Type 0 where
  pub counts : (y : ℕ) → count_by (eqb y) (met walk) ≡ cond (eqb y x) 1 0 + times_met (above_of nodes y) (take i (met walk))
  pub begins : 0 < length walk
  pub first : (step_at walk 0).node ≡ x
  pub follows : (k : ℕ) → 0 < k → k < length walk → (step_at walk k).from < k
  pub linked : (k : ℕ) → 0 < k → k < length walk → above_of nodes (step_at walk k).node ≡ Some (step_at walk (step_at walk k).from).node
  pub done : i ≤ length walk

count_one : (y x : ℕ) → count_by (eqb y) (x ∷ []) ≡ cond (eqb y x) 1 0
count_one y x = let c = count-cons y x [] in omega (arith, c)

met_none : (u : Option ℕ) → times_met u [] ≡ 0
met_none None = refl
met_none (Some up) = refl

pub walk_begun : (nodes : List Links) (x : ℕ) (first : Step) → first.node ≡ x → IsWalking nodes x 0 (first ∷ [])
walk_begun nodes x first is = record {
  counts = λ y. ap (λ n. count_by (eqb y) (n ∷ [])) is ∙ count_one y x ∙ (let none = met_none (above_of nodes y) in omega (arith, none));
  begins = omega arith;
  first = is;
  follows = λ k some h. absurd (omega arith);
  linked = λ k some h. absurd (omega arith);
  done = omega arith;
}

-- the node of a step
pub node_met : (walk : List Step) (k : ℕ) → k < length walk → get_or (met walk) k 0 ≡ (step_at walk k).node
node_met walk k h = get_or-map (λ (s : Step). s.node) walk k (record { node = 0; from = 0 }) 0 h

-- an element of a list is counted
pub counts_at : (ys : List ℕ) (k : ℕ) → k < length ys → 0 < count_by (eqb (get_or ys k 0)) ys
counts_at [] k h = absurd (omega arith)
counts_at (y ∷ ys) zero h = let c = count-cons y y ys in let one : ◌≡◌ {A = ℕ} (cond (eqb y y) 1 0) 1 = (let same = eq-eqb y y refl in rw same refl) in omega (arith, c, one)
counts_at (y ∷ ys) (suc k) h = let c = count-cons (get_or ys k 0) y ys in let rest = counts_at ys k (omega arith) in omega (arith, c, rest)

flip_eqb : (a b : ℕ) → ◌≡◌ {A = ℕ} (cond (eqb a b) 1 0) (cond (eqb b a) 1 0)
flip_eqb a b = ⊎_elim (λ e. let back = eq-eqb b a (sym (eqb-true a b e)) in rw (e, back) refl) (λ e. let back = ne_eqb b a (λ h. eqb-false a b e (sym h)) in rw (e, back) refl) (cases_Bool (eqb a b))

below_times : (u : Option ℕ) (z : ℕ) (ns : List ℕ) → times_met u (ns ++ z ∷ []) ≡ times_met u ns + times_below u z
below_times None z ns = refl
below_times (Some up) z ns =
    let split = sum_by-append (λ k. cond (eqb up k) 1 0) ns (z ∷ []) in
    let one = count_one up z in
    let same = flip_eqb up z in
    omega (arith, split, one, same)

times_le : (u : Option ℕ) (i : ℕ) (ns : List ℕ) → times_met u (take i ns) ≤ times_met u ns
times_le None i ns = omega arith
times_le (Some up) i ns = sum_by-take-le (λ k. cond (eqb up k) 1 0) ns i

module _ (nodes : List Links) (f : IsForest nodes) (x i : ℕ) (walk : List Step) (w : IsWalking nodes x i walk) where
  -- no node occurs more often than x does on its path up
  seldom : (y : ℕ) (ys : List ℕ) → IsWayUp nodes y ys → count_by (eqb y) (met walk) ≤ count_by (eqb x) (y ∷ ys)
  seldom y [] way =
      let c = w.counts y in
      let none : times_met (above_of nodes y) (take i (met walk)) ≡ 0 = ap (λ u. times_met u (take i (met walk))) way in
      let one = count_one x y in
      let same = flip_eqb y x in
      omega (arith, c, none, one, same)
  seldom y (z ∷ zs) way =
      let c = w.counts y in
      let up : times_met (above_of nodes y) (take i (met walk)) ≡ count_by (eqb z) (take i (met walk)) = ap (λ u. times_met u (take i (met walk))) way.0 in
      let part = sum_by-take-le (λ k. cond (eqb z k) 1 0) (met walk) i in
      let rest = seldom z zs way.1 in
      let more = count-cons x y (z ∷ zs) in
      let same = flip_eqb y x in
      omega (arith, c, up, part, rest, more, same)

pub none_counted : (x : ℕ) (ys : List ℕ) → list_any (eqb x) ys ≡ false → count_by (eqb x) ys ≡ 0
none_counted x ys none = ⊎_elim (λ h. absurd (false≢true (sym none ∙ counted_if_any x ys h))) (λ h. omega arith) (cases_lt 0 (count_by (eqb x) ys))

once_more : (nodes : List Links) (x y : ℕ) (ys : List ℕ) → IsWayUp nodes y ys → count_by (eqb x) ys ≡ cond (list_any (eqb x) ys) 1 0 → count_by (eqb x) (y ∷ ys) ≡ cond (list_any (eqb x) (y ∷ ys)) 1 0
once_more nodes x y ys way rest =
    let more = count-cons x y ys in
    ⊎_elim
    (λ e.
    let same = eqb-true x y e in
    let none = none_counted x ys (ap (λ z. list_any (eqb z) ys) same ∙ not_met nodes y ys way) in
    let one : ◌≡◌ {A = ℕ} (cond (eqb x y) 1 0) 1 = (rw e refl) in
    let met : list_any (eqb x) (y ∷ ys) ≡ true = or_left (eqb x y) (list_any (eqb x) ys) e in
    rw met (omega (arith, more, none, one)))
    (λ e.
    let nothing : ◌≡◌ {A = ℕ} (cond (eqb x y) 1 0) 0 = (rw e refl) in
    let same : list_any (eqb x) (y ∷ ys) ≡ list_any (eqb x) ys = (rw e refl) in
    rw same (omega (arith, more, nothing, rest)))
    (cases_Bool (eqb x y))

-- on a path up x occurs once or not at all
pub once_on_way : (nodes : List Links) (x y : ℕ) (ys : List ℕ) → IsWayUp nodes y ys → count_by (eqb x) (y ∷ ys) ≡ cond (list_any (eqb x) (y ∷ ys)) 1 0
once_on_way nodes x y [] way = once_more nodes x y [] way refl
once_on_way nodes x y (z ∷ zs) way = once_more nodes x y (z ∷ zs) way (once_on_way nodes x z zs way.1)

at_most_one : (b : Bool) (n : ℕ) → n ≤ cond b 1 0 → n ≤ 1
at_most_one true n h = h
at_most_one false n h = omega arith

absent : (x : ℕ) (ys : List ℕ) → count_by (eqb x) ys ≡ 0 → AllByRecursion (λ y. eqb x y ≡ false) ys
absent x [] none = tt
absent x (y ∷ ys) none =
    let more = count-cons x y ys in
    ⊎_elim
    (λ e. absurd (let one : ◌≡◌ {A = ℕ} (cond (eqb x y) 1 0) 1 = (rw e refl) in omega (arith, more, one)))
    (λ e. (e, absent x ys (omega (arith, more))))
    (cases_Bool (eqb x y))

-- a list in which no number occurs twice
seldom_distinct : (ys : List ℕ) → ((y : ℕ) → count_by (eqb y) ys ≤ 1) → IsDistinct eqb ys
unfolding IsDistinct
seldom_distinct [] few = tt
seldom_distinct (y ∷ ys) few =
    let more = count-cons y y ys in
    let one : ◌≡◌ {A = ℕ} (cond (eqb y y) 1 0) 1 = (let same = eq-eqb y y refl in rw same refl) in
    let here = few y in
    let none : count_by (eqb y) ys ≡ 0 = omega (arith, more, one, here) in
    (absent y ys none, seldom_distinct ys (λ z. let step = count-cons z y ys in let whole = few z in omega (arith, step, whole)))

pub any_counted : (x : ℕ) (ys : List ℕ) → list_any (eqb x) ys ≡ true → 0 < count_by (eqb x) ys
any_counted x [] h = absurd (false≢true h)
any_counted x (y ∷ ys) h =
    let more = count-cons x y ys in
    ⊎_elim
    (λ e. let one : ◌≡◌ {A = ℕ} (cond (eqb x y) 1 0) 1 = (rw e refl) in omega (arith, more, one))
    (λ later. let rest = any_counted x ys later in omega (arith, more, rest))
    (or_cases (eqb x y) (list_any (eqb x) ys) h)

no_way : (nodes : List Links) (x y : ℕ) (ys : List ℕ) → IsWayUp nodes y ys → above_of nodes y ≡ None → list_any (eqb x) ys ≡ true → ⊥
no_way nodes x y [] way top h = false≢true h
no_way nodes x y (z ∷ zs) way top h = let up = way.0 in cc

module _ (nodes : List Links) (f : IsForest nodes) (x i : ℕ) (walk : List Step) (w : IsWalking nodes x i walk) (node : x < length nodes) where
  at_most : (y : ℕ) → count_by (eqb y) (met walk) ≤ cond (is_within nodes y x) 1 0
  at_most y =
      let h = seldom nodes f x i walk w y (ancestors nodes y) (f.rooted y) in
      let on = once_on_way nodes x y (ancestors nodes y) (f.rooted y) in
      omega (arith, h, on)

  -- each node of the walk is within x, and is a node
  met_within : (y : ℕ) → 0 < count_by (eqb y) (met walk) → y < length nodes
  met_within y h = ⊎_elim
      (λ e. ⊎_elim
      (λ same. let is = eqb-true x y same in omega arith)
      (λ later. ⊎_elim (λ low. low) (λ past.
      let top : above_of nodes y ≡ None = ap (λ (n : Links). n.above) (get_or_past nodes y alone past) in
      absurd (no_way nodes x y (ancestors nodes y) (f.rooted y) top later)) (cases_lt y (length nodes)))
      (or_cases (eqb x y) (list_any (eqb x) (ancestors nodes y)) e))
      (λ e. absurd (let most = at_most y in let none : ◌≡◌ {A = ℕ} (cond (is_within nodes y x) 1 0) 0 = (rw e refl) in omega (arith, most, none, h)))
      (cases_Bool (is_within nodes y x))

  pub node_within : (k : ℕ) → k < length walk → (step_at walk k).node < length nodes
  node_within k h =
      let at = node_met walk k h in
      let many = length-map walk (λ (s : Step). s.node) in
      let counted = counts_at (met walk) k (omega (arith, many)) in
      met_within (step_at walk k).node (rw at at counted)

  pub walk_short : length walk ≤ length nodes
  walk_short =
      let many = length-map walk (λ (s : Step). s.node) in
      let few = length-le_from_distinct_below (met walk) (length nodes)
      (seldom_distinct (met walk) (λ y. at_most_one (is_within nodes y x) (count_by (eqb y) (met walk)) (at_most y)))
      (λ q here. met_within q (any_counted q (met walk) here)) in
      omega (arith, many, few)

-- the nodes right below one more of the walk
module _ (nodes : List Links) (f : IsForest nodes) (x i : ℕ) (walk : List Step) (w : IsWalking nodes x i walk) (below : List ℕ) (here : i < length walk) (are : below ≡ below_of nodes (step_at walk i).node) where
  met_then : met (walk ++ steps_to i below) ≡ met walk ++ below
  met_then = map-append (λ (s : Step). s.node) walk (steps_to i below) ∙ ap (λ ns. met walk ++ ns) (met_steps i below)

  taken : take (i + 1) (met (walk ++ steps_to i below)) ≡ take i (met walk) ++ (step_at walk i).node ∷ []
  taken =
      let many = length-map walk (λ (s : Step). s.node) in
      ap (take (i + 1)) met_then ∙ take-append-le (i + 1) (met walk) below (omega (arith, many)) ∙
      take_more (met walk) i 0 (omega (arith, many)) ∙ ap (λ n. take i (met walk) ++ n ∷ []) (node_met walk i here)

  many_then : length (walk ++ steps_to i below) ≡ length walk + length below
  many_then = length-append walk (steps_to i below) ∙ ap (λ n. length walk + n) (length-map below (λ (node : ℕ). let s : Step = record { node = node; from = i } in s))

  old_step : (k : ℕ) → k < length walk → step_at (walk ++ steps_to i below) k ≡ step_at walk k
  old_step k h = get_or_append_left walk (steps_to i below) (record { node = 0; from = 0 }) k h

  new_step : (k : ℕ) → length walk ≤ k → step_at (walk ++ steps_to i below) k ≡ step_at (steps_to i below) (k - length walk)
  new_step k h = get_or-append_right walk (steps_to i below) (length walk) k (record { node = 0; from = 0 }) refl h

  from_new : (k : ℕ) → length walk ≤ k → k < length (walk ++ steps_to i below) → (step_at (walk ++ steps_to i below) k).from ≡ i
  from_new k past h = ap (λ (s : Step). s.from) (new_step k past) ∙ from_steps i below (k - length walk) (let m = many_then in omega (arith, m))

  above_new : (k : ℕ) → length walk ≤ k → k < length (walk ++ steps_to i below) → above_of nodes (step_at (walk ++ steps_to i below) k).node ≡ Some (step_at walk i).node
  above_new k past h =
      let inside : k - length walk < length below = (let m = many_then in omega (arith, m)) in
      let at : (step_at (walk ++ steps_to i below) k).node ≡ get_or below (k - length walk) 0 = ap (λ (s : Step). s.node) (new_step k past) ∙ node_steps i below (k - length walk) inside in
      let counted = counts_at below (k - length walk) inside in
      rw at (is_above (get_or below (k - length walk) 0) (subst (λ ns. 0 < count_by (eqb (get_or below (k - length walk) 0)) ns) are counted))
    where
      from_times : (u : Option ℕ) (z : ℕ) → 0 < times_below u z → u ≡ Some z
      from_times None z h = absurd (omega arith)
      from_times (Some up) z h = ⊎_elim (λ e. ap (λ n. Some n) (sym (eqb-true z up e))) (λ e. absurd (let none : times_below (Some up) z ≡ 0 = (rw e refl) in omega (arith, none, h))) (cases_Bool (eqb z up))

      is_above : (y : ℕ) → 0 < count_by (eqb y) (below_of nodes (step_at walk i).node) → above_of nodes y ≡ Some (step_at walk i).node
      is_above y h = from_times (above_of nodes y) (step_at walk i).node (let e = f.exact (step_at walk i).node y in omega (arith, e, h))

  pub walk_more : IsWalking nodes x (i + 1) (walk ++ steps_to i below)
  walk_more = record {
    counts = λ y.
        let all = ap (count_by (eqb y)) met_then ∙ sum_by-append (λ k. cond (eqb y k) 1 0) (met walk) below in
        let old = w.counts y in
        let new : count_by (eqb y) below ≡ times_below (above_of nodes y) (step_at walk i).node = ap (count_by (eqb y)) are ∙ f.exact (step_at walk i).node y in
        let more = ap (times_met (above_of nodes y)) taken ∙ below_times (above_of nodes y) (step_at walk i).node (take i (met walk)) in
        omega (arith, all, old, new, more);
    begins = let m = many_then in omega (arith, m, w.begins);
    first = ap (λ (s : Step). s.node) (old_step 0 w.begins) ∙ w.first;
    follows = λ k some h. ⊎_elim
        (λ low. let old = ap (λ (s : Step). s.from) (old_step k low) in let before = w.follows k some low in omega (arith, old, before))
        (λ past. let new = from_new k past h in omega (arith, new))
        (cases_lt k (length walk));
    linked = λ k some h. ⊎_elim
        (λ low.
        let old = old_step k low in
        let before = w.follows k some low in
        rw old (rw (old_step (step_at walk k).from (omega (arith, before))) (w.linked k some low)))
        (λ past.
        let from = from_new k past h in
        rw from (rw (old_step i here) (above_new k past h)))
        (cases_lt k (length walk));
    done = let m = many_then in omega (arith, m);
  }

pub walk_ended : (nodes : List Links) (f : IsForest nodes) (x i : ℕ) (walk : List Step) → IsWalking nodes x i walk → length walk ≤ i → IsWalkDown nodes x walk
walk_ended nodes f x i walk w end = record {
  once = λ y. all_of_it y (ancestors nodes y) (f.rooted y) ∙ once_on_way nodes x y (ancestors nodes y) (f.rooted y);
  begins = w.begins;
  first = w.first;
  follows = w.follows;
  linked = w.linked;
}
  where
    whole : take i (met walk) ≡ met walk
    whole = let many = length-map walk (λ (s : Step). s.node) in take_all i (met walk) (omega (arith, many))

    counts : (y : ℕ) → count_by (eqb y) (met walk) ≡ cond (eqb y x) 1 0 + times_met (above_of nodes y) (met walk)
    counts y = w.counts y ∙ ap (λ ns. cond (eqb y x) 1 0 + times_met (above_of nodes y) ns) whole

    all_of_it : (y : ℕ) (ys : List ℕ) → IsWayUp nodes y ys → count_by (eqb y) (met walk) ≡ count_by (eqb x) (y ∷ ys)
    all_of_it y [] way =
        let c = counts y in
        let none : times_met (above_of nodes y) (met walk) ≡ 0 = ap (λ u. times_met u (met walk)) way in
        let one = count_one x y in
        let same = flip_eqb y x in
        omega (arith, c, none, one, same)
    all_of_it y (z ∷ zs) way =
        let c = counts y in
        let up : times_met (above_of nodes y) (met walk) ≡ count_by (eqb z) (met walk) = ap (λ u. times_met u (met walk)) way.0 in
        let rest = all_of_it z zs way.1 in
        let more = count-cons x y (z ∷ zs) in
        let same = flip_eqb y x in
        omega (arith, c, up, rest, more, same)
