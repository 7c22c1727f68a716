-- Lists read one after the other.
use Rattle.std.proofs.Common.{◌≡◌, ◌≢◌, ℕ, zero, suc, ◌+◌, ◌<◌, ◌≤◌, List, [], ◌∷◌, ◌++◌, length, Option, Some, None, Bool, true, false, cond, eqb, refl, sym, ap, subst, ◌∙◌, ⊎_elim, arith, get_or, set}
use Rattle.std.specs.List.{count_by}
use Rattle.std.proofs.lemmas.List.{get_or-set_same, get_or-set_other, get_or_past}
use Rattle.std.proofs.lemmas.List.Sums.{sum_by-append}
use Rattle.std.proofs.lemmas.Bool.{cases_Bool, cases_eq, cases_lt, eqb-true, eq-eqb, ne_eqb, lt-ltb, le-ltb, both_ways}
use Rattle.moo_world_tree.specs.Forest.{Links, alone, above_of, below_of, times_below, IsForest}
use Rattle.moo_world_tree.specs.Rooted.{IsRooted}
use Rattle.moo_world_tree.proofs.Climbing.{forest_from}
use Rattle.moo_world_tree.specs.Listed.{IsListed, IsLeastUnlisted, held, AreMarked, AreRead, IsLeast}

above_then : (u : Option ℕ) (x : ℕ) → 0 < times_below u x → u ≡ Some x
above_then None x h = absurd (omega arith)
above_then (Some up) x h = ⊎_elim
    (λ e. ap (λ k. Some k) (sym (eqb-true x up e)))
    (λ e. absurd (let none : times_below (Some up) x ≡ 0 = (rw e refl) in omega (arith, none)))
    (cases_Bool (eqb x up))

once_above : (u : Option ℕ) (x : ℕ) → u ≡ Some x → times_below u x ≡ 1
once_above u x is = ap (λ v. times_below v x) is ∙ (let same = eq-eqb x x refl in rw same refl)

once_at_most : (u : Option ℕ) (x : ℕ) → times_below u x ≤ 1
once_at_most None x = omega arith
once_at_most (Some up) x = ⊎_elim (λ e. rw e (omega arith)) (λ e. rw e (omega arith)) (cases_Bool (eqb x up))

count_parts : (y : ℕ) (xs ys : List ℕ) → count_by (eqb y) (xs ++ ys) ≡ count_by (eqb y) xs + count_by (eqb y) ys
count_parts y xs ys = sum_by-append (λ k. cond (eqb y k) 1 0) xs ys

count_itself : (y : ℕ) (ys : List ℕ) → 0 < count_by (eqb y) (y ∷ ys)
count_itself y ys =
    let parts = count_parts y (y ∷ []) ys in
    let one : count_by (eqb y) (y ∷ []) ≡ 1 = (let same = eq-eqb y y refl in rw same refl) in
    omega (arith, parts, one)

count_one : (y z : ℕ) → y ≢ z → count_by (eqb y) (z ∷ []) ≡ 0
count_one y z ne = let off = ne_eqb y z ne in rw off refl

-- equal lists have equal marks
pub marked_along : (nodes : List Links) (listed : List Bool) (old new : ℕ → List ℕ) → ((x : ℕ) → old x ≡ new x) → AreMarked nodes listed old → AreMarked nodes listed new
marked_along nodes listed old new same m = record {
  right = λ x y. subst (λ l. count_by (eqb y) l ≤ times_below (above_of nodes y) x) (same x) (m.right x y);
  found = λ y on. let f = m.found y on in (f.0, subst (λ l. 0 < count_by (eqb y) l) (same f.0) f.1);
  marks = λ x y some. m.marks x y (subst (λ l. 0 < count_by (eqb y) l) (sym (same x)) some);
}

-- one more at the end of a list
abbrev with_one : (ℕ → List ℕ) → ℕ → ℕ → ℕ → List ℕ
with_one lists k z x = cond (eqb x k) (lists x ++ z ∷ []) (lists x)

with_others : (lists : ℕ → List ℕ) (k z x : ℕ) → (x ≡ k → ⊥) → with_one lists k z x ≡ lists x
with_others lists k z x ne = let off = ne_eqb x k ne in rw off refl

with_last : (lists : ℕ → List ℕ) (k z x : ℕ) → x ≡ k → with_one lists k z x ≡ lists x ++ z ∷ []
with_last lists k z x e = let on = eq-eqb x k e in rw on refl

one_more : (nodes : List Links) (listed : List Bool) (lists : ℕ → List ℕ) (k z : ℕ) → z < length listed → above_of nodes z ≡ Some k → get_or listed z false ≡ false →
    AreMarked nodes listed lists → AreMarked nodes (set listed z true) (with_one lists k z)
one_more nodes listed lists k z low above fresh m = record { right = right; found = found; marks = marks }
  where
    none_yet : count_by (eqb z) (lists k) ≡ 0
    none_yet = over (count_by (eqb z) (lists k)) refl
      where
        over : (n : ℕ) → count_by (eqb z) (lists k) ≡ n → count_by (eqb z) (lists k) ≡ 0
        over zero e = e
        over (suc n) e = absurd (both_ways (get_or listed z false) fresh (m.marks k z (omega (arith, e))))

    right : (x y : ℕ) → count_by (eqb y) (with_one lists k z x) ≤ times_below (above_of nodes y) x
    right x y = ⊎_elim
        (λ e.
        let here : x ≡ k = eqb-true x k e in
        let parts = count_parts y (lists x) (z ∷ []) in
        rw e (⊎_elim
        (λ same.
        let none : count_by (eqb y) (lists x) ≡ 0 = ap (λ q. count_by (eqb q) (lists x)) same ∙ ap (λ q. count_by (eqb z) (lists q)) here ∙ none_yet in
        let one : count_by (eqb y) (z ∷ []) ≡ 1 = (let on = eq-eqb y z same in rw on refl) in
        let all : times_below (above_of nodes y) x ≡ 1 = once_above (above_of nodes y) x (ap (above_of nodes) same ∙ above ∙ ap (λ q. Some q) (sym here)) in
        omega (arith, parts, none, one, all))
        (λ ne.
        let none = count_one y z ne in
        let old = m.right x y in
        omega (arith, parts, none, old))
        (cases_eq y z)))
        (λ e. rw e (m.right x y))
        (cases_Bool (eqb x k))

    found : (y : ℕ) → get_or (set listed z true) y false ≡ true → (x : ℕ) × (0 < count_by (eqb y) (with_one lists k z x))
    found y on = ⊎_elim
        (λ same. (k, (let here = eq-eqb k k refl in let parts = count_parts y (lists k) (z ∷ []) in let one : count_by (eqb y) (z ∷ []) ≡ 1 = (let is = eq-eqb y z same in rw is refl) in rw here (omega (arith, parts, one)))))
        (λ ne.
        let f = m.found y (sym (get_or-set_other listed z y true false ne) ∙ on) in
        let parts = count_parts y (lists f.0) (z ∷ []) in
        (f.0, ⊎_elim (λ e. rw e (let some = f.1 in omega (arith, parts, some))) (λ e. rw e f.1) (cases_Bool (eqb f.0 k))))
        (cases_eq y z)

    marks : (x y : ℕ) → 0 < count_by (eqb y) (with_one lists k z x) → get_or (set listed z true) y false ≡ true
    marks x y some = ⊎_elim
        (λ same. ap (λ q. get_or (set listed z true) q false) same ∙ get_or-set_same listed z true false low)
        (λ ne.
        let before : 0 < count_by (eqb y) (lists x) = ⊎_elim
        (λ e. let more : 0 < count_by (eqb y) (lists x ++ z ∷ []) = (rw e at some) in let parts = count_parts y (lists x) (z ∷ []) in let none = count_one y z ne in omega (arith, more, parts, none))
        (λ e. (rw e at some))
        (cases_Bool (eqb x k)) in
        get_or-set_other listed z y true false ne ∙ m.marks x y before)
        (cases_eq y z)

-- the lists as they are read
held_before : (nodes : List Links) (k : ℕ) (ys : List ℕ) (x : ℕ) → x < k → held nodes k ys x ≡ below_of nodes x
held_before nodes k ys x h = let on = lt-ltb x k h in rw on refl

held_here : (nodes : List Links) (k : ℕ) (ys : List ℕ) → held nodes k ys k ≡ ys
held_here nodes k ys = let off = le-ltb k k (omega arith) in let same = eq-eqb k k refl in rw (off, same) refl

held_after : (nodes : List Links) (k : ℕ) (ys : List ℕ) (x : ℕ) → k < x → held nodes k ys x ≡ []
held_after nodes k ys x h = let off = le-ltb x k (omega arith) in let other = ne_eqb x k (λ e. omega arith) in rw (off, other) refl

by_place : (x k : ℕ) (P : Type 0) → (x < k → P) → (x ≡ k → P) → (k < x → P) → P
by_place x k P before here after = ⊎_elim before (λ past. ⊎_elim here (λ ne. after (omega (arith, ne))) (cases_eq x k)) (cases_lt x k)

pub none_held : (nodes : List Links) (listed : List Bool) → ((y : ℕ) → get_or listed y false ≡ false) → AreMarked nodes listed (held nodes 0 [])
none_held nodes listed clear = marked_along nodes listed (λ x. []) (held nodes 0 []) (λ x. by_place x 0 ([] ≡ held nodes 0 [] x) (λ h. absurd (omega arith)) (λ e. sym (ap (held nodes 0 []) e ∙ held_here nodes 0 [])) (λ h. sym (held_after nodes 0 [] x h)))
    (record { right = λ x y. omega arith; found = λ y on. absurd (both_ways (get_or listed y false) (clear y) on); marks = λ x y some. absurd (omega arith) })

pub more_held : (nodes : List Links) (listed : List Bool) (k z : ℕ) (ys : List ℕ) → z < length listed → above_of nodes z ≡ Some k → get_or listed z false ≡ false →
    AreMarked nodes listed (held nodes k ys) → AreMarked nodes (set listed z true) (held nodes k (ys ++ z ∷ []))
more_held nodes listed k z ys low above fresh m =
    marked_along nodes (set listed z true) (with_one (held nodes k ys) k z) (held nodes k (ys ++ z ∷ [])) same (one_more nodes listed (held nodes k ys) k z low above fresh m)
  where
    same : (x : ℕ) → with_one (held nodes k ys) k z x ≡ held nodes k (ys ++ z ∷ []) x
    same x = by_place x k (with_one (held nodes k ys) k z x ≡ held nodes k (ys ++ z ∷ []) x)
        (λ h. with_others (held nodes k ys) k z x (λ e. omega arith) ∙ held_before nodes k ys x h ∙ sym (held_before nodes k (ys ++ z ∷ []) x h))
        (λ e. with_last (held nodes k ys) k z x e ∙ ap (λ l. l ++ z ∷ []) (ap (held nodes k ys) e ∙ held_here nodes k ys) ∙ sym (ap (held nodes k (ys ++ z ∷ [])) e ∙ held_here nodes k (ys ++ z ∷ [])))
        (λ h. with_others (held nodes k ys) k z x (λ e. omega arith) ∙ held_after nodes k ys x h ∙ sym (held_after nodes k (ys ++ z ∷ []) x h))

pub next_held : (nodes : List Links) (listed : List Bool) (k : ℕ) (ys : List ℕ) → ys ≡ below_of nodes k → AreMarked nodes listed (held nodes k ys) → AreMarked nodes listed (held nodes (k + 1) [])
next_held nodes listed k ys whole m = marked_along nodes listed (held nodes k ys) (held nodes (k + 1) []) same m
  where
    same : (x : ℕ) → held nodes k ys x ≡ held nodes (k + 1) [] x
    same x = by_place x k (held nodes k ys x ≡ held nodes (k + 1) [] x)
        (λ h. held_before nodes k ys x h ∙ sym (held_before nodes (k + 1) [] x (omega arith)))
        (λ e. ap (held nodes k ys) e ∙ held_here nodes k ys ∙ whole ∙ ap (below_of nodes) (sym e) ∙ sym (held_before nodes (k + 1) [] x (omega (arith, e))))
        (λ h. held_after nodes k ys x h ∙ by_place x (k + 1) ([] ≡ held nodes (k + 1) [] x) (λ l. absurd (omega arith)) (λ e. sym (ap (held nodes (k + 1) []) e ∙ held_here nodes (k + 1) [])) (λ l. sym (held_after nodes (k + 1) [] x l)))

-- a list that goes on with what is not its own, or with what it has already
pub wrong_list : (nodes : List Links) (listed : List Bool) (k z : ℕ) (ys zs : List ℕ) → below_of nodes k ≡ ys ++ z ∷ zs → (above_of nodes z ≡ Some k → get_or listed z false ≡ true) →
    AreMarked nodes listed (held nodes k ys) → IsListed nodes k → ⊥
wrong_list nodes listed k z ys zs whole stale m exact =
    let count = exact z in
    let parts = ap (count_by (eqb z)) whole ∙ count_parts z ys (z ∷ zs) in
    let some = count_itself z zs in
    let above = above_then (above_of nodes z) k (omega (arith, count, parts, some)) in
    let f = m.found z (stale above) in
    let there = above_then (above_of nodes z) f.0 (let low = m.right f.0 z in let has = f.1 in omega (arith, low, has)) in
    let same : f.0 ≡ k = same_place (above_of nodes z) f.0 k there above in
    let before : 0 < count_by (eqb z) ys = subst (λ l. 0 < count_by (eqb z) l) (ap (held nodes k ys) same ∙ held_here nodes k ys) f.1 in
    let once = once_at_most (above_of nodes z) k in
    omega (arith, count, parts, some, before, once)
  where
    same_place : (u : Option ℕ) (a b : ℕ) → u ≡ Some a → u ≡ Some b → a ≡ b
    same_place u a b e f = cc

module _ (nodes : List Links) (listed : List Bool) (limit m : ℕ) (r : AreRead nodes listed limit) (l : IsLeast nodes listed limit m (length nodes)) where
  exact_below : (x : ℕ) → x < m → IsListed nodes x
  exact_below x h y =
      let marked = r.marked.1 in
      let low : x < limit = (let most = l.most in omega (arith, most)) in
      let here = held_before nodes limit r.marked.0 x low in
      let few : count_by (eqb y) (below_of nodes x) ≤ times_below (above_of nodes y) x = subst (λ ys. count_by (eqb y) ys ≤ times_below (above_of nodes y) x) here (marked.right x y) in
      let once = once_at_most (above_of nodes y) x in
      over (times_below (above_of nodes y) x) refl few once here
    where
      same_place : (u : Option ℕ) (a b : ℕ) → u ≡ Some a → u ≡ Some b → a ≡ b
      same_place u a b e f = cc

      inside : (k : ℕ) → above_of nodes y ≡ Some k → y < length nodes
      inside k is = ⊎_elim (λ low. low) (λ past. absurd (let none : above_of nodes y ≡ None = ap (λ (n : Links). n.above) (get_or_past nodes y alone past) in cc)) (cases_lt y (length nodes))

      over : (n : ℕ) → times_below (above_of nodes y) x ≡ n → count_by (eqb y) (below_of nodes x) ≤ times_below (above_of nodes y) x → times_below (above_of nodes y) x ≤ 1 → held nodes limit r.marked.0 x ≡ below_of nodes x →
          count_by (eqb y) (below_of nodes x) ≡ times_below (above_of nodes y) x
      over zero e few once here = omega (arith, e, few)
      over (suc n) e few once here =
          let above = above_then (above_of nodes y) x (omega (arith, e)) in
          let on : get_or listed y false ≡ true = ⊎_elim (λ t. t) (λ off. absurd (let least = l.least y x (inside x above) off above in omega (arith, least))) (cases_Bool (get_or listed y false)) in
          let f = r.marked.1.found y on in
          let there = above_then (above_of nodes y) f.0 (let few2 = r.marked.1.right f.0 y in let has = f.1 in omega (arith, few2, has)) in
          let same : f.0 ≡ x = same_place (above_of nodes y) f.0 x there above in
          let has : 0 < count_by (eqb y) (below_of nodes x) = subst (λ ys. 0 < count_by (eqb y) ys) (ap (held nodes limit r.marked.0) same ∙ here) f.1 in
          omega (arith, e, few, once, has)

  pub least_is_wrong : m < length nodes → IsLeastUnlisted nodes m
  least_is_wrong low = record { node = low; wrong = wrong; below = exact_below }
    where
      wrong : IsListed nodes m → ⊥
      wrong exact = ⊎_elim
          (λ before.
          let why = l.reason before in
          let count = exact why.0 in
          let one = once_above (above_of nodes why.0) m why.3 in
          let there = held_before nodes limit r.marked.0 m before in
          let on = r.marked.1.marks m why.0 (subst (λ ys. 0 < count_by (eqb why.0) ys) (sym there) (omega (arith, count, one))) in
          both_ways (get_or listed why.0 false) why.2 on)
          (λ past. let same : m ≡ limit = (let most = l.most in omega (arith, most)) in r.wrong (subst (λ n. n < length nodes) same low) (subst (IsListed nodes) same exact))
          (cases_lt m limit)

  pub all_listed : length nodes ≤ m → (x : ℕ) → x < length nodes → IsListed nodes x
  all_listed past x low = exact_below x (omega arith)

-- one more number is looked at
pub least_more : (nodes : List Links) (listed : List Bool) (limit old new y : ℕ) → IsLeast nodes listed limit old y → new ≤ old → (get_or listed y false ≡ false → (up : ℕ) → above_of nodes y ≡ Some up → new ≤ up) →
    (new < old → (get_or listed y false ≡ false) × (above_of nodes y ≡ Some new)) → IsLeast nodes listed limit new (y + 1)
least_more nodes listed limit old new y l less above reason = record {
  most = let most = l.most in omega (arith, most);
  reason = λ before. ⊎_elim
      (λ lower. let why = reason lower in (y, omega arith, why.0, why.1))
      (λ same.
      let kept : old ≡ new = omega arith in
      let why = l.reason (omega (arith, kept)) in
      (why.0, (let low = why.1 in omega (arith, low)), why.2, why.3 ∙ ap (λ k. Some k) kept))
      (cases_lt new old);
  least = λ z up low off is. ⊎_elim
      (λ e. above (sym (ap (λ k. get_or listed k false) e) ∙ off) up (sym (ap (above_of nodes) e) ∙ is))
      (λ ne. let before = l.least z up (omega (arith, ne)) off is in omega (arith, before))
      (cases_eq z y);
}

pub least_begun : (nodes : List Links) (listed : List Bool) (limit : ℕ) → IsLeast nodes listed limit limit 0
least_begun nodes listed limit = record { most = omega arith; reason = λ h. absurd (omega arith); least = λ z up low off is. absurd (omega arith) }

-- nodes whose ways up end among them and whose lists are exact make a forest
pub forest_checked : (nodes : List Links) → ((y up : ℕ) → above_of nodes y ≡ Some up → up < length nodes) → ((x : ℕ) → x < length nodes → IsRooted nodes x) → ((x : ℕ) → x < length nodes → IsListed nodes x) → IsForest nodes
forest_checked nodes inside rooted listed = forest_from nodes exact ways
  where
    exact : (x y : ℕ) → count_by (eqb y) (below_of nodes x) ≡ times_below (above_of nodes y) x
    exact x y = ⊎_elim
        (λ low. listed x low y)
        (λ past.
        let none : below_of nodes x ≡ [] = ap (λ (n : Links). n.below) (get_or_past nodes x alone past) in
        ap (count_by (eqb y)) none ∙ sym (over (times_below (above_of nodes y) x) refl past))
        (cases_lt x (length nodes))
      where
        over : (n : ℕ) → times_below (above_of nodes y) x ≡ n → length nodes ≤ x → times_below (above_of nodes y) x ≡ 0
        over zero e past = e
        over (suc n) e past = absurd (let low = inside y x (above_then (above_of nodes y) x (omega (arith, e))) in omega arith)

    ways : (x : ℕ) → IsRooted nodes x
    ways x = ⊎_elim (λ low. rooted x low) (λ past. ([], ap (λ (n : Links). n.above) (get_or_past nodes x alone past))) (cases_lt x (length nodes))
