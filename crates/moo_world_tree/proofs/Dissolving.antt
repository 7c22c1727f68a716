-- The nodes after a dissolution.
use Rattle.std.proofs.Common.{◌≡◌, ◌≢◌, ℕ, ◌<◌, ◌≤◌, List, [], ◌∷◌, ◌++◌, Option, Some, None, true, false, cond, not, eqb, refl, sym, ◌∙◌, ap, ⊎_elim, arith, length, get_or, set, subst}
use Rattle.std.specs.List.{count_by, list_any, All}
use Rattle.std.specs.Option.{option_eq}
use Rattle.std.proofs.lemmas.List.{get_or_past, length-set, append-nil, get_or_read, get_or_default}
use Rattle.std.proofs.lemmas.List.Elements.{filter-append, All-head, All-tail}
use Rattle.std.proofs.lemmas.List.FromFn.{get_or-map-range_with_len, length-map-range_with_len, fill_by_all}
use Rattle.std.proofs.lemmas.List.Sums.{sum_by-append}
use Rattle.std.proofs.lemmas.Bool.{cases_Bool, eqb-true, eqb-false, eq-eqb, ne_eqb, or_left, or_parts, cases_lt, cases_eq, false≢true, both_ways}
use Rattle.moo_world_tree.specs.Forest.{Links, alone, above_of, below_of, IsWayUp, ancestors, times_below, IsForest, is_within, without, taken_over, links_once_dissolved, dissolved}
use Rattle.moo_world_tree.specs.Steps.{with_taken_out, with_all_newest, with_all_joined}
use Rattle.moo_world_tree.proofs.Counting.{count_without_itself, count_without_other, counted_if_any}
use Rattle.moo_world_tree.proofs.Climbing.{IsExact, above_within, not_met, way_up_is_ancestors, forest_from}
use Rattle.moo_world_tree.proofs.Moving.{IsPlace, links_same, above_with, below_with, above_set, above_taken_out, length_taken_out, absent_elsewhere, once_at_most}
use Rattle.moo_world_tree.proofs.Walking.{any_counted, none_counted, counts_at}

-- no node is right above itself
pub not_own : (nodes : List Links) → IsForest nodes → (x : ℕ) → above_of nodes x ≡ Some x → ⊥
not_own nodes f x own = over (ancestors nodes x) (f.rooted x)
  where
    over : (ys : List ℕ) → IsWayUp nodes x ys → ⊥
    over [] way = let top : above_of nodes x ≡ None = way in cc
    over (z ∷ zs) way =
        let up = way.0 in
        let same : x ≡ z = cc in
        both_ways (list_any (eqb x) (z ∷ zs)) (not_met nodes x (z ∷ zs) way) (or_left (eqb x z) (list_any (eqb x) zs) (eq-eqb x z same))

-- the node right above a node is not within it
pub above_apart : (nodes : List Links) → IsForest nodes → (x up : ℕ) → above_of nodes x ≡ Some up → is_within nodes up x ≡ false
above_apart nodes f x up is =
    let whole = way_up_is_ancestors nodes f.exact x (up ∷ ancestors nodes up) (is, f.rooted up) in
    not_met nodes x (up ∷ ancestors nodes up) (is, f.rooted up)

-- a node is in the list of another just where that one is right above it
pub in_list : (nodes : List Links) → IsExact nodes → (x y : ℕ) → list_any (eqb y) (below_of nodes x) ≡ option_eq eqb (above_of nodes y) (Some x)
in_list nodes exact x y = over (above_of nodes y) (exact x y)
  where
    yes : 0 < count_by (eqb y) (below_of nodes x) → list_any (eqb y) (below_of nodes x) ≡ true
    yes h = counted_if_any y (below_of nodes x) h

    no : count_by (eqb y) (below_of nodes x) ≡ 0 → list_any (eqb y) (below_of nodes x) ≡ false
    no h = ⊎_elim (λ e. absurd (let some = any_counted y (below_of nodes x) e in omega arith)) (λ e. e) (cases_Bool (list_any (eqb y) (below_of nodes x)))

    over : (u : Option ℕ) → count_by (eqb y) (below_of nodes x) ≡ times_below u x → list_any (eqb y) (below_of nodes x) ≡ option_eq eqb u (Some x)
    over None h = no h
    over (Some up) h = ⊎_elim
        (λ e. let back = eq-eqb up x (sym (eqb-true x up e)) in let one : times_below (Some up) x ≡ 1 = (rw e refl) in rw back (yes (omega (arith, h, one))))
        (λ e. let back = ne_eqb up x (λ k. eqb-false x up e (sym k)) in let none : times_below (Some up) x ≡ 0 = (rw e refl) in rw back (no (omega (arith, h, none))))
        (cases_Bool (eqb x up))

-- the list of a node does not have the node itself
pub without_own : (nodes : List Links) → IsForest nodes → (x : ℕ) → without x (below_of nodes x) ≡ below_of nodes x
without_own nodes f x = absent_elsewhere nodes x x f.exact (none (above_of nodes x) refl)
  where
    none : (u : Option ℕ) → above_of nodes x ≡ u → times_below u x ≡ 0
    none None is = refl
    none (Some up) is = ⊎_elim (λ e. absurd (not_own nodes f x (is ∙ ap (λ n. Some n) (sym (eqb-true x up e))))) (λ e. rw e refl) (cases_Bool (eqb x up))

module _ (nodes : List Links) (x : ℕ) (heir : Option ℕ) (f : IsForest nodes) (node : x < length nodes) (place : IsPlace nodes heir) (apart : (up : ℕ) → heir ≡ Some up → is_within nodes up x ≡ false) where
  above_dissolved : (y : ℕ) → above_of (dissolved nodes x heir) y ≡ cond (eqb y x) None (cond (option_eq eqb (above_of nodes y) (Some x)) heir (above_of nodes y))
  above_dissolved y = ⊎_elim
      (λ h. ap (λ (n : Links). n.above) (get_or-map-range_with_len (links_once_dissolved nodes x heir) 0 (length nodes) y y alone h (omega arith)))
      (λ past.
      let len = length-map-range_with_len (links_once_dissolved nodes x heir) 0 (length nodes) in
      let here : above_of nodes y ≡ None = ap (λ (n : Links). n.above) (get_or_past nodes y alone past) in
      let there : above_of (dissolved nodes x heir) y ≡ None = ap (λ (n : Links). n.above) (get_or_past (dissolved nodes x heir) y alone (omega (arith, len))) in
      let other = ne_eqb y x (λ e. omega arith) in
      there ∙ (rw (other, here) refl))
      (cases_lt y (length nodes))

  none_taken : (h : Option ℕ) → IsPlace nodes h → (y : ℕ) → length nodes ≤ y → taken_over nodes x h y ≡ []
  none_taken None p y past = refl
  none_taken (Some up) p y past = let low = p up refl in let other = ne_eqb y up (λ e. omega arith) in rw other refl

  below_dissolved : (y : ℕ) → below_of (dissolved nodes x heir) y ≡ cond (eqb y x) [] (without x (below_of nodes y) ++ taken_over nodes x heir y)
  below_dissolved y = ⊎_elim
      (λ h. ap (λ (n : Links). n.below) (get_or-map-range_with_len (links_once_dissolved nodes x heir) 0 (length nodes) y y alone h (omega arith)))
      (λ past.
      let len = length-map-range_with_len (links_once_dissolved nodes x heir) 0 (length nodes) in
      let here : below_of nodes y ≡ [] = ap (λ (n : Links). n.below) (get_or_past nodes y alone past) in
      let there : below_of (dissolved nodes x heir) y ≡ [] = ap (λ (n : Links). n.below) (get_or_past (dissolved nodes x heir) y alone (omega (arith, len))) in
      let other = ne_eqb y x (λ e. omega arith) in
      there ∙ sym (let none = none_taken heir place y past in rw (other, none) (ap (λ ns. without x ns ++ []) here)))
      (cases_lt y (length nodes))

  heir_other : (h : Option ℕ) → ((up : ℕ) → h ≡ Some up → is_within nodes up x ≡ false) → times_below h x ≡ 0
  heir_other None a = refl
  heir_other (Some up) a = ⊎_elim
      (λ e. absurd (false≢true (sym (a up refl) ∙ or_left (eqb x up) (list_any (eqb x) (ancestors nodes up)) e)))
      (λ e. rw e refl) (cases_Bool (eqb x up))

  count_taken : (h : Option ℕ) (y z : ℕ) → count_by (eqb y) (taken_over nodes x h z) ≡ cond (option_eq eqb (above_of nodes y) (Some x)) (times_below h z) 0
  count_taken None y z = ⊎_elim (λ e. rw e refl) (λ e. rw e refl) (cases_Bool (option_eq eqb (above_of nodes y) (Some x)))
  count_taken (Some up) y z =
      let listed = in_list nodes f.exact x y in
      let exact = f.exact x y in
      ⊎_elim
      (λ e. rw e (⊎_elim
      (λ on. rw on (one_of (above_of nodes y) on exact))
      (λ off. rw off (let none = none_counted y (below_of nodes x) (listed ∙ off) in omega (arith, none)))
      (cases_Bool (option_eq eqb (above_of nodes y) (Some x)))))
      (λ e. rw e (⊎_elim (λ on. rw on refl) (λ off. rw off refl) (cases_Bool (option_eq eqb (above_of nodes y) (Some x)))))
      (cases_Bool (eqb z up))
    where
      one_of : (u : Option ℕ) → option_eq eqb u (Some x) ≡ true → count_by (eqb y) (below_of nodes x) ≡ times_below u x → count_by (eqb y) (below_of nodes x) ≡ 1
      one_of None on h = absurd (false≢true on)
      one_of (Some q) on h = h ∙ (let back = eq-eqb x q (sym (eqb-true q x on)) in rw back refl)

  exact_dissolved : IsExact (dissolved nodes x heir)
  exact_dissolved z y =
      ap (count_by (eqb y)) (below_dissolved z) ∙ ⊎_elim (λ e. rw e (sym (at_x (eqb-true z x e)))) (λ e. rw e (elsewhere (eqb-false z x e))) (cases_Bool (eqb z x)) ∙ sym (ap (λ u. times_below u z) (above_dissolved y))
    where
      above_then : Option ℕ
      above_then = cond (eqb y x) None (cond (option_eq eqb (above_of nodes y) (Some x)) heir (above_of nodes y))

      not_x : (u : Option ℕ) → option_eq eqb u (Some x) ≡ false → times_below u x ≡ 0
      not_x None off = refl
      not_x (Some up) off = let back = ne_eqb x up (λ k. eqb-false up x off (sym k)) in rw back refl

      at_x : z ≡ x → times_below (cond (eqb y x) None (cond (option_eq eqb (above_of nodes y) (Some x)) heir (above_of nodes y))) z ≡ 0
      at_x same = rw same (⊎_elim (λ e. rw e refl) (λ e. rw e (⊎_elim (λ on. rw on (heir_other heir apart)) (λ off. rw off (not_x (above_of nodes y) off)) (cases_Bool (option_eq eqb (above_of nodes y) (Some x))))) (cases_Bool (eqb y x)))

      is_x : (u : Option ℕ) → option_eq eqb u (Some x) ≡ true → z ≢ x → times_below u z ≡ 0
      is_x None on ne = refl
      is_x (Some up) on ne = let same = eqb-true up x on in let other = ne_eqb z up (λ k. ne (k ∙ same)) in rw other refl

      own_none : option_eq eqb (above_of nodes x) (Some x) ≡ false
      own_none = ⊎_elim (λ on. absurd (own_so (above_of nodes x) refl on)) (λ off. off) (cases_Bool (option_eq eqb (above_of nodes x) (Some x)))
        where
          own_so : (u : Option ℕ) → above_of nodes x ≡ u → option_eq eqb u (Some x) ≡ true → ⊥
          own_so None is on = false≢true on
          own_so (Some up) is on = not_own nodes f x (is ∙ ap (λ n. Some n) (eqb-true up x on))

      elsewhere : z ≢ x → count_by (eqb y) (without x (below_of nodes z) ++ taken_over nodes x heir z) ≡ times_below (cond (eqb y x) None (cond (option_eq eqb (above_of nodes y) (Some x)) heir (above_of nodes y))) z
      elsewhere ne =
          let split = sum_by-append (λ k. cond (eqb y k) 1 0) (without x (below_of nodes z)) (taken_over nodes x heir z) in
          let taken = count_taken heir y z in
          ⊎_elim
          (λ e.
          let same = eqb-true y x e in
          let gone : count_by (eqb y) (without x (below_of nodes z)) ≡ 0 = rw same (count_without_itself x (below_of nodes z)) in
          let off : option_eq eqb (above_of nodes y) (Some x) ≡ false = rw same own_none in
          let none : count_by (eqb y) (taken_over nodes x heir z) ≡ 0 = taken ∙ (rw off refl) in
          rw e (omega (arith, split, gone, none)))
          (λ e.
          let kept = count_without_other x y (below_of nodes z) (ne_eqb x y (λ k. eqb-false y x e (sym k))) in
          let old = f.exact z y in
          rw e (⊎_elim
          (λ on. rw on (let new : count_by (eqb y) (taken_over nodes x heir z) ≡ times_below heir z = taken ∙ (rw on refl) in let none = is_x (above_of nodes y) on ne in omega (arith, split, kept, old, new, none)))
          (λ off. rw off (let new : count_by (eqb y) (taken_over nodes x heir z) ≡ 0 = taken ∙ (rw off refl) in omega (arith, split, kept, old, new)))
          (cases_Bool (option_eq eqb (above_of nodes y) (Some x)))))
          (cases_Bool (eqb y x))

  -- a node that is not x, and has another than x right above it, keeps that
  above_kept : (y : ℕ) (u : Option ℕ) → y ≢ x → above_of nodes y ≡ u → u ≢ Some x → above_of (dissolved nodes x heir) y ≡ u
  above_kept y u other is ne =
      let out = ne_eqb y x other in
      above_dissolved y ∙ (rw out (let off : option_eq eqb (above_of nodes y) (Some x) ≡ false = ap (λ v. option_eq eqb v (Some x)) is ∙ not_that u ne in rw off is))
    where
      not_that : (v : Option ℕ) → v ≢ Some x → option_eq eqb v (Some x) ≡ false
      not_that None h = refl
      not_that (Some q) h = ne_eqb q x (λ e. h (ap (λ n. Some n) e))

  above_inherited : (y : ℕ) → y ≢ x → above_of nodes y ≡ Some x → above_of (dissolved nodes x heir) y ≡ heir
  above_inherited y other is =
      let out = ne_eqb y x other in
      above_dissolved y ∙ (rw out (let on : option_eq eqb (above_of nodes y) (Some x) ≡ true = ap (λ v. option_eq eqb v (Some x)) is ∙ eq-eqb x x refl in rw on refl))

  -- a way up that does not meet x stays one
  way_kept : (y : ℕ) (ys : List ℕ) → list_any (eqb x) (y ∷ ys) ≡ false → IsWayUp nodes y ys → IsWayUp (dissolved nodes x heir) y ys
  way_kept y [] off way =
      let parts = or_parts (eqb x y) false off in
      above_kept y None (λ e. eqb-false x y parts.0 (sym e)) way (λ e. cc)
  way_kept y (z ∷ zs) off way =
      let parts = or_parts (eqb x y) (list_any (eqb x) (z ∷ zs)) off in
      let next = or_parts (eqb x z) (list_any (eqb x) zs) parts.1 in
      (above_kept y (Some z) (λ e. eqb-false x y parts.0 (sym e)) way.0 (λ e. eqb-false x z next.0 (let same : z ≡ x = cc in sym same)), way_kept z zs parts.1 way.1)

  heir_way : (h : Option ℕ) → h ≡ heir → (y : ℕ) → above_of (dissolved nodes x heir) y ≡ h → (zs : List ℕ) × IsWayUp (dissolved nodes x heir) y zs
  heir_way None is y up = ([], up)
  heir_way (Some h) is y up = (h ∷ ancestors nodes h, (up, way_kept h (ancestors nodes h) (apart h (sym is)) (f.rooted h)))

  way_dissolved : (y : ℕ) (ys : List ℕ) → IsWayUp nodes y ys → (zs : List ℕ) × IsWayUp (dissolved nodes x heir) y zs
  way_dissolved y [] way = ⊎_elim
      (λ e. let here = eq-eqb y x e in ([], above_dissolved y ∙ (rw here refl)))
      (λ ne. ([], above_kept y None ne way (λ e. cc)))
      (cases_eq y x)
  way_dissolved y (z ∷ zs) way = ⊎_elim
      (λ e. let here = eq-eqb y x e in ([], above_dissolved y ∙ (rw here refl)))
      (λ ne. ⊎_elim
      (λ same. heir_way heir refl y (above_inherited y ne (way.0 ∙ ap (λ n. Some n) same)))
      (λ other. let rest = way_dissolved z zs way.1 in (z ∷ rest.0, (above_kept y (Some z) ne way.0 (λ e. other (let k : z ≡ x = cc in k)), rest.1)))
      (cases_eq z x))
      (cases_eq y x)

  pub forest_dissolved : IsForest (dissolved nodes x heir)
  forest_dissolved = forest_from (dissolved nodes x heir) exact_dissolved (λ y. way_dissolved y (ancestors nodes y) (f.rooted y))

  pub length_dissolved : length (dissolved nodes x heir) ≡ length nodes
  length_dissolved = length-map-range_with_len (links_once_dissolved nodes x heir) 0 (length nodes)

  pub alone_dissolved : get_or (dissolved nodes x heir) x alone ≡ alone
  alone_dissolved = let here = eq-eqb x x refl in links_same (get_or (dissolved nodes x heir) x alone) alone (above_dissolved x ∙ (rw here refl)) (below_dissolved x ∙ (rw here refl))

  not_heir : (h : Option ℕ) (y : ℕ) → ((up : ℕ) → h ≡ Some up → y ≢ up) → taken_over nodes x h y ≡ []
  not_heir None y other = refl
  not_heir (Some up) y other = let e = ne_eqb y up (other up refl) in rw e refl

  -- a node without neighbours stays so, unless it is the heir
  pub still_alone : (y : ℕ) → ((up : ℕ) → heir ≡ Some up → y ≢ up) → get_or nodes y alone ≡ alone → get_or (dissolved nodes x heir) y alone ≡ alone
  still_alone y other free = ⊎_elim
      (λ e. rw e alone_dissolved)
      (λ ne.
      let out = ne_eqb y x ne in
      let top : above_of nodes y ≡ None = ap (λ (n : Links). n.above) free in
      let bottom : below_of nodes y ≡ [] = ap (λ (n : Links). n.below) free in
      let nothing = not_heir heir y other in
      links_same (get_or (dissolved nodes x heir) y alone) alone (above_kept y None ne top (λ e. cc))
      (below_dissolved y ∙ (rw (out, nothing) (ap (λ ns. without x ns ++ []) bottom))))
      (cases_eq y x)

-- the steps of the code

length_joined : (nodes : List Links) (ys : List ℕ) (to : Option ℕ) → length (with_all_joined nodes ys to) ≡ length nodes
length_joined nodes [] to = refl
length_joined nodes (y ∷ ys) to =
    length_joined (set nodes y (record { above = to; below = below_of nodes y })) ys to ∙ length-set nodes y (record { above = to; below = below_of nodes y })

above_joined : (nodes : List Links) (ys : List ℕ) (to : Option ℕ) (z : ℕ) → All (λ y. y < length nodes) ys → above_of (with_all_joined nodes ys to) z ≡ cond (list_any (eqb z) ys) to (above_of nodes z)
above_joined nodes [] to z all = refl
above_joined nodes (y ∷ ys) to z all =
    let links : Links = record { above = to; below = below_of nodes y } in
    let head : y < length nodes = All-head (λ k. k < length nodes) y ys all in
    let tail = All-tail (λ k. k < length nodes) y ys all in
    let len = length-set nodes y links in
    above_joined (set nodes y links) ys to z (subst (λ n. All (λ k. k < n) ys) (sym len) tail) ∙
    ap (λ u. cond (list_any (eqb z) ys) to u) (above_set nodes y links z head) ∙
    ⊎_elim
    (λ e. rw e (⊎_elim (λ on. rw on refl) (λ off. rw off refl) (cases_Bool (list_any (eqb z) ys))))
    (λ e. rw e refl)
    (cases_Bool (eqb z y))

below_joined : (nodes : List Links) (ys : List ℕ) (to : Option ℕ) (z : ℕ) → All (λ y. y < length nodes) ys → below_of (with_all_joined nodes ys to) z ≡ below_of nodes z
below_joined nodes [] to z all = refl
below_joined nodes (y ∷ ys) to z all =
    let links : Links = record { above = to; below = below_of nodes y } in
    let head : y < length nodes = All-head (λ k. k < length nodes) y ys all in
    let tail = All-tail (λ k. k < length nodes) y ys all in
    let len = length-set nodes y links in
    below_joined (set nodes y links) ys to z (subst (λ n. All (λ k. k < n) ys) (sym len) tail) ∙
    below_with nodes y links z head ∙
    ⊎_elim (λ e. rw e (ap (below_of nodes) (sym (eqb-true z y e)))) (λ e. rw e refl) (cases_Bool (eqb z y))

length_all_newest : (nodes : List Links) (ys : List ℕ) (to : Option ℕ) → length (with_all_newest nodes ys to) ≡ length nodes
length_all_newest nodes ys None = refl
length_all_newest nodes ys (Some up) = length-set nodes up _

above_all_newest : (nodes : List Links) (ys : List ℕ) (to : Option ℕ) (z : ℕ) → above_of (with_all_newest nodes ys to) z ≡ above_of nodes z
above_all_newest nodes ys None z = refl
above_all_newest nodes ys (Some up) z = above_with nodes up _ z refl

below_all_newest : (nodes : List Links) (x : ℕ) (to : Option ℕ) (z : ℕ) → IsPlace nodes to → below_of (with_all_newest nodes (below_of nodes x) to) z ≡ below_of nodes z ++ taken_over nodes x to z
below_all_newest nodes x None z place = sym (append-nil (below_of nodes z))
below_all_newest nodes x (Some up) z place =
    below_with nodes up _ z (place up refl) ∙
    ⊎_elim
    (λ e. rw e (ap (λ k. below_of nodes k ++ below_of nodes x) (sym (eqb-true z up e))))
    (λ e. rw e (sym (append-nil (below_of nodes z))))
    (cases_Bool (eqb z up))

-- a number in the list of a node is a node
pub listed_within : (nodes : List Links) → IsExact nodes → (x : ℕ) → All (λ y. y < length nodes) (below_of nodes x)
listed_within nodes exact x k d h = ⊎_elim (λ low. low)
    (λ past. absurd (let top : above_of nodes (get_or (below_of nodes x) k d) ≡ None = ap (λ (n : Links). n.above) (get_or_past nodes (get_or (below_of nodes x) k d) alone past) in
    let count = exact x (get_or (below_of nodes x) k d) in
    let none : times_below (above_of nodes (get_or (below_of nodes x) k d)) x ≡ 0 = (rw top refl) in
    let some = counts_at_any (below_of nodes x) k d h in omega (arith, count, none, some)))
    (cases_lt (get_or (below_of nodes x) k d) (length nodes))
  where
    counts_at_any : (ys : List ℕ) (k d : ℕ) → k < length ys → 0 < count_by (eqb (get_or ys k d)) ys
    counts_at_any ys k d h = let same = get_or_default ys k d 0 h in rw same (counts_at ys k h)

taken_kept : (nodes : List Links) (x : ℕ) (h : Option ℕ) (z : ℕ) → IsForest nodes → without x (taken_over nodes x h z) ≡ taken_over nodes x h z
taken_kept nodes x None z f = refl
taken_kept nodes x (Some up) z f = ⊎_elim (λ e. rw e (without_own nodes f x)) (λ e. rw e refl) (cases_Bool (eqb z up))

below_out : (nodes : List Links) (x : ℕ) (h from : Option ℕ) (joined : List Links) (z : ℕ) → IsForest nodes → IsPlace joined from → from ≡ above_of nodes x →
    ((k : ℕ) → below_of joined k ≡ below_of nodes k ++ taken_over nodes x h k) → below_of (with_taken_out joined x from) z ≡ without x (below_of nodes z) ++ taken_over nodes x h z
below_out nodes x h None joined z f place is each =
    each z ∙ ap (λ ns. ns ++ taken_over nodes x h z) (sym (absent_elsewhere nodes x z f.exact (ap (λ u. times_below u z) (sym is))))
below_out nodes x h (Some q) joined z f place is each =
    below_with joined q _ z (place q refl) ∙
    ⊎_elim
    (λ e.
    let same = eqb-true z q e in
    rw e (ap (λ k. without x (below_of joined k)) (sym same) ∙ ap (without x) (each z) ∙
    filter-append (λ k. not (eqb x k)) (below_of nodes z) (taken_over nodes x h z) ∙ ap (λ ns. without x (below_of nodes z) ++ ns) (taken_kept nodes x h z f)))
    (λ e.
    let nothing : times_below (Some q) z ≡ 0 = (rw e refl) in
    rw e (each z ∙ ap (λ ns. ns ++ taken_over nodes x h z) (sym (absent_elsewhere nodes x z f.exact (ap (λ u. times_below u z) (sym is) ∙ nothing)))))
    (cases_Bool (eqb z q))

-- the steps come to what a dissolution is
pub dissolved_by_steps : (nodes : List Links) (x : ℕ) (heir from : Option ℕ) → IsForest nodes → x < length nodes → IsPlace nodes heir → from ≡ above_of nodes x →
    set (with_taken_out (with_all_joined (with_all_newest nodes (below_of nodes x) heir) (below_of nodes x) heir) x from) x alone ≡ dissolved nodes x heir
dissolved_by_steps nodes x heir from f node place is =
    let newest = with_all_newest nodes (below_of nodes x) heir in
    let joined = with_all_joined newest (below_of nodes x) heir in
    let out = with_taken_out joined x from in
    let newest_len = length_all_newest nodes (below_of nodes x) heir in
    let joined_len = length_joined newest (below_of nodes x) heir in
    let out_len = length_taken_out joined x from in
    let members : All (λ y. y < length newest) (below_of nodes x) = subst (λ n. All (λ y. y < n) (below_of nodes x)) (sym newest_len) (listed_within nodes f.exact x) in
    let old_place : IsPlace joined from = λ up isup. (let low = above_within nodes f.exact x up (sym is ∙ isup) in omega (arith, low, newest_len, joined_len)) in
    let each = λ (k : ℕ). below_joined newest (below_of nodes x) heir k members ∙ below_all_newest nodes x heir k place in
    fill_by_all (links_once_dissolved nodes x heir) (set out x alone) (length nodes) alone (omega (arith, length-set out x alone, out_len, joined_len, newest_len))
    (λ k h.
    let inside : x < length out = omega (arith, out_len, joined_len, newest_len) in
    links_same (get_or (set out x alone) k alone) (links_once_dissolved nodes x heir k)
    (above_set out x alone k inside ∙
    ap (λ u. cond (eqb k x) None u) (above_taken_out joined x from k ∙ above_joined newest (below_of nodes x) heir k members ∙
    ap (λ b. cond b heir (above_of newest k)) (in_list nodes f.exact x k) ∙ ap (λ u. cond (option_eq eqb (above_of nodes k) (Some x)) heir u) (above_all_newest nodes (below_of nodes x) heir k)))
    (below_with out x alone k inside ∙ ap (λ ns. cond (eqb k x) [] ns) (below_out nodes x heir from joined k f old_place is each)))

pub length_put : (nodes : List Links) (ys : List ℕ) (to : Option ℕ) (put : List Links) → put ≡ with_all_newest nodes ys to → length put ≡ length nodes
length_put nodes ys to put is = ap length is ∙ length_all_newest nodes ys to

pub length_joined_so : (nodes : List Links) (ys : List ℕ) (to : Option ℕ) (joined : List Links) → joined ≡ with_all_joined nodes ys to → length joined ≡ length nodes
length_joined_so nodes ys to joined is = ap length is ∙ length_joined nodes ys to

pub length_out_so : (nodes : List Links) (x : ℕ) (from : Option ℕ) (out : List Links) → out ≡ with_taken_out nodes x from → length out ≡ length nodes
length_out_so nodes x from out is = ap length is ∙ length_taken_out nodes x from

-- the steps as the code makes them
pub dissolved_so : (nodes : List Links) (x : ℕ) (heir from : Option ℕ) (ys zs : List ℕ) (put joined out : List Links) (last : Links) → IsForest nodes → x < length nodes → IsPlace nodes heir → from ≡ above_of nodes x →
    ys ≡ below_of nodes x → zs ≡ below_of nodes x → put ≡ with_all_newest nodes ys heir → joined ≡ with_all_joined put zs heir → out ≡ with_taken_out joined x from → last ≡ alone → set out x last ≡ dissolved nodes x heir
dissolved_so nodes x heir from ys zs put joined out last f node place is ys_are zs_are put_is joined_is out_is last_is =
    let put_so : put ≡ with_all_newest nodes (below_of nodes x) heir = put_is ∙ ap (λ ns. with_all_newest nodes ns heir) ys_are in
    let joined_so : joined ≡ with_all_joined (with_all_newest nodes (below_of nodes x) heir) (below_of nodes x) heir =
    joined_is ∙ ap (λ ns. with_all_joined put ns heir) zs_are ∙ ap (λ ps. with_all_joined ps (below_of nodes x) heir) put_so in
    let out_so : out ≡ with_taken_out (with_all_joined (with_all_newest nodes (below_of nodes x) heir) (below_of nodes x) heir) x from = out_is ∙ ap (λ js. with_taken_out js x from) joined_so in
    ap (λ os. set os x last) out_so ∙ ap (λ l. set (with_taken_out (with_all_joined (with_all_newest nodes (below_of nodes x) heir) (below_of nodes x) heir) x from) x l) last_is ∙
    dissolved_by_steps nodes x heir from f node place is

-- then a node is in the list of the one above it at most once
pub once_so : (nodes : List Links) (x : ℕ) (heir : Option ℕ) (ys zs : List ℕ) (put joined : List Links) → IsForest nodes → IsPlace nodes heir →
    ys ≡ below_of nodes x → zs ≡ below_of nodes x → put ≡ with_all_newest nodes ys heir → joined ≡ with_all_joined put zs heir → (up : ℕ) → count_by (eqb x) (below_of joined up) ≤ 1
once_so nodes x heir ys zs put joined f place ys_are zs_are put_is joined_is up =
    let newest = with_all_newest nodes (below_of nodes x) heir in
    let newest_len = length_all_newest nodes (below_of nodes x) heir in
    let put_so : put ≡ newest = put_is ∙ ap (λ ns. with_all_newest nodes ns heir) ys_are in
    let joined_so : joined ≡ with_all_joined newest (below_of nodes x) heir =
    joined_is ∙ ap (λ ns. with_all_joined put ns heir) zs_are ∙ ap (λ ps. with_all_joined ps (below_of nodes x) heir) put_so in
    let members : All (λ y. y < length newest) (below_of nodes x) = subst (λ n. All (λ y. y < n) (below_of nodes x)) (sym newest_len) (listed_within nodes f.exact x) in
    let there = ap (λ ns. below_of ns up) joined_so ∙ below_joined newest (below_of nodes x) heir up members ∙ below_all_newest nodes x heir up place in
    let parts = sum_by-append (λ k. cond (eqb x k) 1 0) (below_of nodes up) (taken_over nodes x heir up) in
    let none : count_by (eqb x) (taken_over nodes x heir up) ≡ 0 = ap (count_by (eqb x)) (sym (taken_kept nodes x heir up f)) ∙ count_without_itself x (taken_over nodes x heir up) in
    let once = once_at_most nodes f.exact up x in
    subst (λ ns. count_by (eqb x) ns ≤ 1) (sym there) (omega (arith, parts, none, once))

-- the list that the code read
pub below_read : (nodes : List Links) (x : ℕ) (read : Links) (ys : List ℕ) → x < length nodes → read ≡ get_or nodes x read → ys ≡ read.below → ys ≡ below_of nodes x
below_read nodes x read ys h read_is is = is ∙ ap (λ (n : Links). n.below) (get_or_read nodes x read h read_is alone)

module _ (nodes : List Links) (x : ℕ) (f : IsForest nodes) (node : x < length nodes) where
  parent_place : IsPlace nodes (above_of nodes x)
  parent_place up is = above_within nodes f.exact x up is

  parent_apart : (up : ℕ) → above_of nodes x ≡ Some up → is_within nodes up x ≡ false
  parent_apart up is = above_apart nodes f x up is

  kept : (y : ℕ) (u : Option ℕ) → y ≢ x → above_of nodes y ≡ u → u ≢ Some x → above_of (dissolved nodes x (above_of nodes x)) y ≡ u
  kept = above_kept nodes x (above_of nodes x) f node parent_place parent_apart

  inherited : (y : ℕ) → y ≢ x → above_of nodes y ≡ Some x → above_of (dissolved nodes x (above_of nodes x)) y ≡ above_of nodes x
  inherited = above_inherited nodes x (above_of nodes x) f node parent_place parent_apart

  -- a way up only loses x
  way_without : (y : ℕ) (ys : List ℕ) → y ≢ x → IsWayUp nodes y ys → IsWayUp (dissolved nodes x (above_of nodes x)) y (without x ys)
  way_without y [] ne way = kept y None ne way (λ e. cc)
  way_without y (z ∷ []) ne way = ⊎_elim
      (λ e.
      let same : z ≡ x = sym (eqb-true x z e) in
      let top : above_of nodes x ≡ None = ap (above_of nodes) (sym same) ∙ way.1 in
      rw e (inherited y ne (way.0 ∙ ap (λ n. Some n) same) ∙ top))
      (λ e. rw e (kept y (Some z) ne way.0 (λ h. eqb-false x z e (let same : z ≡ x = cc in sym same)), way_without z [] (λ h. eqb-false x z e (sym h)) way.1))
      (cases_Bool (eqb x z))
  way_without y (z ∷ u ∷ us) ne way = ⊎_elim
      (λ e.
      let same : z ≡ x = sym (eqb-true x z e) in
      let up : above_of nodes x ≡ Some u = ap (above_of nodes) (sym same) ∙ way.1.0 in
      let other = ne_eqb x u (λ h. not_own nodes f x (up ∙ ap (λ n. Some n) (sym h))) in
      rw (e, other) (inherited y ne (way.0 ∙ ap (λ n. Some n) same) ∙ up, way_without u us (λ h. eqb-false x u other (sym h)) way.1.1))
      (λ e. rw e (kept y (Some z) ne way.0 (λ h. eqb-false x z e (let same : z ≡ x = cc in sym same)), way_without z (u ∷ us) (λ h. eqb-false x z e (sym h)) way.1))
      (cases_Bool (eqb x z))

  pub ancestors_dissolved : (y : ℕ) → y ≢ x → ancestors (dissolved nodes x (above_of nodes x)) y ≡ without x (ancestors nodes y)
  ancestors_dissolved y ne =
      way_up_is_ancestors (dissolved nodes x (above_of nodes x)) (forest_dissolved nodes x (above_of nodes x) f node parent_place parent_apart).exact y (without x (ancestors nodes y))
      (way_without y (ancestors nodes y) ne (f.rooted y))

  pub parents_dissolved : IsForest (dissolved nodes x (above_of nodes x))
  parents_dissolved = forest_dissolved nodes x (above_of nodes x) f node parent_place parent_apart
