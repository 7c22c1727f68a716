-- A walk over the trees that links make, while it is made.
use Rattle.std.proofs.Common.{◌≡◌, ◌≢◌, ℕ, zero, suc, ◌+◌, ◌*◌, ◌<◌, ◌≤◌, ◌⊎◌, inl, inr, List, [], ◌∷◌, ◌++◌, length, reverse, map, Option, Some, None, Bool, true, false, cond, eqb, refl, sym, ap, subst, ◌∙◌, ⊎_elim, arith, get_or, set, append_assoc}
use Rattle.std.specs.List.{count_by}
use Rattle.std.specs.Option.{ForSome}
use Rattle.std.proofs.lemmas.List.{get_or-set_same, get_or-set_other, length-set, reverse-append, append-nil}
use Rattle.std.proofs.lemmas.List.Sums.{sum_by-append}
use Rattle.std.proofs.lemmas.Bool.{cases_eq, cases_lt, eq-eqb, ne_eqb}
use Rattle.moo_world_tree.specs.Forest.{Links, alone, below_of, times_below}
use Rattle.moo_world_tree.specs.Steps.{with_newest}
use Rattle.moo_dbtext_restore.specs.declared.link.Link.{Link}
use Rattle.moo_dbtext_restore.specs.declared.tour.Visit.{Visit}
use Rattle.moo_dbtext_restore.specs.declared.tour.Visit.TheVariants.{Enter, Leave}
use Rattle.moo_dbtext_restore.specs.Links.{above_in, link_of, numbered, IsLineage, AreBelow}
use Rattle.moo_dbtext_restore.specs.Tours.{enters, times_entered, Leads, IsTour, AreListsBelow, Awaits}
use Rattle.moo_dbtext_restore.proofs.Chains.{count_parts, count_one, above_then}
use Rattle.moo_dbtext_restore.proofs.Noded.{no_link_past}
use Rattle.moo_dbtext_restore.proofs.Trees.{numbered_within}

-- how often an object is entered

pub entered_parts : (y : ℕ) (xs ys : List Visit) → times_entered y (xs ++ ys) ≡ times_entered y xs + times_entered y ys
entered_parts y xs ys = sum_by-append (λ v. cond (enters y v) 1 0) xs ys

pub entered_itself : (y : ℕ) → times_entered y (Enter y ∷ []) ≡ 1
entered_itself y = let same = eq-eqb y y refl in rw same refl

pub entered_other : (y x : ℕ) → y ≢ x → times_entered y (Enter x ∷ []) ≡ 0
entered_other y x ne = let other = ne_eqb y x ne in rw other refl

entered_all : (y : ℕ) (ys : List ℕ) → times_entered y (map Enter ys) ≡ count_by (eqb y) ys
entered_all y [] = refl
entered_all y (z ∷ ys) =
    let parts = entered_parts y (Enter z ∷ []) (map Enter ys) in
    let other = count_parts y (z ∷ []) ys in
    let one : times_entered y (Enter z ∷ []) ≡ count_by (eqb y) (z ∷ []) = refl in
    let rest = entered_all y ys in
    omega (arith, parts, other, one, rest)

-- the lists below, as they are made

pub alone_more : (nodes : List Links) → ((x : ℕ) → below_of nodes x ≡ []) → (x : ℕ) → below_of (nodes ++ alone ∷ []) x ≡ []
alone_more [] h zero = refl
alone_more [] h (suc x) = refl
alone_more (n ∷ nodes) h zero = h 0
alone_more (n ∷ nodes) h (suc x) = alone_more nodes (λ y. h (suc y)) x

-- the objects before k occur in the lists of the objects right above them, and no other does
pub record AreListedTo (links : List (Option Link)) (nodes : List Links) (k : ℕ) : Type 0 where
  pub many : length nodes ≡ length links
  pub before : (x y : ℕ) → y < k → count_by (eqb y) (below_of nodes x) ≡ times_below (above_in links y) x
  pub later : (x y : ℕ) → k ≤ y → count_by (eqb y) (below_of nodes x) ≡ 0

module _ (links : List (Option Link)) where
  pub none_listed : (nodes : List Links) → length nodes ≡ length links → ((x : ℕ) → below_of nodes x ≡ []) → AreListedTo links nodes 0
  none_listed nodes many empty = record {
    many = many;
    before = λ x y low. absurd (omega arith);
    later = λ x y past. ap (count_by (eqb y)) (empty x);
  }

  module _ (nodes : List Links) (k : ℕ) (a : AreListedTo links nodes k) where
    list_after : (up x : ℕ) → up < length nodes → (y : ℕ) → count_by (eqb y) (below_of (with_newest nodes k (Some up)) x) ≡ count_by (eqb y) (below_of nodes x) + times_below (Some up) x * count_by (eqb y) (k ∷ [])
    list_after up x low y = ⊎_elim
        (λ same.
        let one = eq-eqb x up same in
        let here : below_of (with_newest nodes k (Some up)) x ≡ below_of nodes x ++ k ∷ [] =
        ap (below_of (with_newest nodes k (Some up))) same
        ∙ (ap (λ (n : Links). n.below) (get_or-set_same nodes up (record { above = (get_or nodes up alone).above; below = below_of nodes up ++ k ∷ [] }) alone low)
        ∙ ap (λ i. below_of nodes i ++ k ∷ []) (sym same)) in
        let parts = ap (count_by (eqb y)) here ∙ count_parts y (below_of nodes x) (k ∷ []) in
        rw one (omega (arith, parts)))
        (λ ne.
        let none = ne_eqb x up ne in
        let there : below_of (with_newest nodes k (Some up)) x ≡ below_of nodes x =
        ap (λ (n : Links). n.below) (get_or-set_other nodes up x (record { above = (get_or nodes up alone).above; below = below_of nodes up ++ k ∷ [] }) alone ne) in
        let same = ap (count_by (eqb y)) there in
        rw none (omega (arith, same)))
        (cases_eq x up)

    one_time : (x y : ℕ) → y ≡ k → count_by (eqb y) (k ∷ []) ≡ 1
    one_time x y same = ap (λ i. count_by (eqb i) (k ∷ [])) same ∙ count_one k

    no_time : (y : ℕ) → y ≢ k → count_by (eqb y) (k ∷ []) ≡ 0
    no_time y ne = let other = ne_eqb y k ne in rw other refl

    pub listed_more : (to : Option ℕ) → above_in links k ≡ to → ForSome to (λ up. up < length nodes) → AreListedTo links (with_newest nodes k to) (k + 1)
    listed_more None above low = record {
      many = a.many;
      before = λ x y before. ⊎_elim
          (λ lower. a.before x y lower)
          (λ past. let same : y ≡ k = omega arith in a.later x y past ∙ sym (ap (λ u. times_below u x) (ap (above_in links) same ∙ above)))
          (cases_lt y k);
      later = λ x y past. a.later x y (omega arith);
    }
    listed_more (Some up) above low = record {
      many = length-set nodes up (record { above = (get_or nodes up alone).above; below = below_of nodes up ++ k ∷ [] }) ∙ a.many;
      before = λ x y before. ⊎_elim
          (λ lower. list_after up x (low up refl) y ∙ (let none = no_time y (λ e. omega (arith, e, lower)) in let old = a.before x y lower in rw none (omega (arith, old))))
          (λ past.
          let same : y ≡ k = omega arith in
          let times : times_below (above_in links y) x ≡ times_below (Some up) x = ap (λ u. times_below u x) (ap (above_in links) same ∙ above) in
          list_after up x (low up refl) y ∙ (let one = one_time x y same in let old = a.later x y past in rw one (omega (arith, old, times))))
          (cases_lt y k);
      later = λ x y past. list_after up x (low up refl) y ∙ (let none = no_time y (λ e. omega (arith, e, past)) in let old = a.later x y (omega (arith, past)) in rw none (omega (arith, old)));
    }

    pub all_listed : length links ≤ k → AreListsBelow links nodes
    all_listed most x y = ⊎_elim
        (λ lower. a.before x y lower)
        (λ past. a.later x y past ∙ sym (ap (λ (l : Link). times_below (numbered links l.above) x) (no_link_past links y (omega (arith, most, past)))))
        (cases_lt y k)

-- visits that lead somewhere

module _ (links : List (Option Link)) where
  leads_in : (path : List ℕ) (vs : List Visit) (at : List ℕ) (x : ℕ) → Leads links path vs at → IsLineage links x at → Leads links path (vs ++ Enter x ∷ []) (x ∷ at)
  leads_in path [] at x l way = (subst (IsLineage links x) (sym l) way, ap (λ p. x ∷ p) l)
  leads_in path (Enter y ∷ vs) at x l way = (l.0, leads_in (y ∷ path) vs at x l.1 way)
  leads_in [] (Leave y ∷ vs) at x l way = absurd l
  leads_in (p ∷ path) (Leave y ∷ vs) at x l way = (l.0, leads_in path vs at x l.1 way)

  leads_out : (path : List ℕ) (vs : List Visit) (at : List ℕ) (p x : ℕ) → Leads links path vs (p ∷ at) → p ≡ x → Leads links path (vs ++ Leave x ∷ []) at
  leads_out path [] at p x l e = subst (λ q. Leads links q (Leave x ∷ []) at) (sym l) (e, refl)
  leads_out path (Enter y ∷ vs) at p x l e = (l.0, leads_out (y ∷ path) vs at p x l.1 e)
  leads_out [] (Leave y ∷ vs) at p x l e = absurd l
  leads_out (q ∷ path) (Leave y ∷ vs) at p x l e = (l.0, leads_out path vs at p x l.1 e)

  pub awaits_one : (path : List ℕ) (vs : List Visit) (v : Visit) → Awaits links path (v ∷ reverse vs) → Awaits links path (reverse (vs ++ v ∷ []))
  awaits_one path vs v a = subst (Awaits links path) (sym (reverse-append vs (v ∷ []))) a

  awaited_one : (path : List ℕ) (vs : List Visit) (v : Visit) → Awaits links path (reverse (vs ++ v ∷ [])) → Awaits links path (v ∷ reverse vs)
  awaited_one path vs v a = subst (Awaits links path) (reverse-append vs (v ∷ [])) a

  awaits_all : (path ys : List ℕ) (vs : List Visit) → ((z : ℕ) → 0 < count_by (eqb z) ys → IsLineage links z path) → Awaits links path (reverse vs) → Awaits links path (reverse (vs ++ map Enter ys))
  awaits_all path [] vs right a = subst (λ l. Awaits links path (reverse l)) (sym (append-nil vs)) a
  awaits_all path (y ∷ ys) vs right a =
      subst (λ l. Awaits links path (reverse l)) (append_assoc vs (Enter y ∷ []) (map Enter ys))
      (awaits_all path ys (vs ++ Enter y ∷ [])
      (λ z some. right z (let parts = count_parts z (y ∷ []) ys in omega (arith, parts, some)))
      (awaits_one path vs (Enter y) (right y (let parts = count_parts y (y ∷ []) ys in let one = count_one y in omega (arith, parts, one)), a)))

-- right below nothing, or below what has a mark
abbrev pub IsDue : List (Option Link) → List Bool → ℕ → Type 0
IsDue links seen y = (above_in links y ≡ None) ⊎ ((x : ℕ) × (above_in links y ≡ Some x) × (get_or seen x false ≡ true))

-- a walk with its marks and the visits to come, the next one last
pub record IsUnderWay (links : List (Option Link)) (seen : List Bool) (todo tour : List Visit) : Type 0 where
  pub path : List ℕ
  pub many : length seen ≡ length links
  pub before : Leads links [] tour path
  pub ahead : Awaits links path (reverse todo)
  pub met : (y : ℕ) → get_or seen y false ≡ true → 0 < times_entered y tour
  pub due : (y : ℕ) → y < length links → IsDue links seen y → (get_or seen y false ≡ true) ⊎ (0 < times_entered y todo)

module _ (links : List (Option Link)) (seen : List Bool) where
  pub walk_begins : (todo : List Visit) → length seen ≡ length links → ((y : ℕ) → get_or seen y false ≡ false) → Awaits links [] (reverse todo) →
      ((y : ℕ) → y < length links → above_in links y ≡ None → 0 < times_entered y todo) → IsUnderWay links seen todo []
  walk_begins todo many clear ahead tops = record {
    path = [];
    many = many;
    before = refl;
    ahead = ahead;
    met = λ y on. absurd (let off = clear y in cc);
    due = λ y low d. ⊎_elim (λ top. inr (tops y low top)) (λ below. absurd (let on = below.2 in let off = clear below.0 in cc)) d;
  }

  module _ (todo tour : List Visit) (x : ℕ) where
    -- an object that has its mark is passed over
    pub walk_skips : IsUnderWay links seen (todo ++ Enter x ∷ []) tour → (x < length seen → get_or seen x false ≡ true) → IsUnderWay links seen todo tour
    walk_skips u on = record {
      path = u.path;
      many = u.many;
      before = u.before;
      ahead = (awaited_one links u.path todo (Enter x) u.ahead).1;
      met = u.met;
      due = λ y low d. ⊎_elim
          (λ s. inl s)
          (λ some. ⊎_elim
          (λ same. inl (ap (λ i. get_or seen i false) same ∙ on (let many = u.many in omega (arith, many, low, same))))
          (λ ne. inr (let parts = entered_parts y todo (Enter x ∷ []) in let none = entered_other y x ne in omega (arith, parts, none, some)))
          (cases_eq y x))
          (u.due y low d);
    }

    pub walk_leaves : IsUnderWay links seen (todo ++ Leave x ∷ []) tour → IsUnderWay links seen todo (tour ++ Leave x ∷ [])
    walk_leaves u = over u.path u.before (awaited_one links u.path todo (Leave x) u.ahead)
      where
        over : (path : List ℕ) → Leads links [] tour path → Awaits links path (Leave x ∷ reverse todo) → IsUnderWay links seen todo (tour ++ Leave x ∷ [])
        over [] before a = absurd a
        over (p ∷ path) before a = record {
          path = path;
          many = u.many;
          before = leads_out links [] tour path p x before a.0;
          ahead = a.1;
          met = λ y on. let parts = entered_parts y tour (Leave x ∷ []) in let some = u.met y on in omega (arith, parts, some);
          due = λ y low d. ⊎_elim (λ s. inl s) (λ some. inr (let parts = entered_parts y todo (Leave x ∷ []) in let none : times_entered y (Leave x ∷ []) ≡ 0 = refl in omega (arith, parts, none, some))) (u.due y low d);
        }

    pub walk_enters : (ys : List ℕ) → IsUnderWay links seen (todo ++ Enter x ∷ []) tour → x < length seen → get_or seen x false ≡ false → AreBelow links x ys →
        IsUnderWay links (set seen x true) ((todo ++ Leave x ∷ []) ++ map Enter ys) (tour ++ Enter x ∷ [])
    walk_enters ys u low off exact = record {
      path = x ∷ u.path;
      many = length-set seen x true ∙ u.many;
      before = leads_in links [] tour u.path x u.before here.0;
      ahead = awaits_all links (x ∷ u.path) ys (todo ++ Leave x ∷ []) (λ z some. (above_then (above_in links z) x (let e = exact z in omega (arith, e, some)), here.0))
          (awaits_one links (x ∷ u.path) todo (Leave x) (refl, here.1));
      met = λ y on. let parts = entered_parts y tour (Enter x ∷ []) in ⊎_elim
          (λ same. let one : times_entered y (Enter x ∷ []) ≡ 1 = ap (λ i. times_entered y (Enter i ∷ [])) (sym same) ∙ entered_itself y in omega (arith, parts, one))
          (λ ne. let some = u.met y (sym (get_or-set_other seen x y true false ne) ∙ on) in omega (arith, parts, some))
          (cases_eq y x);
      due = λ y low_y d. ⊎_elim
          (λ same. inl (ap (λ i. get_or (set seen x true) i false) same ∙ get_or-set_same seen x true false low))
          (λ ne. still y low_y ne d)
          (cases_eq y x);
    }
      where
        here : IsLineage links x u.path × Awaits links u.path (reverse todo)
        here = awaited_one links u.path todo (Enter x) u.ahead

        times_after : (y : ℕ) → times_entered y ((todo ++ Leave x ∷ []) ++ map Enter ys) ≡ times_entered y todo + count_by (eqb y) ys
        times_after y =
            let all = entered_parts y (todo ++ Leave x ∷ []) (map Enter ys) in
            let front = entered_parts y todo (Leave x ∷ []) in
            let none : times_entered y (Leave x ∷ []) ≡ 0 = refl in
            let back = entered_all y ys in
            omega (arith, all, front, none, back)

        old_due : (y : ℕ) → y < length links → y ≢ x → IsDue links seen y → (get_or (set seen x true) y false ≡ true) ⊎ (0 < times_entered y ((todo ++ Leave x ∷ []) ++ map Enter ys))
        old_due y low_y ne d = ⊎_elim
            (λ s. inl (get_or-set_other seen x y true false ne ∙ s))
            (λ some. inr (let parts = entered_parts y todo (Enter x ∷ []) in let none = entered_other y x ne in let after = times_after y in omega (arith, parts, none, some, after)))
            (u.due y low_y d)

        still : (y : ℕ) → y < length links → y ≢ x → IsDue links (set seen x true) y → (get_or (set seen x true) y false ≡ true) ⊎ (0 < times_entered y ((todo ++ Leave x ∷ []) ++ map Enter ys))
        still y low_y ne (inl top) = old_due y low_y ne (inl top)
        still y low_y ne (inr (p, above, on)) = ⊎_elim
            (λ same.
            let one = eq-eqb x x refl in
            let times : times_below (above_in links y) x ≡ times_below (Some x) x = ap (λ u. times_below u x) (above ∙ ap (λ i. Some i) same) in
            let sure : times_below (Some x) x ≡ 1 = rw one refl in
            inr (let e = exact y in let after = times_after y in omega (arith, times, sure, e, after)))
            (λ other. old_due y low_y ne (inr (p, above, sym (get_or-set_other seen x p true false other) ∙ on)))
            (cases_eq p x)

  pub walk_goes : (todo tour : List Visit) (v : Visit) → ((y : ℕ) → v ≢ Enter y) → IsUnderWay links seen (todo ++ v ∷ []) tour → IsUnderWay links seen todo (tour ++ v ∷ [])
  walk_goes todo tour (Enter y) not u = absurd (not y refl)
  walk_goes todo tour (Leave y) not u = walk_leaves todo tour y u

  module _ (tour : List Visit) (u : IsUnderWay links seen [] tour) where
    reached : (x : ℕ) → x < length links → IsDue links seen x → get_or seen x false ≡ true
    reached x low d = ⊎_elim (λ s. s) (λ some. absurd (omega (arith, some))) (u.due x low d)

    seen_along : (x : ℕ) → x < length links → (ys : List ℕ) → IsLineage links x ys → get_or seen x false ≡ true
    seen_along x low [] way = reached x low (inl way)
    seen_along x low (y ∷ ys) way = reached x low (inr (y, way.0, seen_along y (numbered_within links (link_of links x).above y way.0) ys way.1))

    pub walk_ends : IsTour links tour
    walk_ends = record { end = u.path; leads = u.before; whole = λ x low ys way. u.met x (seen_along x low ys way) }

-- how much is to be walked from what has no mark
abbrev pub unmet : List Links → List Bool → ℕ
unmet nodes [] = 0
unmet [] (false ∷ ms) = suc (unmet [] ms)
unmet [] (true ∷ ms) = unmet [] ms
unmet (n ∷ nodes) (false ∷ ms) = suc (length n.below + unmet nodes ms)
unmet (n ∷ nodes) (true ∷ ms) = unmet nodes ms

pub unmet_set : (nodes : List Links) (ms : List Bool) (x : ℕ) → x < length ms → get_or ms x false ≡ false → unmet nodes (set ms x true) + suc (length (below_of nodes x)) ≡ unmet nodes ms
unmet_set nodes [] x low off = absurd (omega arith)
unmet_set [] (false ∷ ms) zero low off = omega arith
unmet_set [] (true ∷ ms) zero low off = absurd cc
unmet_set [] (false ∷ ms) (suc x) low off = let rest = unmet_set [] ms x (omega arith) off in let none : length (below_of [] (suc x)) ≡ length (below_of [] x) = refl in omega (arith, rest, none)
unmet_set [] (true ∷ ms) (suc x) low off = unmet_set [] ms x (omega arith) off
unmet_set (n ∷ nodes) (false ∷ ms) zero low off = omega arith
unmet_set (n ∷ nodes) (true ∷ ms) zero low off = absurd cc
unmet_set (n ∷ nodes) (false ∷ ms) (suc x) low off = let rest = unmet_set nodes ms x (omega arith) off in omega (arith, rest)
unmet_set (n ∷ nodes) (true ∷ ms) (suc x) low off = unmet_set nodes ms x (omega arith) off

pub walk_done : (links : List (Option Link)) (seen : List Bool) (todo tour : List Visit) → length todo ≡ 0 → IsUnderWay links seen todo tour → IsTour links tour
walk_done links seen [] tour e u = walk_ends links seen tour u
walk_done links seen (v ∷ todo) tour e u = absurd (omega (arith, e))
