-- Lists that are followed from the first along the next.
use Rattle.std.proofs.Common.{◌≡◌, ◌≢◌, ℕ, zero, suc, ◌+◌, ◌<◌, ◌≤◌, ◌⊎◌, inl, inr, ℤ, pos, List, [], ◌∷◌, ◌++◌, length, Option, Some, None, Bool, true, false, cond, eqb, refl, sym, ap, subst, ◌∙◌, ⊎_elim, arith, get_or, set}
use Rattle.std.specs.List.{count_by}
use Rattle.std.proofs.lemmas.List.{get_or-set_other, get_or_past, length-set}
use Rattle.std.proofs.lemmas.List.Sums.{sum_by-append}
use Rattle.std.proofs.lemmas.Bool.{cases_Bool, cases_eq, eqb-true, eq-eqb}
use Rattle.std.specs.Option.{unwrap_or}
use Rattle.moo_world_tree.specs.Forest.{times_below}
use Rattle.moo_dbtext_restore.specs.declared.link.Link.{Link}
use Rattle.moo_dbtext_restore.specs.Links.{nowhere, no_link, link_at, link_of, above_in, numbered, IsChain, HasList}
use Rattle.moo_dbtext_restore.specs.Lists.{HasExtra, IsFollowed, AreTakenBefore}

-- from z on one passes these, and comes to `at`
abbrev pub Passes : List (Option Link) → ℤ → List ℕ → ℤ → Type 0
Passes links z [] at = z ≡ at
Passes links z (y ∷ ys) at = (z ≡ pos y) × Passes links (link_of links y).next ys at

passes_more : (links : List (Option Link)) (z : ℤ) (ys : List ℕ) (at : ℤ) (y : ℕ) → Passes links z ys at → at ≡ pos y → Passes links z (ys ++ y ∷ []) (link_of links y).next
passes_more links z [] at y p e = (p ∙ e, refl)
passes_more links z (v ∷ ys) at y p e = (p.0, passes_more links (link_of links v).next ys at y p.1 e)

chain_ends : (links : List (Option Link)) (z : ℤ) (ys : List ℕ) (at : ℤ) → Passes links z ys at → at ≡ nowhere → IsChain links z ys
chain_ends links z [] at p e = p ∙ e
chain_ends links z (v ∷ ys) at p e = (p.0, chain_ends links (link_of links v).next ys at p.1 e)

same_number : (z : ℤ) (v y : ℕ) → z ≡ pos v → z ≡ pos y → v ≡ y
same_number z v y e f = cc

-- a chain goes on from the object that was reached
chain_on : (links : List (Option Link)) (z : ℤ) (ys : List ℕ) (at : ℤ) (zs : List ℕ) → Passes links z ys at → IsChain links z zs → (rest : List ℕ) × (zs ≡ ys ++ rest) × IsChain links at rest
chain_on links z [] at zs p ch = (zs, refl, subst (λ v. IsChain links v zs) p ch)
chain_on links z (y ∷ ys) at [] p ch = absurd (let e = p.0 in cc)
chain_on links z (y ∷ ys) at (v ∷ zs) p ch =
    let same = same_number z v y ch.0 p.0 in
    let rest = chain_on links (link_of links y).next ys at zs p.1 (subst (λ k. IsChain links (link_of links k).next zs) same ch.1) in
    (rest.0, ap (λ k. k ∷ zs) same ∙ ap (λ l. y ∷ l) rest.1, rest.2)

-- there is one chain
pub one_chain : (links : List (Option Link)) (z : ℤ) (ys zs : List ℕ) → IsChain links z ys → IsChain links z zs → ys ≡ zs
one_chain links z [] [] p q = refl
one_chain links z [] (v ∷ zs) p q = absurd (let e = q.0 in cc)
one_chain links z (y ∷ ys) [] p q = absurd (let e = p.0 in cc)
one_chain links z (y ∷ ys) (v ∷ zs) p q =
    let same = same_number z v y q.0 p.0 in
    let rest = one_chain links (link_of links y).next ys zs p.1 (subst (λ k. IsChain links (link_of links k).next zs) same q.1) in
    ap (λ l. y ∷ l) rest ∙ ap (λ k. k ∷ zs) (sym same)

pub count_parts : (y : ℕ) (xs ys : List ℕ) → count_by (eqb y) (xs ++ ys) ≡ count_by (eqb y) xs + count_by (eqb y) ys
count_parts y xs ys = sum_by-append (λ k. cond (eqb y k) 1 0) xs ys

pub count_one : (y : ℕ) → count_by (eqb y) (y ∷ []) ≡ 1
count_one y = let same = eq-eqb y y refl in rw same refl

pub above_then : (u : Option ℕ) (x : ℕ) → 0 < times_below u x → u ≡ Some x
above_then None x h = absurd (omega arith)
above_then (Some up) x h = ⊎_elim
    (λ e. ap (λ k. Some k) (sym (eqb-true x up e)))
    (λ e. absurd (let none : times_below (Some up) x ≡ 0 = (rw e refl) in omega (arith, none)))
    (cases_Bool (eqb x up))

pub once_at_most : (u : Option ℕ) (x : ℕ) → times_below u x ≤ 1
once_at_most None x = omega arith
once_at_most (Some up) x = ⊎_elim (λ e. rw e (omega arith)) (λ e. rw e (omega arith)) (cases_Bool (eqb x up))

-- an object that occurs too often on the way occurs too often in the whole
extra_refutes : (links : List (Option Link)) (x : ℕ) (ps : List ℕ) (at : ℤ) → Passes links (link_of links x).first ps at → HasExtra links x ps → ¬ (HasList links x)
extra_refutes links x ps at p extra h =
    let on = chain_on links (link_of links x).first ps at h.list p h.chain in
    let parts = count_parts extra.0 ps on.0 in
    let whole : count_by (eqb extra.0) h.list ≡ count_by (eqb extra.0) (ps ++ on.0) = ap (count_by (eqb extra.0)) on.1 in
    let exact = h.exact extra.0 in
    let more = extra.1 in
    omega (arith, parts, whole, exact, more)

-- what a list is while it is followed
pub record IsFollowedTo (links : List (Option Link)) (taken : List Bool) (x : ℕ) (ys : List ℕ) (at : ℤ) : Type 0 where
  pub len : length taken ≡ length links
  pub passes : Passes links (link_of links x).first ys at
  pub marked : (y : ℕ) → get_or taken y false ≡ true → (up : ℕ) × (above_in links y ≡ Some up) × ((up < x) ⊎ ((up ≡ x) × (0 < count_by (eqb y) ys)))

module _ (links : List (Option Link)) (taken : List Bool) (x : ℕ) where
  pub follow_begins : length taken ≡ length links → AreTakenBefore links taken x → IsFollowedTo links taken x [] (link_of links x).first
  follow_begins len before = record { len = len; passes = refl; marked = λ y on. let b = before y on in (b.0, b.1, inl b.2) }

  module _ (ys : List ℕ) (at : ℤ) (f : IsFollowedTo links taken x ys at) where
    pub follow_goes_on : (y : ℕ) → at ≡ pos y → y < length links → above_in links y ≡ Some x → IsFollowedTo links (set taken y true) x (ys ++ y ∷ []) (link_of links y).next
    follow_goes_on y is low above = record {
      len = length-set taken y true ∙ f.len;
      passes = passes_more links (link_of links x).first ys at y f.passes is;
      marked = λ z on. ⊎_elim
          (λ same. (x, ap (above_in links) same ∙ above, inr (refl, (let parts = count_parts z ys (y ∷ []) in let one : count_by (eqb z) (y ∷ []) ≡ 1 = ap (λ k. count_by (eqb z) (k ∷ [])) (sym same) ∙ count_one z in omega (arith, parts, one)))))
          (λ ne. let m = f.marked z (sym (get_or-set_other taken y z true false ne) ∙ on) in (m.0, m.1, ⊎_elim (λ before. inl before) (λ here. inr (here.0, (let parts = count_parts z ys (y ∷ []) in let some = here.1 in omega (arith, parts, some)))) m.2))
          (cases_eq z y);
    }

    -- an object that cannot occur here
    pub follow_stops : (y : ℕ) → at ≡ pos y → (above_in links y ≡ Some x → get_or taken y false ≡ true) → IsFollowed links x (ys ++ y ∷ [])
    follow_stops y is stale = inr (extra_refutes links x (ys ++ y ∷ []) (link_of links y).next (passes_more links (link_of links x).first ys at y f.passes is) extra, extra)
      where
        one : count_by (eqb y) (ys ++ y ∷ []) ≡ count_by (eqb y) ys + 1
        one = count_parts y ys (y ∷ []) ∙ ap (λ k. count_by (eqb y) ys + k) (count_one y)

        over : (n : ℕ) → times_below (above_in links y) x ≡ n → times_below (above_in links y) x < count_by (eqb y) (ys ++ y ∷ [])
        over zero e = omega (arith, e, one)
        over (suc n) e =
            let above = above_then (above_in links y) x (omega (arith, e)) in
            let m = f.marked y (stale above) in
            let same : m.0 ≡ x = (let up = m.1 in cc) in
            let most = once_at_most (above_in links y) x in
            ⊎_elim (λ before. absurd (omega (arith, before, same))) (λ here. let some = here.1 in omega (arith, one, some, most)) m.2

        extra : HasExtra links x (ys ++ y ∷ [])
        extra = (y, over (times_below (above_in links y) x) refl)

    -- the end of the list
    pub follow_ends : at ≡ nowhere → IsFollowed links x ys
    follow_ends is = inl (chain_ends links (link_of links x).first ys at f.passes is)

    -- a number below that of none
    pub follow_breaks : ((y : ℕ) → at ≢ pos y) → at ≢ nowhere → IsFollowed links x (ys ++ length links ∷ [])
    follow_breaks none other = inr (λ h. broken h, (length links, extra))
      where
        broken : HasList links x → ⊥
        broken h = let on = chain_on links (link_of links x).first ys at h.list f.passes h.chain in over on.0 on.2
          where
            over : (rest : List ℕ) → IsChain links at rest → ⊥
            over [] e = other e
            over (v ∷ rest) e = none v e.0

        extra : times_below (above_in links (length links)) x < count_by (eqb (length links)) (ys ++ length links ∷ [])
        extra =
            let past : link_at links (length links) ≡ None = get_or_past links (length links) None (omega arith) in
            let nothing : above_in links (length links) ≡ None = ap (λ (o : Option Link). numbered links (unwrap_or o no_link).above) past in
            let zero_times : times_below (above_in links (length links)) x ≡ 0 = ap (λ u. times_below u x) nothing in
            let parts = count_parts (length links) ys (length links ∷ []) in
            let one = count_one (length links) in
            omega (arith, zero_times, parts, one)

    pub follow_marks : AreTakenBefore links taken (x + 1)
    follow_marks y on = let m = f.marked y on in (m.0, m.1, ⊎_elim (λ before. omega (arith, before)) (λ here. let same = here.0 in omega (arith, same)) m.2)

-- how many have no mark
abbrev pub unmarked : List Bool → ℕ
unmarked [] = 0
unmarked (false ∷ ms) = suc (unmarked ms)
unmarked (true ∷ ms) = unmarked ms

pub unmarked-set : (ms : List Bool) (i : ℕ) → i < length ms → get_or ms i false ≡ false → unmarked (set ms i true) < unmarked ms
unmarked-set [] i lt none = absurd (omega arith)
unmarked-set (false ∷ ms) zero lt none = omega arith
unmarked-set (true ∷ ms) zero lt none = absurd cc
unmarked-set (false ∷ ms) (suc i) lt none = let rest = unmarked-set ms i (omega arith) none in omega (arith, rest)
unmarked-set (true ∷ ms) (suc i) lt none = unmarked-set ms i (omega arith) none
