-- Nodes made from links.
use Rattle.std.proofs.Common.{◌≡◌, ℕ, ◌+◌, ◌-◌, ◌<◌, ◌≤◌, inl, inr, List, [], ◌∷◌, ◌++◌, length, Option, Some, None, Bool, false, refl, sym, ap, subst, ◌∙◌, ⊎_elim, arith, get_or, eqb, MatchOption}
use Rattle.std.specs.List.{count_by}
use Rattle.std.specs.Option.{unwrap_or}
use Rattle.std.proofs.lemmas.List.{get_or_past, get_or_append_left, get_or-append_right, length-append}
use Rattle.std.proofs.lemmas.Bool.{cases_lt}
use Rattle.moo_world_tree.specs.Forest.{Links, alone, above_of, below_of, times_below, IsWayUp}
use Rattle.moo_world_tree.specs.Rooted.{IsRooted, IsLeastEndless}
use Rattle.moo_world_tree.specs.Listed.{IsListed, IsLeastUnlisted}
use Rattle.moo_dbtext_restore.specs.declared.link.Link.{Link}
use Rattle.moo_dbtext_restore.specs.First.{IsFirst, least_of}
use Rattle.moo_dbtext_restore.specs.Links.{no_link, link_of, above_in, numbered, IsPlace, IsLineage, AreBelow, HasList, IsSound}
use Rattle.moo_dbtext_restore.specs.Lists.{IsFollowed, AreTakenBefore, AreNodesOf}
use Rattle.moo_dbtext_restore.proofs.Chains.{one_chain}
use Rattle.moo_dbtext_restore.proofs.Firsts.{first_along, first_of_both}

-- the nodes of the numbers below k are made
pub record AreMadeTo (links : List (Option Link)) (taken : List Bool) (nodes : List Links) (k : ℕ) : Type 0 where
  pub many : length nodes ≡ k
  pub len : length taken ≡ length links
  pub above : (x : ℕ) → x < k → above_of nodes x ≡ above_in links x
  pub below : (x : ℕ) → x < k → IsFollowed links x (below_of nodes x)
  pub before : AreTakenBefore links taken k

pub none_made : (links : List (Option Link)) (taken : List Bool) → length taken ≡ length links → ((y : ℕ) → get_or taken y false ≡ false) → AreMadeTo links taken [] 0
none_made links taken len clear = record {
  many = refl;
  len = len;
  above = λ x low. absurd (omega arith);
  below = λ x low. absurd (omega arith);
  before = λ y on. absurd (let off = clear y in cc);
}

pub one_more_made : (links : List (Option Link)) (old new : List Bool) (nodes : List Links) (node : Links) (k : ℕ) → AreMadeTo links old nodes k → length new ≡ length links →
    node.above ≡ above_in links k → IsFollowed links k node.below → AreTakenBefore links new (k + 1) → AreMadeTo links new (nodes ++ node ∷ []) (k + 1)
one_more_made links old new nodes node k m len above below taken = record {
  many = let parts = length-append nodes (node ∷ []) in let many = m.many in omega (arith, parts, many);
  len = len;
  above = λ x low. ⊎_elim
      (λ before. ap (λ (n : Links). n.above) (earlier x before) ∙ m.above x before)
      (λ past. let same : x ≡ k = omega arith in ap (λ (n : Links). n.above) (newest x same) ∙ (above ∙ ap (above_in links) (sym same)))
      (cases_lt x k);
  below = λ x low. ⊎_elim
      (λ before. subst (λ (n : Links). IsFollowed links x n.below) (sym (earlier x before)) (m.below x before))
      (λ past. let same : x ≡ k = omega arith in subst (λ (n : Links). IsFollowed links x n.below) (sym (newest x same)) (subst (λ i. IsFollowed links i node.below) (sym same) below))
      (cases_lt x k);
  before = taken;
}
  where
    earlier : (x : ℕ) → x < k → get_or (nodes ++ node ∷ []) x alone ≡ get_or nodes x alone
    earlier x before = get_or_append_left nodes (node ∷ []) alone x (let many = m.many in omega (arith, many))

    newest : (x : ℕ) → x ≡ k → get_or (nodes ++ node ∷ []) x alone ≡ node
    newest x same =
        let many = m.many in
        get_or-append_right nodes (node ∷ []) (length nodes) x alone refl (omega (arith, many, same)) ∙
        ap (λ i. get_or (node ∷ []) i alone) (let none : x - length nodes ≡ 0 = omega (arith, many, same) in none)

pub no_link_past : (links : List (Option Link)) (x : ℕ) → length links ≤ x → link_of links x ≡ no_link
no_link_past links x past = ap (λ (o : Option Link). unwrap_or o no_link) (get_or_past links x None past)

pub all_made : (links : List (Option Link)) (taken : List Bool) (nodes : List Links) (k : ℕ) → AreMadeTo links taken nodes k → length links ≤ k → k ≤ length links → AreNodesOf links nodes
all_made links taken nodes k m most least = record {
  many = let many = m.many in omega (arith, many);
  above = λ x. ⊎_elim
      (λ low. m.above x low)
      (λ past. ap (λ (n : Links). n.above) (none x past) ∙ sym (ap (λ (l : Link). numbered links l.above) (no_link_past links x (omega arith))))
      (cases_lt x k);
  below = λ x. ⊎_elim
      (λ low. m.below x low)
      (λ past. subst (λ (n : Links). IsFollowed links x n.below) (sym (none x past)) (inl (ap (λ (l : Link). l.first) (no_link_past links x (omega arith)))))
      (cases_lt x k);
}
  where
    none : (x : ℕ) → k ≤ x → get_or nodes x alone ≡ alone
    none x past = get_or_past nodes x alone (let many = m.many in omega (arith, many))

-- what holds of nodes and what holds of links

module _ (links : List (Option Link)) (nodes : List Links) (made : AreNodesOf links nodes) where
  lineage_of : (x : ℕ) (ys : List ℕ) → IsWayUp nodes x ys → IsLineage links x ys
  lineage_of x [] way = sym (made.above x) ∙ way
  lineage_of x (y ∷ ys) way = (sym (made.above x) ∙ way.0, lineage_of y ys way.1)

  pub way_of : (x : ℕ) (ys : List ℕ) → IsLineage links x ys → IsWayUp nodes x ys
  way_of x [] way = made.above x ∙ way
  way_of x (y ∷ ys) way = (made.above x ∙ way.0, way_of y ys way.1)

  pub list_of : (x : ℕ) → IsListed nodes x → HasList links x
  list_of x listed = over (made.below x)
    where
      exact : AreBelow links x (below_of nodes x)
      exact y = listed y ∙ ap (λ u. times_below u x) (made.above y)

      over : IsFollowed links x (below_of nodes x) → HasList links x
      over (inl chain) = record { list = below_of nodes x; chain = chain; exact = exact }
      over (inr (wrong, extra)) = absurd (let more = extra.1 in let same = exact extra.0 in omega (arith, more, same))

  pub listed_of : (x : ℕ) → HasList links x → IsListed nodes x
  listed_of x h = over (made.below x)
    where
      over : IsFollowed links x (below_of nodes x) → IsListed nodes x
      over (inl chain) = λ y. ap (count_by (eqb y)) (one_chain links (link_of links x).first (below_of nodes x) h.list chain h.chain) ∙ (h.exact y ∙ ap (λ u. times_below u x) (sym (made.above y)))
      over (inr (wrong, extra)) = absurd (wrong h)

  first_rooted : (n : ℕ) (r : Option ℕ) → length nodes ≡ n → MatchOption r ((x : ℕ) → x < length nodes → IsRooted nodes x) (IsLeastEndless nodes) → IsFirst (IsRooted nodes) n r
  first_rooted n None e f = λ x low. f x (omega (arith, e))
  first_rooted n (Some x) e f = (let node = f.node in omega (arith, e, node), f.endless, f.below)

  first_listed : (n : ℕ) (r : Option ℕ) → length nodes ≡ n → MatchOption r ((x : ℕ) → x < length nodes → IsListed nodes x) (IsLeastUnlisted nodes) → IsFirst (IsListed nodes) n r
  first_listed n None e f = λ x low. f x (omega (arith, e))
  first_listed n (Some x) e f = (let node = f.node in omega (arith, e, node), f.wrong, f.below)

  pub first_unsound_found : (misplaced endless unlisted : Option ℕ) → IsFirst (λ x. IsPlace links (link_of links x).above) (length links) misplaced →
      MatchOption endless ((x : ℕ) → x < length nodes → IsRooted nodes x) (IsLeastEndless nodes) → MatchOption unlisted ((x : ℕ) → x < length nodes → IsListed nodes x) (IsLeastUnlisted nodes) →
      IsFirst (IsSound links) (length links) (least_of misplaced (least_of endless unlisted))
  first_unsound_found misplaced endless unlisted placed rooted listed =
      let n = length links in
      let P = λ (x : ℕ). IsPlace links (link_of links x).above in
      let both = first_of_both (IsRooted nodes) (IsListed nodes) n endless unlisted (first_rooted n endless made.many rooted) (first_listed n unlisted made.many listed) in
      let all = first_of_both P (λ x. IsRooted nodes x × IsListed nodes x) n misplaced (least_of endless unlisted) placed both in
      first_along (λ x. P x × (IsRooted nodes x × IsListed nodes x)) (IsSound links) n (least_of misplaced (least_of endless unlisted))
      (λ x s. record { placed = s.0; ends = (s.1.0.0, lineage_of x s.1.0.0 s.1.0.1); listed = list_of x s.1.1 })
      (λ x s. (s.placed, ((s.ends.0, way_of x s.ends.0 s.ends.1), listed_of x s.listed)))
      all
