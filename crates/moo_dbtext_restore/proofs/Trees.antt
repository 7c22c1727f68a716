-- Sound links describe at most one forest, and links that describe a forest are sound.
use Rattle.std.proofs.Common.{◌≡◌, ℕ, zero, suc, ◌<◌, inl, inr, ℤ, pos, negsuc, List, [], ◌∷◌, length, Option, Some, None, refl, sym, ap, subst, ◌∙◌, ⊎_elim, arith, get_or, eqb, IsSome}
use Rattle.std.specs.List.{count_by}
use Rattle.std.specs.Option.{unwrap_or}
use Rattle.std.proofs.lemmas.List.{get_or_past}
use Rattle.std.proofs.lemmas.List.FromFn.{fill_by_all}
use Rattle.std.proofs.lemmas.Bool.{cases_lt, eq-eqb}
use Rattle.moo_world_tree.specs.Forest.{Links, alone, above_of, below_of, times_below, IsWayUp, ancestors, IsForest}
use Rattle.moo_world_tree.proofs.Listing.{forest_checked}
use Rattle.moo_dbtext_restore.specs.declared.link.Link.{Link}
use Rattle.moo_dbtext_restore.specs.Links.{nowhere, no_link, link_at, link_of, above_in, numbered, place_number, IsPlace, IsLineage, IsChain, IsSound, IsTreeOf}
use Rattle.moo_dbtext_restore.specs.Lists.{IsFollowed, AreNodesOf}
use Rattle.moo_dbtext_restore.proofs.Chains.{one_chain}
use Rattle.moo_dbtext_restore.proofs.Noded.{listed_of, way_of, no_link_past}

-- a place has the number that was read for it
placed_number : (links : List (Option Link)) (z : ℤ) → IsPlace links z → place_number (numbered links z) ≡ z
placed_number links (pos y) some = over (link_at links y) refl some
  where
    over : (o : Option Link) → link_at links y ≡ o → IsSome (link_at links y) → place_number (numbered links (pos y)) ≡ pos y
    over None e some = absurd (let none = subst IsSome e some in cc)
    over (Some l) e some = rw e refl
placed_number links (negsuc zero) some = refl
placed_number links (negsuc (suc n)) none = absurd none

pub numbered_within : (links : List (Option Link)) (z : ℤ) (y : ℕ) → numbered links z ≡ Some y → y < length links
numbered_within links (negsuc n) y e = absurd cc
numbered_within links (pos k) y e = over (link_at links k) refl e
  where
    over : (o : Option Link) → link_at links k ≡ o → numbered links (pos k) ≡ Some y → y < length links
    over None is e = absurd (let none : numbered links (pos k) ≡ None = (rw is refl) in cc)
    over (Some l) is e =
        let some : numbered links (pos k) ≡ Some k = (rw is refl) in
        let same : k ≡ y = cc in
        ⊎_elim (λ low. omega (arith, same)) (λ past. absurd (let none = get_or_past links k None past in cc)) (cases_lt k (length links))

-- the nodes of sound links are the forest that they describe
pub sound_forest : (links : List (Option Link)) (nodes : List Links) → AreNodesOf links nodes → ((x : ℕ) → x < length links → IsSound links x) → IsForest nodes
sound_forest links nodes made sound = forest_checked nodes
    (λ y up is. let many = made.many in let low = numbered_within links (link_of links y).above up (sym (made.above y) ∙ is) in omega (arith, many, low))
    (λ x low. let s = sound x (let many = made.many in omega (arith, many)) in (s.ends.0, way_of links nodes made x s.ends.0 s.ends.1))
    (λ x low. listed_of links nodes made x (sound x (let many = made.many in omega (arith, many))).listed)

module _ (links : List (Option Link)) (nodes : List Links) (made : AreNodesOf links nodes) (sound : (x : ℕ) → x < length links → IsSound links x) where
  chained : (x : ℕ) → IsChain links (link_of links x).first (below_of nodes x)
  chained x = over (made.below x)
    where
      over : IsFollowed links x (below_of nodes x) → IsChain links (link_of links x).first (below_of nodes x)
      over (inl chain) = chain
      over (inr (wrong, extra)) = ⊎_elim
          (λ low. absurd (wrong (sound x low).listed))
          (λ past.
          let none : below_of nodes x ≡ [] = ap (λ (n : Links). n.below) (get_or_past nodes x alone (let many = made.many in omega (arith, many))) in
          subst (IsChain links (link_of links x).first) (sym none) (ap (λ (l : Link). l.first) (no_link_past links x past)))
          (cases_lt x (length links))

  numbered_above : (x : ℕ) → place_number (above_of nodes x) ≡ (link_of links x).above
  numbered_above x = ap place_number (made.above x) ∙ ⊎_elim
      (λ low. placed_number links (link_of links x).above (sound x low).placed)
      (λ past. let none = no_link_past links x past in ap (λ (l : Link). place_number (numbered links l.above)) none ∙ sym (ap (λ (l : Link). l.above) none))
      (cases_lt x (length links))

  joined_to_nothing : (x : ℕ) → link_at links x ≡ None → get_or nodes x alone ≡ alone
  joined_to_nothing x none = λ i. record { above = up i; below = down i }
    where
      nothing : link_of links x ≡ no_link
      nothing = ap (λ (o : Option Link). unwrap_or o no_link) none

      up : above_of nodes x ≡ None
      up = made.above x ∙ ap (λ (l : Link). numbered links l.above) nothing

      empty : (ys : List ℕ) → IsChain links nowhere ys → ys ≡ []
      empty [] chain = refl
      empty (y ∷ ys) chain = absurd (let e = chain.0 in cc)

      down : below_of nodes x ≡ []
      down = empty (below_of nodes x) (subst (λ (l : Link). IsChain links l.first (below_of nodes x)) nothing (chained x))

  pub tree_of_sound : IsTreeOf links nodes
  tree_of_sound = record {
    many = made.many;
    joined = λ x. record { above = numbered_above x; below = chained x };
    free = joined_to_nothing;
  }

-- links that describe a forest are sound
module _ (links : List (Option Link)) (tree : List Links) (forest : IsForest tree) (says : IsTreeOf links tree) where
  same_above : (x : ℕ) → (IsPlace links (link_of links x).above) × (above_in links x ≡ above_of tree x)
  same_above x = over (above_of tree x) refl
    where
      over : (u : Option ℕ) → above_of tree x ≡ u → (IsPlace links (link_of links x).above) × (above_in links x ≡ above_of tree x)
      over None e =
          let z : nowhere ≡ (link_of links x).above = sym (ap place_number e) ∙ (says.joined x).above in
          (subst (IsPlace links) z tt, ap (numbered links) (sym z) ∙ sym e)
      over (Some y) e = there (link_at links y) refl
        where
          z : pos y ≡ (link_of links x).above
          z = sym (ap place_number e) ∙ (says.joined x).above

          there : (o : Option Link) → link_at links y ≡ o → (IsPlace links (link_of links x).above) × (above_in links x ≡ above_of tree x)
          there None none = absurd (
              let nobody : below_of tree y ≡ [] = ap (λ (n : Links). n.below) (says.free y none) in
              let count : count_by (eqb x) (below_of tree y) ≡ 1 = forest.exact y x ∙ (rw (e, eq-eqb y y refl) refl) in
              let zero_times : count_by (eqb x) (below_of tree y) ≡ 0 = ap (count_by (eqb x)) nobody in omega (arith, count, zero_times))
          there (Some l) some =
              let valid : IsSome (link_at links y) = subst IsSome (sym some) refl in
              let number : numbered links (pos y) ≡ Some y = (rw some refl) in
              (subst (IsPlace links) z valid, ap (numbered links) (sym z) ∙ (number ∙ sym e))

  lineage_along : (x : ℕ) (ys : List ℕ) → IsWayUp tree x ys → IsLineage links x ys
  lineage_along x [] way = (same_above x).1 ∙ way
  lineage_along x (y ∷ ys) way = ((same_above x).1 ∙ way.0, lineage_along y ys way.1)

  pub lineage_is_ancestors : (x : ℕ) → IsLineage links x (ancestors tree x)
  lineage_is_ancestors x = lineage_along x (ancestors tree x) (forest.rooted x)

  pub tree_is_sound : (x : ℕ) → IsSound links x
  tree_is_sound x = record {
    placed = (same_above x).0;
    ends = (ancestors tree x, lineage_is_ancestors x);
    listed = record {
      list = below_of tree x;
      chain = (says.joined x).below;
      exact = λ y. forest.exact x y ∙ ap (λ u. times_below u x) (sym (same_above y).1);
    };
  }

place_number_apart : (a b : Option ℕ) → place_number a ≡ place_number b → a ≡ b
place_number_apart None None e = refl
place_number_apart None (Some y) e = absurd cc
place_number_apart (Some x) None e = absurd cc
place_number_apart (Some x) (Some y) e = let same : x ≡ y = cc in ap (λ k. Some k) same

same_node_of : (links : List (Option Link)) (one other : List Links) → IsTreeOf links one → IsTreeOf links other → (x : ℕ) → get_or one x alone ≡ get_or other x alone
same_node_of links one other p q x = λ i. record { above = up i; below = down i }
  where
    up : above_of one x ≡ above_of other x
    up = place_number_apart (above_of one x) (above_of other x) ((p.joined x).above ∙ sym (q.joined x).above)

    down : below_of one x ≡ below_of other x
    down = one_chain links (link_of links x).first (below_of one x) (below_of other x) (p.joined x).below (q.joined x).below

-- links describe at most one forest
pub one_tree : (links : List (Option Link)) (one other : List Links) → IsTreeOf links one → IsTreeOf links other → one ≡ other
one_tree links one other p q =
    fill_by_all (λ k. get_or other k alone) one (length links) alone p.many (λ k low. same_node_of links one other p q k)
    ∙ sym (fill_by_all (λ k. get_or other k alone) other (length links) alone q.many (λ k low. refl))
