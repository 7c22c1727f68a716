-- An object whose parent is to be the one that it has.
use Rattle.std.proofs.Common.{◌≡◌, ℕ, List, Option, Some, None, false, true, eqb, refl, sym, ◌∙◌, ap, length}
use Rattle.std.specs.List.{range_with_len}
use Rattle.std.specs.Option.{option_eq}
use Rattle.std.proofs.lemmas.List.FromFn.{fill_by_all}
use Rattle.std.proofs.lemmas.Bool.{eq-eqb, eqb-true, false≢true}
use Rattle.moo_world_tree.specs.Forest.{Links, IsForest, above_of, ancestors, moved}
use Rattle.moo_world_tree.proofs.Dissolving.{above_apart}
use Rattle.moo_world_table.specs.World.{World, object_of, has_clash, clashes, is_crowded, crowds, with_cells, refitted, refitted_object, IsWellFormed}
use Rattle.moo_world_table.specs.Changes.{after_chparent, after_move, would_loop}
use Rattle.moo_world_table.proofs.Changing.{roomy_here}
use Rattle.moo_world_table.proofs.FittedRows.{already_fitted}
use Rattle.moo_world_table.proofs.Refitting.{all_fail, cells_stay}

alike : (u : Option ℕ) → option_eq eqb u u ≡ true
alike None = refl
alike (Some n) = eq-eqb n n refl

pub place_same : (u p : Option ℕ) → option_eq eqb u p ≡ true → u ≡ p
place_same None None h = refl
place_same None (Some n) h = absurd (false≢true h)
place_same (Some n) None h = absurd (false≢true h)
place_same (Some n) (Some m) h = ap (λ k. Some k) (eqb-true n m h)

-- a node that is to be joined to the one that it is joined to
module _ (tree : List Links) (x : ℕ) (p : Option ℕ) (f : IsForest tree) (same : above_of tree x ≡ p) where
  pub links_stay : moved tree x p ≡ tree
  links_stay = let on = ap (λ u. option_eq eqb u p) same ∙ alike p in rw on refl

  pub no_circle : would_loop tree x p ≡ false
  no_circle = over p refl
    where
      over : (q : Option ℕ) → p ≡ q → would_loop tree x q ≡ false
      over None is = refl
      over (Some up) is = above_apart tree f x up (same ∙ is)

pub place_stays : (w : World) (x : ℕ) (to : Option ℕ) → IsWellFormed w → above_of w.containment x ≡ to → after_move w x to ≡ w
place_stays w x to f same = let tree = links_stay w.containment x to f.places.forest same in rw tree refl

module _ (w : World) (x : ℕ) (p : Option ℕ) (f : IsWellFormed w) (same : above_of w.inheritance x ≡ p) where
  pub tree_stays : moved w.inheritance x p ≡ w.inheritance
  tree_stays = links_stay w.inheritance x p f.parents.forest same

  -- in a well formed world the objects are fitted to its own tree
  fitted_stay : refitted w.objects w.inheritance ≡ w.objects
  fitted_stay = sym (fill_by_all (refitted_object w.objects w.inheritance) w.objects (length w.objects) None refl (λ y h.
      sym (ap (with_cells (object_of w.objects y)) (already_fitted w f y (ancestors w.inheritance y) (f.parents.forest.rooted y)) ∙ cells_stay (object_of w.objects y))))

  objects_stay : refitted w.objects (moved w.inheritance x p) ≡ w.objects
  objects_stay = ap (refitted w.objects) tree_stays ∙ fitted_stay

  pub world_stays : after_chparent w x p ≡ w
  world_stays = rw (objects_stay, tree_stays) refl

  pub no_loop : would_loop w.inheritance x p ≡ false
  no_loop = no_circle w.inheritance x p f.parents.forest same

  pub no_clash : clashes w.objects (moved w.inheritance x p) ≡ false
  no_clash = ap (clashes w.objects) tree_stays ∙ all_fail (has_clash w.objects w.inheritance) (range_with_len 0 (length w.objects)) (λ y here. f.stocked.names_once y)

  pub no_crowd : crowds w.objects (moved w.inheritance x p) ≡ false
  no_crowd = ap (crowds w.objects) tree_stays ∙ all_fail (is_crowded w.objects w.inheritance) (range_with_len 0 (length w.objects)) (λ y here. roomy_here w f y)
