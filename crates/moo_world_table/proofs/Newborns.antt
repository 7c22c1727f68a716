-- A new object keeps a world well formed.
use Rattle.std.proofs.Common.{◌≡◌, ℕ, ◌<◌, ◌≤◌, List, [], ◌∷◌, ◌++◌, Option, Some, None, false, eqb, refl, sym, ◌∙◌, ap, ⊎_elim, arith, length, map, ℤ, subst, FitsSigned, w32, get_or}
use Rattle.std.specs.List.{list_any, All}
use Rattle.std.specs.Option.{unwrap_or}
use Rattle.std.proofs.lemmas.List.{get_or_append_left, get_or_past, length_push, get_or_push, length-map}
use Rattle.std.proofs.lemmas.List.Elements.{All-map, All-nil}
use Rattle.std.proofs.lemmas.Bool.{cases_lt, cases_eq, eqb-false, or_parts}
use Rattle.moo_value.specs.Compare.{folded}
use Rattle.moo_value.specs.Tree.{IsTextByte}
use Rattle.moo_value.specs.Size.{IsString}
use Rattle.moo_world_tree.specs.Forest.{Links, alone, ancestors, moved, IsForest, is_within}
use Rattle.moo_world_tree.proofs.Climbing.{forest_added, links_added}
use Rattle.moo_world_tree.proofs.Moving.{IsPlace, IsApart, forest_moved, length_moved, alone_after_move, ancestors_added, ancestors_elsewhere, new_is_on_no_way, ancestors_of_moved, ancestors_of_root}
use Rattle.moo_world_table.specs.World.{World, nothing, object_of, keys_defined_on, keys_along, definitions, has_twice, cells_of, IsFilled, IsWellFormed, IsFine, most}
use Rattle.moo_world_table.specs.Changes.{after_create, newborn}
use Rattle.moo_world_object.specs.declared.verb.Verb.{Verb}
use Rattle.moo_world_object.specs.Objects.{Object}
use Rattle.moo_world_object.specs.Cells.{Cell, Key, key_of, cleared}
use Rattle.moo_world_table.proofs.Counting.{programs_added}
use Rattle.moo_world_table.proofs.Changing.{valid_within, not_valid, IsValidPlace}
use Rattle.moo_world_table.proofs.Refitting.{definer_elsewhere, key_within, IsStoredCell, IsOwnedCell, owned_cleared}

-- the object at the other numbers stays
pub object_before : (objects : List (Option Object)) (o : Object) (y : ℕ) → (y ≡ length objects → ⊥) → object_of (objects ++ Some o ∷ []) y ≡ object_of objects y
object_before objects o y other =
    ⊎_elim
    (λ h. get_or_append_left objects (Some o ∷ []) None y h)
    (λ past.
    let len = length_push objects (Some o) in
    get_or_past (objects ++ Some o ∷ []) y None (⊎_elim (λ e. absurd (other e)) (λ ne. omega (arith, len)) (cases_eq y (length objects))) ∙
    sym (get_or_past objects y None past))
    (cases_lt y (length objects))

pub object_new : (objects : List (Option Object)) (o : Object) → object_of (objects ++ Some o ∷ []) (length objects) ≡ Some o
object_new objects o = get_or_push objects (Some o) None (length objects) refl

pub keys_before : (objects : List (Option Object)) (o : Object) (way : List ℕ) → list_any (eqb (length objects)) way ≡ false → keys_along (objects ++ Some o ∷ []) way ≡ keys_along objects way
keys_before objects o [] apart = refl
keys_before objects o (y ∷ way) apart =
    let parts = or_parts (eqb (length objects) y) (list_any (eqb (length objects)) way) apart in
    ap (λ p. map (λ n. (y, folded n)) (unwrap_or p nothing).defined ++ keys_along (objects ++ Some o ∷ []) way) (object_before objects o y (λ e. eqb-false _ _ parts.0 (sym e))) ∙
    ap (λ ks. keys_defined_on objects y ++ ks) (keys_before objects o way parts.1)

cleared_keys : (owner : ℤ) (cells : List Cell) → map key_of (map (cleared owner) cells) ≡ map key_of cells
cleared_keys owner [] = refl
cleared_keys owner (c ∷ cs) = ap (λ ks. key_of c ∷ ks) (cleared_keys owner cs)

-- the new object, and the parents with its number added and then joined
abbrev pub made : World → Option ℕ → ℤ → Object
made w p owner = newborn owner (cells_of w.objects p)

abbrev pub all_of : World → List Links
all_of w = w.inheritance ++ alone ∷ []

abbrev pub tree_of : World → Option ℕ → List Links
tree_of w p = moved (all_of w) (length w.objects) p

-- the way up of the new object
abbrev pub way_of : World → Option ℕ → List ℕ
way_of w None = []
way_of w (Some up) = up ∷ ancestors w.inheritance up

module _ (w : World) (f : IsWellFormed w) where
  all_forest : IsForest (all_of w)
  all_forest = forest_added w.inheritance f.parents.forest

  node : length w.objects < length (all_of w)
  node = let len = length_push w.inheritance alone in omega (arith, len, f.parents.many)

  on_no_way : (y : ℕ) → (y ≡ length w.objects → ⊥) → is_within (all_of w) y (length w.objects) ≡ false
  on_no_way y other = subst (λ n. is_within (all_of w) y n ≡ false) f.parents.many (new_is_on_no_way w.inheritance f.parents.forest y (λ e. other (e ∙ f.parents.many)))

  pub off_way : (y : ℕ) → (y ≡ length w.objects → ⊥) → list_any (eqb (length w.objects)) (y ∷ ancestors w.inheritance y) ≡ false
  off_way y other = ap (λ ys. list_any (eqb (length w.objects)) (y ∷ ys)) (sym (ancestors_added w.inheritance f.parents.forest y)) ∙ on_no_way y other

  place_all : (p : Option ℕ) → IsValidPlace w.objects p → IsPlace (all_of w) p
  place_all p valid up is = let h = valid_within w.objects up (valid up is) in let len = length_push w.inheritance alone in omega (arith, len, f.parents.many)

  not_new : (p : Option ℕ) → IsValidPlace w.objects p → (up : ℕ) → p ≡ Some up → up ≡ length w.objects → ⊥
  not_new p valid up is e = let h = valid_within w.objects up (valid up is) in omega arith

  apart_all : (p : Option ℕ) → IsValidPlace w.objects p → IsApart (all_of w) (length w.objects) p
  apart_all p valid up is = on_no_way up (not_new p valid up is)

  pub same_ancestors : (p : Option ℕ) → IsValidPlace w.objects p → (y : ℕ) → (y ≡ length w.objects → ⊥) → ancestors (tree_of w p) y ≡ ancestors w.inheritance y
  same_ancestors p valid y other = ancestors_elsewhere (all_of w) (length w.objects) p y all_forest node (place_all p valid) (on_no_way y other) ∙ ancestors_added w.inheritance f.parents.forest y

  -- the definitions of the others stay
  pub same_definitions : (p : Option ℕ) (o : Object) → IsValidPlace w.objects p → (y : ℕ) → (y ≡ length w.objects → ⊥) → definitions (w.objects ++ Some o ∷ []) (tree_of w p) y ≡ definitions w.objects w.inheritance y
  same_definitions p o valid y other =
      ap (λ ys. keys_along (w.objects ++ Some o ∷ []) (y ∷ ys)) (same_ancestors p valid y other) ∙
      keys_before w.objects o (y ∷ ancestors w.inheritance y) (off_way y other)

  -- those of the new object are those of its parent
  pub new_way : (p : Option ℕ) → IsValidPlace w.objects p → ancestors (tree_of w p) (length w.objects) ≡ way_of w p
  new_way None valid = ancestors_of_root (all_of w) (length w.objects) all_forest node
  new_way (Some up) valid =
      ancestors_of_moved (all_of w) (length w.objects) up all_forest node (place_all (Some up) valid up refl) (apart_all (Some up) valid up refl) ∙
      ap (λ ys. up ∷ ys) (ancestors_added w.inheritance f.parents.forest up)

  pub off_new_way : (p : Option ℕ) → IsValidPlace w.objects p → list_any (eqb (length w.objects)) (way_of w p) ≡ false
  off_new_way None valid = refl
  off_new_way (Some up) valid = off_way up (not_new (Some up) valid up refl)

  parent_keys : (p : Option ℕ) → map key_of (cells_of w.objects p) ≡ keys_along w.objects (way_of w p)
  parent_keys None = refl
  parent_keys (Some up) = f.stocked.exact_cells up

  parent_once : (p : Option ℕ) → has_twice (map (λ (k : Key). k.1) (keys_along w.objects (way_of w p))) ≡ false
  parent_once None = refl
  parent_once (Some up) = f.stocked.names_once up

  pub new_definitions : (p : Option ℕ) (o : Object) → o.defined ≡ [] → IsValidPlace w.objects p → definitions (w.objects ++ Some o ∷ []) (tree_of w p) (length w.objects) ≡ keys_along w.objects (way_of w p)
  new_definitions p o none valid =
      ap (λ q. map (λ n. (length w.objects, folded n)) (unwrap_or q nothing).defined ++ keys_along (w.objects ++ Some o ∷ []) (ancestors (tree_of w p) (length w.objects))) (object_new w.objects o) ∙
      ap (λ ns. map (λ n. (length w.objects, folded n)) ns ++ keys_along (w.objects ++ Some o ∷ []) (ancestors (tree_of w p) (length w.objects))) none ∙
      ap (keys_along (w.objects ++ Some o ∷ [])) (new_way p valid) ∙ keys_before w.objects o (way_of w p) (off_new_way p valid)

  few_parent : (p : Option ℕ) → length (cells_of w.objects p) ≤ most
  few_parent None = omega arith
  few_parent (Some up) = (f.stocked.fine up).few_cells

  owned_parent : (p : Option ℕ) → All IsOwnedCell (cells_of w.objects p)
  owned_parent None = All-nil IsOwnedCell
  owned_parent (Some up) = (f.stocked.fine up).numbers.cells

  fine_new : (p : Option ℕ) (owner : ℤ) → FitsSigned w32 owner → IsFine (made w p owner)
  fine_new p owner fits = record {
    name = record { text = All-nil IsTextByte; fits = omega arith };
    names = All-nil IsString;
    values = All-map IsStoredCell (cleared owner) (cells_of w.objects p) (λ k d h. tt);
    few_cells = let len = length-map (cells_of w.objects p) (cleared owner) in let few = few_parent p in omega (arith, len, few);
    verb_names = All-nil (λ (v : Verb). IsString v.names);
    few_verbs = omega arith;
    numbers = record {
      owner = fits;
      cells = All-map IsOwnedCell (cleared owner) (cells_of w.objects p) (λ k d h. owned_cleared owner (get_or (cells_of w.objects p) k d) fits (owned_parent p k d h));
      verbs = All-nil (λ (v : Verb). FitsSigned w32 v.owner);
    };
  }

  pub create_well_formed : (p : Option ℕ) (owner : ℤ) → FitsSigned w32 owner → IsValidPlace w.objects p → length w.objects < most → IsWellFormed (after_create w p owner)
  create_well_formed p owner fits valid room =
      let o = made w p owner in
      let many = length_push w.objects (Some o) in
      let parents = length_moved (all_of w) (length w.objects) p ∙ length_push w.inheritance alone in
      let places = length_push w.containment alone in
      record {
        parents = record {
          forest = forest_moved (all_of w) (length w.objects) p all_forest node (place_all p valid) (apart_all p valid);
          many = omega (arith, many, parents, f.parents.many);
          free = λ y h.
              let other = not_here o y h in
              let none = sym (object_before w.objects o y other) ∙ h in
              alone_after_move (all_of w) (length w.objects) p y node (place_all p valid) other (λ up is. not_valid w.objects up y (valid up is) none)
              (links_added w.inheritance y ∙ f.parents.free y none);
        };
        places = record {
          forest = forest_added w.containment f.places.forest;
          many = omega (arith, many, places, f.places.many);
          free = λ y h. links_added w.containment y ∙ f.places.free y (sym (object_before w.objects o y (not_here o y h)) ∙ h);
        };
        stocked = record {
          exact_cells = λ y. ⊎_elim
              (λ e. rw e (ap (λ q. map key_of (unwrap_or q nothing).cells) (object_new w.objects o) ∙ cleared_keys owner (cells_of w.objects p) ∙ parent_keys p ∙ sym (new_definitions p o refl valid)))
              (λ other. ap (λ q. map key_of (unwrap_or q nothing).cells) (object_before w.objects o y other) ∙ f.stocked.exact_cells y ∙ sym (same_definitions p o valid y other))
              (cases_eq y (length w.objects));
          names_once = λ y. ⊎_elim
              (λ e. rw e (ap (λ ks. has_twice (map (λ (k : Key). k.1) ks)) (new_definitions p o refl valid) ∙ parent_once p))
              (λ other. ap (λ ks. has_twice (map (λ (k : Key). k.1) ks)) (same_definitions p o valid y other) ∙ f.stocked.names_once y)
              (cases_eq y (length w.objects));
          own_filled = λ y. ⊎_elim
              (λ e. rw e (let here = ap (λ q. (unwrap_or q nothing).cells) (object_new w.objects o) in rw here
              (All-map (IsFilled (length w.objects)) (cleared owner) (cells_of w.objects p) (λ k d h mine.
              absurd (eqb-false _ _ (key_within (λ (q : Key). eqb q.0 (length w.objects) ≡ false) (cells_of w.objects p)
              (let keys = parent_keys p in rw keys (definer_elsewhere w.objects (length w.objects) (way_of w p) (off_new_way p valid))) k d h) mine)))))
              (λ other. let kept = ap (λ q. (unwrap_or q nothing).cells) (object_before w.objects o y other) in rw kept (f.stocked.own_filled y))
              (cases_eq y (length w.objects));
          fine = λ y. ⊎_elim
              (λ e. rw e (let here = ap (λ q. unwrap_or q nothing) (object_new w.objects o) in rw here (fine_new p owner fits)))
              (λ other. let kept = ap (λ q. unwrap_or q nothing) (object_before w.objects o y other) in rw kept (f.stocked.fine y))
              (cases_eq y (length w.objects));
        };
        few = omega (arith, many);
        few_players = f.few_players;
        player_numbers = f.player_numbers;
        few_programs = omega (arith, programs_added w.objects o refl, f.few_programs);
      }
    where
      not_here : (o : Object) (y : ℕ) → object_of (w.objects ++ Some o ∷ []) y ≡ None → y ≡ length w.objects → ⊥
      not_here o y h e = let new = ap (object_of (w.objects ++ Some o ∷ [])) (sym e) ∙ h in let there = object_new w.objects o in cc
