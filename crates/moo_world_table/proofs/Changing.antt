-- What the calls that join objects anew come to.
use Rattle.std.proofs.Common.{◌≡◌, ◌≢◌, ℕ, ◌<◌, List, Option, Some, None, Bool, true, false, cond, refl, sym, ◌∙◌, ap, ⊎_elim, arith, length, IsSome}
use Rattle.std.proofs.lemmas.List.{get_or_past, length-map}
use Rattle.std.proofs.lemmas.Bool.{cases_lt, false≢true, ne_eqb, le-ltb}
use Rattle.moo_world_tree.specs.Forest.{Links, moved, is_within, above_of, ancestors}
use Rattle.moo_world_tree.proofs.Moving.{forest_moved, length_moved, alone_after_move, above_of_moved, ancestors_elsewhere, ancestors_of_root, ancestors_of_moved, IsPlace, IsApart}
use Rattle.moo_value.specs.declared.error_code.ErrorCode.{ErrorCode}
use Rattle.moo_value.specs.declared.error_code.ErrorCode.TheVariants.{RecursiveMove, InvalidArgument, Quota}
use Rattle.moo_world_table.specs.World.{World, object_of, clashes, IsWellFormed, IsJoined, crowds, refitted, thing_of, definitions, is_crowded, most, fitted_over, fitted_along, cells_of}
use Rattle.moo_world_object.specs.Cells.{key_of}
use Rattle.moo_world_table.specs.Changes.{after_chparent, after_move, would_loop}
use Rattle.moo_world_object.specs.Objects.{Object}
use Rattle.moo_world_table.proofs.Refitting.{IsFreeTree, fitted_stocked, joined_kept, length_refitted, was_none}
use Rattle.moo_world_table.proofs.FittedRows.{own_exact, already_fitted}
use Rattle.moo_world_table.proofs.Counting.{programs_refitted}
use Rattle.moo_world_table.proofs.Rowing.{IsFittedOutside, IsRejoined, row_for}

-- a valid object has a number that was given out
pub valid_within : (objects : List (Option Object)) (x : ℕ) → IsSome (object_of objects x) → x < length objects
valid_within objects x h =
    ⊎_elim (λ e. e)
    (λ past. let none : object_of objects x ≡ None = get_or_past objects x None past in absurd (no_some (object_of objects x) none h))
    (cases_lt x (length objects))
  where
    no_some : (o : Option Object) → o ≡ None → IsSome o → ⊥
    no_some None e h = false≢true h
    no_some (Some o) e h = cc

-- what is not valid is another number
pub not_valid : (objects : List (Option Object)) (x y : ℕ) → IsSome (object_of objects x) → object_of objects y ≡ None → y ≢ x
not_valid objects x y h none e = no_some (object_of objects x) (ap (object_of objects) (sym e) ∙ none) h
  where
    no_some : (o : Option Object) → o ≡ None → IsSome o → ⊥
    no_some None e h = false≢true h
    no_some (Some o) e h = cc

-- the new place is valid
abbrev pub IsValidPlace : List (Option Object) → Option ℕ → Type 0
IsValidPlace objects to = (up : ℕ) → to ≡ Some up → IsSome (object_of objects up)

pub apart_from_test : (tree : List Links) (x : ℕ) (to : Option ℕ) → would_loop tree x to ≡ false → IsApart tree x to
apart_from_test tree x None h up is = cc
apart_from_test tree x (Some q) h up is = let same : q ≡ up = cc in ap (λ z. is_within tree z x) (sym same) ∙ h

free_after_move : (objects : List (Option Object)) (tree : List Links) (x : ℕ) (to : Option ℕ) → IsFreeTree objects tree → x < length tree → IsPlace tree to → IsSome (object_of objects x) → IsValidPlace objects to → IsFreeTree objects (moved tree x to)
free_after_move objects tree x to free node place valid to_valid y none =
    alone_after_move tree x to y node place (not_valid objects x y valid none) (λ up is. not_valid objects up y (to_valid up is) none) (free y none)

-- an object's node, and that of a place
module _ (objects : List (Option Object)) (tree : List Links) (f : IsJoined objects tree) where
  pub node_of : (x : ℕ) → IsSome (object_of objects x) → x < length tree
  node_of x valid = let h = valid_within objects x valid in omega (arith, f.many)

  pub place_of_nodes : (p : Option ℕ) → IsValidPlace objects p → IsPlace tree p
  place_of_nodes p valid up is = let h = valid_within objects up (valid up is) in omega (arith, f.many)

  -- what is below something, or has something below it, is an object
  pub joined_valid : (x up : ℕ) → above_of tree x ≡ Some up → IsSome (object_of objects x)
  joined_valid x up is = over (object_of objects x) refl
    where
      over : (o : Option Object) → object_of objects x ≡ o → IsSome o
      over None e = absurd (let top : above_of tree x ≡ None = ap (λ (n : Links). n.above) (f.free x e) in cc)
      over (Some o) e = refl

  pub moved_joined : (x : ℕ) (p : Option ℕ) → IsSome (object_of objects x) → IsValidPlace objects p → would_loop tree x p ≡ false → IsJoined objects (moved tree x p)
  moved_joined x p valid p_valid apart = record {
    forest = forest_moved tree x p f.forest (node_of x valid) (place_of_nodes p p_valid) (apart_from_test tree x p apart);
    many = length_moved tree x p ∙ f.many;
    free = free_after_move objects tree x p f.free (node_of x valid) (place_of_nodes p p_valid) valid p_valid;
  }

-- no object has too many definitions
pub roomy_here : (w : World) → IsWellFormed w → (y : ℕ) → is_crowded w.objects w.inheritance y ≡ false
roomy_here w f y =
    let many = sym (length-map (thing_of w.objects y).cells key_of) ∙ ap length (f.stocked.exact_cells y) in
    le-ltb most (length (definitions w.objects w.inheritance y)) (let few = (f.stocked.fine y).few_cells in omega (arith, many, few))

-- in a well formed world the cells fit
pub outside_well_formed : (w : World) (x : ℕ) → IsWellFormed w → IsFittedOutside w.objects w.inheritance x
outside_well_formed w x f = record {
  fitted = λ y h. already_fitted w f y (ancestors w.inheritance y) (f.parents.forest.rooted y);
  once = λ y h. f.stocked.names_once y;
  roomy = λ y h. roomy_here w f y;
}

module _ (w : World) (x : ℕ) (p : Option ℕ) (f : IsWellFormed w) (valid : IsSome (object_of w.objects x)) (p_valid : IsValidPlace w.objects p) where
  pub parent_changed : would_loop w.inheritance x p ≡ false → clashes w.objects (moved w.inheritance x p) ≡ false → crowds w.objects (moved w.inheritance x p) ≡ false → IsWellFormed (after_chparent w x p)
  parent_changed apart none room =
      let tree = moved w.inheritance x p in
      let joined = moved_joined w.objects w.inheritance f.parents x p valid p_valid apart in
      let many = length_refitted w.objects tree in
      record {
        parents = joined_kept w.objects (refitted w.objects tree) tree many (was_none w.objects tree) joined;
        places = joined_kept w.objects (refitted w.objects tree) w.containment many (was_none w.objects tree) f.places;
        stocked = fitted_stocked w.objects tree joined (own_exact w f) f.stocked.own_filled f.stocked.fine none room;
        few = omega (arith, many, f.few);
        few_players = f.few_players;
        player_numbers = f.player_numbers;
        few_programs = omega (arith, programs_refitted w.objects tree, f.few_programs);
      }

  pub place_changed : would_loop w.containment x p ≡ false → IsWellFormed (after_move w x p)
  place_changed apart = record {
    parents = f.parents;
    places = moved_joined w.objects w.containment f.places x p valid p_valid apart;
    stocked = f.stocked;
    few = f.few;
    few_players = f.few_players;
    player_numbers = f.player_numbers;
    few_programs = f.few_programs;
  }

  pub rejoined : would_loop w.inheritance x p ≡ false → IsRejoined w.inheritance (moved w.inheritance x p) x
  rejoined apart = record {
    forest = forest_moved w.inheritance x p f.parents.forest (node_of w.objects w.inheritance f.parents x valid) (place_of_nodes w.objects w.inheritance f.parents p p_valid) (apart_from_test w.inheritance x p apart);
    above = λ y ne. above_of_moved w.inheritance x p y (node_of w.objects w.inheritance f.parents x valid) ∙ (let out = ne_eqb y x ne in rw out refl);
    apart = λ y off. ancestors_elsewhere w.inheritance x p y f.parents.forest (node_of w.objects w.inheritance f.parents x valid) (place_of_nodes w.objects w.inheritance f.parents p p_valid) off;
  }

  -- the cells of the new parent
  pub parent_cells : would_loop w.inheritance x p ≡ false → cells_of w.objects p ≡ fitted_along w.objects (ancestors (moved w.inheritance x p) x)
  parent_cells apart = rest p refl apart
    where
      rest : (q : Option ℕ) → p ≡ q → would_loop w.inheritance x q ≡ false → cells_of w.objects q ≡ fitted_along w.objects (ancestors (moved w.inheritance x p) x)
      rest None is off = sym (ap (fitted_along w.objects) (ap (λ r. ancestors (moved w.inheritance x r) x) is ∙ ancestors_of_root w.inheritance x f.parents.forest (node_of w.objects w.inheritance f.parents x valid)))
      rest (Some up) is off =
          sym (ap (fitted_along w.objects) (ap (λ r. ancestors (moved w.inheritance x r) x) is ∙
          ancestors_of_moved w.inheritance x up f.parents.forest (node_of w.objects w.inheritance f.parents x valid) (place_of_nodes w.objects w.inheritance f.parents p p_valid up is) off) ∙
          already_fitted w f up (ancestors w.inheritance up) (f.parents.forest.rooted up))

  -- the first row
  pub top_row : would_loop w.inheritance x p ≡ false → fitted_over x (object_of w.objects x) (cells_of w.objects p) ≡ row_for w.objects (moved w.inheritance x p) x
  top_row apart = ap (fitted_over x (object_of w.objects x)) (parent_cells apart)

-- what nothing was raised for
pub parent_free : (loops clash crowd : Bool) → (cond loops (Some RecursiveMove) (cond clash (Some InvalidArgument) (cond crowd (Some Quota) None))) ≡ None → (loops ≡ false) × (clash ≡ false) × (crowd ≡ false)
parent_free true clash crowd h = cc
parent_free false true crowd h = cc
parent_free false false true h = cc
parent_free false false false h = (refl, refl, refl)

pub place_free : (loops : Bool) → ◌≡◌ {A = Option ErrorCode} (cond loops (Some RecursiveMove) None) None → loops ≡ false
place_free true h = cc
place_free false h = refl
