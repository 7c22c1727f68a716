-- A new definition keeps a world well formed.
use Rattle.std.proofs.Common.{◌≡◌, ℕ, ◌<◌, List, [], ◌∷◌, ◌++◌, Option, Some, None, Bool, true, false, ◌&&◌, eqb, leb, ltb, refl, sym, ◌∙◌, ap, subst, ⊎_elim, arith, length, map, IsSome, FitsSigned, w32}
use Rattle.std.specs.List.{list_any, All, range_with_len}
use Rattle.std.specs.Option.{unwrap_or}
use Rattle.std.proofs.lemmas.List.{get_or-set_same, get_or-set_other, length-set, length_push, length-append, length-map, map-append, append_assoc}
use Rattle.std.proofs.lemmas.List.Elements.{All-push, filter-append}
use Rattle.std.proofs.lemmas.Bool.{cases_Bool, cases_eq, eqb-true, eqb-false, eq-eqb, or_parts, or_left, or_from, or_cases, false≢true, leb-false, le-ltb}
use Rattle.moo_value.specs.Compare.{folded}
use Rattle.moo_value.specs.Size.{IsString}
use Rattle.moo_world_tree.specs.Forest.{Links, ancestors, IsWayUp, is_within}
use Rattle.moo_world_tree.proofs.Climbing.{not_met}
use Rattle.moo_world_object.specs.Names.{same_name}
use Rattle.moo_world_object.specs.Cells.{Cell, Key, key_of}
use Rattle.moo_world_object.specs.Objects.{Object}
use Rattle.moo_world_object.proofs.Names.{same_name-false, ne-same_name}
use Rattle.moo_world_table.specs.World.{World, nothing, object_of, thing_of, keys_defined_on, keys_along, definitions, has_twice, has_clash, is_crowded, most, fitted_over, fitted_along, IsFilled, IsFine, HasStored, IsJoined, IsWellFormed, refitted}
use Rattle.moo_world_table.specs.Steps.{IsDefinable}
use Rattle.moo_world_table.specs.Changes.{with_definition, with_definition_on, after_define}
use Rattle.moo_world_table.specs.Properties.{has_name}
use Rattle.moo_world_table.proofs.Counting.{programs_defined}
use Rattle.moo_world_table.proofs.Changing.{valid_within, roomy_here}
use Rattle.moo_world_table.proofs.FittedRows.{IsOwnExact, own_exact, own_cells, already_fitted}
use Rattle.moo_world_table.proofs.Joining.{within_low}
use Rattle.moo_world_table.proofs.Refitting.{joined_kept, fitted_stocked, all_fail, none_passes, length_refitted, was_none}

defined_then : (o : Option Object) (name : List ℕ) (cell : Cell) → IsSome o → (unwrap_or (with_definition name cell o) nothing).defined ≡ (unwrap_or o nothing).defined ++ name ∷ []
defined_then None name cell valid = absurd (false≢true valid)
defined_then (Some o) name cell valid = refl

cells_then : (o : Option Object) (name : List ℕ) (cell : Cell) → IsSome o → (unwrap_or (with_definition name cell o) nothing).cells ≡ (unwrap_or o nothing).cells ++ cell ∷ []
cells_then None name cell valid = absurd (false≢true valid)
cells_then (Some o) name cell valid = refl

none_then : (o : Option Object) (name : List ℕ) (cell : Cell) → with_definition name cell o ≡ None → o ≡ None
none_then None name cell h = refl
none_then (Some o) name cell h = cc

none_some : (o : Option Object) → o ≡ None → IsSome o → ⊥
none_some None e h = false≢true h
none_some (Some o) e h = cc

fine_then : (o : Option Object) (name : List ℕ) (cell : Cell) → IsString name → HasStored cell.value → FitsSigned w32 cell.owner → length (unwrap_or o nothing).cells < most → IsFine (unwrap_or o nothing) → IsFine (unwrap_or (with_definition name cell o) nothing)
fine_then None name cell string stored owner room f = f
fine_then (Some o) name cell string stored owner room f = record {
  name = f.name;
  names = All-push IsString o.defined name f.names string;
  values = All-push (λ (c : Cell). HasStored c.value) o.cells cell f.values stored;
  few_cells = let more = length_push o.cells cell in omega (arith, more);
  verb_names = f.verb_names;
  few_verbs = f.few_verbs;
  numbers = record {
    owner = f.numbers.owner;
    cells = All-push (λ (c : Cell). FitsSigned w32 c.owner) o.cells cell f.numbers.cells owner;
    verbs = f.numbers.verbs;
  };
}

-- one name put into a list
record Inserted (n : List ℕ) (old new : List (List ℕ)) : Type 0 where
  front : List (List ℕ)
  back : List (List ℕ)
  old_is : old ≡ front ++ back
  new_is : new ≡ front ++ n ∷ back

apart_more : (a n : List ℕ) (front back : List (List ℕ)) → same_name a n ≡ false → list_any (same_name a) (front ++ back) ≡ false → list_any (same_name a) (front ++ n ∷ back) ≡ false
apart_more a n [] back ne h = or_from (same_name a n) (list_any (same_name a) back) ne h
apart_more a n (b ∷ front) back ne h =
    let parts = or_parts (same_name a b) (list_any (same_name a) (front ++ back)) h in
    or_from (same_name a b) (list_any (same_name a) (front ++ n ∷ back)) parts.0 (apart_more a n front back ne parts.1)

flipped : (a b : List ℕ) → same_name a b ≡ false → same_name b a ≡ false
flipped a b h = ne-same_name b a (λ e. same_name-false a b h (sym e))

no_twice : (n : List ℕ) (front back : List (List ℕ)) → has_twice (front ++ back) ≡ false → list_any (same_name n) (front ++ back) ≡ false → has_twice (front ++ n ∷ back) ≡ false
no_twice n [] back once free = or_from (list_any (same_name n) back) (has_twice back) free once
no_twice n (a ∷ front) back once free =
    let parts = or_parts (list_any (same_name a) (front ++ back)) (has_twice (front ++ back)) once in
    let others = or_parts (same_name n a) (list_any (same_name n) (front ++ back)) free in
    or_from (list_any (same_name a) (front ++ n ∷ back)) (has_twice (front ++ n ∷ back)) (apart_more a n front back (flipped n a others.0) parts.0) (no_twice n front back parts.1 others.1)

name_apart : (n : List ℕ) (ks : List Key) → list_any (λ (k : Key). same_name k.1 n) ks ≡ false → list_any (same_name n) (map (λ (k : Key). k.1) ks) ≡ false
name_apart n [] h = refl
name_apart n (k ∷ ks) h =
    let parts = or_parts (same_name k.1 n) (list_any (λ (j : Key). same_name j.1 n) ks) h in
    or_from (same_name n k.1) (list_any (same_name n) (map (λ (j : Key). j.1) ks)) (flipped k.1 n parts.0) (name_apart n ks parts.1)

right_of : (a b : Bool) → (a && b) ≡ false → a ≡ true → b ≡ false
right_of true b h e = h
right_of false b h e = absurd (false≢true e)

module _ (w : World) (x : ℕ) (name : List ℕ) (cell : Cell) (f : IsWellFormed w) (valid : IsSome (object_of w.objects x)) (d : IsDefinable w x name cell) where
  pub here : object_of (with_definition_on w.objects x name cell) x ≡ with_definition name cell (object_of w.objects x)
  here = get_or-set_same w.objects x (with_definition name cell (object_of w.objects x)) None (valid_within w.objects x valid)

  pub there : (y : ℕ) → (y ≡ x → ⊥) → object_of (with_definition_on w.objects x name cell) y ≡ object_of w.objects y
  there y other = get_or-set_other w.objects x y (with_definition name cell (object_of w.objects x)) None other

  pub many : length (with_definition_on w.objects x name cell) ≡ length w.objects
  many = length-set w.objects x (with_definition name cell (object_of w.objects x))

  still_none : (y : ℕ) → object_of (with_definition_on w.objects x name cell) y ≡ None → object_of w.objects y ≡ None
  still_none y h = ⊎_elim
      (λ e. ap (object_of w.objects) e ∙ none_then (object_of w.objects x) name cell (sym here ∙ ap (object_of (with_definition_on w.objects x name cell)) (sym e) ∙ h))
      (λ ne. sym (there y ne) ∙ h)
      (cases_eq y x)

  pub still_valid : (y : ℕ) → IsSome (object_of w.objects y) → IsSome (object_of (with_definition_on w.objects x name cell) y)
  still_valid y v = over (object_of (with_definition_on w.objects x name cell) y) refl
    where
      over : (o : Option Object) → object_of (with_definition_on w.objects x name cell) y ≡ o → IsSome o
      over None e = absurd (let gone = still_none y e in none_some (object_of w.objects y) gone v)
      over (Some o) e = refl

  cells_here : (thing_of (with_definition_on w.objects x name cell) x).cells ≡ (thing_of w.objects x).cells ++ cell ∷ []
  cells_here = ap (λ o. (unwrap_or o nothing).cells) here ∙ cells_then (object_of w.objects x) name cell valid

  cells_there : (y : ℕ) → (y ≡ x → ⊥) → (thing_of (with_definition_on w.objects x name cell) y).cells ≡ (thing_of w.objects y).cells
  cells_there y ne = ap (λ o. (unwrap_or o nothing).cells) (there y ne)

  pub keys_here : keys_defined_on (with_definition_on w.objects x name cell) x ≡ keys_defined_on w.objects x ++ (let k : Key = (x, folded name) in k) ∷ []
  keys_here = ap (λ o. map (λ n. (x, folded n)) (unwrap_or o nothing).defined) here ∙ ap (map (λ n. (x, folded n))) (defined_then (object_of w.objects x) name cell valid) ∙
      map-append (λ n. (x, folded n)) (thing_of w.objects x).defined (name ∷ [])

  pub keys_there : (y : ℕ) → (y ≡ x → ⊥) → keys_defined_on (with_definition_on w.objects x name cell) y ≡ keys_defined_on w.objects y
  keys_there y ne = ap (λ o. map (λ n. (y, folded n)) (unwrap_or o nothing).defined) (there y ne)

  pub own_then : IsOwnExact (with_definition_on w.objects x name cell)
  own_then y = ⊎_elim
      (λ e. rw e (
      ap (λ cs. map key_of (own_cells x cs)) cells_here ∙
      ap (map key_of) (filter-append (λ (c : Cell). eqb c.definer x) (thing_of w.objects x).cells (cell ∷ [])) ∙
      map-append key_of (own_cells x (thing_of w.objects x).cells) (own_cells x (cell ∷ [])) ∙
      ap (λ ks. ks ++ map key_of (own_cells x (cell ∷ []))) (own_exact w f x) ∙
      ap (λ ks. keys_defined_on w.objects x ++ ks) last_key ∙ sym keys_here))
      (λ ne. ap (λ cs. map key_of (own_cells y cs)) (cells_there y ne) ∙ own_exact w f y ∙ sym (keys_there y ne))
      (cases_eq y x)
    where
      last_key : map key_of (own_cells x (cell ∷ [])) ≡ (let k : Key = (x, folded name) in k) ∷ []
      last_key = let own = eq-eqb cell.definer x (ap (λ (k : Key). k.0) d.own) in rw own (ap (λ (k : Key). k ∷ []) d.own)

  pub free_of : (y : ℕ) → is_within w.inheritance y x ≡ true → has_name w.objects w.inheritance (folded name) y ≡ false
  free_of y on = right_of (is_within w.inheritance y x) (has_name w.objects w.inheritance (folded name) y)
      (none_passes (λ z. is_within w.inheritance z x && has_name w.objects w.inheritance (folded name) z) (length w.objects) d.free y (within_low w.objects w.inheritance f.parents x valid y on)) on

  filled_then : (y : ℕ) → All (IsFilled y) (thing_of (with_definition_on w.objects x name cell) y).cells
  filled_then y = ⊎_elim
      (λ e. rw e (rw cells_here (All-push (IsFilled x) (thing_of w.objects x).cells cell (f.stocked.own_filled x) (λ own. d.filled))))
      (λ ne. let cells = cells_there y ne in rw cells (f.stocked.own_filled y))
      (cases_eq y x)

  -- along a way that does not meet x nothing is new
  pub fitted_apart : (way : List ℕ) → list_any (eqb x) way ≡ false → fitted_along (with_definition_on w.objects x name cell) way ≡ fitted_along w.objects way
  fitted_apart [] apart = refl
  fitted_apart (y ∷ way) apart =
      let parts = or_parts (eqb x y) (list_any (eqb x) way) apart in
      ap (λ o. fitted_over y o (fitted_along (with_definition_on w.objects x name cell) way)) (there y (λ e. eqb-false x y parts.0 (sym e))) ∙
      ap (fitted_over y (object_of w.objects y)) (fitted_apart way parts.1)

  keys_apart : (way : List ℕ) → list_any (eqb x) way ≡ false → keys_along (with_definition_on w.objects x name cell) way ≡ keys_along w.objects way
  keys_apart [] apart = refl
  keys_apart (y ∷ way) apart =
      let parts = or_parts (eqb x y) (list_any (eqb x) way) apart in
      ap (λ ks. ks ++ keys_along (with_definition_on w.objects x name cell) way) (keys_there y (λ e. eqb-false x y parts.0 (sym e))) ∙
      ap (λ ks. keys_defined_on w.objects y ++ ks) (keys_apart way parts.1)

  -- along one that meets it there is one name more
  at_definer : (zs : List ℕ) → list_any (eqb x) zs ≡ false → Inserted (folded name) (map (λ (k : Key). k.1) (keys_along w.objects (x ∷ zs))) (map (λ (k : Key). k.1) (keys_along (with_definition_on w.objects x name cell) (x ∷ zs)))
  at_definer zs off =
      let own = keys_defined_on w.objects x in
      let new : Key = (x, folded name) in
      let rest = keys_along w.objects zs in
      record {
        front = map (λ (k : Key). k.1) own;
        back = map (λ (k : Key). k.1) rest;
        old_is = map-append (λ (k : Key). k.1) own rest;
        new_is =
            ap (λ ks. map (λ (k : Key). k.1) (ks ++ keys_along (with_definition_on w.objects x name cell) zs)) keys_here ∙
            ap (λ ks. map (λ (k : Key). k.1) ((own ++ new ∷ []) ++ ks)) (keys_apart zs off) ∙
            map-append (λ (k : Key). k.1) (own ++ new ∷ []) rest ∙
            ap (λ ns. ns ++ map (λ (k : Key). k.1) rest) (map-append (λ (k : Key). k.1) own (new ∷ [])) ∙
            append_assoc (map (λ (k : Key). k.1) own) (folded name ∷ []) (map (λ (k : Key). k.1) rest);
      }

  before_definer : (z : ℕ) (rest : List ℕ) → (x ≡ z → ⊥) → Inserted (folded name) (map (λ (k : Key). k.1) (keys_along w.objects rest)) (map (λ (k : Key). k.1) (keys_along (with_definition_on w.objects x name cell) rest)) →
      Inserted (folded name) (map (λ (k : Key). k.1) (keys_along w.objects (z ∷ rest))) (map (λ (k : Key). k.1) (keys_along (with_definition_on w.objects x name cell) (z ∷ rest)))
  before_definer z rest ne r =
      let own = keys_defined_on w.objects z in
      let mine = map (λ (k : Key). k.1) own in
      record {
        front = mine ++ r.front;
        back = r.back;
        old_is = map-append (λ (k : Key). k.1) own (keys_along w.objects rest) ∙ ap (λ ns. mine ++ ns) r.old_is ∙ sym (append_assoc mine r.front r.back);
        new_is =
            ap (λ ks. map (λ (k : Key). k.1) (ks ++ keys_along (with_definition_on w.objects x name cell) rest)) (keys_there z (λ e. ne (sym e))) ∙
            map-append (λ (k : Key). k.1) own (keys_along (with_definition_on w.objects x name cell) rest) ∙ ap (λ ns. mine ++ ns) r.new_is ∙ sym (append_assoc mine r.front (folded name ∷ r.back));
      }

  inserted : (z : ℕ) (ys : List ℕ) → IsWayUp w.inheritance z ys → list_any (eqb x) (z ∷ ys) ≡ true →
      Inserted (folded name) (map (λ (k : Key). k.1) (keys_along w.objects (z ∷ ys))) (map (λ (k : Key). k.1) (keys_along (with_definition_on w.objects x name cell) (z ∷ ys)))
  inserted z [] way on = ⊎_elim
      (λ e. subst (λ q. Inserted (folded name) (map (λ (k : Key). k.1) (keys_along w.objects (q ∷ []))) (map (λ (k : Key). k.1) (keys_along (with_definition_on w.objects x name cell) (q ∷ [])))) (eqb-true x z e) (at_definer [] refl))
      (λ later. absurd (false≢true later))
      (or_cases (eqb x z) false on)
  inserted z (u ∷ us) way on = ⊎_elim
      (λ e. subst (λ q. Inserted (folded name) (map (λ (k : Key). k.1) (keys_along w.objects (q ∷ u ∷ us))) (map (λ (k : Key). k.1) (keys_along (with_definition_on w.objects x name cell) (q ∷ u ∷ us)))) e
      (at_definer (u ∷ us) (ap (λ q. list_any (eqb q) (u ∷ us)) e ∙ not_met w.inheritance z (u ∷ us) way)))
      (λ ne. before_definer z (u ∷ us) ne (inserted u us way.1 (⊎_elim (λ e. absurd (ne (eqb-true x z e))) (λ h. h) (or_cases (eqb x z) (list_any (eqb x) (u ∷ us)) on))))
      (cases_eq x z)

  room_at : (y : ℕ) → is_within w.inheritance y x ≡ true → length (definitions w.objects w.inheritance y) < most
  room_at y on = leb-false most (length (definitions w.objects w.inheritance y))
      (right_of (is_within w.inheritance y x) (leb most (length (definitions w.objects w.inheritance y)))
      (none_passes (λ z. is_within w.inheritance z x && leb most (length (definitions w.objects w.inheritance z))) (length w.objects) d.roomy y (within_low w.objects w.inheritance f.parents x valid y on)) on)

  once_then : (y : ℕ) → has_clash (with_definition_on w.objects x name cell) w.inheritance y ≡ false
  once_then y = ⊎_elim
      (λ on.
      let r = inserted y (ancestors w.inheritance y) (f.parents.forest.rooted y) on in
      ap has_twice r.new_is ∙ no_twice (folded name) r.front r.back (ap has_twice (sym r.old_is) ∙ f.stocked.names_once y)
      (ap (list_any (same_name (folded name))) (sym r.old_is) ∙ name_apart (folded name) (definitions w.objects w.inheritance y) (free_of y on)))
      (λ off. ap (λ ks. has_twice (map (λ (k : Key). k.1) ks)) (keys_apart (y ∷ ancestors w.inheritance y) off) ∙ f.stocked.names_once y)
      (cases_Bool (is_within w.inheritance y x))

  roomy_then : (y : ℕ) → is_crowded (with_definition_on w.objects x name cell) w.inheritance y ≡ false
  roomy_then y = ⊎_elim
      (λ on.
      let r = inserted y (ancestors w.inheritance y) (f.parents.forest.rooted y) on in
      let room = room_at y on in
      let old = sym (length-map (definitions w.objects w.inheritance y) (λ (k : Key). k.1)) ∙ ap length r.old_is ∙ length-append r.front r.back in
      let new = sym (length-map (definitions (with_definition_on w.objects x name cell) w.inheritance y) (λ (k : Key). k.1)) ∙ ap length r.new_is ∙ length-append r.front (folded name ∷ r.back) in
      le-ltb most (length (definitions (with_definition_on w.objects x name cell) w.inheritance y)) (omega (arith, room, old, new)))
      (λ off. ap (λ ks. ltb most (length ks)) (keys_apart (y ∷ ancestors w.inheritance y) off) ∙ roomy_here w f y)
      (cases_Bool (is_within w.inheritance y x))

  fine_after : (y : ℕ) → IsFine (thing_of (with_definition_on w.objects x name cell) y)
  fine_after y = ⊎_elim
      (λ e. rw e (let at = ap (λ o. unwrap_or o nothing) here in rw at
      (fine_then (object_of w.objects x) name cell d.string d.stored d.owner
      (let room = room_at x (or_left (eqb x x) (list_any (eqb x) (ancestors w.inheritance x)) (eq-eqb x x refl)) in
      let same = sym (length-map (thing_of w.objects x).cells key_of) ∙ ap length (f.stocked.exact_cells x) in omega (arith, room, same))
      (f.stocked.fine x))))
      (λ ne. let same = ap (λ o. unwrap_or o nothing) (there y ne) in rw same (f.stocked.fine y))
      (cases_eq y x)

  joined_then : (tree : List Links) → IsJoined w.objects tree → IsJoined (with_definition_on w.objects x name cell) tree
  joined_then tree j = joined_kept w.objects (with_definition_on w.objects x name cell) tree many still_none j

  pub defined_well_formed : IsWellFormed (after_define w x name cell)
  defined_well_formed =
      let objects = with_definition_on w.objects x name cell in
      let len = length_refitted objects w.inheritance in
      record {
        parents = joined_kept objects (refitted objects w.inheritance) w.inheritance len (was_none objects w.inheritance) (joined_then w.inheritance f.parents);
        places = joined_kept objects (refitted objects w.inheritance) w.containment len (was_none objects w.inheritance) (joined_then w.containment f.places);
        stocked = fitted_stocked objects w.inheritance (joined_then w.inheritance f.parents) own_then filled_then fine_after
            (all_fail (has_clash objects w.inheritance) (range_with_len 0 (length objects)) (λ y h. once_then y))
            (all_fail (is_crowded objects w.inheritance) (range_with_len 0 (length objects)) (λ y h. roomy_then y));
        few = omega (arith, len, many, f.few);
        few_players = f.few_players;
        player_numbers = f.player_numbers;
        few_programs = omega (arith, programs_defined w.objects w.inheritance x name cell (valid_within w.objects x valid), f.few_programs);
      }

  -- what is not within x has the cells that fitting gives it
  pub fitted_outside : (y : ℕ) → is_within w.inheritance y x ≡ false → fitted_along (with_definition_on w.objects x name cell) (y ∷ ancestors w.inheritance y) ≡ (thing_of (with_definition_on w.objects x name cell) y).cells
  fitted_outside y off =
      fitted_apart (y ∷ ancestors w.inheritance y) off ∙ already_fitted w f y (ancestors w.inheritance y) (f.parents.forest.rooted y) ∙
      sym (cells_there y (λ e. eqb-false x y (or_parts (eqb x y) (list_any (eqb x) (ancestors w.inheritance y)) off).0 (sym e)))
