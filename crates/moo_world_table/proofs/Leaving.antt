-- A recycled object leaves a well formed world.
use Rattle.std.proofs.Common.{◌≡◌, ℕ, ◌<◌, ◌≤◌, List, [], ◌∷◌, ◌++◌, Option, Some, None, Bool, false, not, pos, eqb, refl, sym, ◌∙◌, ap, subst, ⊎_elim, arith, length, set, map, IsSome, FitsSigned, w32}
use Rattle.std.specs.List.{list_any, filter, count_by, All}
use Rattle.std.specs.Option.{unwrap_or}
use Rattle.std.proofs.lemmas.List.{get_or-set_same, get_or-set_other, length-set, length-map, get_or-map, get_or_past}
use Rattle.std.proofs.lemmas.List.Elements.{All-filter, All-nil, All-head, All-tail, filter-append}
use Rattle.std.proofs.lemmas.Bool.{cases_Bool, cases_lt, cases_eq, eqb-true, eqb-false, eq-eqb, ne_eqb, or_parts, ltb-false}
use Rattle.moo_value.specs.Compare.{folded}
use Rattle.moo_world_tree.specs.Forest.{Links, ancestors, above_of, below_of, times_below, is_within, without}
use Rattle.moo_world_tree.specs.Walk.{met, IsWalkDown}
use Rattle.moo_world_tree.specs.declared.walk.Step.{Step}
use Rattle.moo_world_tree.proofs.Dissolving.{forest_dissolved, length_dissolved, alone_dissolved, still_alone, ancestors_dissolved, parents_dissolved, above_apart}
use Rattle.moo_world_tree.proofs.Climbing.{above_within}
use Rattle.moo_world_tree.proofs.Moving.{IsPlace}
use Rattle.moo_world_object.specs.Objects.{Object}
use Rattle.moo_world_object.specs.Cells.{Cell, Key, key_of}
use Rattle.moo_world_table.specs.World.{World, nothing, object_of, thing_of, keys_defined_on, keys_along, definitions, has_twice, IsFilled, IsWellFormed, IsJoined, IsFine, HasStored, most}
use Rattle.moo_world_table.specs.Steps.{changed_along}
use Rattle.moo_world_table.specs.Recycling.{without_cells_of, after_recycle}
use Rattle.moo_world_table.specs.Players.{players_with}
use Rattle.moo_world_table.proofs.Counting.{programs_recycled}
use Rattle.moo_world_table.proofs.Along.{all_along, walk_members}
use Rattle.moo_world_table.proofs.Changing.{valid_within, not_valid, node_of}
use Rattle.moo_world_table.proofs.PlayerLists.{none_out}
use Rattle.moo_world_table.proofs.Refitting.{definer_elsewhere, key_within, no_ancestors}
use Rattle.moo_world_table.proofs.Removals.{once_kept, cells_short}
use Rattle.moo_world_table.proofs.WellFormed.{fine_nothing}
use Rattle.std.specs.Ordering.{int_eq}

-- whether a definition is on another object
abbrev pub is_apart : ℕ → Key → Bool
is_apart x k = not (eqb k.0 x)

keys_left : (x : ℕ) (cells : List Cell) → map key_of (filter (λ c. not (eqb c.definer x)) cells) ≡ filter (is_apart x) (map key_of cells)
keys_left x [] = refl
keys_left x (c ∷ cs) = ⊎_elim (λ e. rw e (keys_left x cs)) (λ e. rw e (ap (λ ks. key_of c ∷ ks) (keys_left x cs))) (cases_Bool (eqb c.definer x))

own_gone : (x : ℕ) (ns : List (List ℕ)) → filter (is_apart x) (map (λ n. (x, folded n)) ns) ≡ []
own_gone x [] = refl
own_gone x (n ∷ ns) = let own = eq-eqb x x refl in rw own (own_gone x ns)

others_left : (x y : ℕ) (ns : List (List ℕ)) → eqb y x ≡ false → filter (is_apart x) (map (λ n. (y, folded n)) ns) ≡ map (λ n. (y, folded n)) ns
others_left x y [] ne = refl
others_left x y (n ∷ ns) ne = rw ne (ap (λ ks. (y, folded n) ∷ ks) (others_left x y ns ne))

left_cells : (x : ℕ) (o : Option Object) → (unwrap_or (without_cells_of x o) nothing).cells ≡ filter (λ c. not (eqb c.definer x)) (unwrap_or o nothing).cells
left_cells x None = refl
left_cells x (Some o) = refl

left_defined : (x : ℕ) (o : Option Object) → (unwrap_or (without_cells_of x o) nothing).defined ≡ (unwrap_or o nothing).defined
left_defined x None = refl
left_defined x (Some o) = refl

left_none : (x : ℕ) (o : Option Object) → without_cells_of x o ≡ None → o ≡ None
left_none x None h = refl
left_none x (Some o) h = cc

fine_left : (x : ℕ) (o : Option Object) → IsFine (unwrap_or o nothing) → IsFine (unwrap_or (without_cells_of x o) nothing)
fine_left x None f = f
fine_left x (Some o) f = record {
  name = f.name;
  names = f.names;
  values = All-filter (λ c. not (eqb c.definer x)) (λ (c : Cell). HasStored c.value) o.cells f.values;
  few_cells = let short = cells_short (λ c. not (eqb c.definer x)) o.cells in let few = f.few_cells in omega (arith, short, few);
  verb_names = f.verb_names;
  few_verbs = f.few_verbs;
  numbers = record {
    owner = f.numbers.owner;
    cells = All-filter (λ c. not (eqb c.definer x)) (λ (c : Cell). FitsSigned w32 c.owner) o.cells f.numbers.cells;
    verbs = f.numbers.verbs;
  };
}

kept_cells : (x : ℕ) (cs : List Cell) → All (λ (c : Cell). eqb c.definer x ≡ false) cs → filter (λ c. not (eqb c.definer x)) cs ≡ cs
kept_cells x [] all = refl
kept_cells x (c ∷ cs) all =
    let ne : eqb c.definer x ≡ false = All-head (λ (d : Cell). eqb d.definer x ≡ false) c cs all in
    rw ne (ap (λ ds. c ∷ ds) (kept_cells x cs (All-tail (λ (d : Cell). eqb d.definer x ≡ false) c cs all)))

kept_whole : (x : ℕ) (o : Option Object) → All (λ (c : Cell). eqb c.definer x ≡ false) (unwrap_or o nothing).cells → without_cells_of x o ≡ o
kept_whole x None all = refl
kept_whole x (Some o) all = ap (λ cs. Some (let r : Object = record o { cells = cs } in r)) (kept_cells x o.cells all)

-- what has something below it is an object
above_valid : (objects : List (Option Object)) (tree : List Links) → IsJoined objects tree → (x up : ℕ) → above_of tree x ≡ Some up → IsSome (object_of objects up)
above_valid objects tree f x up is = over (object_of objects up) refl
  where
    over : (o : Option Object) → object_of objects up ≡ o → IsSome o
    over None e = absurd (
        let bottom : below_of tree up ≡ [] = ap (λ (n : Links). n.below) (f.free up e) in
        let count = f.forest.exact up x in
        let one : times_below (above_of tree x) up ≡ 1 = ap (λ u. times_below u up) is ∙ (let same = eq-eqb up up refl in rw same refl) in
        let none : count_by (eqb x) (below_of tree up) ≡ 0 = ap (count_by (eqb x)) bottom in
        omega (arith, count, one, none))
    over (Some o) e = refl

module _ (w : World) (x : ℕ) (f : IsWellFormed w) (valid : IsSome (object_of w.objects x)) where
  node : x < length w.inheritance
  node = node_of w.objects w.inheritance f.parents x valid

  place_node : x < length w.containment
  place_node = node_of w.objects w.containment f.places x valid

  -- the object at each number afterwards
  at : (y : ℕ) → object_of (after_recycle w x).objects y ≡ without_cells_of x (object_of (set w.objects x None) y)
  at y =
      let before = set w.objects x None in
      ⊎_elim
      (λ h. get_or-map (without_cells_of x) before y None None h)
      (λ past.
      let len = length-map before (without_cells_of x) in
      get_or_past (map (without_cells_of x) before) y None (omega (arith, len)) ∙ sym (ap (without_cells_of x) (get_or_past before y None past)))
      (cases_lt y (length before))

  gone : object_of (after_recycle w x).objects x ≡ None
  gone = at x ∙ ap (without_cells_of x) (get_or-set_same w.objects x None None (valid_within w.objects x valid))

  left : (y : ℕ) → (y ≡ x → ⊥) → object_of (after_recycle w x).objects y ≡ without_cells_of x (object_of w.objects y)
  left y other = at y ∙ ap (without_cells_of x) (get_or-set_other w.objects x y None None other)

  was_none : (y : ℕ) → (y ≡ x → ⊥) → object_of (after_recycle w x).objects y ≡ None → object_of w.objects y ≡ None
  was_none y other h = left_none x (object_of w.objects y) (sym (left y other) ∙ h)

  many : length (after_recycle w x).objects ≡ length w.objects
  many = length-map (set w.objects x None) (without_cells_of x) ∙ length-set w.objects x None

  parent_place : IsPlace w.inheritance (above_of w.inheritance x)
  parent_place up is = above_within w.inheritance f.parents.forest.exact x up is

  parent_apart : (up : ℕ) → above_of w.inheritance x ≡ Some up → is_within w.inheritance up x ≡ false
  parent_apart up is = above_apart w.inheritance f.parents.forest x up is

  no_place : IsPlace w.containment None
  no_place up is = cc

  no_apart : (up : ℕ) → None ≡ Some up → is_within w.containment up x ≡ false
  no_apart up is = cc

  new_parents : IsJoined (after_recycle w x).objects (after_recycle w x).inheritance
  new_parents = record {
    forest = parents_dissolved w.inheritance x f.parents.forest node;
    many = length_dissolved w.inheritance x (above_of w.inheritance x) f.parents.forest node parent_place parent_apart ∙ f.parents.many ∙ sym many;
    free = λ y none. ⊎_elim
        (λ e. rw e (alone_dissolved w.inheritance x (above_of w.inheritance x) f.parents.forest node parent_place parent_apart))
        (λ ne.
        let none_then = was_none y ne none in
        still_alone w.inheritance x (above_of w.inheritance x) f.parents.forest node parent_place parent_apart y
        (λ up is. not_valid w.objects up y (above_valid w.objects w.inheritance f.parents x up is) none_then) (f.parents.free y none_then))
        (cases_eq y x);
  }

  new_places : IsJoined (after_recycle w x).objects (after_recycle w x).containment
  new_places = record {
    forest = forest_dissolved w.containment x None f.places.forest place_node no_place no_apart;
    many = length_dissolved w.containment x None f.places.forest place_node no_place no_apart ∙ f.places.many ∙ sym many;
    free = λ y none. ⊎_elim
        (λ e. rw e (alone_dissolved w.containment x None f.places.forest place_node no_place no_apart))
        (λ ne. still_alone w.containment x None f.places.forest place_node no_place no_apart y (λ up is. cc) (f.places.free y (was_none y ne none)))
        (cases_eq y x);
  }

  cells_left : (y : ℕ) → (y ≡ x → ⊥) → (thing_of (after_recycle w x).objects y).cells ≡ filter (λ c. not (eqb c.definer x)) (thing_of w.objects y).cells
  cells_left y other = ap (λ o. (unwrap_or o nothing).cells) (left y other) ∙ left_cells x (object_of w.objects y)

  defined_left : (y : ℕ) → (y ≡ x → ⊥) → keys_defined_on (after_recycle w x).objects y ≡ keys_defined_on w.objects y
  defined_left y other =
      ap (λ o. map (λ n. (y, folded n)) (unwrap_or o nothing).defined) (left y other) ∙
      ap (map (λ n. (y, folded n))) (left_defined x (object_of w.objects y))

  keys_on : (way : List ℕ) → keys_along (after_recycle w x).objects (without x way) ≡ filter (is_apart x) (keys_along w.objects way)
  keys_on [] = refl
  keys_on (y ∷ way) = ⊎_elim
      (λ e.
      let same : y ≡ x = sym (eqb-true x y e) in
      let none : filter (is_apart x) (keys_defined_on w.objects y) ≡ [] = subst (λ n. filter (is_apart x) (keys_defined_on w.objects n) ≡ []) (sym same) (own_gone x (thing_of w.objects x).defined) in
      rw e (keys_on way ∙ sym (filter-append (is_apart x) (keys_defined_on w.objects y) (keys_along w.objects way) ∙ ap (λ ks. ks ++ filter (is_apart x) (keys_along w.objects way)) none)))
      (λ e.
      let ne = λ (h : y ≡ x). eqb-false x y e (sym h) in
      rw e (
      ap (λ ks. ks ++ keys_along (after_recycle w x).objects (without x way)) (defined_left y ne) ∙
      ap (λ ks. keys_defined_on w.objects y ++ ks) (keys_on way) ∙
      ap (λ ks. ks ++ filter (is_apart x) (keys_along w.objects way)) (sym (others_left x y (thing_of w.objects y).defined (ne_eqb y x ne))) ∙
      sym (filter-append (is_apart x) (keys_defined_on w.objects y) (keys_along w.objects way))))
      (cases_Bool (eqb x y))

  definitions_left : (y : ℕ) → (y ≡ x → ⊥) → definitions (after_recycle w x).objects (after_recycle w x).inheritance y ≡ filter (is_apart x) (definitions w.objects w.inheritance y)
  definitions_left y other =
      let out = ne_eqb x y (λ e. other (sym e)) in
      ap (λ ys. keys_along (after_recycle w x).objects (y ∷ ys)) (ancestors_dissolved w.inheritance x f.parents.forest node y other) ∙
      ap (keys_along (after_recycle w x).objects) (let kept : y ∷ without x (ancestors w.inheritance y) ≡ without x (y ∷ ancestors w.inheritance y) = (rw out refl) in kept) ∙
      keys_on (y ∷ ancestors w.inheritance y)

  thing_gone : thing_of (after_recycle w x).objects x ≡ nothing
  thing_gone = ap (λ o. unwrap_or o nothing) gone

  definitions_gone : definitions (after_recycle w x).objects (after_recycle w x).inheritance x ≡ []
  definitions_gone =
      ap (λ ys. keys_along (after_recycle w x).objects (x ∷ ys)) (no_ancestors (after_recycle w x).inheritance x (new_parents.free x gone)) ∙
      ap (λ (o : Object). map (λ n. (x, folded n)) o.defined ++ []) thing_gone

  few_after : length (players_with w.players (pos x) false) ≤ most
  few_after = ltb-false most (length (players_with w.players (pos x) false)) (sym (none_out w.players (pos x) f.few_players))

  pub recycled_well_formed : IsWellFormed (after_recycle w x)
  recycled_well_formed = record {
    parents = new_parents;
    places = new_places;
    stocked = record {
      exact_cells = λ y. ⊎_elim
          (λ e. rw e (ap (λ (o : Object). map key_of o.cells) thing_gone ∙ sym definitions_gone))
          (λ ne. ap (map key_of) (cells_left y ne) ∙ keys_left x (thing_of w.objects y).cells ∙ ap (filter (is_apart x)) (f.stocked.exact_cells y) ∙ sym (definitions_left y ne))
          (cases_eq y x);
      names_once = λ y. ⊎_elim
          (λ e. rw e (ap (λ ks. has_twice (map (λ (k : Key). k.1) ks)) definitions_gone))
          (λ ne. ap (λ ks. has_twice (map (λ (k : Key). k.1) ks)) (definitions_left y ne) ∙ once_kept (is_apart x) (definitions w.objects w.inheritance y) (f.stocked.names_once y))
          (cases_eq y x);
      own_filled = λ y. ⊎_elim
          (λ e. rw e (let none = ap (λ (o : Object). o.cells) thing_gone in rw none (All-nil (IsFilled x))))
          (λ ne. let cells = cells_left y ne in rw cells (All-filter (λ c. not (eqb c.definer x)) (IsFilled y) (thing_of w.objects y).cells (f.stocked.own_filled y)))
          (cases_eq y x);
      fine = λ y. ⊎_elim
          (λ e. rw e (let none = thing_gone in rw none fine_nothing))
          (λ ne. let same = ap (λ o. unwrap_or o nothing) (left y ne) in rw same (fine_left x (object_of w.objects y) (f.stocked.fine y)))
          (cases_eq y x);
    };
    few = let same = many in let few = f.few in omega (arith, same, few);
    few_players = few_after;
    player_numbers = All-filter (λ q. not (int_eq (pos x) q)) (FitsSigned w32) w.players f.player_numbers;
    few_programs = omega (arith, programs_recycled w.objects x (valid_within w.objects x valid), f.few_programs);
  }

  -- what is not within x has no cell for what it defines
  none_elsewhere : (y : ℕ) → is_within w.inheritance y x ≡ false → without_cells_of x (object_of (set w.objects x None) y) ≡ object_of (set w.objects x None) y
  none_elsewhere y off =
      let ne = λ (e : y ≡ x). eqb-false x y (or_parts (eqb x y) (list_any (eqb x) (ancestors w.inheritance y)) off).0 (sym e) in
      let there = get_or-set_other w.objects x y None None ne in
      ap (without_cells_of x) there ∙
      kept_whole x (object_of w.objects y)
      (key_within (λ (k : Key). eqb k.0 x ≡ false) (thing_of w.objects y).cells (let keys = f.stocked.exact_cells y in rw keys (definer_elsewhere w.objects x (y ∷ ancestors w.inheritance y) off))) ∙
      sym there

  -- taking the cells out along a walk takes out all
  pub left_is : (walk : List Step) → IsWalkDown w.inheritance x walk → changed_along (without_cells_of x) (set w.objects x None) (met walk) ≡ (after_recycle w x).objects
  left_is walk d =
      all_along (without_cells_of x) (set w.objects x None) w.inheritance x walk d
      (walk_members w.objects w.inheritance f.parents x valid walk d (set w.objects x None) (length-set w.objects x None)) none_elsewhere
