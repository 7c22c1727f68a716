-- A world that was restored is well formed, and one that is well formed is restored as it was.
use Rattle.std.proofs.Common.{◌≡◌, ℕ, ◌≤◌, ℤ, List, [], ◌∷◌, ◌++◌, Option, Some, None, true, false, eqb, refl, sym, ◌∙◌, ap, subst, ⊎_elim, arith, length, map, take, drop, is_some, FitsSigned, w32}
use Rattle.std.specs.List.{All}
use Rattle.std.specs.Option.{unwrap_or}
use Rattle.std.proofs.lemmas.List.{length-map, get_or_past}
use Rattle.std.proofs.lemmas.List.FromFn.{get_or-map-range_with_len, length-map-range_with_len, fill_by_all}
use Rattle.std.proofs.lemmas.List.Elements.{All-append, All-nil, All-cons, All-head, All-tail}
use Rattle.std.proofs.lemmas.Bool.{cases_lt, eqb-false}
use Rattle.moo_value.specs.Compare.{folded}
use Rattle.moo_world_tree.specs.Forest.{Links, ancestors}
use Rattle.moo_world_tree.proofs.Climbing.{not_met}
use Rattle.moo_world_object.specs.Objects.{Object}
use Rattle.moo_world_object.specs.Cells.{Cell, Key, key_of}
use Rattle.moo_world_table.specs.World.{World, nothing, object_of, thing_of, keys_defined_on, keys_along, definitions, has_twice, with_cells, programs_in, IsFilled, HasStored, IsJoined, IsStocked, IsWellFormed}
use Rattle.moo_world_table.specs.Restoring.{rekeyed, restored_object, restored, restored_world, AreComplete, AreParts}
use Rattle.moo_world_table.proofs.Counting.{programs_alike}
use Rattle.moo_world_table.proofs.Refitting.{same_defined, definer_elsewhere, joined_kept, kept_none, cells_stay, fine_with_cells, IsStoredCell, IsOwnedCell}

rekeyed_keys : (ks : List Key) (cells : List Cell) → length cells ≡ length ks → map key_of (rekeyed ks cells) ≡ ks
rekeyed_keys [] cells h = refl
rekeyed_keys (k ∷ ks) [] h = absurd (omega (arith, h))
rekeyed_keys (k ∷ ks) (c ∷ cells) h = ap (λ js. k ∷ js) (rekeyed_keys ks cells (omega (arith, h)))

-- cells that have their names keep them
rekeyed_same : (ks : List Key) (cells : List Cell) → map key_of cells ≡ ks → rekeyed ks cells ≡ cells
rekeyed_same [] [] h = refl
rekeyed_same [] (c ∷ cells) h = cc
rekeyed_same (k ∷ ks) [] h = cc
rekeyed_same (k ∷ ks) (c ∷ cells) h =
    let head : key_of c ≡ k = cc in
    let tail : map key_of cells ≡ ks = cc in
    ap (λ (j : Key). (let d : Cell = record { definer = j.0; name = j.1; owner = c.owner; perms = c.perms; value = c.value } in d) ∷ rekeyed ks cells) (sym head) ∙ ap (λ cs. c ∷ cs) (rekeyed_same ks cells tail)

rekeyed_parted : (ks js : List Key) (cells : List Cell) → rekeyed (ks ++ js) cells ≡ rekeyed ks (take (length ks) cells) ++ rekeyed js (drop (length ks) cells)
rekeyed_parted [] js cells = refl
rekeyed_parted (k ∷ ks) [] [] = refl
rekeyed_parted (k ∷ ks) (j ∷ js) [] = refl
rekeyed_parted (k ∷ ks) js (c ∷ cells) =
    ap (λ cs. (let d : Cell = record { definer = k.0; name = k.1; owner = c.owner; perms = c.perms; value = c.value } in d) ∷ cs) (rekeyed_parted ks js cells)

-- what is said of values and owners
values_rekeyed : (P : Cell → Type 0) → ((c d : Cell) → d.value ≡ c.value → d.owner ≡ c.owner → P c → P d) → (ks : List Key) (cells : List Cell) → All P cells → All P (rekeyed ks cells)
values_rekeyed P same [] cells all = All-nil P
values_rekeyed P same (k ∷ ks) [] all = All-nil P
values_rekeyed P same (k ∷ ks) (c ∷ cells) all =
    All-cons P (record { definer = k.0; name = k.1; owner = c.owner; perms = c.perms; value = c.value }) (rekeyed ks cells)
    (same c (record { definer = k.0; name = k.1; owner = c.owner; perms = c.perms; value = c.value }) refl refl (All-head P c cells all)) (values_rekeyed P same ks cells (All-tail P c cells all))

-- what is said of definitions
keys_rekeyed : (P : Key → Type 0) (ks : List Key) (cells : List Cell) → All P ks → All (λ (c : Cell). P (key_of c)) (rekeyed ks cells)
keys_rekeyed P [] cells all = All-nil (λ (c : Cell). P (key_of c))
keys_rekeyed P (k ∷ ks) [] all = All-nil (λ (c : Cell). P (key_of c))
keys_rekeyed P (k ∷ ks) (c ∷ cells) all =
    All-cons (λ (d : Cell). P (key_of d)) (record { definer = k.0; name = k.1; owner = c.owner; perms = c.perms; value = c.value }) (rekeyed ks cells) (All-head P k ks all) (keys_rekeyed P ks cells (All-tail P k ks all))

implied : (P Q : Cell → Type 0) → ((c : Cell) → P c → Q c) → (cells : List Cell) → All P cells → All Q cells
implied P Q step [] all = All-nil Q
implied P Q step (c ∷ cells) all = All-cons Q c cells (step c (All-head P c cells all)) (implied P Q step cells (All-tail P c cells all))

short_rekeyed : (ks : List Key) (cells : List Cell) → length (rekeyed ks cells) ≤ length cells
short_rekeyed [] cells = omega arith
short_rekeyed (k ∷ ks) [] = omega arith
short_rekeyed (k ∷ ks) (c ∷ cells) = let rest = short_rekeyed ks cells in omega (arith, rest)

cells_of_restored : (o : Option Object) (ks : List Key) → (unwrap_or (with_cells o (rekeyed ks (unwrap_or o nothing).cells)) nothing).cells ≡ rekeyed ks (unwrap_or o nothing).cells
cells_of_restored None [] = refl
cells_of_restored None (k ∷ ks) = refl
cells_of_restored (Some o) ks = refl

module _ (objects : List (Option Object)) (tree : List Links) where
  object_restored : (x : ℕ) → object_of (restored objects tree) x ≡ restored_object objects tree x
  object_restored x =
      ⊎_elim
      (λ h. get_or-map-range_with_len (restored_object objects tree) 0 (length objects) x x None h (omega arith))
      (λ past.
      let len = length-map-range_with_len (restored_object objects tree) 0 (length objects) in
      let here : object_of objects x ≡ None = get_or_past objects x None past in
      get_or_past (restored objects tree) x None (omega (arith, len)) ∙ sym (ap (λ o. with_cells o (rekeyed (definitions objects tree x) (thing_of objects x).cells)) here))
      (cases_lt x (length objects))

  cells_restored : (x : ℕ) → (thing_of (restored objects tree) x).cells ≡ rekeyed (definitions objects tree x) (thing_of objects x).cells
  cells_restored x = ap (λ o. (unwrap_or o nothing).cells) (object_restored x) ∙ cells_of_restored (object_of objects x) (definitions objects tree x)

  defined_restored : (x : ℕ) → keys_defined_on (restored objects tree) x ≡ keys_defined_on objects x
  defined_restored x =
      ap (λ o. map (λ n. (x, folded n)) (unwrap_or o nothing).defined) (object_restored x) ∙
      ap (map (λ n. (x, folded n))) (same_defined (object_of objects x) (rekeyed (definitions objects tree x) (thing_of objects x).cells))

  keys_restored : (way : List ℕ) → keys_along (restored objects tree) way ≡ keys_along objects way
  keys_restored [] = refl
  keys_restored (x ∷ way) =
      ap (λ ks. ks ++ keys_along (restored objects tree) way) (defined_restored x) ∙
      ap (λ ks. keys_defined_on objects x ++ ks) (keys_restored way)

  none_restored : (x : ℕ) → object_of (restored objects tree) x ≡ None → object_of objects x ≡ None
  none_restored x h = kept_none (object_of objects x) (rekeyed (definitions objects tree x) (thing_of objects x).cells) (sym (object_restored x) ∙ h)

  many_restored : length (restored objects tree) ≡ length objects
  many_restored = length-map-range_with_len (restored_object objects tree) 0 (length objects)

  restored_stocked : IsJoined objects tree → AreComplete objects tree → IsStocked (restored objects tree) tree
  restored_stocked f c = record {
    exact_cells = λ x. ap (map key_of) (cells_restored x) ∙ rekeyed_keys (definitions objects tree x) (thing_of objects x).cells (c.counts x) ∙ sym (keys_restored (x ∷ ancestors tree x));
    names_once = λ x. ap (λ ks. has_twice (map (λ (k : Key). k.1) ks)) (keys_restored (x ∷ ancestors tree x)) ∙ c.names_once x;
    own_filled = λ x. let cells = cells_restored x in rw cells (filled x);
    fine = λ x. let same = ap (λ o. unwrap_or o nothing) (object_restored x) in rw same (
        fine_with_cells (object_of objects x) (rekeyed (definitions objects tree x) (thing_of objects x).cells) (c.fine x)
        (let here = cells_of_restored (object_of objects x) (definitions objects tree x) in rw here (
        values_rekeyed IsStoredCell (λ d e same owner h. subst HasStored (sym same) h) (definitions objects tree x) (thing_of objects x).cells (c.fine x).values))
        (let here = cells_of_restored (object_of objects x) (definitions objects tree x) in rw here (
        values_rekeyed IsOwnedCell (λ d e same owner h. subst (FitsSigned w32) (sym owner) h) (definitions objects tree x) (thing_of objects x).cells (c.fine x).numbers.cells))
        (let here = cells_of_restored (object_of objects x) (definitions objects tree x) in rw here (
        let short = short_rekeyed (definitions objects tree x) (thing_of objects x).cells in let few = (c.fine x).few_cells in omega (arith, short, few))));
  }
    where
      filled : (x : ℕ) → All (IsFilled x) (rekeyed (definitions objects tree x) (thing_of objects x).cells)
      filled x =
          let cells = (thing_of objects x).cells in
          let own = keys_defined_on objects x in
          let rest = keys_along objects (ancestors tree x) in
          let many : length own ≡ length (thing_of objects x).defined = length-map (thing_of objects x).defined (λ n. (x, folded n)) in
          let mine = subst (λ n. All (λ (d : Cell). is_some d.value ≡ true) (take n cells)) (sym many) (c.own_filled x) in
          subst (All (IsFilled x)) (sym (rekeyed_parted own rest cells))
          (All-append (IsFilled x) (rekeyed own (take (length own) cells)) (rekeyed rest (drop (length own) cells))
          (implied (λ (d : Cell). is_some d.value ≡ true) (IsFilled x) (λ d some own. some) (rekeyed own (take (length own) cells))
          (values_rekeyed (λ (d : Cell). is_some d.value ≡ true) (λ d e same owner h. ap is_some same ∙ h) own (take (length own) cells) mine))
          (implied (λ (d : Cell). eqb d.definer x ≡ false) (IsFilled x) (λ d other own. absurd (eqb-false d.definer x other own)) (rekeyed rest (drop (length own) cells))
          (keys_rekeyed (λ (k : Key). eqb k.0 x ≡ false) rest (drop (length own) cells) (definer_elsewhere objects x (ancestors tree x) (not_met tree x (ancestors tree x) (f.forest.rooted x))))))

pub restored_well_formed : (objects : List (Option Object)) (parents places : List Links) (players : List ℤ) → AreParts objects parents places players → IsWellFormed (restored_world objects parents places players)
restored_well_formed objects parents places players p = record {
  parents = joined_kept objects (restored objects parents) parents (many_restored objects parents) (none_restored objects parents) p.parents_joined;
  places = joined_kept objects (restored objects parents) places (many_restored objects parents) (none_restored objects parents) p.places_joined;
  stocked = restored_stocked objects parents p.parents_joined p.complete;
  few = let many = many_restored objects parents in let few = p.few in omega (arith, many, few);
  few_players = p.few_players;
  player_numbers = p.player_numbers;
  few_programs = omega (arith, programs_restored, p.few_programs);
}
  where
    verbs_left : (o : Option Object) (cells : List Cell) → (unwrap_or (with_cells o cells) nothing).verbs ≡ (unwrap_or o nothing).verbs
    verbs_left None cells = refl
    verbs_left (Some o) cells = refl

    programs_restored : programs_in (restored objects parents) ≡ programs_in objects
    programs_restored = programs_alike (restored objects parents) objects (many_restored objects parents)
        (λ x. ap (λ o. (unwrap_or o nothing).verbs) (object_restored objects parents x) ∙ verbs_left (object_of objects x) (rekeyed (definitions objects parents x) (thing_of objects x).cells))

-- a well formed world is restored as it was
pub restored_same : (w : World) → IsWellFormed w → restored_world w.objects w.inheritance w.containment w.players ≡ w
restored_same w f = ap (λ os. (let v : World = record w { objects = os } in v)) (sym (fill_by_all (restored_object w.objects w.inheritance) w.objects (length w.objects) None refl (λ x h.
    sym (ap (with_cells (object_of w.objects x)) (rekeyed_same (definitions w.objects w.inheritance x) (thing_of w.objects x).cells (f.stocked.exact_cells x)) ∙ cells_stay (object_of w.objects x)))))
