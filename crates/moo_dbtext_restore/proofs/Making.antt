-- A world can be restored from objects made of records in which no object is at fault, and the records describe that
-- world.
use Rattle.std.proofs.Common.{◌≡◌, ℕ, ◌≤◌, List, [], ◌∷◌, ◌++◌, length, Option, Some, None, false, ◌||◌, refl, sym, ap, subst, ◌∙◌, ⊎_elim, arith, map, get_or, FitsSigned, w32}
use Rattle.std.specs.List.{list_any, range_with_len, All}
use Rattle.std.specs.Option.{unwrap_or, option_map}
use Rattle.std.proofs.lemmas.List.{length-map, get_or_past}
use Rattle.std.proofs.lemmas.List.Folds.{list_any-append}
use Rattle.std.proofs.lemmas.List.FromFn.{get_or-map-range_with_len, length-map-range_with_len}
use Rattle.std.proofs.lemmas.Bool.{or_parts, cases_lt}
use Rattle.moo_value.specs.Compare.{folded}
use Rattle.moo_world_tree.specs.Forest.{Links, alone, ancestors}
use Rattle.moo_world_object.specs.Names.{same_name}
use Rattle.moo_world_object.specs.Cells.{Cell, Key}
use Rattle.moo_world_object.specs.Objects.{Object}
use Rattle.moo_world_table.specs.World.{nothing, object_of, thing_of, definitions, has_twice, with_cells, most}
use Rattle.moo_world_table.specs.Restoring.{rekeyed, restored_object, restored, restored_world, AreParts}
use Rattle.moo_world_table.proofs.Restored.{restored_well_formed}
use Rattle.moo_dbtext_object.specs.Objects as recorded
use Rattle.moo_dbtext_restore.specs.declared.link.Link.{Link}
use Rattle.moo_dbtext_restore.specs.First.{IsFirst}
use Rattle.moo_dbtext_restore.specs.Links.{numbered, IsLineage, IsTreeOf}
use Rattle.moo_dbtext_restore.specs.Records.{Records, record_at, parent_link, place_link, parent_links, names_in, cells_in, names_at, names_along}
use Rattle.moo_dbtext_restore.specs.Says.{recorded_cell, SaysAt, Says}
use Rattle.moo_dbtext_restore.specs.Faults.{HasOwnNames, IsWellPlaced, HasItsCells}
use Rattle.moo_dbtext_restore.specs.Made.{AreMade, AreForestsOf}
use Rattle.moo_dbtext_restore.proofs.Noded.{no_link_past}
use Rattle.moo_dbtext_restore.proofs.Trees.{lineage_is_ancestors}
use Rattle.moo_dbtext_restore.proofs.Worlds.{one_lineage, own_cells, names_of}
use Rattle.moo_dbtext_restore.proofs.Writing.{link_mapped}

-- of two lists without a name twice, one after the other
twice_across : (ns ms : List (List ℕ)) → has_twice ns ≡ false → has_twice ms ≡ false → has_twice (ns ++ ms) ≡ list_any (λ a. list_any (same_name a) ms) ns
twice_across [] ms one two = two
twice_across (a ∷ ns) ms one two =
    let parts = or_parts (list_any (same_name a) ns) (has_twice ns) one in
    let head : list_any (same_name a) (ns ++ ms) ≡ list_any (same_name a) ms = list_any-append (same_name a) ns ms ∙ (let off = parts.0 in rw off refl) in
    ap (λ b. b || has_twice (ns ++ ms)) head ∙ ap (λ b. list_any (same_name a) ms || b) (twice_across ns ms parts.1 two)

recorded_rekeyed : (ks : List Key) (cells : List Cell) → length cells ≡ length ks → map recorded_cell (rekeyed ks cells) ≡ map recorded_cell cells
recorded_rekeyed [] [] h = refl
recorded_rekeyed [] (c ∷ cells) h = absurd (omega (arith, h))
recorded_rekeyed (k ∷ ks) [] h = absurd (omega (arith, h))
recorded_rekeyed (k ∷ ks) (c ∷ cells) h = ap (λ l. recorded_cell c ∷ l) (recorded_rekeyed ks cells (omega (arith, h)))

none_recorded : (r : Records) (x : ℕ) (b : Option recorded.Object) (o : Option Object) → SaysAt r x b o → o ≡ None → b ≡ None
none_recorded r x None o s e = refl
none_recorded r x (Some b) None s e = absurd s
none_recorded r x (Some b) (Some o) s e = absurd cc

module _ (r : Records) (placed : IsFirst (IsWellPlaced r) (length r.objects) None) (counted : IsFirst (HasItsCells r) (length r.objects) None) where
  none_past : (x : ℕ) → length r.objects ≤ x → record_at r x ≡ None
  none_past x past = get_or_past r.objects x None past

  own_names : (x : ℕ) → HasOwnNames r x
  own_names x = ⊎_elim
      (λ low. (placed x low).names)
      (λ past.
      let none = none_past x past in
      record {
        once = ap (λ b. has_twice (map folded (names_in b))) none;
        apart = λ ys way. ap (λ b. list_any (λ n. list_any (same_name n) (names_along r ys)) (map folded (names_in b))) none;
      })
      (cases_lt x (length r.objects))

  its_cells : (x : ℕ) → HasItsCells r x
  its_cells x = ⊎_elim
      (λ low. counted x low)
      (λ past.
      let none = none_past x past in
      record {
        lineage = [];
        is = ap (λ (l : Link). numbered (parent_links r) l.above) (no_link_past (parent_links r) x (let len = length-map r.objects (option_map parent_link) in omega (arith, len, past)));
        count = ap (λ b. length (cells_in b)) none ∙ sym (ap (λ b. length (map folded (names_in b) ++ [])) none);
      })
      (cases_lt x (length r.objects))

  once_along : (x : ℕ) (ys : List ℕ) → IsLineage (parent_links r) x ys → has_twice (names_along r (x ∷ ys)) ≡ false
  once_along x [] way = twice_across (names_at r x) [] (own_names x).once refl ∙ (own_names x).apart [] way
  once_along x (y ∷ ys) way = twice_across (names_at r x) (names_along r (y ∷ ys)) (own_names x).once (once_along y ys way.1) ∙ (own_names x).apart (y ∷ ys) way

  module _ (made : List (Option Object)) (m : AreMade r made) (parents places : List Links) (t : AreForestsOf r parents places) where
    lineage : (x : ℕ) → IsLineage (parent_links r) x (ancestors parents x)
    lineage x = lineage_is_ancestors (parent_links r) parents t.parent_forest t.parents x

    same_names : (x : ℕ) → map (λ (k : Key). k.1) (definitions made parents x) ≡ names_along r (x ∷ ancestors parents x)
    same_names x = names_of r made m.objects (x ∷ ancestors parents x)

    counts : (x : ℕ) → length (thing_of made x).cells ≡ length (definitions made parents x)
    counts x =
        let c = its_cells x in
        let cells = (thing_of made x).cells in
        sym (length-map cells recorded_cell)
        ∙ (ap length (own_cells r x (record_at r x) (object_of made x) (m.objects x))
        ∙ (c.count
        ∙ (ap (λ ys. length (names_along r (x ∷ ys))) (one_lineage (parent_links r) x c.lineage (ancestors parents x) c.is (lineage x))
        ∙ (ap length (sym (same_names x)) ∙ length-map (definitions made parents x) (λ (k : Key). k.1)))))

    joined : (g : recorded.Object → Link) (tree : List Links) → IsTreeOf (map (option_map g) r.objects) tree → (x : ℕ) → object_of made x ≡ None → get_or tree x alone ≡ alone
    joined g tree says x none =
        says.free x (link_mapped g r.objects x ∙ ap (option_map g) (none_recorded r x (record_at r x) (object_of made x) (m.objects x) none))

    pub parts_made : length r.objects ≤ most → length r.players ≤ most → All (FitsSigned w32) r.players → AreParts made parents places r.players
    parts_made few few_players numbers = record {
      parents_joined = record {
        forest = t.parent_forest;
        many = t.parents.many ∙ (length-map r.objects (option_map parent_link) ∙ sym m.many);
        free = joined parent_link parents t.parents;
      };
      places_joined = record {
        forest = t.place_forest;
        many = t.places.many ∙ (length-map r.objects (option_map place_link) ∙ sym m.many);
        free = joined place_link places t.places;
      };
      complete = record {
        counts = counts;
        names_once = λ x. ap has_twice (same_names x) ∙ once_along x (ancestors parents x) (lineage x);
        own_filled = m.own_filled;
        fine = m.fine;
      };
      few = let many = m.many in omega (arith, many, few);
      few_players = few_players;
      player_numbers = numbers;
      few_programs = m.few_programs;
    }

    object_made : (x : ℕ) → object_of (restored made parents) x ≡ restored_object made parents x
    object_made x = ⊎_elim
        (λ low. get_or-map-range_with_len (restored_object made parents) 0 (length made) x x None low (omega arith))
        (λ past.
        let len = length-map-range_with_len (restored_object made parents) 0 (length made) in
        let here : object_of made x ≡ None = get_or_past made x None past in
        get_or_past (map (restored_object made parents) (range_with_len 0 (length made))) x None (omega (arith, len, past))
        ∙ sym (ap (λ o. with_cells o (rekeyed (definitions made parents x) (thing_of made x).cells)) here))
        (cases_lt x (length made))

    said_with : (x : ℕ) (ks : List Key) (b : Option recorded.Object) (o : Option Object) → length (unwrap_or o nothing).cells ≡ length ks → SaysAt r x b o → SaysAt r x b (with_cells o (rekeyed ks (unwrap_or o nothing).cells))
    said_with x ks None None h s = tt
    said_with x ks None (Some o) h s = absurd s
    said_with x ks (Some b) None h s = absurd s
    said_with x ks (Some b) (Some o) h s = record {
      name = s.name;
      owner = s.owner;
      flags = s.flags;
      verbs = s.verbs;
      programs = s.programs;
      names = s.names;
      cells = recorded_rekeyed ks o.cells h ∙ s.cells;
    }

    pub made_world_is_said : length r.objects ≤ most → length r.players ≤ most → All (FitsSigned w32) r.players → Says r (restored_world made parents places r.players)
    made_world_is_said few few_players numbers = record {
      many = length-map-range_with_len (restored_object made parents) 0 (length made) ∙ m.many;
      objects = λ x. subst (SaysAt r x (record_at r x)) (sym (object_made x)) (said_with x (definitions made parents x) (record_at r x) (object_of made x) (counts x) (m.objects x));
      definitions = (restored_well_formed made parents places r.players (parts_made few few_players numbers)).stocked.exact_cells;
      parents = t.parents;
      places = t.places;
      players = refl;
    }
