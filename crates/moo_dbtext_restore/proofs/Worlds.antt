-- If records describe a world, none of their objects is at fault.
use Rattle.std.proofs.Common.{◌≡◌, ℕ, List, [], ◌∷◌, ◌++◌, length, Option, Some, None, false, refl, sym, ap, subst, ◌∙◌, map}
use Rattle.std.specs.List.{list_any}
use Rattle.std.specs.Option.{unwrap_or}
use Rattle.std.proofs.lemmas.List.{length-map, map-append}
use Rattle.std.proofs.lemmas.List.Folds.{list_any-append}
use Rattle.std.proofs.lemmas.Bool.{or_parts, or_from}
use Rattle.moo_value.specs.Compare.{folded}
use Rattle.moo_world_tree.specs.Forest.{ancestors}
use Rattle.moo_world_object.specs.Names.{same_name}
use Rattle.moo_world_object.specs.Cells.{Key, key_of}
use Rattle.moo_world_object.specs.Objects.{Object}
use Rattle.moo_world_table.specs.World.{World, nothing, object_of, thing_of, keys_defined_on, keys_along, definitions, has_twice, IsWellFormed}
use Rattle.moo_dbtext_restore.specs.Shapes.{IsShaped}
use Rattle.moo_dbtext_object.specs.Objects as recorded
use Rattle.moo_dbtext_restore.specs.declared.link.Link.{Link}
use Rattle.moo_dbtext_restore.specs.Links.{above_in, IsLineage}
use Rattle.moo_dbtext_restore.specs.Records.{Records, record_at, parent_links, place_links, names_in, cells_in, names_at, names_along}
use Rattle.moo_dbtext_restore.specs.Says.{recorded_cell, SaysAt, Says}
use Rattle.moo_dbtext_restore.specs.Faults.{HasOwnNames, IsWellPlaced, HasItsCells}
use Rattle.moo_dbtext_restore.proofs.Trees.{tree_is_sound, lineage_is_ancestors}

same_object : (o : Option ℕ) (x y : ℕ) → o ≡ Some x → o ≡ Some y → x ≡ y
same_object o x y e f = cc

pub one_lineage : (links : List (Option Link)) (x : ℕ) (ys zs : List ℕ) → IsLineage links x ys → IsLineage links x zs → ys ≡ zs
one_lineage links x [] [] p q = refl
one_lineage links x [] (z ∷ zs) p q = absurd (let e = q.0 in cc)
one_lineage links x (y ∷ ys) [] p q = absurd (let e = p.0 in cc)
one_lineage links x (y ∷ ys) (z ∷ zs) p q =
    let same = same_object (above_in links x) z y q.0 p.0 in
    ap (λ l. y ∷ l) (one_lineage links y ys zs p.1 (subst (λ k. IsLineage links k zs) same q.1)) ∙ ap (λ k. k ∷ zs) (sym same)

once_front : (ns ms : List (List ℕ)) → has_twice (ns ++ ms) ≡ false → has_twice ns ≡ false
once_front [] ms h = refl
once_front (a ∷ ns) ms h =
    let parts = or_parts (list_any (same_name a) (ns ++ ms)) (has_twice (ns ++ ms)) h in
    or_from (list_any (same_name a) ns) (has_twice ns)
    (or_parts (list_any (same_name a) ns) (list_any (same_name a) ms) (sym (list_any-append (same_name a) ns ms) ∙ parts.0)).0
    (once_front ns ms parts.1)

once_across : (ns ms : List (List ℕ)) → has_twice (ns ++ ms) ≡ false → list_any (λ a. list_any (same_name a) ms) ns ≡ false
once_across [] ms h = refl
once_across (a ∷ ns) ms h =
    let parts = or_parts (list_any (same_name a) (ns ++ ms)) (has_twice (ns ++ ms)) h in
    or_from (list_any (same_name a) ms) (list_any (λ b. list_any (same_name b) ms) ns)
    (or_parts (list_any (same_name a) ns) (list_any (same_name a) ms) (sym (list_any-append (same_name a) ns ms) ∙ parts.0)).1
    (once_across ns ms parts.1)

names_of_keys : (x : ℕ) (names : List (List ℕ)) → map (λ (k : Key). k.1) (map (λ name. (x, folded name)) names) ≡ map folded names
names_of_keys x [] = refl
names_of_keys x (n ∷ names) = ap (λ l. folded n ∷ l) (names_of_keys x names)

pub defined_names : (r : Records) (x : ℕ) (b : Option recorded.Object) (o : Option Object) → SaysAt r x b o → (unwrap_or o nothing).defined ≡ names_in b
defined_names r x None None s = refl
defined_names r x None (Some o) s = absurd s
defined_names r x (Some b) None s = absurd s
defined_names r x (Some b) (Some o) s = s.names

pub own_cells : (r : Records) (x : ℕ) (b : Option recorded.Object) (o : Option Object) → SaysAt r x b o → map recorded_cell (unwrap_or o nothing).cells ≡ cells_in b
own_cells r x None None s = refl
own_cells r x None (Some o) s = absurd s
own_cells r x (Some b) None s = absurd s
own_cells r x (Some b) (Some o) s = s.cells

module _ (r : Records) (objects : List (Option Object)) (said : (x : ℕ) → SaysAt r x (record_at r x) (object_of objects x)) where
  names_here : (x : ℕ) → map (λ (k : Key). k.1) (keys_defined_on objects x) ≡ names_at r x
  names_here x = names_of_keys x (thing_of objects x).defined ∙ ap (map folded) (defined_names r x (record_at r x) (object_of objects x) (said x))

  pub names_of : (way : List ℕ) → map (λ (k : Key). k.1) (keys_along objects way) ≡ names_along r way
  names_of [] = refl
  names_of (x ∷ way) =
      map-append (λ (k : Key). k.1) (keys_defined_on objects x) (keys_along objects way)
      ∙ (ap (λ l. l ++ map (λ (k : Key). k.1) (keys_along objects way)) (names_here x) ∙ ap (λ l. names_at r x ++ l) (names_of way))

-- a well formed world has the shape of one
pub shaped : (w : World) → IsWellFormed w → IsShaped w
shaped w f = record {
  parents = f.parents;
  places = f.places;
  exact_cells = f.stocked.exact_cells;
  names_once = f.stocked.names_once;
  own_filled = f.stocked.own_filled;
}

module _ (r : Records) (w : World) (s : Says r w) where
  module _ (f : IsShaped w) where
    own_names : (x : ℕ) → HasOwnNames r x
    own_names x = record {
      once = once_front (names_at r x) (names_along r (ancestors w.inheritance x)) whole;
      apart = λ ys way. ap (λ l. list_any (λ n. list_any (same_name n) (names_along r l)) (names_at r x))
          (one_lineage (parent_links r) x ys (ancestors w.inheritance x) way (lineage_is_ancestors (parent_links r) w.inheritance f.parents.forest s.parents x))
          ∙ once_across (names_at r x) (names_along r (ancestors w.inheritance x)) whole;
    }
      where
        whole : has_twice (names_at r x ++ names_along r (ancestors w.inheritance x)) ≡ false
        whole = ap has_twice (sym (names_of r w.objects s.objects (x ∷ ancestors w.inheritance x))) ∙ f.names_once x

    pub well_placed : (x : ℕ) → IsWellPlaced r x
    well_placed x = record {
      trees = record {
        parent = tree_is_sound (parent_links r) w.inheritance f.parents.forest s.parents x;
        place = tree_is_sound (place_links r) w.containment f.places.forest s.places x;
      };
      names = own_names x;
    }

    pub has_its_cells : (x : ℕ) → HasItsCells r x
    has_its_cells x = record {
      lineage = ancestors w.inheritance x;
      is = lineage_is_ancestors (parent_links r) w.inheritance f.parents.forest s.parents x;
      count =
          let cells = (thing_of w.objects x).cells in
          ap length (sym (own_cells r x (record_at r x) (object_of w.objects x) (s.objects x)))
          ∙ (length-map cells recorded_cell
          ∙ (sym (length-map cells key_of)
          ∙ (ap length (s.definitions x)
          ∙ (sym (length-map (definitions w.objects w.inheritance x) (λ (k : Key). k.1))
          ∙ ap length (names_of r w.objects s.objects (x ∷ ancestors w.inheritance x))))));
    }
