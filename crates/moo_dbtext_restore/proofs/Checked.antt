-- The first fault of records, and the world that they describe if there is none.
use Rattle.std.proofs.Common.{◌≡◌, ◌≢◌, ℕ, ℤ, List, length, map, Option, Some, None, refl, sym, ap, subst, ◌∙◌, arith, FitsSigned, w32}
use Rattle.std.specs.List.{All}
use Rattle.std.specs.Option.{option_map}
use Rattle.std.proofs.lemmas.List.{length-map}
use Rattle.moo_syntax_ast.specs.Tree.{Block}
use Rattle.moo_world_tree.specs.Forest.{Links, IsForest}
use Rattle.moo_world_object.specs.Objects.{Object}
use Rattle.moo_world_table.specs.World.{IsWellFormed}
use Rattle.moo_world_table.specs.Restoring.{restored}
use Rattle.moo_world_table.proofs.Restored.{restored_well_formed}
use Rattle.moo_dbtext_object.specs.Objects as recorded
use Rattle.moo_dbtext_object.specs.declared.object_record.ObjectRecord.{ObjectRecord}
use Rattle.moo_dbtext_restore.specs.declared.fault.RestoreFault.{RestoreFault}
use Rattle.moo_dbtext_restore.specs.declared.fault.RestoreFault.TheVariants as fault
use Rattle.moo_dbtext_restore.specs.declared.link.Link.{Link}
use Rattle.moo_dbtext_restore.specs.First.{IsFirst, least_of}
use Rattle.moo_dbtext_restore.specs.Links.{IsSound, IsTreeOf}
use Rattle.moo_dbtext_restore.specs.Records.{Records, parent_link, place_link, parent_links_of, place_links_of, parent_links, place_links}
use Rattle.moo_dbtext_restore.specs.Faults.{HasOwnNames, IsJoinedWell, IsWellPlaced, HasItsCells}
use Rattle.moo_dbtext_restore.specs.Names.{WhereEnded, with_objects}
use Rattle.moo_dbtext_restore.specs.Plain.{plain_objects}
use Rattle.moo_dbtext_restore.specs.Keyed.{AreKeyed}
use Rattle.moo_dbtext_restore.specs.Made.{AreForestsOf}
use Rattle.moo_dbtext_restore.specs.Says.{Says}
use Rattle.moo_dbtext_restore.specs.Restoring.{AreWithinLimits, IsFaultOf}
use Rattle.moo_dbtext_restore.proofs.Firsts.{first_along, first_of_both}
use Rattle.moo_dbtext_restore.proofs.Keying.{keyed_is_restored}
use Rattle.moo_dbtext_restore.proofs.Making.{parts_made, made_world_is_said}
use Rattle.moo_dbtext_restore.proofs.Within.{plain_are_made}

module _ (r : Records) (n : ℕ) where
  pub first_in_both : (a b : Option ℕ) → IsFirst (IsJoinedWell r.objects) n a → IsFirst (WhereEnded r (HasOwnNames r)) n b → IsFirst (IsWellPlaced r) n (least_of a b)
  first_in_both a b f g =
      first_along (λ x. IsJoinedWell r.objects x × WhereEnded r (HasOwnNames r) x) (IsWellPlaced r) n (least_of a b)
      (λ x s. record { trees = s.0; names = s.1 s.0.parent.ends.0 s.0.parent.ends.1 })
      (λ x s. (s.trees, λ ys way. s.names))
      (first_of_both (IsJoinedWell r.objects) (WhereEnded r (HasOwnNames r)) n a b f g)

  pub first_of_counts : (f : Option ℕ) → IsFirst (IsWellPlaced r) n None → IsFirst (WhereEnded r (HasItsCells r)) n f → IsFirst (HasItsCells r) n f
  first_of_counts None placed f = λ x low. let ends = (placed x low).trees.parent.ends in f x low ends.0 ends.1
  first_of_counts (Some x) placed f =
      (f.0, λ h. f.1 (λ ys way. h), λ y below. let ends = (placed y (let low = f.0 in omega (arith, low, below))).trees.parent.ends in f.2 y below ends.0 ends.1)

module _ (os : List (Option ObjectRecord)) where
  abbrev alone : Records
  alone = with_objects os

  many : length alone.objects ≡ length os
  many = length-map os (option_map recorded.object_of)

  pub hierarchy_fault : (x : ℕ) → IsFirst (IsWellPlaced alone) (length os) (Some x) → IsFaultOf alone (fault.Hierarchy x)
  hierarchy_fault x f = subst (λ n. IsFirst (IsWellPlaced alone) n (Some x)) (sym many) f

  pub count_fault : (x : ℕ) → IsFirst (IsWellPlaced alone) (length os) None → IsFirst (WhereEnded alone (HasItsCells alone)) (length os) (Some x) → IsFaultOf alone (fault.PropertyCount x)
  count_fault x placed f =
      (subst (λ n. IsFirst (IsWellPlaced alone) n None) (sym many) placed, subst (λ n. IsFirst (HasItsCells alone) n (Some x)) (sym many) (first_of_counts alone (length os) (Some x) placed f))

  pub parents_sound : (links : List (Option Link)) → links ≡ parent_links_of alone.objects → IsFirst (IsWellPlaced alone) (length os) None → IsFirst (IsSound links) (length links) None
  parents_sound links same placed = λ x low.
      let len = ap length same ∙ length-map alone.objects (option_map parent_link) in
      subst (λ l. IsSound l x) (sym same) (placed x (let all = many in omega (arith, low, len, all))).trees.parent

  pub places_sound : (links : List (Option Link)) → links ≡ place_links_of alone.objects → IsFirst (IsWellPlaced alone) (length os) None → IsFirst (IsSound links) (length links) None
  places_sound links same placed = λ x low.
      let len = ap length same ∙ length-map alone.objects (option_map place_link) in
      subst (λ l. IsSound l x) (sym same) (placed x (let all = many in omega (arith, low, len, all))).trees.place

  module _ (rows : List (List (Option Block))) (players : List ℤ) where
    abbrev whole : Records
    whole = record { objects = map (option_map recorded.object_of) os; programs = rows; players = players }

    placed_too : (x : ℕ) → IsWellPlaced alone x → IsWellPlaced whole x
    placed_too x h = record { trees = h.trees; names = record { once = h.names.once; apart = h.names.apart } }

    placed_back : (x : ℕ) → IsWellPlaced whole x → IsWellPlaced alone x
    placed_back x h = record { trees = h.trees; names = record { once = h.names.once; apart = h.names.apart } }

    cells_too : (x : ℕ) → HasItsCells alone x → HasItsCells whole x
    cells_too x h = record { lineage = h.lineage; is = h.is; count = h.count }

    cells_back : (x : ℕ) → HasItsCells whole x → HasItsCells alone x
    cells_back x h = record { lineage = h.lineage; is = h.is; count = h.count }

    -- a fault of the objects is one of the records
    pub fault_too : (e : RestoreFault) → IsFaultOf alone e → IsFaultOf whole e
    fault_too (fault.Hierarchy x) f = first_along (IsWellPlaced alone) (IsWellPlaced whole) (length alone.objects) (Some x) placed_too placed_back f
    fault_too (fault.PropertyCount x) f = (
      first_along (IsWellPlaced alone) (IsWellPlaced whole) (length alone.objects) None placed_too placed_back f.0,
      first_along (HasItsCells alone) (HasItsCells whole) (length alone.objects) (Some x) cells_too cells_back f.1,
    )
    fault_too fault.Memory f = tt

    module _ (w : AreWithinLimits whole) (numbers : All (FitsSigned w32) players) (placed : IsFirst (IsWellPlaced alone) (length os) None) (counted : IsFirst (HasItsCells alone) (length os) None)
        (made : List (Option Object)) (parents places : List Links) (keyed : AreKeyed (parent_links alone) (plain_objects os rows) made)
        (parent_forest : IsForest parents) (place_forest : IsForest places) (parent_tree : IsTreeOf (parent_links whole) parents) (place_tree : IsTreeOf (place_links whole) places) where
      all_placed : IsFirst (IsWellPlaced whole) (length whole.objects) None
      all_placed = λ x low. placed_too x (placed x (let all = many in omega (arith, low, all)))

      all_counted : IsFirst (HasItsCells whole) (length whole.objects) None
      all_counted = λ x low. cells_too x (counted x (let all = many in omega (arith, low, all)))

      forests : AreForestsOf whole parents places
      forests = record { parent_forest = parent_forest; place_forest = place_forest; parents = parent_tree; places = place_tree }

      same : made ≡ restored (plain_objects os rows) parents
      same = keyed_is_restored (parent_links alone) (plain_objects os rows) made parents keyed parent_forest parent_tree

      pub world_is_formed : IsWellFormed (record { objects = made; inheritance = parents; containment = places; players = players })
      world_is_formed =
          subst (λ l. IsWellFormed (record { objects = l; inheritance = parents; containment = places; players = players })) (sym same)
          (restored_well_formed (plain_objects os rows) parents places players
          (parts_made whole all_placed all_counted (plain_objects os rows) (plain_are_made os rows players w) parents places forests w.object_count w.player_count numbers))

      pub world_is_said : Says whole (record { objects = made; inheritance = parents; containment = places; players = players })
      world_is_said =
          subst (λ l. Says whole (record { objects = l; inheritance = parents; containment = places; players = players })) (sym same)
          (made_world_is_said whole all_placed all_counted (plain_objects os rows) (plain_are_made os rows players w) parents places forests w.object_count w.player_count numbers)

pub not_some : (o : Option ℕ) → ((x : ℕ) → o ≢ Some x) → o ≡ None
not_some None h = refl
not_some (Some x) h = absurd (h x refl)
