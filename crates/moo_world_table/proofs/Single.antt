-- A change of one object that keeps what it defines keeps a world well formed.
use Rattle.std.proofs.Common.{◌≡◌, ℕ, ◌≤◌, List, [], ◌∷◌, ◌++◌, Option, Some, None, refl, sym, ◌∙◌, ap, ⊎_elim, arith, get_or, set, map, IsSome, ◌+◌}
use Rattle.std.specs.List.{All}
use Rattle.std.specs.Option.{unwrap_or, option_map}
use Rattle.std.proofs.lemmas.List.{get_or_read, get_or-set_same, get_or-set_other, length-set}
use Rattle.std.proofs.lemmas.Bool.{cases_eq, false≢true}
use Rattle.moo_value.specs.Compare.{folded}
use Rattle.moo_world_tree.specs.Forest.{ancestors}
use Rattle.moo_world_object.specs.Objects.{Object}
use Rattle.moo_world_object.specs.Cells.{Key, key_of}
use Rattle.moo_world_table.specs.World.{World, nothing, object_of, thing_of, keys_defined_on, keys_along, has_twice, most, programs_of, programs_in, IsCounted, IsFilled, IsFine, IsWellFormed}
use Rattle.moo_world_table.specs.Changes.{changed_on, with_object}
use Rattle.moo_world_table.proofs.Changing.{valid_within}
use Rattle.moo_world_table.proofs.Counting.{programs_changed, programs_stay}
use Rattle.moo_world_table.proofs.Refitting.{joined_kept}

-- the object has cells for the same definitions, defines the same names, and keeps the limits
pub record KeepsShape (x : ℕ) (f : Object → Object) (o : Object) : Type 0 where
  pub keys : map key_of (f o).cells ≡ map key_of o.cells
  pub names : (f o).defined ≡ o.defined
  pub filled : All (IsFilled x) o.cells → All (IsFilled x) (f o).cells
  pub fine : IsFine o → IsFine (f o)

thing_mapped : (f : Object → Object) (o : Option Object) → IsSome o → unwrap_or (option_map f o) nothing ≡ f (unwrap_or o nothing)
thing_mapped f None valid = absurd (false≢true valid)
thing_mapped f (Some o) valid = refl

mapped_none : (f : Object → Object) (o : Option Object) → option_map f o ≡ None → o ≡ None
mapped_none f None h = refl
mapped_none f (Some o) h = cc

-- what the code writes
pub slot_changed : (objects : List (Option Object)) (x : ℕ) (f : Object → Object) (read slot : Option Object) → IsSome (object_of objects x) → read ≡ get_or objects x read → slot ≡ option_map f read → set objects x slot ≡ changed_on objects x f
slot_changed objects x f read slot valid read_is is = ap (set objects x) (is ∙ ap (option_map f) (get_or_read objects x read (valid_within objects x valid) read_is None))

module _ (w : World) (x : ℕ) (f : Object → Object) (wf : IsWellFormed w) (valid : IsSome (object_of w.objects x)) (keeps : KeepsShape x f (thing_of w.objects x)) where
  here : thing_of (changed_on w.objects x f) x ≡ f (thing_of w.objects x)
  here = ap (λ o. unwrap_or o nothing) (get_or-set_same w.objects x (option_map f (object_of w.objects x)) None (valid_within w.objects x valid)) ∙ thing_mapped f (object_of w.objects x) valid

  there : (y : ℕ) → (y ≡ x → ⊥) → object_of (changed_on w.objects x f) y ≡ object_of w.objects y
  there y other = get_or-set_other w.objects x y (option_map f (object_of w.objects x)) None other

  thing_there : (y : ℕ) → (y ≡ x → ⊥) → thing_of (changed_on w.objects x f) y ≡ thing_of w.objects y
  thing_there y other = ap (λ o. unwrap_or o nothing) (there y other)

  keys_on : (y : ℕ) → keys_defined_on (changed_on w.objects x f) y ≡ keys_defined_on w.objects y
  keys_on y = ⊎_elim
      (λ e. rw e (ap (λ o. map (λ n. (x, folded n)) o.defined) here ∙ ap (map (λ n. (x, folded n))) keeps.names))
      (λ ne. ap (λ o. map (λ n. (y, folded n)) o.defined) (thing_there y ne))
      (cases_eq y x)

  keys_same : (way : List ℕ) → keys_along (changed_on w.objects x f) way ≡ keys_along w.objects way
  keys_same [] = refl
  keys_same (y ∷ way) = ap (λ ks. ks ++ keys_along (changed_on w.objects x f) way) (keys_on y) ∙ ap (λ ks. keys_defined_on w.objects y ++ ks) (keys_same way)

  still_none : (y : ℕ) → object_of (changed_on w.objects x f) y ≡ None → object_of w.objects y ≡ None
  still_none y h = ⊎_elim
      (λ e. ap (object_of w.objects) e ∙ mapped_none f (object_of w.objects x)
      (sym (get_or-set_same w.objects x (option_map f (object_of w.objects x)) None (valid_within w.objects x valid)) ∙ ap (object_of (changed_on w.objects x f)) (sym e) ∙ h))
      (λ ne. sym (there y ne) ∙ h)
      (cases_eq y x)

  pub object_changed : programs_in (changed_on w.objects x f) ≤ most → IsWellFormed (with_object w x f)
  object_changed programs =
      let many = length-set w.objects x (option_map f (object_of w.objects x)) in
      record {
        parents = joined_kept w.objects (changed_on w.objects x f) w.inheritance many still_none wf.parents;
        places = joined_kept w.objects (changed_on w.objects x f) w.containment many still_none wf.places;
        stocked = record {
          exact_cells = λ y. ⊎_elim
              (λ e. rw e (ap (λ o. map key_of o.cells) here ∙ keeps.keys ∙ wf.stocked.exact_cells x))
              (λ ne. ap (λ o. map key_of o.cells) (thing_there y ne) ∙ wf.stocked.exact_cells y)
              (cases_eq y x) ∙ sym (keys_same (y ∷ ancestors w.inheritance y));
          names_once = λ y. ap (λ ks. has_twice (map (λ (k : Key). k.1) ks)) (keys_same (y ∷ ancestors w.inheritance y)) ∙ wf.stocked.names_once y;
          own_filled = λ y. ⊎_elim
              (λ e. rw e (rw here (keeps.filled (wf.stocked.own_filled x))))
              (λ ne. let same = thing_there y ne in rw same (wf.stocked.own_filled y))
              (cases_eq y x);
          fine = λ y. ⊎_elim
              (λ e. rw e (rw here (keeps.fine (wf.stocked.fine x))))
              (λ ne. let same = thing_there y ne in rw same (wf.stocked.fine y))
              (cases_eq y x);
        };
        few = rw many wf.few;
        few_players = wf.few_players;
        player_numbers = wf.player_numbers;
        few_programs = programs;
      }

-- a world with one object changed, with a count of the programs
module _ (w : World) (x : ℕ) (f : Object → Object) (n : ℕ) (c : IsCounted w n) (valid : IsSome (object_of w.objects x)) (keeps : KeepsShape x f (thing_of w.objects x)) where
  -- a change that leaves as many
  pub object_kept : programs_of (f (thing_of w.objects x)).verbs ≡ programs_of (thing_of w.objects x).verbs → IsCounted (with_object w x f) n
  object_kept same =
      let stay = programs_stay w.objects x f (valid_within w.objects x valid) valid same in
      record {
        formed = object_changed w x f c.formed valid keeps (omega (arith, stay, c.formed.few_programs));
        counted = c.counted ∙ sym stay;
      }

  -- one that leaves others
  pub object_recounted : (m : ℕ) → m + programs_of (thing_of w.objects x).verbs ≡ n + programs_of (f (thing_of w.objects x)).verbs → m ≤ most → IsCounted (with_object w x f) m
  object_recounted m many few =
      let changed = programs_changed w.objects x f (valid_within w.objects x valid) valid in
      record {
        formed = object_changed w x f c.formed valid keeps (omega (arith, changed, many, c.counted, few));
        counted = omega (arith, changed, many, c.counted);
      }
