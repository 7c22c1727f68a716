-- The tests of a new definition along a walk.
use Rattle.std.proofs.Common.{◌≡◌, ℕ, List, [], ◌∷◌, Option, Some, None, Bool, true, false, ◌&&◌, cond, leb, refl, sym, ◌∙◌, ap, ⊎_elim, arith, length, map, IsSome}
use Rattle.std.specs.List.{list_any, range_with_len}
use Rattle.std.proofs.lemmas.List.{length-map}
use Rattle.std.proofs.lemmas.List.FromFn.{get_or-range_with_len, length-range_with_len}
use Rattle.std.proofs.lemmas.List.Folds.{list_any_at}
use Rattle.std.proofs.lemmas.Bool.{cases_Bool, and_from}
use Rattle.moo_value.specs.declared.error_code.ErrorCode.{ErrorCode}
use Rattle.moo_value.specs.declared.error_code.ErrorCode.TheVariants.{InvalidArgument, Quota}
use Rattle.moo_world_tree.specs.Forest.{is_within}
use Rattle.moo_world_tree.specs.Walk.{met, IsWalkDown}
use Rattle.moo_world_tree.specs.declared.walk.Step.{Step}
use Rattle.moo_world_object.specs.Names.{same_name}
use Rattle.moo_world_object.specs.Cells.{Cell, Key, key_of, is_named}
use Rattle.moo_world_table.specs.World.{World, object_of, thing_of, definitions, most, IsWellFormed}
use Rattle.moo_world_table.specs.Properties.{is_taken, is_full, has_name}
use Rattle.moo_world_table.proofs.Joining.{within_low}
use Rattle.moo_world_table.proofs.Refitting.{all_fail, passes, fails}
use Rattle.moo_world_table.proofs.Rowing.{walk_lists}

any_named : (name : List ℕ) (cells : List Cell) → list_any (is_named name) cells ≡ list_any (λ (k : Key). same_name k.1 name) (map key_of cells)
any_named name [] = refl
any_named name (c ∷ cs) = let rest = any_named name cs in rw rest refl

module _ (w : World) (x : ℕ) (f : IsWellFormed w) (valid : IsSome (object_of w.objects x)) (walk : List Step) (d : IsWalkDown w.inheritance x walk) where
  walk_tested : (g u : ℕ → Bool) → ((y : ℕ) → g y ≡ u y) → list_any g (met walk) ≡ list_any (λ y. is_within w.inheritance y x && u y) (range_with_len 0 (length w.objects))
  walk_tested g u same = ⊎_elim
      (λ e.
      let found = passes g (met walk) e in
      let within = sym (walk_lists w.inheritance x walk d found.0) ∙ found.1 in
      let low = within_low w.objects w.inheritance f.parents x valid found.0 within in
      let len = length-range_with_len 0 (length w.objects) in
      e ∙ sym (list_any_at (λ y. is_within w.inheritance y x && u y) (range_with_len 0 (length w.objects)) found.0 0 (omega (arith, len))
      (let at = get_or-range_with_len 0 (length w.objects) found.0 0 low in ap (λ y. is_within w.inheritance y x && u y) (at ∙ omega arith) ∙
      and_from (is_within w.inheritance found.0 x) (u found.0) within (sym (same found.0) ∙ found.2))))
      (λ e. e ∙ sym (all_fail (λ y. is_within w.inheritance y x && u y) (range_with_len 0 (length w.objects)) (λ y here. ⊎_elim
      (λ on. rw on (sym (same y) ∙ fails g (met walk) y e (walk_lists w.inheritance x walk d y ∙ on)))
      (λ off. rw off refl)
      (cases_Bool (is_within w.inheritance y x)))))
      (cases_Bool (list_any g (met walk)))

  pub taken_tested : (name : List ℕ) → list_any (λ y. list_any (is_named name) (thing_of w.objects y).cells) (met walk) ≡ is_taken w.objects w.inheritance x name
  taken_tested name = walk_tested (λ y. list_any (is_named name) (thing_of w.objects y).cells) (has_name w.objects w.inheritance name)
      (λ y. any_named name (thing_of w.objects y).cells ∙ ap (list_any (λ (k : Key). same_name k.1 name)) (f.stocked.exact_cells y))

  pub full_tested : list_any (λ y. leb most (length (thing_of w.objects y).cells)) (met walk) ≡ is_full w.objects w.inheritance x
  full_tested = walk_tested (λ y. leb most (length (thing_of w.objects y).cells)) (λ y. leb most (length (definitions w.objects w.inheritance y)))
      (λ y. ap (leb most) (sym (length-map (thing_of w.objects y).cells key_of) ∙ ap length (f.stocked.exact_cells y)))

pub define_free : (taken full : Bool) → ◌≡◌ {A = Option ErrorCode} (cond taken (Some InvalidArgument) (cond full (Some Quota) None)) None → (taken ≡ false) × (full ≡ false)
define_free true full h = cc
define_free false true h = cc
define_free false false h = (refl, refl)

pub property_free : (built : Bool) (rest : Option ErrorCode) → ◌≡◌ {A = Option ErrorCode} (cond built (Some InvalidArgument) rest) None → rest ≡ None
property_free true rest h = cc
property_free false rest h = h
