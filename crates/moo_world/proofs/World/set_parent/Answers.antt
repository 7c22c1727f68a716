use Rattle.std.proofs.Common.{◌≡◌, ◌<◌, ℕ, sym, ◌∙◌, ap, subst, arith, length, IsSome, vec_len}
use Rattle.moo_world_tree.specs.Forest.{moved}
use Rattle.moo_world_tree.specs.Walk.{met, step_at, IsWalkDown}
use Rattle.moo_world_object.specs.Cells.{AreDistinct}
use Rattle.moo_world_table.specs.World.{World, object_of, thing_of, clashes, crowds}
use Rattle.moo_world_table.specs.Steps.{with_rows}
use Rattle.moo_world_table.specs.Changes.{after_chparent, would_loop}
use Rattle.moo_world.specs.Calls.{parent_raises}
use Rattle.moo_world_table.proofs.Counting.{programs_refitted}
use Rattle.moo_world_table.proofs.Changing.{IsValidPlace, parent_changed, parent_free, node_of, place_of_nodes, apart_from_test, valid_within}
use Rattle.moo_world_table.proofs.FittedRows.{cells_distinct}
use Rattle.moo_world_table.proofs.Joining.{rows_made, rows_ready, valid_as_lent, walk_valid}
use Rattle.moo_world_table.proofs.Staying.{place_same, world_stays}
use Rattle.moo_world.proofs.Raising.{unmoved}
use Rattle.moo_world.proofs.World.set_parent.Goals as goal

pub returns-then-eq-clause-world : goal.returns-then-eq-clause-world
returns-then-eq-clause-world c =
    let w : World = record { objects = c.self.inside.objects.items; inheritance = c.self.inside.inheritance; containment = c.self.inside.containment; players = c.self.inside.players.items } in
    let same = sym c.above.ensures.value ∙ place_same c.above.result c.args.p (sym c.eq.ensures ∙ c.if-eq.true) in (
      ap (λ v. parent_raises v c.args.x c.args.p) (sym c.self.view_is) ∙ unmoved w c.args.x c.args.p c.self.invariant.formed same,
      subst (λ v. v ≡ after_chparent v c.args.x c.args.p) c.self.view_is (sym (world_stays w c.args.x c.args.p c.self.invariant.formed same)),
    )

pub rows_below-requires : goal.rows_below-requires
rows_below-requires c =
    let w : World = record { objects = c.self.inside.objects.items; inheritance = c.self.inside.inheritance; containment = c.self.inside.containment; players = c.self.inside.players.items } in
    let valid = subst (λ v. IsSome (object_of v.objects c.args.x)) (sym c.self.view_is) c.requires.object in
    let p_valid = subst (λ v. IsValidPlace v.objects c.args.p) (sym c.self.view_is) c.requires.parent in
    let d = subst (λ v. IsWalkDown v.inheritance c.args.x c.in_ok-walk.walk.items) (sym c.self.view_is) c.in_ok-walk.ensures.walk.1 in
    let each = walk_valid w.objects w.inheritance c.self.invariant.formed.parents c.args.x valid c.in_ok-walk.walk.items d in
    record {
      begins = subst (λ ys. 0 < length ys) (sym c.deref-2.ensures.value) d.begins;
      place = λ up is. (let low = valid_within w.objects up (p_valid up is) in let len = ap length c.deref.ensures.value in omega (arith, low, len));
      valid = valid_as_lent w.objects c.deref.result.now c.in_ok-walk.walk.items c.deref-2.result.now c.deref.ensures.value c.deref-2.ensures.value each;
      distinct = λ k h. subst (λ os. AreDistinct (thing_of os (step_at c.deref-2.result.now k).node).cells) (sym c.deref.ensures.value)
          (cells_distinct w c.self.invariant.formed (step_at c.deref-2.result.now k).node);
      follows = subst (λ ys. (k : ℕ) → 0 < k → k < length ys → (step_at ys k).from < k) (sym c.deref-2.ensures.value) d.follows;
    }

pub move_to-requires : goal.move_to-requires
move_to-requires c =
    let w : World = record { objects = c.self.inside.objects.items; inheritance = c.self.inside.inheritance; containment = c.self.inside.containment; players = c.self.inside.players.items } in
    let valid = subst (λ v. IsSome (object_of v.objects c.args.x)) (sym c.self.view_is) c.requires.object in
    let p_valid = subst (λ v. IsValidPlace v.objects c.args.p) (sym c.self.view_is) c.requires.parent in
    let free = parent_free (would_loop w.inheritance c.args.x c.args.p) (clashes w.objects (moved w.inheritance c.args.x c.args.p)) (crowds w.objects (moved w.inheritance c.args.x c.args.p))
    (ap (λ v. parent_raises v c.args.x c.args.p) c.self.view_is ∙ c.in_ok-walk.ensures.walk.0) in
    record {
      node = node_of w.objects w.inheritance c.self.invariant.formed.parents c.args.x valid;
      place = place_of_nodes w.objects w.inheritance c.self.invariant.formed.parents c.args.p p_valid;
      apart = apart_from_test w.inheritance c.args.x c.args.p free.0;
    }

pub put_rows-requires : goal.put_rows-requires
put_rows-requires c =
    let w : World = record { objects = c.self.inside.objects.items; inheritance = c.self.inside.inheritance; containment = c.self.inside.containment; players = c.self.inside.players.items } in
    let valid = subst (λ v. IsSome (object_of v.objects c.args.x)) (sym c.self.view_is) c.requires.object in
    let p_valid = subst (λ v. IsValidPlace v.objects c.args.p) (sym c.self.view_is) c.requires.parent in
    let d = subst (λ v. IsWalkDown v.inheritance c.args.x c.in_ok-walk.walk.items) (sym c.self.view_is) c.in_ok-walk.ensures.walk.1 in
    let free = parent_free (would_loop w.inheritance c.args.x c.args.p) (clashes w.objects (moved w.inheritance c.args.x c.args.p)) (crowds w.objects (moved w.inheritance c.args.x c.args.p))
    (ap (λ v. parent_raises v c.args.x c.args.p) c.self.view_is ∙ c.in_ok-walk.ensures.walk.0) in
    let made = rows_made w.objects c.deref.result.now c.in_ok-walk.walk.items c.deref-2.result.now c.args.p c.in_ok-rows.rows.items c.deref.ensures.value c.deref-2.ensures.value c.in_ok-rows.ensures in
    let ready = rows_ready w c.args.x c.args.p c.self.invariant.formed valid p_valid c.in_ok-walk.walk.items c.in_ok-rows.rows.items free.0 d made in
    record {
      many = omega (arith, ready.many, c.deref-3.ensures.len, ap length c.deref-3.ensures.value, c.in_ok-rows.rows.ok.0);
      within = λ k h. (let low = ready.within k (subst (λ ys. k < length ys) c.deref-3.ensures.value h) in
          subst (λ ys. (step_at ys k).node < vec_len c.self.inside.objects) (sym c.deref-3.ensures.value) (omega (arith, low, c.self.inside.objects.ok.0)));
    }

pub invariant_of-self-2 : goal.invariant_of-self-2
invariant_of-self-2 c =
    let w : World = record { objects = c.self.inside.objects.items; inheritance = c.self.inside.inheritance; containment = c.self.inside.containment; players = c.self.inside.players.items } in
    let valid = subst (λ v. IsSome (object_of v.objects c.args.x)) (sym c.self.view_is) c.requires.object in
    let p_valid = subst (λ v. IsValidPlace v.objects c.args.p) (sym c.self.view_is) c.requires.parent in
    let d = subst (λ v. IsWalkDown v.inheritance c.args.x c.in_ok-walk.walk.items) (sym c.self.view_is) c.in_ok-walk.ensures.walk.1 in
    let free = parent_free (would_loop w.inheritance c.args.x c.args.p) (clashes w.objects (moved w.inheritance c.args.x c.args.p)) (crowds w.objects (moved w.inheritance c.args.x c.args.p))
    (ap (λ v. parent_raises v c.args.x c.args.p) c.self.view_is ∙ c.in_ok-walk.ensures.walk.0) in
    let made = rows_made w.objects c.deref.result.now c.in_ok-walk.walk.items c.deref-2.result.now c.args.p c.in_ok-rows.rows.items c.deref.ensures.value c.deref-2.ensures.value c.in_ok-rows.ensures in
    let ready = rows_ready w c.args.x c.args.p c.self.invariant.formed valid p_valid c.in_ok-walk.walk.items c.in_ok-rows.rows.items free.0 d made in
    let fit = c.put_rows.ensures ∙ ap (λ ys. with_rows w.objects (met ys) c.in_ok-rows.rows.items) c.deref-3.ensures.value ∙ ready.fit in
    let tree = c.in_ok-move_to.ensures.ok in
    rw (fit, tree) (record { formed = (parent_changed w c.args.x c.args.p c.self.invariant.formed valid p_valid free.0 free.1 free.2); counted = c.self.invariant.counted ∙ sym (programs_refitted w.objects (moved w.inheritance c.args.x c.args.p)) })

pub returns-clause-world : goal.returns-clause-world
returns-clause-world c =
    let w : World = record { objects = c.self.inside.objects.items; inheritance = c.self.inside.inheritance; containment = c.self.inside.containment; players = c.self.inside.players.items } in
    let valid = subst (λ v. IsSome (object_of v.objects c.args.x)) (sym c.self.view_is) c.requires.object in
    let p_valid = subst (λ v. IsValidPlace v.objects c.args.p) (sym c.self.view_is) c.requires.parent in
    let d = subst (λ v. IsWalkDown v.inheritance c.args.x c.in_ok-walk.walk.items) (sym c.self.view_is) c.in_ok-walk.ensures.walk.1 in
    let free = parent_free (would_loop w.inheritance c.args.x c.args.p) (clashes w.objects (moved w.inheritance c.args.x c.args.p)) (crowds w.objects (moved w.inheritance c.args.x c.args.p))
    (ap (λ v. parent_raises v c.args.x c.args.p) c.self.view_is ∙ c.in_ok-walk.ensures.walk.0) in
    let made = rows_made w.objects c.deref.result.now c.in_ok-walk.walk.items c.deref-2.result.now c.args.p c.in_ok-rows.rows.items c.deref.ensures.value c.deref-2.ensures.value c.in_ok-rows.ensures in
    let ready = rows_ready w c.args.x c.args.p c.self.invariant.formed valid p_valid c.in_ok-walk.walk.items c.in_ok-rows.rows.items free.0 d made in
    let fit = c.put_rows.ensures ∙ ap (λ ys. with_rows w.objects (met ys) c.in_ok-rows.rows.items) c.deref-3.ensures.value ∙ ready.fit in
    let tree = c.in_ok-move_to.ensures.ok in
    (c.in_ok-walk.ensures.walk.0, (rw (fit, tree) (ap (λ v. after_chparent v c.args.x c.args.p) c.self.view_is)))
