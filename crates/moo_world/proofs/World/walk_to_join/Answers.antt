use Rattle.std.proofs.Common.{◌≡◌, false, true, sym, ◌∙◌, ap, subst, IsSome, refl}
use Rattle.moo_world_tree.specs.Forest.{above_of, moved}
use Rattle.moo_world_tree.specs.Walk.{IsWalkDown}
use Rattle.moo_world_table.specs.World.{World, object_of, clashes, crowds}
use Rattle.moo_world.specs.Calls.{parent_raises}
use Rattle.moo_world_table.specs.Changes.{would_loop}
use Rattle.moo_world_table.proofs.Changing.{IsValidPlace, place_of_nodes}
use Rattle.moo_world_table.proofs.Joining.{clash_read, crowd_read, names_clash_is, some_crowded_is}
use Rattle.moo_world.proofs.World.walk_to_join.Goals as goal

pub would_loop-requires : goal.would_loop-requires
would_loop-requires c =
    place_of_nodes c.self.inside.objects.items c.self.inside.inheritance c.self.invariant.formed.parents c.args.p
    (subst (λ v. IsValidPlace v.objects c.args.p) (sym c.self.view_is) c.requires.parent)

pub returns-then-clash-clause-walk : goal.returns-then-clash-clause-walk
returns-then-clash-clause-walk c =
    let w : World = record { objects = c.self.inside.objects.items; inheritance = c.self.inside.inheritance; containment = c.self.inside.containment; players = c.self.inside.players.items } in
    let valid = subst (λ v. IsSome (object_of v.objects c.args.x)) (sym c.self.view_is) c.requires.object in
    let p_valid = subst (λ v. IsValidPlace v.objects c.args.p) (sym c.self.view_is) c.requires.parent in
    let apart : would_loop w.inheritance c.args.x c.args.p ≡ false = sym c.would_loop.ensures ∙ c.if-would_loop.false in
    let clash = names_clash_is w c.args.x c.args.p c.self.invariant.formed valid p_valid c.in_ok-walk.walk.items apart c.in_ok-walk.ensures in
    let read = clash_read w.objects c.deref-2.result.now c.deref.result.now c.in_ok-walk.walk.items c.deref-3.result.now c.args.p c.cells_of-gained.result.now c.deref-2.ensures.value c.deref.ensures.value c.deref-3.ensures.value c.cells_of-gained.ensures in
    let test : clashes w.objects (moved w.inheritance c.args.x c.args.p) ≡ true = sym clash ∙ sym read ∙ sym c.in_ok-clash.ensures ∙ c.if-clash.true in
    ap (λ v. parent_raises v c.args.x c.args.p) (sym c.self.view_is) ∙ (rw (apart, test) refl)

pub returns-then-some_crowded-clause-walk : goal.returns-then-some_crowded-clause-walk
returns-then-some_crowded-clause-walk c =
    let w : World = record { objects = c.self.inside.objects.items; inheritance = c.self.inside.inheritance; containment = c.self.inside.containment; players = c.self.inside.players.items } in
    let valid = subst (λ v. IsSome (object_of v.objects c.args.x)) (sym c.self.view_is) c.requires.object in
    let p_valid = subst (λ v. IsValidPlace v.objects c.args.p) (sym c.self.view_is) c.requires.parent in
    let apart : would_loop w.inheritance c.args.x c.args.p ≡ false = sym c.would_loop.ensures ∙ c.if-would_loop.false in
    let clash = names_clash_is w c.args.x c.args.p c.self.invariant.formed valid p_valid c.in_ok-walk.walk.items apart c.in_ok-walk.ensures in
    let read = clash_read w.objects c.deref-2.result.now c.deref.result.now c.in_ok-walk.walk.items c.deref-3.result.now c.args.p c.cells_of-gained.result.now c.deref-2.ensures.value c.deref.ensures.value c.deref-3.ensures.value c.cells_of-gained.ensures in
    let test : clashes w.objects (moved w.inheritance c.args.x c.args.p) ≡ false = sym clash ∙ sym read ∙ sym c.in_ok-clash.ensures ∙ c.if-clash.false in
    let crowd = some_crowded_is w c.args.x c.args.p c.self.invariant.formed valid p_valid c.in_ok-walk.walk.items apart c.in_ok-walk.ensures in
    let counted = crowd_read w.objects c.deref-5.result.now c.deref.result.now c.deref-4.result.now c.in_ok-walk.walk.items c.deref-6.result.now c.args.p c.above.result (above_of w.inheritance c.args.x)
    c.cells_of-gained.result.now c.cells_of-lost.result.now c.deref-5.ensures.value c.deref.ensures.value c.deref-4.ensures.value c.deref-6.ensures.value c.cells_of-gained.ensures c.cells_of-lost.ensures c.above.ensures.value in
    let many : crowds w.objects (moved w.inheritance c.args.x c.args.p) ≡ true = sym crowd ∙ sym counted ∙ sym c.some_crowded.ensures ∙ c.if-some_crowded.true in
    ap (λ v. parent_raises v c.args.x c.args.p) (sym c.self.view_is) ∙ (rw (apart, test, many) refl)

pub returns-clause-walk : goal.returns-clause-walk
returns-clause-walk c =
    let w : World = record { objects = c.self.inside.objects.items; inheritance = c.self.inside.inheritance; containment = c.self.inside.containment; players = c.self.inside.players.items } in
    let valid = subst (λ v. IsSome (object_of v.objects c.args.x)) (sym c.self.view_is) c.requires.object in
    let p_valid = subst (λ v. IsValidPlace v.objects c.args.p) (sym c.self.view_is) c.requires.parent in
    let apart : would_loop w.inheritance c.args.x c.args.p ≡ false = sym c.would_loop.ensures ∙ c.if-would_loop.false in
    let clash = names_clash_is w c.args.x c.args.p c.self.invariant.formed valid p_valid c.in_ok-walk.walk.items apart c.in_ok-walk.ensures in
    let read = clash_read w.objects c.deref-2.result.now c.deref.result.now c.in_ok-walk.walk.items c.deref-3.result.now c.args.p c.cells_of-gained.result.now c.deref-2.ensures.value c.deref.ensures.value c.deref-3.ensures.value c.cells_of-gained.ensures in
    let test : clashes w.objects (moved w.inheritance c.args.x c.args.p) ≡ false = sym clash ∙ sym read ∙ sym c.in_ok-clash.ensures ∙ c.if-clash.false in
    let crowd = some_crowded_is w c.args.x c.args.p c.self.invariant.formed valid p_valid c.in_ok-walk.walk.items apart c.in_ok-walk.ensures in
    let counted = crowd_read w.objects c.deref-5.result.now c.deref.result.now c.deref-4.result.now c.in_ok-walk.walk.items c.deref-6.result.now c.args.p c.above.result (above_of w.inheritance c.args.x)
    c.cells_of-gained.result.now c.cells_of-lost.result.now c.deref-5.ensures.value c.deref.ensures.value c.deref-4.ensures.value c.deref-6.ensures.value c.cells_of-gained.ensures c.cells_of-lost.ensures c.above.ensures.value in
    let many : crowds w.objects (moved w.inheritance c.args.x c.args.p) ≡ false = sym crowd ∙ sym counted ∙ sym c.some_crowded.ensures ∙ c.if-some_crowded.false in (
      ap (λ v. parent_raises v c.args.x c.args.p) (sym c.self.view_is) ∙ (rw (apart, test, many) refl),
      subst (λ v. IsWalkDown v.inheritance c.args.x c.in_ok-walk.walk.items) c.self.view_is c.in_ok-walk.ensures,
    )
