use Rattle.std.proofs.Common.{◌≡◌, None, pos, refl, sym, ◌∙◌, ap, subst, arith, IsSome, set, w32, to_z, false}
use Rattle.std.proofs.lemmas.Int.{to_z_pos}
use Rattle.moo_world_tree.specs.Forest.{dissolved}
use Rattle.moo_world_tree.specs.Walk.{met}
use Rattle.moo_world_tree.proofs.Dissolving.{above_apart}
use Rattle.moo_world_object.specs.Objects.{Object}
use Rattle.moo_world_table.specs.World.{World, object_of, thing_of, programs_of}
use Rattle.moo_world_table.specs.Steps.{changed_along}
use Rattle.moo_world_table.specs.Players.{players_with}
use Rattle.moo_world_table.specs.Recycling.{after_recycle, without_cells_of}
use Rattle.moo_world_table.proofs.Changing.{valid_within}
use Rattle.moo_world_table.proofs.Counting.{programs_recycled}
use Rattle.moo_world_table.proofs.VerbChanges.{thing_read}
use Rattle.moo_world_table.proofs.Leaving.{left_is, recycled_well_formed}
use Rattle.moo_world.proofs.World.remove_object.Goals as goal

pub dissolve-requires-clause-apart : goal.dissolve-requires-clause-apart
dissolve-requires-clause-apart c up is = above_apart c.self.inside.inheritance c.self.invariant.formed.parents.forest c.args.x up (sym c.above-parent.ensures.value ∙ is)

pub invariant_of-self-2 : goal.invariant_of-self-2
invariant_of-self-2 c =
    let w : World = record { objects = c.self.inside.objects.items; inheritance = c.self.inside.inheritance; containment = c.self.inside.containment; players = c.self.inside.players.items } in
    let valid = subst (λ v. IsSome (object_of v.objects c.args.x)) (sym c.self.view_is) c.requires in
    let low = valid_within w.objects c.args.x valid in
    let number : to_z w32 c.args.x ≡ pos c.args.x = to_z_pos w32 c.args.x (let few = c.self.invariant.formed.few in omega (arith, low, few)) in
    let objects = c.lose_all_along.ensures ∙ ap (λ o. changed_along (without_cells_of c.args.x) (set w.objects c.args.x o) (met c.deref-2.result.now)) c.empty.ensures ∙
    ap (λ ys. changed_along (without_cells_of c.args.x) (set w.objects c.args.x None) (met ys)) c.deref-2.ensures.value ∙ left_is w c.args.x c.self.invariant.formed valid c.in_ok-walk.walk.items c.in_ok-walk.ensures in
    let parents = c.in_ok-dissolve.ensures.ok ∙ ap (dissolved w.inheritance c.args.x) c.above-parent.ensures.value in
    let players = c.take_player_out.ensures ∙ ap (λ p. players_with w.players p false) number in
    let here = thing_read w.objects c.args.x c.index.result.now valid c.index.ensures in
    let own : c.programs_on-programs.result ≡ programs_of (thing_of w.objects c.args.x).verbs = c.programs_on-programs.ensures ∙ ap (λ (o : Object). programs_of o.verbs) here in
    let gone = programs_recycled w.objects c.args.x low in
    let all = c.self.invariant.counted in
    rw (objects, parents, c.scatter.ensures, players) (record { formed = recycled_well_formed w c.args.x c.self.invariant.formed valid; counted = omega (arith, own, gone, all) })

pub returns : goal.returns
returns c =
    let w : World = record { objects = c.self.inside.objects.items; inheritance = c.self.inside.inheritance; containment = c.self.inside.containment; players = c.self.inside.players.items } in
    let valid = subst (λ v. IsSome (object_of v.objects c.args.x)) (sym c.self.view_is) c.requires in
    let low = valid_within w.objects c.args.x valid in
    let number : to_z w32 c.args.x ≡ pos c.args.x = to_z_pos w32 c.args.x (let few = c.self.invariant.formed.few in omega (arith, low, few)) in
    let objects = c.lose_all_along.ensures ∙ ap (λ o. changed_along (without_cells_of c.args.x) (set w.objects c.args.x o) (met c.deref-2.result.now)) c.empty.ensures ∙
    ap (λ ys. changed_along (without_cells_of c.args.x) (set w.objects c.args.x None) (met ys)) c.deref-2.ensures.value ∙ left_is w c.args.x c.self.invariant.formed valid c.in_ok-walk.walk.items c.in_ok-walk.ensures in
    let parents = c.in_ok-dissolve.ensures.ok ∙ ap (dissolved w.inheritance c.args.x) c.above-parent.ensures.value in
    let players = c.take_player_out.ensures ∙ ap (λ p. players_with w.players p false) number in
    (refl, (rw (objects, parents, c.scatter.ensures, players) (ap (λ v. after_recycle v c.args.x) c.self.view_is)))
