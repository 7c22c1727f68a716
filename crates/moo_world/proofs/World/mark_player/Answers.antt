use Rattle.std.proofs.Common.{◌≡◌, pos, Some, sym, ◌∙◌, ap, subst, arith, length, IsSome, refl, w32, to_z}
use Rattle.std.proofs.lemmas.Int.{to_z_pos}
use Rattle.moo_world_table.proofs.Changing.{valid_within}
use Rattle.moo_world_table.specs.World.{World, object_of}
use Rattle.moo_world_table.specs.Changes.{with_object}
use Rattle.moo_world_table.specs.Players.{players_with, as_player, after_set_player}
use Rattle.moo_world.specs.PlayerCalls.{set_player_raises}
use Rattle.moo_world_table.proofs.Single.{slot_changed, object_kept}
use Rattle.moo_world_table.proofs.PlayerLists.{players_free, marked, numbers_listed, players_counted}
use Rattle.moo_world.proofs.World.mark_player.Goals as goal

pub invariant_of-self-2 : goal.invariant_of-self-2
invariant_of-self-2 c =
    let w : World = record { objects = c.self.inside.objects.items; inheritance = c.self.inside.inheritance; containment = c.self.inside.containment; players = c.self.inside.players.items } in
    let valid = subst (λ v. IsSome (object_of v.objects c.args.x)) (sym c.self.view_is) c.requires in
    let slot = slot_changed w.objects c.args.x (as_player c.args.on) c.index_mut.result.now c.mark_in.new.slot valid c.index_mut.ensures.value c.mark_in.ensures in
    let few = players_free (length (players_with w.players (pos c.args.x) c.args.on)) (ap (λ v. set_player_raises v (Some c.args.x) c.args.on) c.self.view_is ∙ c.in_ok-test_player.ensures.raises.0) in
    let low = valid_within w.objects c.args.x valid in
    let number : to_z w32 c.args.x ≡ pos c.args.x = to_z_pos w32 c.args.x (let few = c.self.invariant.formed.few in omega (arith, low, few)) in
    let listed = c.in_ok-list_player.ensures.ok ∙ ap (λ p. players_with w.players p c.args.on) number in
    rw (slot, listed) (players_counted (with_object w c.args.x (as_player c.args.on)) (players_with w.players (pos c.args.x) c.args.on) c.self.inside.programs (object_kept w c.args.x (as_player c.args.on) c.self.inside.programs c.self.invariant valid (marked c.args.x c.args.on w) refl) few
    (numbers_listed w.players (pos c.args.x) c.args.on c.self.invariant.formed.player_numbers (record { sfits = (let few = c.self.invariant.formed.few in omega (arith, low, few)) })))

pub returns-clause-world : goal.returns-clause-world
returns-clause-world c =
    let w : World = record { objects = c.self.inside.objects.items; inheritance = c.self.inside.inheritance; containment = c.self.inside.containment; players = c.self.inside.players.items } in
    let valid = subst (λ v. IsSome (object_of v.objects c.args.x)) (sym c.self.view_is) c.requires in
    let slot = slot_changed w.objects c.args.x (as_player c.args.on) c.index_mut.result.now c.mark_in.new.slot valid c.index_mut.ensures.value c.mark_in.ensures in
    let low = valid_within w.objects c.args.x valid in
    let number : to_z w32 c.args.x ≡ pos c.args.x = to_z_pos w32 c.args.x (let few = c.self.invariant.formed.few in omega (arith, low, few)) in
    let listed = c.in_ok-list_player.ensures.ok ∙ ap (λ p. players_with w.players p c.args.on) number in
    (c.in_ok-test_player.ensures.raises.0, (rw (slot, listed) (ap (λ v. after_set_player v c.args.x c.args.on) c.self.view_is)))
