use Rattle.std.proofs.Common.{◌≡◌, pos, Some, true, false, ltb, sym, ◌∙◌, ap, subst, arith, length, IsSome, refl, w32, to_z}
use Rattle.std.proofs.lemmas.Int.{to_z_pos}
use Rattle.moo_world_table.specs.World.{World, object_of, most}
use Rattle.moo_world_table.specs.Players.{players_with}
use Rattle.moo_world.specs.PlayerCalls.{set_player_raises}
use Rattle.moo_world_table.proofs.Changing.{valid_within}
use Rattle.moo_world.proofs.World.test_player.Goals as goal

pub too_many-requires : goal.too_many-requires
too_many-requires c = let len = ap length c.deref.ensures.value in let few = c.self.invariant.formed.few_players in omega (arith, len, few)

pub returns-then-too_many-clause-raises : goal.returns-then-too_many-clause-raises
returns-then-too_many-clause-raises c =
    let w : World = record { objects = c.self.inside.objects.items; inheritance = c.self.inside.inheritance; containment = c.self.inside.containment; players = c.self.inside.players.items } in
    let valid = subst (λ v. IsSome (object_of v.objects c.args.x)) (sym c.self.view_is) c.requires in
    let low = valid_within w.objects c.args.x valid in
    let number : to_z w32 c.args.x ≡ pos c.args.x = to_z_pos w32 c.args.x (let few = c.self.invariant.formed.few in omega (arith, low, few)) in
    let test : ltb most (length (players_with w.players (pos c.args.x) c.args.on)) ≡ true = ap (λ p. ltb most (length (players_with w.players p c.args.on))) (sym number) ∙
    ap (λ ps. ltb most (length (players_with ps (to_z w32 c.args.x) c.args.on))) (sym c.deref.ensures.value) ∙ sym c.too_many.ensures ∙ c.if-too_many.true in
    ap (λ v. set_player_raises v (Some c.args.x) c.args.on) (sym c.self.view_is) ∙ (rw test refl)

pub returns-clause-raises : goal.returns-clause-raises
returns-clause-raises c =
    let w : World = record { objects = c.self.inside.objects.items; inheritance = c.self.inside.inheritance; containment = c.self.inside.containment; players = c.self.inside.players.items } in
    let valid = subst (λ v. IsSome (object_of v.objects c.args.x)) (sym c.self.view_is) c.requires in
    let low = valid_within w.objects c.args.x valid in
    let number : to_z w32 c.args.x ≡ pos c.args.x = to_z_pos w32 c.args.x (let few = c.self.invariant.formed.few in omega (arith, low, few)) in
    let test : ltb most (length (players_with w.players (pos c.args.x) c.args.on)) ≡ false = ap (λ p. ltb most (length (players_with w.players p c.args.on))) (sym number) ∙
    ap (λ ps. ltb most (length (players_with ps (to_z w32 c.args.x) c.args.on))) (sym c.deref.ensures.value) ∙ sym c.too_many.ensures ∙ c.if-too_many.false in
    (ap (λ v. set_player_raises v (Some c.args.x) c.args.on) (sym c.self.view_is) ∙ (rw test refl), tt)
