use Rattle.std.proofs.Common.{◌≡◌, ◌∙◌, refl, ap, w32, SFits, to_z, of_z, rules}
use Rattle.std.proofs.lemmas.Int.{to_z-of_z}
use Rattle.moo_command.specs.Objects.{room_of}
use Rattle.moo_command.proofs.Naming.{near_begun, near_whole}
use Rattle.moo_command.proofs.matching.named_near.Goals as goal

pub returns-in-Nothing : goal.returns-in-Nothing
returns-in-Nothing c =
    let player_fits : SFits w32 c.args.player = search rules in
    let player : to_z w32 (of_z w32 c.args.player) ≡ c.args.player = to_z-of_z w32 c.args.player player_fits in
    let fits : SFits w32 c.number.result = search rules in
    let room_fits : SFits w32 c.room_of-room.result = search rules in
    to_z-of_z w32 c.number.result fits ∙ c.number.ensures
    ∙ near_begun c.args.world.now c.args.text.now c.args.player _ _ c.found_near.result c.found_near-in-Nothing.result player
    (to_z-of_z w32 c.room_of-room.result room_fits ∙ c.room_of-room.ensures ∙ ap (room_of c.args.world.now) player)
    c.found_near.ensures c.found_near-in-Nothing.ensures c.in-Nothing.is

pub returns-in_default : goal.returns-in_default
returns-in_default c =
    let player_fits : SFits w32 c.args.player = search rules in
    let player : to_z w32 (of_z w32 c.args.player) ≡ c.args.player = to_z-of_z w32 c.args.player player_fits in
    let fits : SFits w32 c.number-in_default.result = search rules in
    let room_fits : SFits w32 c.room_of-room.result = search rules in
    to_z-of_z w32 c.number-in_default.result fits ∙ c.number-in_default.ensures
    ∙ near_whole c.args.world.now c.args.text.now c.args.player _ _ c.found_near.result c.found_near.result player
    (to_z-of_z w32 c.room_of-room.result room_fits ∙ c.room_of-room.ensures ∙ ap (room_of c.args.world.now) player)
    c.found_near.ensures refl c.in_default.not-Nothing
