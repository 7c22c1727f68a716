use Rattle.std.proofs.Common.{w32, SFits, rules}
use Rattle.std.proofs.lemmas.Int.{to_z-of_z}
use Rattle.moo_command.specs.Inner.{covers}
use Rattle.moo_command.proofs.Naming.{found_both}
use Rattle.moo_command.proofs.named.found_near.Goals as goal

pub returns : goal.returns
returns c =
    let player_fits : SFits w32 c.args.player = search rules in
    let room_fits : SFits w32 c.args.room = search rules in
    found_both c.args.world.now (covers c.args.extent c.args.text.now) _ _ c.args.player c.args.room c.found_in-found.result c.found_in.result
    (to_z-of_z w32 c.args.player player_fits) (to_z-of_z w32 c.args.room room_fits) c.found_in-found.ensures c.found_in.ensures
