use Rattle.std.proofs.Common.{w32, rules}
use Rattle.std.proofs.lemmas.Int.{to_z-of_z}
use mir.Val.{SFits}
use Rattle.moo_builtin_world.proofs.objects.shown.Goals as goal

pub returns-in-IsPlayer : goal.returns-in-IsPlayer
returns-in-IsPlayer c =
    let fits : SFits w32 c.args.o = search rules in
    rw c.in-IsPlayer.is (rw (to_z-of_z w32 c.args.o fits) at c.shown_player.ensures)

pub returns-in-Parent : goal.returns-in-Parent
returns-in-Parent c =
    let fits : SFits w32 c.args.o = search rules in
    rw c.in-Parent.is (rw (to_z-of_z w32 c.args.o fits) at c.shown_parent.ensures)
