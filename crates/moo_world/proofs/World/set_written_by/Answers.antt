use Rattle.std.proofs.Common.{w32, rules}
use Rattle.std.proofs.lemmas.Int.{to_z-of_z}
use mir.Val.{SFits}
use Rattle.moo_world.proofs.World.set_written_by.Goals as goal

pub returns-in-Some-clause-world : goal.returns-in-Some-clause-world
returns-in-Some-clause-world c =
    let rights : SFits w32 c.args.programmer = search rules in
    let fits : SFits w32 c.args.o = search rules in
    rw (to_z-of_z w32 c.args.programmer rights, to_z-of_z w32 c.args.o fits) at c.set_valid_written_by.ensures.world
