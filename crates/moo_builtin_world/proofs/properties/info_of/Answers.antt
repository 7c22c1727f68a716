use Rattle.std.proofs.Common.{w32}
use Rattle.std.proofs.lemmas.Int.{to_z-of_z}
use Rattle.moo_builtin_world.specs.Properties.{info_told}
use Rattle.moo_builtin_world.proofs.Informed.{info_asked}
use Rattle.moo_builtin_world.proofs.properties.info_of.Goals as goal

pub returns-in-Ok : goal.returns-in-Ok
unfolding info_told
returns-in-Ok c =
    let o = to_z-of_z w32 c.args.o c.ranges.o in
    let p = to_z-of_z w32 c.args.programmer c.ranges.programmer in
    let n = c.as_bytes-name.ensures.value in
    let told = simp (o, n) at c.in-Ok.ensures.info in
    info_asked _ _ _ _ _ _ (simp (o, p, n) at c.may_read_property-is_allowed.ensures) told.0 told.1 c.asked_info.ensures
