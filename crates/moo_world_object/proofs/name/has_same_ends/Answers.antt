use Rattle.std.proofs.Common.{◌-◌, length, arith}
use Rattle.moo_world_object.proofs.Names.{ends_same, rests_same}
use Rattle.moo_world_object.proofs.name.has_same_ends.Goals as goal

pub returns-then-is_same_part : goal.returns-then-is_same_part
returns-then-is_same_part c = λ same.
    ends_same c.args.one.now c.args.other.now c.args.count (length c.args.one.now - c.args.count) (omega (arith, c.requires.high)) (c.is_same_part.ensures c.if-is_same_part.true) (rests_same c.args.one.now c.args.other.now (length c.args.one.now - c.args.count) (c.is_same_part-then-is_same_part.ensures same))
