use Rattle.std.proofs.Common.{◌<◌, ◌≤◌, length, arith}
use Rattle.moo_world_object.proofs.Letters.{set_at, set_past}
use Rattle.moo_world_object.proofs.verb_list.set_number.Goals as goal

pub returns-then-index-len : goal.returns-then-index-len
returns-then-index-len c =
    let within : c.args.index < length c.args.numbers.now.items = omega (arith, c.if-index-len.true, c.len.ensures, c.args.numbers.now.ok.0) in
    set_at c.args.numbers.now.items c.args.index c.args.number within

pub returns-else-index-len : goal.returns-else-index-len
returns-else-index-len c =
    let past : length c.args.numbers.now.items ≤ c.args.index = omega (arith, c.if-index-len.false, c.len.ensures, c.args.numbers.now.ok.0) in
    set_past c.args.numbers.now.items c.args.index c.args.number past
