use Rattle.std.proofs.Common.{sym}
use Rattle.moo_eval_slot.proofs.Hinted.{spelled}
use Rattle.moo_eval_slot.proofs.slots.own_slot.Goals as goal

pub returns-then-is_spelled : goal.returns-then-is_spelled
returns-then-is_spelled c =
    let found = c.is_spelled.ensures c.if-is_spelled.true in
    sym (spelled c.args.program.now c.hint-hint.result c.args.name.now found.0 found.1)
