use Rattle.std.proofs.Common.{arith}
use Rattle.moo_dbtext_object.proofs.TextLaws.{small_found}
use Rattle.moo_dbtext_object.proofs.value_reader.error.Goals as goal

pub returns-in-None-clause-gives : goal.returns-in-None-clause-gives
returns-in-None-clause-gives c =
    let low = small_found 15 c.args.line.now c.in_ok-number.number c.in_ok-number.ensures.gives in
    let high = c.in-None.ensures.none in
    absurd (omega arith)
