use Rattle.std.proofs.Common.{arith}
use Rattle.moo_dbtext_object.proofs.TextLaws.{small_found}
use Rattle.moo_dbtext_object.proofs.field.property_perms.Goals as goal

pub returns-in-None : goal.returns-in-None
returns-in-None c =
    let low = small_found 7 c.args.line.now c.in_ok-number.number c.in_ok-number.ensures.gives in
    let high = c.in-None.ensures.none in
    absurd (omega arith)
