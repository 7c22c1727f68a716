use Rattle.std.proofs.Common.{◌∙◌, ap, Ok, sym}
use Rattle.moo_dbtext_object.specs.Lines.{limited}
use Rattle.moo_dbtext_object.proofs.TextLaws.{text_again, text_bad, text_heavy}
use Rattle.moo_dbtext_object.proofs.line.text.Goals as goal

pub returns-in-Ok : goal.returns-in-Ok
returns-in-Ok c = text_again limited c.args.line.now c.in-Ok.ensures.string ∙ ap Ok (sym c.in-Ok.ensures.ok)

pub returns-in-Err-BadByte : goal.returns-in-Err-BadByte
returns-in-Err-BadByte c = let refused = rw c.in-Err-BadByte.field-0-is at c.in-Err-BadByte.ensures.err in text_bad c.args.line.now refused

pub returns-in-Err-TooHeavy : goal.returns-in-Err-TooHeavy
returns-in-Err-TooHeavy c = let refused = rw c.in-Err-TooHeavy.field-0-is at c.in-Err-TooHeavy.ensures.err in text_heavy c.args.line.now refused.0 refused.1
