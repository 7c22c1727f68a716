use Rattle.std.proofs.Common.{arith}
use Rattle.moo_dbtext_object.specs.Lines.{limited}
use Rattle.moo_dbtext_object.proofs.TextLaws.{text_again, text_bad, text_heavy}
use Rattle.moo_dbtext_object.proofs.field.note.Goals as goal

pub returns-then-not-is_text : goal.returns-then-not-is_text
returns-then-not-is_text c = text_bad c.args.line.now (λ h. let is = c.is_text.ensures.1 h in absurd cc)

pub returns-then-line : goal.returns-then-line
returns-then-line c = text_heavy c.args.line.now (c.is_text.ensures.0 c.if-not-is_text.false) (λ s. omega (arith, s.fits, c.if-line.true))

pub returns : goal.returns
returns c = text_again limited c.args.line.now (record { text = c.is_text.ensures.0 c.if-not-is_text.false; fits = c.if-line.false })
