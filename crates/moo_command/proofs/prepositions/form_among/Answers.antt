use Rattle.moo_command.proofs.Splits.{form_fits}
use Rattle.moo_command.proofs.prepositions.form_among.Goals as goal

pub returns-then-begins_with-clause-fits : goal.returns-then-begins_with-clause-fits
returns-then-begins_with-clause-fits c = form_fits _ c.args.words.now _ c.begins_with.ensures c.if-begins_with.true
