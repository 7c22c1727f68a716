use Rattle.std.proofs.Common.{sym, ◌∙◌}
use Rattle.moo_world_object.proofs.Letters.{letter_tells}
use Rattle.moo_world_object.proofs.filter_letter.letter_of.Goals as goal

pub returns : goal.returns
returns c = letter_tells c.first_letter-letter.result c.args.names.now (sym c.some_begins_otherwise.ensures ∙ c.if-some_begins_otherwise.false)
