use Rattle.std.proofs.Common.{◌≡◌, drop, map}
use Rattle.moo_command.specs.Inner.{form_of, form_among}
use Rattle.moo_command.proofs.prepositions.form_among.Given as goal

abbrev pub invariant-loop-form : goal.invariant-loop-form
invariant-loop-form l = form_among (map form_of l.forms) l.words ≡ form_among (map form_of (drop l.form-index l.forms)) l.words
