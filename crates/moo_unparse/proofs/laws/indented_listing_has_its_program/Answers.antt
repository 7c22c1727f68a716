use Rattle.std.proofs.Common.{true}
use Rattle.moo_unparse.specs.declared.form.Form.{Form}
use Rattle.moo_unparse.specs.declared.form.Parentheses.TheVariants.{All}
use Rattle.moo_unparse.proofs.Law.{form_is_program, form_is_no_other}
use Rattle.moo_unparse.proofs.laws.indented_listing_has_its_program.Goals as goal

abbrev form : Form
form = record { parentheses = All; indent = true }

pub returns : goal.returns
returns c = record { program = form_is_program form; no_other = form_is_no_other form }
