use Rattle.std.proofs.Common.{Bool}
use Rattle.moo_unparse.specs.declared.form.Form.{Form}
use Rattle.moo_unparse.specs.declared.form.Parentheses.TheVariants.{Needed}
use Rattle.moo_unparse.proofs.Law.{form_is_program, form_is_no_other}
use Rattle.moo_unparse.proofs.laws.short_listing_has_its_program.Goals as goal

abbrev form : Bool → Form
form i = record { parentheses = Needed; indent = i }

pub returns : goal.returns
returns c = record { program = λ names lines i. form_is_program (form i) names lines; no_other = λ names lines i. form_is_no_other (form i) names lines }
