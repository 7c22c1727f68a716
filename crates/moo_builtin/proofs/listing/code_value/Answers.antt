use Rattle.moo_builtin.specs.Listed.{listed}
use Rattle.moo_builtin.proofs.Heavy.{heavy}
use Rattle.moo_builtin.proofs.listing.code_value.Goals as goal

pub returns-in-Err-TooHeavy : goal.returns-in-Err-TooHeavy
returns-in-Err-TooHeavy c = rw c.in-Some.is (heavy (listed c.args.form.full c.args.form.indents c.in-Some.program) (simp c.in-Err-TooHeavy.field-0-is at c.in-Err-TooHeavy.ensures.refused))
