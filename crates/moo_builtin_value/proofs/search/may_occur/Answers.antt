use Rattle.std.proofs.Common.{sym, ◌∙◌, arith}
use Rattle.std.proofs.lemmas.Bool.{eqb-false}
use Rattle.moo_builtin_value.proofs.Occurring.{first_alike}
use Rattle.moo_builtin_value.proofs.search.may_occur.Goals as goal

pub returns-in-len1-up : goal.returns-in-len1-up
returns-in-len1-up c = λ f occurs.
    eqb-false _ _ (sym c.eq_ignore_ascii_case.ensures ∙ f) (first_alike c.args.text.now c.args.wanted.now c.args.at (omega (arith, c.in-len1-up.len_at_least)) c.requires occurs)
