use Rattle.std.proofs.Common.{ℕ, List, inr, ◌∙◌, subst}
use Rattle.std.specs.Io.KnownBytes.{Appends}
use Rattle.std.proofs.KnownBytes.{Appends-nil}
use Rattle.std.proofs.lemmas.Result.{err_from_is_err_and}
use Rattle.moo_cli_serve.proofs.report.report_address.Goals as goal

pub returns-in_err-line-clause-nothing : goal.returns-in_err-line-clause-nothing
returns-in_err-line-clause-nothing g c =
    let p = err_from_is_err_and c.from_residual.result c.from_residual.ensures.1 in rw p.1 (inr (Appends-nil _))

pub returns-in-Ok-clause-text : goal.returns-in-Ok-clause-text
returns-in-Ok-clause-text g c =
    subst (λ (t : List ℕ). Appends (g.O.Write.contents c.args.output.now) (g.O.Write.contents c.print.new.output) t) (c.as_bytes.ensures.value ∙ c.in_ok-line.ensures.ok) c.in-Ok.ensures.text
