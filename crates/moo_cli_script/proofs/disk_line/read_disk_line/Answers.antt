use Rattle.std.proofs.Common.{sym, ◌∙◌}
use Rattle.std.proofs.lemmas.Bool.{false≢true}
use Rattle.moo_cli_script.proofs.Forms.{no_disk_line}
use Rattle.moo_cli_script.proofs.disk_line.read_disk_line.Goals as goal

pub returns-in-None : goal.returns-in-None
returns-in-None c =
    no_disk_line c.args.line.now (λ e. false≢true (sym c.if-is_same.false ∙ c.is_same.ensures.1 e)) (λ e. false≢true (sym c.if-is_same-2.false ∙ c.is_same-2.ensures.1 e))
    (λ e. false≢true (sym c.if-is_same-3.false ∙ c.is_same-3.ensures.1 e)) c.in_default.ensures c.in_default-number_after.ensures c.in-None.ensures
