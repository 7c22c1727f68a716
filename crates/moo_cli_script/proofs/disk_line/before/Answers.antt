use Rattle.std.proofs.Common.{sym, ◌∙◌}
use Rattle.std.proofs.lemmas.Bool.{false≢true}
use Rattle.moo_cli_script.proofs.Splits.{end_of}
use Rattle.moo_cli_script.proofs.disk_line.before.Goals as goal

pub returns : goal.returns
returns c = λ front e. false≢true (sym c.if-is_same.false ∙ c.is_same.ensures.1 (c.split_at.ensures.back ∙ end_of c.args.line.now front c.args.word.now e))
