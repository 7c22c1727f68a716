use Rattle.std.proofs.Common.{sym, ◌∙◌}
use Rattle.std.proofs.lemmas.Bool.{false≢true}
use Rattle.moo_cli_script.proofs.Splits.{front_of}
use Rattle.moo_cli_script.proofs.number.following.Goals as goal

pub returns : goal.returns
returns c = λ rest e. false≢true (sym c.if-is_same.false ∙ c.is_same.ensures.1 (c.split_at.ensures.front ∙ front_of c.args.line.now c.args.word.now rest e))
