use Rattle.std.proofs.Common.{find, length, ap, ◌∙◌}
use Rattle.moo_syntax_token.specs.Words.{is_spelled, likely}
use Rattle.moo_syntax_token.proofs.Naming.{found_likely}
use Rattle.moo_syntax_token.proofs.keyword.Keyword.of.Goals as goal

pub returns : goal.returns
returns c =
    c.first_spelled.ensures
    ∙ ap (find (is_spelled c.args.word.now)) (c.likely.ensures ∙ ap (likely (length c.args.word.now)) c.first_letter.ensures)
    ∙ found_likely c.args.word.now
