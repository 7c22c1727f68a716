use Rattle.moo_syntax.proofs.Exceeding.{long_or_wide}
use Rattle.moo_syntax.proofs.laws.deep_texts_are_long.Goals as goal

pub returns : goal.returns
returns c = long_or_wide
