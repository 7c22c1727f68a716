use Rattle.moo_value.proofs.Alike.{as_compared-list_of}
use Rattle.moo_value.specs.declared.compare.Letters.TheVariants.{Folded}
use Rattle.moo_value.proofs.laws.letters_are_folded.Goals as goal

pub returns-clause-lists : goal.returns-clause-lists
returns-clause-lists c = as_compared-list_of Folded
