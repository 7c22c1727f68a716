use Rattle.moo_dbtext_restore.proofs.Trees.{tree_is_sound}
use Rattle.moo_dbtext_restore.proofs.laws.links_of_a_forest_are_sound.Goals as goal

pub returns : goal.returns
returns c = λ tree x forest says. tree_is_sound c.args._links.now tree forest says x
