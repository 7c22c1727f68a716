use Rattle.moo_dbtext_restore.proofs.Trees.{sound_forest, tree_of_sound}
use Rattle.moo_dbtext_restore.proofs.nodes.forest_of.Goals as goal

pub from_nodes-requires : goal.from_nodes-requires
from_nodes-requires c = sound_forest c.args.links.now c.args.nodes.items c.requires.nodes c.requires.sound

pub returns : goal.returns
returns c = rw c.from_nodes.ensures (tree_of_sound c.args.links.now c.args.nodes.items c.requires.nodes c.requires.sound)
