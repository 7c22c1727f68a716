use Rattle.moo_world.proofs.Born.{created}
use Rattle.moo_world.proofs.laws.a_new_object_reads_as_its_parent.Goals as goal

pub returns : goal.returns
returns c = created c.args.world.now c.args.parent c.args.owner c.is_well_formed.ensures c.requires
