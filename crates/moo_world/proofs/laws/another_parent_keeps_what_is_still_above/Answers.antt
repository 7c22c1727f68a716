use Rattle.moo_world.proofs.Reparented.{reparented}
use Rattle.moo_world.proofs.laws.another_parent_keeps_what_is_still_above.Goals as goal

pub returns : goal.returns
returns c = reparented c.args.world.now c.args.x c.args.p c.is_well_formed.ensures c.requires.object c.requires.parent c.requires.allowed
