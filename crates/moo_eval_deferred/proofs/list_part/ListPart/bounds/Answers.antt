use Rattle.moo_eval_access.proofs.Bounded.{part_bounds}
use Rattle.moo_eval_deferred.proofs.list_part.ListPart.bounds.Goals as goal

pub returns : goal.returns
returns c = rw (← c.self.view_is) (part_bounds c.self.inside.list c.self.inside.from c.self.inside.to _ _ c.weight.ensures.weight c.depth.ensures.depth)
