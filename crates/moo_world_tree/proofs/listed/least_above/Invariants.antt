use Rattle.moo_world_tree.specs.Listed.{IsLeast}
use Rattle.moo_world_tree.proofs.listed.least_above.Given as goal

abbrev pub invariant-loop-y : goal.invariant-loop-y
invariant-loop-y l = IsLeast l.nodes l.listed l.limit l.least l.y
