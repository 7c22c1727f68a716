use Rattle.std.proofs.Common.{◌≡◌, [], length}
use Rattle.moo_world_tree.specs.Listed.{held, AreMarked}
use Rattle.moo_world_tree.proofs.listed.mark_lists.Given as goal

abbrev pub invariant-loop-x : goal.invariant-loop-x
invariant-loop-x l = record {
  len : length l.listed ≡ length l.nodes;
  marked : AreMarked l.nodes l.listed (held l.nodes l.x []);
}
