use Rattle.std.proofs.Common.{◌≡◌, ◌++◌, length}
use Rattle.moo_world_tree.specs.Listed.{held, AreMarked}
use Rattle.moo_world_tree.proofs.listed.mark_list.Given as goal

abbrev pub invariant-loop-y : goal.invariant-loop-y
invariant-loop-y l = record {
  len : length l.listed ≡ length l.nodes;
  whole : l.yielded ++ l.y-iterator ≡ l.initial.y-iterator;
  marked : AreMarked l.nodes l.listed (held l.nodes l.x l.yielded);
}
