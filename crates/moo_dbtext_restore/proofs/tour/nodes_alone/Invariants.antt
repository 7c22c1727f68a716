use Rattle.std.proofs.Common.{◌≡◌, ℕ, [], length}
use Rattle.moo_world_tree.specs.Forest.{below_of}
use Rattle.moo_dbtext_restore.proofs.tour.nodes_alone.Given as goal

abbrev pub invariant-loop : goal.invariant-loop
invariant-loop l = record {
  len : length l.nodes.items ≡ l.counter;
  alone : (x : ℕ) → below_of l.nodes.items x ≡ [];
}
