use Rattle.std.proofs.Common.{◌≡◌, ◌<◌, ℕ, length}
use Rattle.moo_world_tree.specs.Rooted.{IsRooted, MarksEnd}
use Rattle.moo_world_tree.proofs.rooted.first_in.Given as goal

abbrev pub invariant-loop-from : goal.invariant-loop-from
invariant-loop-from l = record {
  len : length l.marks ≡ length l.nodes;
  marked : MarksEnd l.nodes l.marks l.from;
  below : (y : ℕ) → y < l.from → IsRooted l.nodes y;
}
