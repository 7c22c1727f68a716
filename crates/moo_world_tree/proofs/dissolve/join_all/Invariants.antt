use Rattle.std.proofs.Common.{◌≡◌, drop, vec_len}
use Rattle.moo_world_tree.specs.Steps.{with_all_joined}
use Rattle.moo_world_tree.proofs.dissolve.join_all.Given as goal

-- joining the nodes that are left completes the result
abbrev pub invariant-loop-x : goal.invariant-loop-x
invariant-loop-x l = record {
  rest : with_all_joined l.nodes.items (drop l.x-index l.xs) l.to ≡ with_all_joined l.initial.nodes.items l.xs l.to;
  many : vec_len l.nodes ≡ vec_len l.initial.nodes;
}
