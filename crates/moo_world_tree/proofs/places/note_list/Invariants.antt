use Rattle.std.proofs.Common.{◌≡◌}
use Rattle.moo_world_tree.proofs.places.note_list.Given as goal

abbrev pub invariant-loop-place : goal.invariant-loop-place
invariant-loop-place l = l.nodes.items ≡ l.initial.nodes.items
