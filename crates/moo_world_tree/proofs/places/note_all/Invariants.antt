use Rattle.std.proofs.Common.{◌≡◌}
use Rattle.moo_world_tree.proofs.places.note_all.Given as goal

abbrev pub invariant-loop-up : goal.invariant-loop-up
invariant-loop-up l = l.nodes.items ≡ l.initial.nodes.items
