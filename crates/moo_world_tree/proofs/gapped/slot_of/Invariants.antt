use Rattle.std.proofs.Common.{◌≡◌, eqb, take}
use Rattle.std.specs.List.{count_by}
use Rattle.moo_world_tree.specs.Gapped.{present}
use Rattle.moo_world_tree.proofs.gapped.slot_of.Given as goal

-- the node isn't in the slots before i
abbrev pub invariant-loop-i : goal.invariant-loop-i
invariant-loop-i l = count_by (eqb l.x) (present (take l.i l.slots)) ≡ 0
