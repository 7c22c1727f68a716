use Rattle.std.proofs.Common.{◌≡◌, pos, map}
use Rattle.moo_value.specs.Tree.{object}
use Rattle.moo_value.specs.View.{trees}
use Rattle.moo_world.proofs.named.contents_value.Given as goal

abbrev pub invariant-loop-y : goal.invariant-loop-y
invariant-loop-y l = trees l.values.items ≡ map (λ y. object (pos y)) l.yielded
