use Rattle.std.proofs.Common.{◌≡◌, pos, map}
use Rattle.moo_value.specs.Tree.{object}
use Rattle.moo_value.specs.View.{trees}
use Rattle.moo_builtin_world.proofs.objects.numbered.Given as goal

abbrev pub invariant-loop-number : goal.invariant-loop-number
invariant-loop-number l = trees l.values.items ≡ map (λ y. object (pos y)) l.yielded
