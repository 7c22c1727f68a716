use Rattle.std.proofs.Common.{◌≡◌, map, take}
use Rattle.moo_value.specs.Tree.{object}
use Rattle.moo_value.specs.View.{trees}
use Rattle.moo_builtin_world.proofs.objects.objects.Given as goal

abbrev pub invariant-loop-number : goal.invariant-loop-number
invariant-loop-number l = trees l.values.items ≡ map (λ o. object o) (take l.number-index l.numbers)
