use Rattle.std.proofs.Common.{◌≡◌, map, take}
use Rattle.moo_value.specs.Tree.{string}
use Rattle.moo_value.specs.View.{trees}
use Rattle.moo_builtin_world.proofs.properties.strings.Given as goal

abbrev pub invariant-loop-name : goal.invariant-loop-name
invariant-loop-name l = trees l.values.items ≡ map (λ name. string name) (take l.name-index l.names)
