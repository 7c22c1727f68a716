use Rattle.std.proofs.Common.{◌≡◌, map, take}
use Rattle.moo_value.specs.Tree.{string}
use Rattle.moo_value.specs.View.{trees}
use Rattle.moo_builtin_world.proofs.verbs.names_of.Given as goal

abbrev pub invariant-loop-verb : goal.invariant-loop-verb
invariant-loop-verb l = trees l.values.items ≡ map (λ v. string v.names) (take l.verb-index l.verbs)
