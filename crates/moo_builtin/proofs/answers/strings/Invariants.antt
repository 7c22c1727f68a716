use Rattle.std.proofs.Common.{◌≡◌, map}
use Rattle.moo_value.specs.Tree.{string}
use Rattle.moo_value.specs.View.{trees}
use Rattle.moo_builtin.proofs.answers.strings.Given as goal

abbrev pub invariant-loop-line : goal.invariant-loop-line
invariant-loop-line l = trees l.values.items ≡ map (λ line. string line) l.yielded
