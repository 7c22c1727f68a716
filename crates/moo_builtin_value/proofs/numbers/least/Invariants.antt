use Rattle.std.proofs.Common.{◌≡◌, drop}
use Rattle.moo_value.specs.View.{trees}
use Rattle.moo_builtin_value.specs.Numbers.{least_of}
use Rattle.moo_builtin_value.proofs.numbers.least.Given as goal

abbrev pub invariant-loop-value : goal.invariant-loop-value
invariant-loop-value l = least_of l.initial.best (trees l.others) ≡ least_of l.best (trees (drop l.value-index l.others))
