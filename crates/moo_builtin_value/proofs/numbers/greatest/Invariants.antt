use Rattle.std.proofs.Common.{◌≡◌, drop}
use Rattle.moo_value.specs.View.{trees}
use Rattle.moo_builtin_value.specs.Numbers.{greatest_of}
use Rattle.moo_builtin_value.proofs.numbers.greatest.Given as goal

abbrev pub invariant-loop-value : goal.invariant-loop-value
invariant-loop-value l = greatest_of l.initial.best (trees l.others) ≡ greatest_of l.best (trees (drop l.value-index l.others))
