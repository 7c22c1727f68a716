use Rattle.std.proofs.Common.{◌≡◌, take}
use Rattle.moo_value.specs.View.{trees}
use Rattle.moo_eval_frame.specs.Gathered.{in_a_row}
use Rattle.moo_eval_frame.proofs.gathered.copied.Given as goal

abbrev pub invariant-loop-stretch : goal.invariant-loop-stretch
invariant-loop-stretch l = trees l.values.items ≡ in_a_row (take l.stretch-index l.stretches)
