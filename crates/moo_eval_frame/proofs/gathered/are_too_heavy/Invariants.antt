use Rattle.std.proofs.Common.{◌≤◌, take}
use Rattle.moo_value.specs.Size.{list_weight, weight_limit}
use Rattle.moo_eval_frame.specs.Gathered.{in_a_row}
use Rattle.moo_eval_frame.proofs.gathered.are_too_heavy.Given as goal

-- the lists so far weigh no more than all the stretches so far
abbrev pub invariant-loop-stretch : goal.invariant-loop-stretch
invariant-loop-stretch l = record {
  fits : l.weight ≤ weight_limit;
  weight : l.weight ≤ list_weight (in_a_row (take l.stretch-index l.stretches));
}
