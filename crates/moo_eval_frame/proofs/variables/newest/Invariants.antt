use Rattle.std.proofs.Common.{◌≡◌, length}
use Rattle.moo_value.specs.Compare.{folded}
use Rattle.moo_eval_frame.specs.Seen.{value_among}
use Rattle.moo_eval_frame.proofs.variables.newest.Given as goal

-- the name has among the variables that are left what it has among all
abbrev pub invariant-loop-newest : goal.invariant-loop-newest
invariant-loop-newest l = value_among l.rest (folded l.name) ≡ value_among l.fn.others (folded l.name)

abbrev pub decreases-loop-newest : goal.decreases-loop-newest
decreases-loop-newest l = length l.rest
