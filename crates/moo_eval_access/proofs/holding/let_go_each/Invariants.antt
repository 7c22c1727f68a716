use Rattle.std.proofs.Common.{◌≡◌, Result, ◌-◌, ◌≤◌, length}
use Rattle.moo_value.specs.declared.error_code.ErrorCode.{ErrorCode}
use Rattle.moo_value.specs.Tree.{Tree}
use Rattle.moo_eval_access.specs.Target.{rebuilt}
use Rattle.moo_eval_access.specs.SeenTarget.{steps_of}
use Rattle.moo_eval_access.proofs.holding.let_go_each.Given as goal

abbrev pub invariant-loop-next : goal.invariant-loop-next
invariant-loop-next l = (1 ≤ l.next) × ((r : Result Tree ErrorCode) → rebuilt (steps_of l.steps.items) r ≡ rebuilt (steps_of l.fn.steps.items) r)

abbrev pub decreases-loop-next : goal.decreases-loop-next
decreases-loop-next l = length l.steps.items - l.next
