use Rattle.std.proofs.Common.{◌≡◌, drop, Ok}
use Rattle.moo_value.specs.View.{trees}
use Rattle.moo_eval_control.specs.Handling.{joined, frame_lists}
use Rattle.moo_eval_control.proofs.handling.frame_lists.Given as goal

abbrev pub invariant-loop-entry : goal.invariant-loop-entry
invariant-loop-entry l = joined (Ok (trees l.values.items)) (frame_lists (drop l.entry-index l.trace)) ≡ frame_lists l.trace
