-- What is left makes the list whole.
use Rattle.std.proofs.Common.{◌≡◌, ◌++◌}
use Rattle.std.specs.Vec.Iter.{into_iter_items, into_iter_len}
use Rattle.moo_value.specs.View.{trees}
use Rattle.moo_eval_deferred.proofs.longer_list.pushed_all.Given as goal

abbrev pub invariant-loop-value : goal.invariant-loop-value
invariant-loop-value l = l.longer ++ trees (into_iter_items l.rest) ≡ l.fn.list ++ trees l.fn.more.items

abbrev pub decreases-loop-value : goal.decreases-loop-value
decreases-loop-value l = into_iter_len l.rest
