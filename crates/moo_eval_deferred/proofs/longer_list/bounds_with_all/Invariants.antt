-- The weight and the depth are those of the list with the values before this one.
use Rattle.std.proofs.Common.{◌≡◌, ◌≤◌, ◌++◌, take}
use Rattle.moo_value.specs.Size.{list_weight, list_depth, weight_limit}
use Rattle.moo_value.specs.View.{trees}
use Rattle.moo_eval_deferred.proofs.longer_list.bounds_with_all.Given as goal

abbrev pub invariant-loop-value : goal.invariant-loop-value
invariant-loop-value l =
    (l.weight ≡ list_weight (l.list ++ trees (take l.value-index l.more))) × (l.depth ≡ list_depth (l.list ++ trees (take l.value-index l.more))) × (l.weight ≤ weight_limit)
