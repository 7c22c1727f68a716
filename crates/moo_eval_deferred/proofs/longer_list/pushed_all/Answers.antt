use Rattle.std.proofs.Common.{◌++◌, sym, ap, ◌∙◌}
use Rattle.std.specs.Vec.Iter.{into_iter_items}
use Rattle.moo_value.specs.View.{tree, trees}
use Rattle.moo_eval_deferred.proofs.LongerLists.{part_fits}
use Rattle.moo_eval_deferred.proofs.longer_list.pushed_all.Goals as goal

pub pushed-requires : goal.pushed-requires
pushed-requires c =
    part_fits c.loop-value.longer (tree c.in-Some.value) (trees (into_iter_items c.next.new.self)) (c.args.list ++ trees c.args.more.items)
    (ap (λ vs. c.loop-value.longer ++ trees vs) (sym c.in-Some.ensures.items) ∙ c.loop-value.invariant) c.requires
