use Rattle.std.proofs.Common.{◌≡◌, ◌++◌, drop, map}
use Rattle.moo_syntax_node.specs.Source.{source_items}
use Rattle.moo_eval_control.specs.Scatter.{lacking, missing}
use Rattle.moo_eval_control.specs.SeenScatter.{left_out_of}
use Rattle.moo_eval_control.proofs.scatter.missing.Given as goal

abbrev pub invariant-loop-item : goal.invariant-loop-item
invariant-loop-item l = map left_out_of l.names.items ++ lacking (source_items (drop l.item-index l.counts.items.now)) l.spare ≡ missing (source_items l.counts.items.now) l.list
