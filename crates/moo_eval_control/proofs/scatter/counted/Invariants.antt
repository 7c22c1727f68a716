use Rattle.std.proofs.Common.{◌≡◌, ◌+◌, ◌≤◌, ◌||◌, drop}
use Rattle.moo_syntax_node.specs.Source.{source_items}
use Rattle.moo_eval_control.specs.Scatter.{required, optionals, takes_rest}
use Rattle.moo_eval_control.proofs.scatter.counted.Given as goal

-- what was counted, with what is left, is what all items have
abbrev pub invariant-loop-item : goal.invariant-loop-item
invariant-loop-item l = record {
  required : l.required + required (source_items (drop l.item-index l.items)) ≡ required (source_items l.items);
  optionals : l.optionals + optionals (source_items (drop l.item-index l.items)) ≡ optionals (source_items l.items);
  rest : (l.takes_rest || takes_rest (source_items (drop l.item-index l.items))) ≡ takes_rest (source_items l.items);
  few : l.required ≤ l.item-index;
  fewer : l.optionals ≤ l.item-index;
}
