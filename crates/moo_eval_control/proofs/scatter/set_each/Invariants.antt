use Rattle.std.proofs.Common.{◌≡◌, drop}
use Rattle.moo_value.specs.View.{trees}
use Rattle.moo_syntax_node.specs.Blocks.{named_items}
use Rattle.moo_eval_frame.specs.Variables.{with_all}
use Rattle.moo_eval_control.specs.Scatter.{given}
use Rattle.moo_eval_frame.specs.Seen.{variables_of}
use Rattle.moo_eval_control.proofs.scatter.set_each.Given as goal

-- what is set so far, with what the names that are left get, is what all names get
abbrev pub invariant-loop-i : goal.invariant-loop-i
invariant-loop-i l = record {
  variables : with_all (variables_of l.active.variables) (given (named_items (drop l.i l.names)) (drop l.i (trees l.elements))) ≡ with_all (variables_of l.fn.active.variables) (given (named_items l.names) (trees l.elements));
  programmer : l.active.programmer ≡ l.fn.active.programmer;
}
