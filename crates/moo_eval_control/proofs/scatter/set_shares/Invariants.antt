use Rattle.std.proofs.Common.{◌≡◌, drop}
use Rattle.moo_syntax_node.specs.Source.{source_items}
use Rattle.moo_eval_frame.specs.Variables.{with_all}
use Rattle.moo_eval_control.specs.Scatter.{shares, given}
use Rattle.moo_eval_frame.specs.Seen.{variables_of}
use Rattle.moo_eval_control.proofs.scatter.set_shares.Given as goal

-- what is set so far, with what is left to be dealt, is what all items get
abbrev pub invariant-loop-item : goal.invariant-loop-item
invariant-loop-item l = record {
  variables : with_all (variables_of l.active.variables) (shares (source_items (drop l.item-index l.counts.items.now)) l.dealing.spare l.dealing.rest (drop l.dealing.next l.dealing.list.now)) ≡ with_all (variables_of l.fn.active.variables) (given (source_items l.counts.items.now) l.list);
  programmer : l.active.programmer ≡ l.fn.active.programmer;
}
