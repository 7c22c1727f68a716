use Rattle.std.proofs.Common.{◌+◌, ◌<◌, length, drop, ap, ◌∙◌, sym, arith}
use Rattle.moo_value.specs.View.{trees}
use Rattle.moo_syntax_node.specs.Blocks.{named_items}
use Rattle.moo_eval_frame.specs.Variables.{with_all}
use Rattle.moo_eval_control.specs.Scatter.{given}
use Rattle.moo_eval_frame.specs.Seen.{variables_of}
use Rattle.moo_eval_control.proofs.Named.{next_named, all_named}
use Rattle.moo_eval_control.proofs.scatter.set_each.Goals as goal

pub returns : goal.returns
returns c = record {
  variables = sym (all_named (variables_of c.loop-i.active.variables) c.args.names.now (drop c.loop-i.i (trees c.args.elements.now)) c.loop-i.i c.loop-i-test.false) ∙ c.loop-i.invariant.variables;
  programmer = c.loop-i.invariant.programmer;
}

pub loop-i-preserved : goal.loop-i-preserved
loop-i-preserved c =
    let i = c.loop-i.i in
    let name = c.index-names-i.result in
    let before = variables_of c.loop-i.active.variables in
    let within : i < length c.args.elements.now = omega arith in
    record {
      variables =
          ap (λ vars. with_all vars (given (named_items (drop (i + 1) c.args.names.now)) (drop (i + 1) (trees c.args.elements.now)))) c.in_ok-set_copy.ensures
          ∙ sym (next_named before c.args.names.now c.args.elements.now i name c.index-elements-i.result c.loop-i-test.true within c.index-names-i.is c.index-elements-i.is)
          ∙ c.loop-i.invariant.variables;
      programmer = c.loop-i.invariant.programmer;
    }
