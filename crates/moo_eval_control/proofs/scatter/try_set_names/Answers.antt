use Rattle.std.proofs.Common.{◌≡◌, length, ap, ◌∙◌, sym, arith}
use Rattle.std.proofs.lemmas.List.{length-map}
use Rattle.moo_value.specs.View.{tree}
use Rattle.moo_syntax_node.specs.Blocks.{named_items}
use Rattle.moo_eval_frame.specs.Variables.{with_all}
use Rattle.moo_eval_control.specs.Scatter.{given}
use Rattle.moo_eval_frame.specs.Seen.{variables_of}
use Rattle.moo_eval_control.proofs.Named.{names_dealt}
use Rattle.moo_eval_control.proofs.scatter.try_set_names.Goals as goal

pub returns-clause-set : goal.returns-clause-set
returns-clause-set c =
    let elements = c.elements-elements.result.now in
    let list = c.args.list.now in
    let same : length elements ≡ length list = sym (length-map elements tree) ∙ ap length c.elements-elements.ensures.value in
    let number : length c.args.names.now ≡ length list = omega (arith, same) in
    λ t. (names_dealt c.args.names.now list number, c.in_ok-set_each.ensures.variables ∙ ap (λ ts. with_all (variables_of c.args.active.now.variables) (given (named_items c.args.names.now) ts)) c.elements-elements.ensures.value, c.in_ok-set_each.ensures.programmer)
