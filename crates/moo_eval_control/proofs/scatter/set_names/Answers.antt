use Rattle.std.proofs.Common.{◌≡◌, length, refl, ap, ◌∙◌, sym, arith}
use Rattle.std.proofs.lemmas.List.{length-map}
use Rattle.moo_value.specs.declared.error_code.ErrorCode.TheVariants.{TypeMismatch, Arguments}
use Rattle.moo_value.specs.View.{tree}
use Rattle.moo_syntax_node.specs.Blocks.{named_items}
use Rattle.moo_eval_frame.specs.Variables.{with_all}
use Rattle.moo_eval_control.specs.Scatter.{dealt, given}
use Rattle.moo_eval_frame.specs.Seen.{variables_of}
use Rattle.moo_eval_control.proofs.Named.{unlisted, names_dealt, names_refused}
use Rattle.moo_eval_control.proofs.scatter.set_names.Goals as goal

pub returns-in_default : goal.returns-in_default
returns-in_default c = record {
  ok = tt;
  err = λ m. (TypeMismatch, unlisted (named_items c.args.names.now) c.args.value.now c.in_default.not-List, refl, refl);
  programmer = tt;
}

pub returns-then-elements-names-clause-err : goal.returns-then-elements-names-clause-err
returns-then-elements-names-clause-err c =
    let elements = c.elements-elements.result.now in
    let list = c.in-List.list in
    let same : length elements ≡ length list = sym (length-map elements tree) ∙ ap length c.elements-elements.ensures.value in
    λ m. (Arguments, ap (λ v. dealt (named_items c.args.names.now) (tree v)) c.in-List.is ∙ names_refused c.args.names.now list (λ e. omega (arith, same, e)), refl, refl)

pub returns-clause-ok : goal.returns-clause-ok
returns-clause-ok c =
    let elements = c.elements-elements.result.now in
    let list = c.in-List.list in
    let same : length elements ≡ length list = sym (length-map elements tree) ∙ ap length c.elements-elements.ensures.value in
    let number : length c.args.names.now ≡ length list = omega (arith, same) in
    (list, ap (λ v. dealt (named_items c.args.names.now) (tree v)) c.in-List.is ∙ names_dealt c.args.names.now list number, c.in_ok-set_each.ensures.variables ∙ ap (λ ts. with_all (variables_of c.args.active.now.variables) (given (named_items c.args.names.now) ts)) c.elements-elements.ensures.value)
