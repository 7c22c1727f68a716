use Rattle.std.proofs.Common.{◌<◌, pos, suc, Ok, sym, ap, refl, ◌∙◌, arith, length}
use Rattle.moo_value.specs.View.{tree}
use Rattle.moo_builtin_operator.proofs.Lists.{index_in_list, length-trees}
use Rattle.moo_eval_integer.proofs.Given.{before}
use Rattle.moo_eval_integer.proofs.element.element_after.Goals as goal

pub returns-in-Ok : goal.returns-in-Ok
returns-in-Ok c =
    let elements = c.elements-elements.result.now in
    let ts = c.args.list.now in
    let k = c.args.index in
    let v = c.index-elements-index.result in
    let low : k < length ts = omega (arith, c.if-index-elements.false, length-trees elements ts c.elements-elements.ensures.value) in
    index_in_list elements ts (pos (suc k)) k (length ts) v c.elements-elements.ensures.value refl low (before (pos (suc k)) k (length ts) refl low) c.index-elements-index.is ∙ ap (λ x. Ok (tree x)) (sym c.in-Ok.ensures.value)
