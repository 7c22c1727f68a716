use Rattle.std.proofs.Common.{◌≡◌, ◌<◌, pos, suc, Some, refl, arith, length, w32, rules}
use Rattle.std.proofs.lemmas.Int.{to_z-of_z}
use mir.Val.{SFits}
use Rattle.moo_builtin_operator.specs.Assignment.{before_place}
use Rattle.moo_builtin_operator.proofs.Lists.{index_in_list, length-trees}
use Rattle.moo_eval_integer.proofs.Given.{before}
use Rattle.moo_eval_integer.proofs.element.value_at.Goals as goal

pub returns : goal.returns
returns c =
    let place : SFits w32 c.args.place = search rules in
    let elements = c.elements-elements.result.now in
    let ts = c.args.list.now in
    let k = c.in_ok-index.index in
    let v = c.index-elements-index.result in
    let at : c.args.place ≡ pos (suc k) = rw (to_z-of_z w32 c.args.place place) at c.in_ok-index.ensures in
    let low : k < length ts = omega (arith, c.if-index-elements.false, length-trees elements ts c.elements-elements.ensures.value) in
    let there : Some k ≡ before_place c.args.place (length ts) = before c.args.place k (length ts) at low in
    index_in_list elements ts c.args.place k (length ts) v c.elements-elements.ensures.value refl low there c.index-elements-index.is
