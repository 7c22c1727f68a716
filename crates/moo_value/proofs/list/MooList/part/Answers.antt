use Rattle.std.proofs.Common.{◌≡◌, List, slice_range, ap, ◌∙◌, subst, IfOk}
use Rattle.moo_value.specs.Tree.{Tree}
use Rattle.moo_value.specs.View.{trees}
use Rattle.moo_value.proofs.Parts.{part_within, trees_part}
use Rattle.moo_value.proofs.list.MooList.part.Goals as goal

pub unreachable-requires : goal.unreachable-requires
unreachable-requires c =
    let is : trees c.deref.result.now ≡ slice_range c.args.self.now c.args.low c.args.high =
    ap trees (c.deref.ensures.value ∙ c.in_ok-elements.ensures) ∙ trees_part _ _ c.args.low c.args.high c.elements.ensures.value in
    c.in_default.ensures.none (rw is (part_within _ c.args.low c.args.high c.elements.ensures.limits))

pub returns : goal.returns
returns c =
    let P : List Tree → Type 0 = λ ts. IfOk c.from_measured.result (λ list. list ≡ ts) in
    subst P (ap trees c.in_ok-elements.ensures ∙ trees_part _ _ c.args.low c.args.high c.elements.ensures.value) c.from_measured.ensures
