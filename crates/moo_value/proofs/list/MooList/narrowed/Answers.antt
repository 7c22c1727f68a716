use Rattle.std.proofs.Common.{◌≡◌, ◌∙◌, ap, sym, slice_range}
use Rattle.moo_value.specs.View.{trees}
use Rattle.moo_value.proofs.Joined.{trees_narrowed}
use Rattle.moo_value.proofs.list.MooList.narrowed.Goals as goal

pub invariant_of-list-2 : goal.invariant_of-list-2
invariant_of-list-2 c =
    let vs = c.in-Some.own.now.0.items in
    rw (ap trees c.narrow.ensures ∙ trees_narrowed vs c.args.low c.args.high c.requires.order ∙ ap (λ us. slice_range (trees us) c.args.low c.args.high) (sym c.deref.ensures.value)) c.measured_part-measure.ensures

pub returns : goal.returns
returns c =
    let items : trees c.in-Some.own.now.0.items ≡ c.args.self = ap (λ b. trees b.0.items) c.in-Some.ensures.value ∙ c.list.view_is in
    ap trees c.narrow.ensures ∙ trees_narrowed c.in-Some.own.now.0.items c.args.low c.args.high c.requires.order ∙ ap (λ ts. slice_range ts c.args.low c.args.high) items
