use Rattle.std.proofs.Common.{◌+◌, ap, sym, ◌∙◌, arith}
use Rattle.std.proofs.lemmas.List.{take_rest}
use Rattle.moo_value.specs.Size.{list_depth}
use Rattle.moo_value.specs.View.{trees}
use Rattle.moo_value.proofs.Places.{depth_of_front, depth-take, depth-drop, depth_of_sides}
use Rattle.moo_value.proofs.list.MooList.depth_around.Goals as goal

pub list_depth-before-requires : goal.list_depth-before-requires
list_depth-before-requires c =
    omega (arith, c.depth-most.ensures.depth, depth-take c.elements-elements.result.now _ c.args.index c.elements-elements.ensures.value)

pub list_depth-after-requires : goal.list_depth-after-requires
list_depth-after-requires c =
    let vs = c.elements-elements.result.now in
    let rest = ap (λ vs. list_depth (trees vs)) (take_rest vs (c.args.index + 1)) in
    omega (arith, rest, c.depth-most.ensures.depth, depth-drop vs _ (c.args.index + 1) c.elements-elements.ensures.value)

pub returns-then-before-most-clause-depth : goal.returns-then-before-most-clause-depth
returns-then-before-most-clause-depth c =
    depth_of_front c.elements-elements.result.now _ c.args.index _ c.elements-elements.ensures.value (sym c.if-before-most.true ∙ c.list_depth-before.ensures) c.depth-most.ensures.depth

pub returns-clause-depth : goal.returns-clause-depth
returns-clause-depth c =
    let vs = c.elements-elements.result.now in
    rw c.max.ensures
    (depth_of_sides vs _ c.args.index _ _ c.elements-elements.ensures.value c.list_depth-before.ensures
    (c.list_depth-after.ensures ∙ ap (λ vs. list_depth (trees vs)) (take_rest vs (c.args.index + 1))))

pub returns-clause-limit : goal.returns-clause-limit
returns-clause-limit c =
    let vs = c.elements-elements.result.now in
    let rest = ap (λ vs. list_depth (trees vs)) (take_rest vs (c.args.index + 1)) in
    omega (arith, c.max.ensures, c.depth-most.ensures.limit, c.depth-most.ensures.depth, c.list_depth-before.ensures, c.list_depth-after.ensures, rest, depth-take vs _ c.args.index c.elements-elements.ensures.value, depth-drop vs _ (c.args.index + 1) c.elements-elements.ensures.value)
