use Rattle.std.proofs.Common.{ap, sym, ◌∙◌, arith}
use Rattle.std.specs.List.{slice_get}
use Rattle.moo_world_tree.specs.Forest.{above_of, below_of}
use Rattle.moo_dbtext.proofs.NextNumbers.{first_inside, next_inside, first_got}
use Rattle.moo_dbtext.proofs.link.link_in.Goals as goal

pub place_number-requires-2 : goal.place_number-requires-2
place_number-requires-2 c = λ z is.
    let tree = c.args.tree.now in
    let first = c.first.ensures ∙ ap (λ ys. slice_get ys 0) c.below.ensures ∙ first_got (below_of tree c.args.x) in
    let inside = first_inside tree c.is_forest.ensures c.args.x z (sym first ∙ is) in
    omega (arith, inside, c.requires.few)

pub place_number-requires-3 : goal.place_number-requires-3
place_number-requires-3 c = λ z is.
    let tree = c.args.tree.now in
    let inside = next_inside tree c.is_forest.ensures c.args.x z (above_of tree c.args.x) (sym (c.requires.next.each c.args.x) ∙ is) in
    omega (arith, inside, c.requires.few)
