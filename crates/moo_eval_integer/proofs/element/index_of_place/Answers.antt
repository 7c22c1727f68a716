use Rattle.std.proofs.Common.{w32, rules}
use Rattle.std.proofs.lemmas.Int.{to_z-of_z}
use mir.Val.{SFits}
use Rattle.moo_syntax_node.proofs.Items.{map_some}
use Rattle.moo_eval_integer.proofs.element.index_of_place.Goals as goal

pub returns-clause-value : goal.returns-clause-value
returns-clause-value c =
    let fits : SFits w32 c.in_ok-place.place = search rules in
    map_some c.elements_before.result (λ k h. rw h at c.in_ok-place.ensures.value) (rw (to_z-of_z w32 c.in_ok-place.place fits) at c.elements_before.ensures)
