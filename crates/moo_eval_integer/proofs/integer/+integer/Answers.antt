use Rattle.std.proofs.Common.{w32, rules}
use Rattle.std.proofs.lemmas.Int.{to_z-of_z}
use mir.Val.{SFits}
use Rattle.moo_eval_frame.specs.Seen.{variables_of}
use Rattle.moo_syntax_node.proofs.Items.{map_some}
use Rattle.moo_syntax_node.proofs.Rows.{row_items}
use Rattle.moo_eval_integer.proofs.Given.{operator_gives, part_gives}
use Rattle.moo_eval_integer.proofs.integer.+integer.Goals as goal

pub nested_integer-returns-clause-value : goal.nested_integer-returns-clause-value
nested_integer-returns-clause-value t c =
    let variables = variables_of c.args.active.now.variables in
    let first : SFits w32 c.in_ok-a.a = search rules in
    let second : SFits w32 c.in_ok-b.b = search rules in
    map_some c.number_of.result (λ n h. operator_gives variables c.in_ok-take.ensures.taken c.in_ok-a.ensures.value c.in_ok-b.ensures.value h) (rw (to_z-of_z w32 c.in_ok-a.a first, to_z-of_z w32 c.in_ok-b.b second) at c.number_of.ensures)

pub element_integer-returns-clause-value : goal.element_integer-returns-clause-value
element_integer-returns-clause-value t c =
    let place : SFits w32 c.in_ok-place.place = search rules in
    map_some c.integer_at.result (λ n h. part_gives (variables_of c.args.active.now.variables) c.in_ok-take.ensures.taken c.in_ok-list.ensures.value c.in_ok-place.ensures.value h) (rw (to_z-of_z w32 c.in_ok-place.place place) at c.integer_at.ensures)

pub held_element-returns-clause-value : goal.held_element-returns-clause-value
held_element-returns-clause-value t c =
    let place : SFits w32 c.in_ok-place.place = search rules in
    map_some c.value_at.result (λ v h. part_gives (variables_of c.args.active.now.variables) c.in_ok-take.ensures.taken c.in_ok-list.ensures.value c.in_ok-place.ensures.value h) (rw (to_z-of_z w32 c.in_ok-place.place place) at c.value_at.ensures)

pub part_integer-returns-in-Call-clause-value : goal.part_integer-returns-in-Call-clause-value
part_integer-returns-in-Call-clause-value t c =
    map_some c.call_integer.result (λ n h. rw (c.in-Call.is, row_items, ← c.deref-in-Call.ensures.value) h) c.call_integer.ensures.value

pub held_list-returns-in-List-clause-value : goal.held_list-returns-in-List-clause-value
held_list-returns-in-List-clause-value t c = rw c.in-List.is at c.in_ok-list.ensures.value
