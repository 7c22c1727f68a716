use Rattle.std.proofs.Common.{arith, ap}
use Rattle.std.proofs.lemmas.List.{take_all}
use Rattle.std.specs.List.{sum_by}
use Rattle.std.proofs.lemmas.List.Sums.{sum_by_more_le}
use Rattle.moo_syntax_ast.specs.View.{tree, items_of}
use Rattle.moo_syntax_ast.specs.Listing.{is_compound_base, constant_name, is_system_object}
use Rattle.moo_syntax_listing.specs.Length.{listed_length, length_in_parentheses, shown_base_length, items_length, item_length, further_item_length}
use Rattle.moo_syntax_ast.proofs.Rows.{row_items}
use Rattle.moo_syntax_listing.proofs.Lengths.{items_length_sum, leaves_after}
use Rattle.moo_syntax_listing.proofs.length.+length.Goals as goal

pub expression-returns-in_ok-checked_sub-in-List : goal.expression-returns-in_ok-checked_sub-in-List
expression-returns-in_ok-checked_sub-in-List t c =
    let rest = c.in_ok-checked_sub-in-List in
    rw (c.in-List.is, row_items) (leaves_after c.args.room rest.field-0 (items_length (items_of c.in-List.items.items)) _ c.items_rest.result (omega (arith, rest.ensures.0, rest.ensures.1)) (rw c.deref-in-List.ensures.value at c.items_rest.ensures))

pub expression-returns-in_err-room-in-VerbCall : goal.expression-returns-in_err-room-in-VerbCall
expression-returns-in_err-room-in-VerbCall t c =
    let rest = c.in_ok-checked_sub-in-VerbCall in
    rw (c.from_residual-in_err-room-in-VerbCall.ensures, c.in-VerbCall.is, row_items) (omega (arith, rest.ensures.0, rest.ensures.1, rw (c.deref-in-VerbCall-2.ensures.value, c.deref-in-VerbCall.ensures) at c.in_err-room-in-VerbCall.ensures))

pub expression-returns-in_err-selector_rest-in-VerbCall : goal.expression-returns-in_err-selector_rest-in-VerbCall
expression-returns-in_err-selector_rest-in-VerbCall t c =
    let rest = c.in_ok-checked_sub-in-VerbCall in
    rw (c.from_residual-in_err-selector_rest-in-VerbCall.ensures, c.in-VerbCall.is, row_items) (omega (arith, rest.ensures.0, rest.ensures.1, rw (c.deref-in-VerbCall-2.ensures.value, c.deref-in-VerbCall.ensures) at c.in_ok-room-in-VerbCall.ensures, rw c.deref-in-VerbCall-5.ensures at c.in_err-selector_rest-in-VerbCall.ensures))

pub expression-returns-in_ok-selector_rest-in-VerbCall : goal.expression-returns-in_ok-selector_rest-in-VerbCall
expression-returns-in_ok-selector_rest-in-VerbCall t c =
    let rest = c.in_ok-checked_sub-in-VerbCall in
    rw (c.in-VerbCall.is, row_items) (leaves_after c.args.room c.in_ok-selector_rest-in-VerbCall.field-0 (shown_base_length (constant_name (tree c.in-VerbCall.name.value)) (is_system_object (tree c.in-VerbCall.base.value)) (length_in_parentheses (is_compound_base (tree c.in-VerbCall.base.value)) (listed_length (tree c.in-VerbCall.base.value)))) _ c.shown_base_rest-in-VerbCall.result (omega (arith, rest.ensures.0, rest.ensures.1, rw (c.deref-in-VerbCall-2.ensures.value, c.deref-in-VerbCall.ensures) at c.in_ok-room-in-VerbCall.ensures, rw c.deref-in-VerbCall-5.ensures at c.in_ok-selector_rest-in-VerbCall.ensures)) (rw (c.deref-in-VerbCall-3.ensures, c.deref-in-VerbCall-4.ensures) at c.shown_base_rest-in-VerbCall.ensures))

pub expression-returns-in_ok-checked_sub-in-Call : goal.expression-returns-in_ok-checked_sub-in-Call
expression-returns-in_ok-checked_sub-in-Call t c =
    let name = c.in_ok-room-in-Call in
    let rest = c.in_ok-checked_sub-in-Call in
    rw (c.in-Call.is, row_items) (leaves_after c.args.room rest.field-0 (items_length (items_of c.in-Call.arguments.items)) _ c.items_rest-in-Call.result (omega (arith, c.len-in-Call.ensures.value, name.ensures.0, name.ensures.1, rest.ensures.0, rest.ensures.1)) (rw c.deref-in-Call.ensures.value at c.items_rest-in-Call.ensures))

pub codes_rest-returns-in-Listed : goal.codes_rest-returns-in-Listed
codes_rest-returns-in-Listed t c = rw (c.in-Listed.is, row_items) (rw c.deref.ensures.value at c.items_rest.ensures)

pub items_rest-returns-in_err-checked_sub : goal.items_rest-returns-in_err-checked_sub
items_rest-returns-in_err-checked_sub t c =
    let others = c.in-Some.others.now in
    rw c.from_residual-in_err-checked_sub.ensures (omega (arith, ap (λ xs. items_length (items_of xs)) c.in-Some.ensures.cases.0, items_length_sum c.in-Some.first.now others, c.in_ok-rest.ensures, c.loop-other.invariant, sum_by_more_le further_item_length others c.loop-other.other-index c.other-item.result c.loop-other-test.true, c.in_err-checked_sub.ensures))

pub items_rest-returns-in_err-rest-2 : goal.items_rest-returns-in_err-rest-2
items_rest-returns-in_err-rest-2 t c =
    let others = c.in-Some.others.now in
    rw c.from_residual-in_err-rest-2.ensures (omega (arith, ap (λ xs. items_length (items_of xs)) c.in-Some.ensures.cases.0, items_length_sum c.in-Some.first.now others, c.in_ok-rest.ensures, c.loop-other.invariant, sum_by_more_le further_item_length others c.loop-other.other-index c.other-item.result c.loop-other-test.true, ap item_length c.other-item.is, c.in_ok-checked_sub.ensures.0, c.in_ok-checked_sub.ensures.1, c.in_err-rest-2.ensures))

pub items_rest-returns : goal.items_rest-returns
items_rest-returns t c =
    let others = c.in-Some.others.now in
    omega (arith, ap (λ xs. items_length (items_of xs)) c.in-Some.ensures.cases.0, items_length_sum c.in-Some.first.now others, c.in_ok-rest.ensures, c.loop-other.invariant, ap (sum_by further_item_length) (take_all c.loop-other.other-index others c.loop-other-test.false))
