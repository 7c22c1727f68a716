use Rattle.std.proofs.Common.{◌≡◌, ◌+◌, refl, ap, ◌∙◌, arith, drop}
use Rattle.moo_syntax_ast.specs.View.{tree, items_of, codes_of}
use Rattle.moo_syntax_ast.proofs.Rows as given
use Rattle.moo_syntax_ast.proofs.Sizes.{size, items_size, codes_size, size_within}
use Rattle.moo_syntax_node.specs.Source.{sources_before}
use Rattle.moo_syntax_node.proofs.Rows.{row_items}
use Rattle.moo_syntax_node.proofs.Items.{before_last, item_at}
use Rattle.moo_syntax_lower.proofs.+lowering.Goals as goal

pub expression::lower_expression-lower_items-requires : goal.expression::lower_expression-lower_items-requires
expression::lower_expression-lower_items-requires t c =
    let same : size (tree c.args.expr.now) ≡ 1 + items_size (items_of c.deref-in-List.result.now) = rw (c.in-List.is, given.row_items, c.deref-in-List.ensures.value) refl in
    (omega (arith, same), tt)

pub expression::lower_expression-returns-in_ok-lower_items-in-List : goal.expression::lower_expression-returns-in_ok-lower_items-in-List
expression::lower_expression-returns-in_ok-lower_items-in-List t c =
    rw (c.in-List.is, given.row_items, ← c.deref-in-List.ensures.value, ← c.in_ok-lower_items-in-List.ensures) c.list_node.ensures

pub expression::lower_expression-lower_verb_call-requires : goal.expression::lower_expression-lower_verb_call-requires
expression::lower_expression-lower_verb_call-requires t c =
    let same : size (tree c.args.expr.now) ≡ 1 + size (tree c.in-VerbCall.base.value) + size (tree c.in-VerbCall.name.value) + items_size (items_of c.deref-in-VerbCall-4.result.now) = rw (c.in-VerbCall.is, given.row_items, c.deref-in-VerbCall-4.ensures.value, c.deref-in-VerbCall-3.ensures) refl in
    (omega (arith, same, ap (λ e. size (tree e)) c.deref-in-VerbCall.ensures, ap (λ e. size (tree e)) c.deref-in-VerbCall-2.ensures), tt)

pub expression::lower_expression-returns-in-VerbCall : goal.expression::lower_expression-returns-in-VerbCall
expression::lower_expression-returns-in-VerbCall t c =
    rw (c.in-VerbCall.is, given.row_items, ← c.deref-in-VerbCall.ensures, ← c.deref-in-VerbCall-2.ensures, ← c.deref-in-VerbCall-3.ensures, ← c.deref-in-VerbCall-4.ensures.value) c.lower_verb_call.ensures

pub expression::lower_expression-lower_call-requires : goal.expression::lower_expression-lower_call-requires
expression::lower_expression-lower_call-requires t c =
    let same : size (tree c.args.expr.now) ≡ 1 + items_size (items_of c.deref-in-Call.result.now) = rw (c.in-Call.is, given.row_items, c.deref-in-Call.ensures.value) refl in
    (omega (arith, same), tt)

pub expression::lower_expression-returns-in-Call : goal.expression::lower_expression-returns-in-Call
expression::lower_expression-returns-in-Call t c =
    rw (c.in-Call.is, given.row_items, ← c.deref-in-Call.ensures.value) c.lower_call.ensures

pub expression::lower_call-returns : goal.expression::lower_call-returns
expression::lower_call-returns t c =
    rw (row_items, c.in_ok-items.ensures, c.in_ok-name.ensures) refl

pub expression::lower_verb_call-returns : goal.expression::lower_verb_call-returns
expression::lower_verb_call-returns t c =
    rw (row_items, c.in_ok-items-2.ensures.ok, c.in_ok-items.ensures, c.in_ok-base.ensures, c.in_ok-name.ensures) refl

pub item::lower_codes-lower_items-requires : goal.item::lower_codes-lower_items-requires
item::lower_codes-lower_items-requires t c =
    let same : codes_size (codes_of c.args.codes.now) ≡ 1 + items_size (items_of c.deref-in-None.result.now) = rw (c.in-Listed.is, given.row_items, c.deref-in-None.ensures.value) refl in
    (omega (arith, same), tt)

pub item::lower_codes-returns-in-Some : goal.item::lower_codes-returns-in-Some
item::lower_codes-returns-in-Some t c =
    rw (c.in-Listed.is, given.row_items, ← c.deref.ensures.value, ← (rw c.in-Some.is at c.in_ok-errors-in-Listed.ensures)) refl

pub item::lower_codes-returns-in_ok-lower_items-in-None : goal.item::lower_codes-returns-in_ok-lower_items-in-None
item::lower_codes-returns-in_ok-lower_items-in-None t c =
    rw (c.in-Listed.is, given.row_items, row_items, c.in_ok-lower_items-in-None.ensures, c.deref-in-None.ensures.value) refl

pub item::lower_items-lower_item-requires : goal.item::lower_items-lower_item-requires
item::lower_items-lower_item-requires t c = (omega (arith, size_within c.args.items.now c.loop-item.item-index c.item-item.result c.loop-item-test.true c.item-item.is), tt)

pub item::lower_items-loop-item-preserved : goal.item::lower_items-loop-item-preserved
item::lower_items-loop-item-preserved t c =
    let xs = c.args.items.now in
    let i = c.loop-item.item-index in
    rw c.in_ok-push.ensures.items (before_last c.loop-item.nodes.items c.in_ok-node.node (items_of (drop (i + 1) xs)) ∙ ap (sources_before c.loop-item.nodes.items) (c.in_ok-node.ensures (items_of (drop (i + 1) xs)) ∙ item_at xs i c.item-item.result c.loop-item-test.true c.item-item.is) ∙ c.loop-item.invariant)
