use Rattle.std.proofs.Common.{◌≡◌, ◌+◌, refl, ap, arith}
use Rattle.moo_syntax_ast.specs.View.{tree, items_of, codes_of}
use Rattle.moo_syntax_ast.proofs.Rows.{row_items}
use Rattle.moo_syntax_ast.proofs.Sizes.{size, items_size, codes_size, size_within}
use Rattle.moo_syntax_lower.proofs.variables.+variables.Goals as goal

pub add_expression-add_items-requires : goal.add_expression-add_items-requires
add_expression-add_items-requires t c =
    let same : size (tree c.args.value.now) ≡ 1 + items_size (items_of c.deref-in-List.result.now) = rw (c.in-List.is, row_items, c.deref-in-List.ensures.value) refl in
    (omega (arith, same), tt)

pub add_expression-returns-in-List : goal.add_expression-returns-in-List
add_expression-returns-in-List t c = rw (c.in-List.is, row_items, ← c.deref-in-List.ensures.value) c.add_items.ensures

pub add_expression-add_verb_call-requires : goal.add_expression-add_verb_call-requires
add_expression-add_verb_call-requires t c =
    let same : size (tree c.args.value.now) ≡ 1 + size (tree c.in-VerbCall.base.value) + size (tree c.in-VerbCall.name.value) + items_size (items_of c.deref-in-VerbCall-4.result.now) = rw (c.in-VerbCall.is, row_items, c.deref-in-VerbCall-4.ensures.value, c.deref-in-VerbCall-3.ensures) refl in
    (omega (arith, same, ap (λ e. size (tree e)) c.deref-in-VerbCall.ensures, ap (λ e. size (tree e)) c.deref-in-VerbCall-2.ensures), tt)

pub add_expression-returns-in-VerbCall : goal.add_expression-returns-in-VerbCall
add_expression-returns-in-VerbCall t c = rw (c.in-VerbCall.is, row_items, ← c.deref-in-VerbCall.ensures, ← c.deref-in-VerbCall-2.ensures, ← c.deref-in-VerbCall-3.ensures, ← c.deref-in-VerbCall-4.ensures.value) c.add_verb_call.ensures

pub add_expression-add_items-requires-in-Call : goal.add_expression-add_items-requires-in-Call
add_expression-add_items-requires-in-Call t c =
    let same : size (tree c.args.value.now) ≡ 1 + items_size (items_of c.deref-in-Call.result.now) = rw (c.in-Call.is, row_items, c.deref-in-Call.ensures.value) refl in
    (omega (arith, same), tt)

pub add_expression-returns-in-Call : goal.add_expression-returns-in-Call
add_expression-returns-in-Call t c = rw (c.in-Call.is, row_items, ← c.deref-in-Call.ensures.value) c.add_items-in-Call.ensures

pub add_codes-add_items-requires : goal.add_codes-add_items-requires
add_codes-add_items-requires t c =
    let same : codes_size (codes_of c.args.errors.now) ≡ 1 + items_size (items_of c.deref.result.now) = rw (c.in-Listed.is, row_items, c.deref.ensures.value) refl in
    (omega (arith, same), tt)

pub add_codes-returns-in-Listed : goal.add_codes-returns-in-Listed
add_codes-returns-in-Listed t c = rw (c.in-Listed.is, row_items, ← c.deref.ensures.value) c.add_items.ensures

pub add_items-add_item-requires : goal.add_items-add_item-requires
add_items-add_item-requires t c = (omega (arith, size_within c.args.items.now c.loop-item.item-index c.item-item.result c.loop-item-test.true c.item-item.is), tt)
