use Rattle.std.proofs.Common.{◌≡◌, ◌+◌, refl, ap, arith}
use Rattle.moo_syntax_ast.specs.View.{tree, items_of, codes_of}
use Rattle.moo_syntax_ast.proofs.Rows.{row_items}
use Rattle.moo_syntax_ast.proofs.Sizes.{size, items_size, codes_size, size_of_first, size_within}
use Rattle.moo_unparse.proofs.expression.+listing.Goals as goal

pub write_expression-write_list-requires : goal.write_expression-write_list-requires
write_expression-write_list-requires t c =
    let same : size (tree c.args.expr.now) ≡ 1 + items_size (items_of c.deref-in-List.result.now) = rw (c.in-List.is, row_items, c.deref-in-List.ensures.value) refl in
    (omega (arith, same), tt)

pub write_expression-returns-in-List : goal.write_expression-returns-in-List
write_expression-returns-in-List t c =
    rw (c.in-List.is, row_items, ← c.deref-in-List.ensures.value) c.write_list.ensures

pub write_items-write_item-requires-in-loop-item : goal.write_items-write_item-requires-in-loop-item
write_items-write_item-requires-in-loop-item t c = (
  omega (
    arith,
    size_within c.in-Some.others.now c.loop-item.item-index c.item-item.result c.loop-item-test.true c.item-item.is,
    ap (λ xs. items_size (items_of xs)) c.in-Some.ensures.cases.0,
    size_of_first c.in-Some.first.now c.in-Some.others.now,
  ),
  tt,
)

pub write_expression-write_verb_call-requires : goal.write_expression-write_verb_call-requires
write_expression-write_verb_call-requires t c =
    let same : size (tree c.args.expr.now) ≡ 1 + size (tree c.in-VerbCall.base.value) + size (tree c.in-VerbCall.name.value) + items_size (items_of c.deref-in-VerbCall-4.result.now) = rw (c.in-VerbCall.is, row_items, c.deref-in-VerbCall-4.ensures.value, c.deref-in-VerbCall-3.ensures) refl in
    (omega (arith, same, ap (λ e. size (tree e)) c.deref-in-VerbCall.ensures, ap (λ e. size (tree e)) c.deref-in-VerbCall-2.ensures), tt)

pub write_expression-returns-in-VerbCall : goal.write_expression-returns-in-VerbCall
write_expression-returns-in-VerbCall t c =
    rw (c.in-VerbCall.is, row_items, ← c.deref-in-VerbCall.ensures, ← c.deref-in-VerbCall-2.ensures, ← c.deref-in-VerbCall-3.ensures, ← c.deref-in-VerbCall-4.ensures.value) c.write_verb_call.ensures

pub write_expression-write_call-requires : goal.write_expression-write_call-requires
write_expression-write_call-requires t c =
    let same : size (tree c.args.expr.now) ≡ 1 + items_size (items_of c.deref-in-Call.result.now) = rw (c.in-Call.is, row_items, c.deref-in-Call.ensures.value) refl in
    (omega (arith, same), tt)

pub write_expression-returns-in-Call : goal.write_expression-returns-in-Call
write_expression-returns-in-Call t c =
    rw (c.in-Call.is, row_items, ← c.deref-in-Call.ensures.value) c.write_call.ensures

pub write_codes-write_items-requires : goal.write_codes-write_items-requires
write_codes-write_items-requires t c =
    let same : codes_size (codes_of c.args.errors.now) ≡ 1 + items_size (items_of c.deref.result.now) = rw (c.in-Listed.is, row_items, c.deref.ensures.value) refl in
    (omega (arith, same), tt)

pub write_codes-returns-in-Listed : goal.write_codes-returns-in-Listed
write_codes-returns-in-Listed t c =
    rw (c.in-Listed.is, row_items, ← c.deref.ensures.value) c.write_items.ensures
