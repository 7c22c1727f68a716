-- The sources of the items so far with the items that are left are all of them. Each call has a smaller part to lower.
use Rattle.std.proofs.Common.{◌≡◌, ◌+◌, ◌*◌, drop}
use Rattle.moo_syntax_ast.specs.View.{tree, items_of, codes_of}
use Rattle.moo_syntax_ast.proofs.Sizes.{size, items_size, item_size, codes_size}
use Rattle.moo_syntax_node.specs.Source.{sources_before}
use Rattle.moo_syntax_lower.proofs.+lowering.Given as goal

abbrev pub invariant-item::lower_items-loop-item : goal.invariant-item::lower_items-loop-item
invariant-item::lower_items-loop-item l =
    sources_before l.nodes.items (items_of (drop l.item-index l.items)) ≡ items_of l.items

abbrev pub decreases-expression::lower_expression : goal.decreases-expression::lower_expression
decreases-expression::lower_expression l = 4 * size (tree l.expr.now)

abbrev pub decreases-expression::lower_boxed : goal.decreases-expression::lower_boxed
decreases-expression::lower_boxed l = 4 * size (tree l.expr.now) + 1

abbrev pub decreases-expression::lower_binary : goal.decreases-expression::lower_binary
decreases-expression::lower_binary l = 4 * (size (tree l.a.now) + size (tree l.b.now)) + 2

abbrev pub decreases-expression::lower_logic : goal.decreases-expression::lower_logic
decreases-expression::lower_logic l = 4 * (size (tree l.a.now) + size (tree l.b.now)) + 2

abbrev pub decreases-expression::lower_conditional : goal.decreases-expression::lower_conditional
decreases-expression::lower_conditional l = 4 * (size (tree l.test.now) + size (tree l.a.now) + size (tree l.b.now)) + 2

abbrev pub decreases-expression::lower_index : goal.decreases-expression::lower_index
decreases-expression::lower_index l = 4 * (size (tree l.base.now) + size (tree l.place.now)) + 2

abbrev pub decreases-expression::lower_range : goal.decreases-expression::lower_range
decreases-expression::lower_range l = 4 * (size (tree l.base.now) + size (tree l.low.now) + size (tree l.high.now)) + 2

abbrev pub decreases-expression::lower_property : goal.decreases-expression::lower_property
decreases-expression::lower_property l = 4 * (size (tree l.base.now) + size (tree l.name.now)) + 2

abbrev pub decreases-expression::lower_verb_call : goal.decreases-expression::lower_verb_call
decreases-expression::lower_verb_call l = 4 * (size (tree l.base.now) + size (tree l.name.now) + items_size (items_of l.items.now)) + 2

abbrev pub decreases-expression::lower_call : goal.decreases-expression::lower_call
decreases-expression::lower_call l = 4 * items_size (items_of l.items.now) + 2

abbrev pub decreases-expression::lower_assignment : goal.decreases-expression::lower_assignment
decreases-expression::lower_assignment l = 4 * (size (tree l.target.now) + size (tree l.value.now)) + 2

abbrev pub decreases-expression::lower_catch : goal.decreases-expression::lower_catch
decreases-expression::lower_catch l = 4 * (size (tree l.body.now) + codes_size (codes_of l.codes.now)) + 2

abbrev pub decreases-expression::lower_catch_or : goal.decreases-expression::lower_catch_or
decreases-expression::lower_catch_or l = 4 * (size (tree l.body.now) + codes_size (codes_of l.codes.now) + size (tree l.other.now)) + 2

abbrev pub decreases-item::lower_codes : goal.decreases-item::lower_codes
decreases-item::lower_codes l = 4 * codes_size (codes_of l.codes.now)

abbrev pub decreases-item::lower_items : goal.decreases-item::lower_items
decreases-item::lower_items l = 4 * items_size (items_of l.items.now) + 1

abbrev pub decreases-item::lower_item : goal.decreases-item::lower_item
decreases-item::lower_item l = 4 * item_size l.item.now
