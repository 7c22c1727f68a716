use Rattle.std.proofs.Common.{◌≡◌, ◌+◌, ◌*◌, ◌++◌, drop}
use Rattle.moo_syntax_ast.specs.View.{tree, items_of, codes_of}
use Rattle.moo_unparse.specs.Listings.{listed_items}
use Rattle.moo_unparse.proofs.Items.{rest}
use Rattle.moo_syntax_ast.proofs.Sizes.{size, items_size, item_size, codes_size}
use Rattle.moo_unparse.proofs.expression.+listing.Given as goal

abbrev pub invariant-write_items-loop-item : goal.invariant-write_items-loop-item
invariant-write_items-loop-item l =
    l.line ++ rest l.parentheses (drop l.item-index l.others) ≡ l.fn.line ++ listed_items l.parentheses (items_of l.items)

abbrev pub decreases-write_expression : goal.decreases-write_expression
decreases-write_expression l = 6 * size (tree l.expr.now)

abbrev pub decreases-write_in_parentheses : goal.decreases-write_in_parentheses
decreases-write_in_parentheses l = 6 * size (tree l.expr.now) + 1

abbrev pub decreases-write_operand : goal.decreases-write_operand
decreases-write_operand l = 6 * size (tree l.expr.now) + 2

abbrev pub decreases-write_base : goal.decreases-write_base
decreases-write_base l = 6 * size (tree l.expr.now) + 2

abbrev pub decreases-write_binary : goal.decreases-write_binary
decreases-write_binary l = 6 * (size (tree l.left.now) + size (tree l.right.now)) + 3

abbrev pub decreases-write_logic : goal.decreases-write_logic
decreases-write_logic l = 6 * (size (tree l.left.now) + size (tree l.right.now)) + 3

abbrev pub decreases-write_conditional : goal.decreases-write_conditional
decreases-write_conditional l = 6 * (size (tree l.test.now) + size (tree l.first.now) + size (tree l.second.now)) + 3

abbrev pub decreases-write_index : goal.decreases-write_index
decreases-write_index l = 6 * (size (tree l.base.now) + size (tree l.place.now)) + 3

abbrev pub decreases-write_range : goal.decreases-write_range
decreases-write_range l = 6 * (size (tree l.base.now) + size (tree l.low.now) + size (tree l.high.now)) + 3

abbrev pub decreases-write_list : goal.decreases-write_list
decreases-write_list l = 6 * items_size (items_of l.items.now) + 3

abbrev pub decreases-write_items : goal.decreases-write_items
decreases-write_items l = 6 * items_size (items_of l.items.now) + 2

abbrev pub decreases-write_item : goal.decreases-write_item
decreases-write_item l = 6 * item_size l.item.now

abbrev pub decreases-write_selected : goal.decreases-write_selected
decreases-write_selected l = 6 * (size (tree l.base.now) + size (tree l.name.now)) + 3

abbrev pub decreases-write_arguments : goal.decreases-write_arguments
decreases-write_arguments l = 6 * items_size (items_of l.arguments.now) + 3

abbrev pub decreases-write_assignment : goal.decreases-write_assignment
decreases-write_assignment l = 6 * (size (tree l.target.now) + size (tree l.value.now)) + 3

abbrev pub decreases-write_caught : goal.decreases-write_caught
decreases-write_caught l = 6 * (size (tree l.value.now) + codes_size (codes_of l.errors.now)) + 3

abbrev pub decreases-write_codes : goal.decreases-write_codes
decreases-write_codes l = 6 * codes_size (codes_of l.errors.now)

abbrev pub decreases-write_verb_call : goal.decreases-write_verb_call
decreases-write_verb_call l = 6 * (size (tree l.base.now) + size (tree l.name.now) + items_size (items_of l.arguments.now)) + 4

abbrev pub decreases-write_call : goal.decreases-write_call
decreases-write_call l = 6 * items_size (items_of l.arguments.now) + 4

abbrev pub decreases-write_catch : goal.decreases-write_catch
decreases-write_catch l = 6 * (size (tree l.value.now) + codes_size (codes_of l.errors.now)) + 4

abbrev pub decreases-write_catch_or : goal.decreases-write_catch_or
decreases-write_catch_or l = 6 * (size (tree l.value.now) + codes_size (codes_of l.errors.now) + size (tree l.default.now)) + 4
