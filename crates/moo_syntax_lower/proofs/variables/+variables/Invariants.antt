-- The names so far with those of the items that are left are all of them.
use Rattle.std.proofs.Common.{◌≡◌, ◌+◌, ◌*◌, ◌++◌, drop}
use Rattle.moo_syntax_ast.specs.View.{tree, items_of, codes_of}
use Rattle.moo_syntax_ast.specs.Slots.{items_variables}
use Rattle.moo_syntax_ast.proofs.Sizes.{size, items_size, item_size, codes_size}
use Rattle.moo_syntax_lower.proofs.variables.+variables.Given as goal

abbrev pub invariant-add_items-loop-item : goal.invariant-add_items-loop-item
invariant-add_items-loop-item l = l.names.items ++ items_variables (items_of (drop l.item-index l.items)) ≡ l.fn.names.items ++ items_variables (items_of l.items)

abbrev pub decreases-add_expression : goal.decreases-add_expression
decreases-add_expression l = 3 * size (tree l.value.now)

abbrev pub decreases-add_verb_call : goal.decreases-add_verb_call
decreases-add_verb_call l = 3 * (size (tree l.base.now) + size (tree l.name.now) + items_size (items_of l.arguments.now)) + 2

abbrev pub decreases-add_catch : goal.decreases-add_catch
decreases-add_catch l = 3 * (size (tree l.value.now) + codes_size (codes_of l.errors.now)) + 1

abbrev pub decreases-add_catch_or : goal.decreases-add_catch_or
decreases-add_catch_or l = 3 * (size (tree l.value.now) + codes_size (codes_of l.errors.now) + size (tree l.default.now)) + 2

abbrev pub decreases-add_codes : goal.decreases-add_codes
decreases-add_codes l = 3 * codes_size (codes_of l.errors.now)

abbrev pub decreases-add_items : goal.decreases-add_items
decreases-add_items l = 3 * items_size (items_of l.items.now) + 1

abbrev pub decreases-add_item : goal.decreases-add_item
decreases-add_item l = 3 * item_size l.item.now
