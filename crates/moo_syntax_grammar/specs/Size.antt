-- The height of the tree of a phrase.
use Rattle.std.specs.Prelude.{ℕ}
use Rattle.moo_syntax_ast.specs.Limits.{height, items_height, codes_height, statement_height, block_height, arms_height, handlers_height}
use Rattle.moo_syntax_grammar.specs.Grammar.{Sort, expr, items, errors, stmt, block, arm_list, handler_list, label_name, Of}

abbrev pub size : (s : Sort) → Of s → ℕ
size expr e = height e
size items xs = items_height xs
size errors c = codes_height c
size stmt s = statement_height s
size block b = block_height b
size arm_list c = arms_height c
size handler_list h = handlers_height h
size label_name l = 0
