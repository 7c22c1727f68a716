-- The contents of a `Vec` in a variant of the tree.
use Rattle.std.proofs.Common.{◌≡◌, refl, ap, ◌∙◌, Vec, Global}
use Rattle.moo_syntax_ast.specs.declared.tree.Expr.{Row_of-Item, end_of-Item, more_of-Item, items-the_row-Item, items_hidden-the_row-Item-0}
use Rattle.moo_syntax_ast.specs.declared.tree.Codes.TheBlock.{hidden-the_row-Item-0}
use Rattle.moo_syntax_ast.specs.declared.tree.Item.{Item}
use Rattle.moo_syntax_ast.specs.Tree
use Rattle.moo_syntax_ast.specs.Tree.{Items}
use Rattle.moo_syntax_ast.specs.View.{row, with_item, items_of, statement, statements, block, arms_row, with_arm, arms_of, handlers_row, with_handler, handlers_of}
use Rattle.moo_syntax_ast.specs.declared.tree.Stmt.{Stmt, Row_of-Stmt, end_of-Stmt, more_of-Stmt, items-the_row-Stmt, items_hidden-the_row-Stmt-0}
use Rattle.moo_syntax_ast.specs.declared.tree.Arm.{Arm}
use Rattle.moo_syntax_ast.specs.declared.tree.Handler.{Handler}
use Rattle.moo_syntax_ast.specs.declared.tree.Stmt as stmt
use Rattle.moo_syntax_ast.specs.declared.tree.Arm.TheBlock as hidden

row_of_items : (n : _) (r : Row_of-Item n) → row r ≡ items_of (items-the_row-Item n r)
row_of_items n end_of-Item = refl
row_of_items n (more_of-Item x r) = ap (with_item x) (row_of_items _ r)

abbrev pub row_of : Vec Item Global → Items
row_of v = row (hidden-the_row-Item-0 v)

-- the tree of a list's items
pub row_items : (v : Vec Item Global) → row (hidden-the_row-Item-0 v) ≡ items_of v.items
row_items v = row_of_items _ (hidden-the_row-Item-0 v) ∙ ap items_of (items_hidden-the_row-Item-0 v)

row_of_statements : (n : _) (r : Row_of-Stmt n) → statements r ≡ block (items-the_row-Stmt n r)
row_of_statements n end_of-Stmt = refl
row_of_statements n (more_of-Stmt s r) = ap (Tree.then (statement s)) (row_of_statements _ r)

pub row_block : (v : Vec Stmt Global) → statements (hidden.hidden-the_row-Stmt-0 v) ≡ block v.items
row_block v = row_of_statements _ (hidden.hidden-the_row-Stmt-0 v) ∙ ap block (items_hidden-the_row-Stmt-0 v)

row_of_arms : (n : _) (r : stmt.Row_of-Arm n) → arms_row r ≡ arms_of (stmt.items-the_row-Arm n r)
row_of_arms n stmt.end_of-Arm = refl
row_of_arms n (stmt.more_of-Arm a r) = ap (with_arm a) (row_of_arms _ r)

pub row_arms : (v : Vec Arm Global) → arms_row (hidden.hidden-the_row-Arm-1 v) ≡ arms_of v.items
row_arms v = row_of_arms _ (hidden.hidden-the_row-Arm-1 v) ∙ ap arms_of (stmt.items_hidden-the_row-Arm-1 v)

row_of_handlers : (n : _) (r : stmt.Row_of-Handler n) → handlers_row r ≡ handlers_of (stmt.items-the_row-Handler n r)
row_of_handlers n stmt.end_of-Handler = refl
row_of_handlers n (stmt.more_of-Handler h r) = ap (with_handler h) (row_of_handlers _ r)

pub row_handlers : (v : Vec Handler Global) → handlers_row (hidden.hidden-the_row-Handler-2 v) ≡ handlers_of v.items
row_handlers v = row_of_handlers _ (hidden.hidden-the_row-Handler-2 v) ∙ ap handlers_of (stmt.items_hidden-the_row-Handler-2 v)
