-- The contents of a `Vec` in a variant of a statement.
use Rattle.std.proofs.Common.{◌≡◌, refl, ap, ◌∙◌, Vec, Global}
use Rattle.moo_syntax_ast.specs.Tree
use Rattle.moo_syntax_node.specs.declared.statement.NodeStmt.{NodeStmt, Row_of-NodeStmt, end_of-NodeStmt, more_of-NodeStmt, items-the_row-NodeStmt, items_hidden-the_row-NodeStmt-0, Row_of-NodeArm, end_of-NodeArm, more_of-NodeArm, items-the_row-NodeArm, items_hidden-the_row-NodeArm-1, Row_of-NodeHandler, end_of-NodeHandler, more_of-NodeHandler, items-the_row-NodeHandler, items_hidden-the_row-NodeHandler-2}
use Rattle.moo_syntax_node.specs.declared.statement.NodeArm.{NodeArm}
use Rattle.moo_syntax_node.specs.declared.statement.NodeHandler.{NodeHandler}
use Rattle.moo_syntax_node.specs.declared.statement.NodeArm.TheBlock.{hidden-the_row-NodeStmt-0, hidden-the_row-NodeArm-1, hidden-the_row-NodeHandler-2}
use Rattle.moo_syntax_node.specs.Blocks.{source_statement, source_statements, source_block, with_source_arm, source_arms, source_arm_list, with_source_handler, source_handlers, source_handler_list}

row_of_statements : (n : _) (r : Row_of-NodeStmt n) → source_statements r ≡ source_block (items-the_row-NodeStmt n r)
row_of_statements n end_of-NodeStmt = refl
row_of_statements n (more_of-NodeStmt s r) = ap (Tree.then (source_statement s)) (row_of_statements _ r)

-- the source of a list's statements
pub row_block : (v : Vec NodeStmt Global) → source_statements (hidden-the_row-NodeStmt-0 v) ≡ source_block v.items
row_block v = row_of_statements _ (hidden-the_row-NodeStmt-0 v) ∙ ap source_block (items_hidden-the_row-NodeStmt-0 v)

row_of_arms : (n : _) (r : Row_of-NodeArm n) → source_arms r ≡ source_arm_list (items-the_row-NodeArm n r)
row_of_arms n end_of-NodeArm = refl
row_of_arms n (more_of-NodeArm a r) = ap (with_source_arm a) (row_of_arms _ r)

pub row_arms : (v : Vec NodeArm Global) → source_arms (hidden-the_row-NodeArm-1 v) ≡ source_arm_list v.items
row_arms v = row_of_arms _ (hidden-the_row-NodeArm-1 v) ∙ ap source_arm_list (items_hidden-the_row-NodeArm-1 v)

row_of_handlers : (n : _) (r : Row_of-NodeHandler n) → source_handlers r ≡ source_handler_list (items-the_row-NodeHandler n r)
row_of_handlers n end_of-NodeHandler = refl
row_of_handlers n (more_of-NodeHandler h r) = ap (with_source_handler h) (row_of_handlers _ r)

pub row_handlers : (v : Vec NodeHandler Global) → source_handlers (hidden-the_row-NodeHandler-2 v) ≡ source_handler_list v.items
row_handlers v = row_of_handlers _ (hidden-the_row-NodeHandler-2 v) ∙ ap source_handler_list (items_hidden-the_row-NodeHandler-2 v)
