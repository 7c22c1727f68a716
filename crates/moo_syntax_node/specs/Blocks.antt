-- The statements that lowered statements come from.
use Rattle.std.specs.Prelude.{ℕ, Box, List, [], ◌∷◌, Some, None}
use Rattle.std.specs.Global.{Global}
use Rattle.moo_syntax_ast.specs.declared.operator.BinaryOperator.TheVariants.{Add}
use Rattle.moo_syntax_ast.specs.Tree
use Rattle.moo_syntax_ast.specs.Tree.{Block}
use Rattle.moo_syntax_node.specs.declared.node.Node as node
use Rattle.moo_syntax_node.specs.declared.statement.NodeStmt.{NodeStmt, Return, Expression, Set, Lengthen, Extend, Update, Put, ScatterNames, Scatter, If', ForList', ForRange', While', Break, Continue, TryExcept', TryFinally', Row_of-NodeStmt, end_of-NodeStmt, more_of-NodeStmt, Row_of-NodeArm, end_of-NodeArm, more_of-NodeArm, Row_of-NodeHandler, end_of-NodeHandler, more_of-NodeHandler}
use Rattle.moo_syntax_node.specs.declared.statement.NodeArm.{NodeArm, ElseIf', Else'}
use Rattle.moo_syntax_node.specs.declared.statement.NodeHandler.{NodeHandler, Except', ExceptAs'}
use Rattle.moo_syntax_node.specs.Source.{source, source_codes, source_items}

abbrev pub root : Box node.Node Global → Tree.Expr
root b = source b.value

-- the items that are these variables
abbrev pub named_items : List (List ℕ) → Tree.Items
named_items [] = Tree.no_items
named_items (v ∷ vs) = Tree.element (Tree.variable v) (named_items vs)

abbrev mutual
  -- the statement that a lowered statement comes from
  pub source_statement : NodeStmt → Tree.Stmt
  source_statement (Return None) = Tree.return_nothing
  source_statement (Return (Some e)) = Tree.returns (root e)
  source_statement (Expression e) = Tree.performs (root e)
  source_statement (Set v e) = Tree.performs (Tree.assign (Tree.variable v) (root e))
  source_statement (Lengthen v e) = Tree.performs (Tree.assign (Tree.variable v) (Tree.list (Tree.splice (Tree.variable v) (Tree.element (root e) Tree.no_items))))
  source_statement (Extend v e) = Tree.performs (Tree.assign (Tree.variable v) (Tree.binary Add (Tree.variable v) (root e)))
  source_statement (Update v f xs) = Tree.performs (Tree.assign (Tree.variable v) (Tree.call f (source_items xs.items)))
  source_statement (Put v a e) = Tree.performs (Tree.assign (Tree.index (Tree.variable v) (root a)) (root e))
  source_statement (ScatterNames vs e) = Tree.performs (Tree.assign (Tree.list (named_items vs.items)) (root e))
  source_statement (Scatter xs e) = Tree.performs (Tree.assign (Tree.list (source_items xs.items)) (root e))
  source_statement (If' e shape ss shapes arms) = Tree.branches (root e) (source_statements ss) (source_arms arms)
  source_statement (ForList' v e shape ss) = Tree.for_list v (root e) (source_statements ss)
  source_statement (ForRange' v a b shape ss) = Tree.for_range v (root a) (root b) (source_statements ss)
  source_statement (While' n e shape ss) = Tree.while_loop n (root e) (source_statements ss)
  source_statement (Break n) = Tree.breaks n
  source_statement (Continue n) = Tree.continues n
  source_statement (TryExcept' shape ss shapes handlers) = Tree.try_except (source_statements ss) (source_handlers handlers)
  source_statement (TryFinally' shape ss shapes cleanup) = Tree.try_finally (source_statements ss) (source_statements cleanup)

  pub source_statements : {m : _} → Row_of-NodeStmt m → Block
  source_statements end_of-NodeStmt = Tree.no_statement
  source_statements (more_of-NodeStmt s ss) = Tree.then (source_statement s) (source_statements ss)

  pub source_arms : {m : _} → Row_of-NodeArm m → Tree.Arms
  source_arms end_of-NodeArm = Tree.no_else
  source_arms (more_of-NodeArm a arms) = with_source_arm a (source_arms arms)

  -- arms after `else` are no part of the program
  pub with_source_arm : NodeArm → Tree.Arms → Tree.Arms
  with_source_arm (ElseIf' e shape ss) arms = Tree.elseif (root e) (source_statements ss) arms
  with_source_arm (Else' shape ss) arms = Tree.otherwise (source_statements ss)

  pub source_handlers : {m : _} → Row_of-NodeHandler m → Tree.Handlers
  source_handlers end_of-NodeHandler = Tree.no_handler
  source_handlers (more_of-NodeHandler h hs) = with_source_handler h (source_handlers hs)

  pub with_source_handler : NodeHandler → Tree.Handlers → Tree.Handlers
  with_source_handler (Except' c shape ss) hs = Tree.handler None (source_codes c) (source_statements ss) hs
  with_source_handler (ExceptAs' v c shape ss) hs = Tree.handler (Some v) (source_codes c) (source_statements ss) hs

-- statements before others
abbrev pub statements_before : List NodeStmt → Block → Block
statements_before [] b = b
statements_before (s ∷ ss) b = Tree.then (source_statement s) (statements_before ss b)

abbrev pub source_block : List NodeStmt → Block
source_block ss = statements_before ss Tree.no_statement

-- arms before others
abbrev pub arms_before : List NodeArm → Tree.Arms → Tree.Arms
arms_before [] rest = rest
arms_before (a ∷ arms) rest = with_source_arm a (arms_before arms rest)

abbrev pub source_arm_list : List NodeArm → Tree.Arms
source_arm_list arms = arms_before arms Tree.no_else

-- handlers before others
abbrev pub handlers_before : List NodeHandler → Tree.Handlers → Tree.Handlers
handlers_before [] rest = rest
handlers_before (h ∷ hs) rest = with_source_handler h (handlers_before hs rest)

abbrev pub source_handler_list : List NodeHandler → Tree.Handlers
source_handler_list hs = handlers_before hs Tree.no_handler
