-- The trees of the program's types.
use Rattle.std.specs.Prelude.{Box, List, [], ◌∷◌, Some, None}
use Rattle.std.specs.Global.{Global}
use Rattle.moo_syntax_ast.specs.Tree
use Rattle.moo_syntax_ast.specs.Tree.{Items, Block}
use Rattle.moo_syntax_ast.specs.declared.tree.Expr.{Expr, Literal, Variable, Length, Unary', Binary', Logic', Conditional', Index', Range', List', Property', VerbCall', Call', Assign', Catch', Row_of-Item, end_of-Item, more_of-Item, None', Some'}
use Rattle.moo_syntax_ast.specs.declared.tree.Item.{Item, Element', Splice', Optional, Defaulted'}
use Rattle.moo_syntax_ast.specs.declared.tree.Codes.{Codes, Any, Listed'}
use Rattle.moo_syntax_ast.specs.declared.tree.Stmt.{Stmt, Return, Expression, If', ForList', ForRange', While', Break, Continue, TryExcept', TryFinally', Row_of-Stmt, end_of-Stmt, more_of-Stmt, Row_of-Arm, end_of-Arm, more_of-Arm, Row_of-Handler, end_of-Handler, more_of-Handler}
use Rattle.moo_syntax_ast.specs.declared.tree.Arm.{Arm, ElseIf', Else'}
use Rattle.moo_syntax_ast.specs.declared.tree.Handler.{Handler, Except', ExceptAs'}

abbrev mutual
  pub tree : Expr → Tree.Expr
  tree (Literal l) = Tree.literal l
  tree (Variable s) = Tree.variable s
  tree Length = Tree.length_mark
  tree (Unary' o p a) = Tree.unary o (tree a)
  tree (Binary' o p a q b) = Tree.binary o (tree a) (tree b)
  tree (Logic' o p a q b) = Tree.logic o (tree a) (tree b)
  tree (Conditional' p a q b r c) = Tree.conditional (tree a) (tree b) (tree c)
  tree (Index' p a q b) = Tree.index (tree a) (tree b)
  tree (Range' p a q b r c) = Tree.range (tree a) (tree b) (tree c)
  tree (List' shape xs) = Tree.list (row xs)
  tree (Property' p a q b) = Tree.property (tree a) (tree b)
  tree (VerbCall' p a q b r shape xs) = Tree.verb_call (tree a) (tree b) (row xs)
  tree (Call' s shape xs) = Tree.call s (row xs)
  tree (Assign' p a q b) = Tree.assign (tree a) (tree b)
  tree (Catch' p a r c None') = Tree.catch (tree a) (codes_of c)
  tree (Catch' p a r c (Some' q b)) = Tree.catch_or (tree a) (codes_of c) (tree b)

  pub codes_of : Codes → Tree.Codes
  codes_of Any = Tree.any_error
  codes_of (Listed' shape xs) = Tree.listed_errors (row xs)

  pub row : {m : _} → Row_of-Item m → Items
  row end_of-Item = Tree.no_items
  row (more_of-Item x xs) = with_item x (row xs)

  pub with_item : Item → Items → Items
  with_item (Element' p e) xs = Tree.element (tree e) xs
  with_item (Splice' p e) xs = Tree.splice (tree e) xs
  with_item (Optional s) xs = Tree.optional s.value xs
  with_item (Defaulted' s p e) xs = Tree.defaulted s.value (tree e) xs

-- the items before others
abbrev pub in_front : List Item → Items → Items
in_front [] xs = xs
in_front (x ∷ front) xs = with_item x (in_front front xs)

abbrev pub items_of : List Item → Items
items_of items = in_front items Tree.no_items

abbrev pub root : Box Expr Global → Tree.Expr
root b = tree b.value

abbrev mutual
  pub statement : Stmt → Tree.Stmt
  statement (Return None) = Tree.return_nothing
  statement (Return (Some e)) = Tree.returns (root e)
  statement (Expression e) = Tree.performs (root e)
  statement (If' e shape ss shapes arms) = Tree.branches (root e) (statements ss) (arms_row arms)
  statement (ForList' s e shape ss) = Tree.for_list s (root e) (statements ss)
  statement (ForRange' s a b shape ss) = Tree.for_range s (root a) (root b) (statements ss)
  statement (While' n e shape ss) = Tree.while_loop n (root e) (statements ss)
  statement (Break n) = Tree.breaks n
  statement (Continue n) = Tree.continues n
  statement (TryExcept' shape ss shapes handlers) = Tree.try_except (statements ss) (handlers_row handlers)
  statement (TryFinally' shape ss shapes cleanup) = Tree.try_finally (statements ss) (statements cleanup)

  pub statements : {m : _} → Row_of-Stmt m → Block
  statements end_of-Stmt = Tree.no_statement
  statements (more_of-Stmt s ss) = Tree.then (statement s) (statements ss)

  pub arms_row : {m : _} → Row_of-Arm m → Tree.Arms
  arms_row end_of-Arm = Tree.no_else
  arms_row (more_of-Arm a arms) = with_arm a (arms_row arms)

  -- arms after `else` are no part of the program
  pub with_arm : Arm → Tree.Arms → Tree.Arms
  with_arm (ElseIf' e shape ss) arms = Tree.elseif (root e) (statements ss) arms
  with_arm (Else' shape ss) arms = Tree.otherwise (statements ss)

  pub handlers_row : {m : _} → Row_of-Handler m → Tree.Handlers
  handlers_row end_of-Handler = Tree.no_handler
  handlers_row (more_of-Handler h hs) = with_handler h (handlers_row hs)

  pub with_handler : Handler → Tree.Handlers → Tree.Handlers
  with_handler (Except' c shape ss) hs = Tree.handler None (codes_of c) (statements ss) hs
  with_handler (ExceptAs' s c shape ss) hs = Tree.handler (Some s) (codes_of c) (statements ss) hs

-- statements, one after another
abbrev pub block : List Stmt → Block
block [] = Tree.no_statement
block (s ∷ ss) = Tree.then (statement s) (block ss)

-- the further arms of an `if`
abbrev pub arms_of : List Arm → Tree.Arms
arms_of [] = Tree.no_else
arms_of (a ∷ arms) = with_arm a (arms_of arms)

abbrev pub handlers_of : List Handler → Tree.Handlers
handlers_of [] = Tree.no_handler
handlers_of (h ∷ hs) = with_handler h (handlers_of hs)
