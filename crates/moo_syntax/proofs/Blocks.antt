-- Statements, arms and handlers, one after another.
use Rattle.std.proofs.Common.{◌≤◌, List, [], ◌∷◌, ◌++◌, ◌≡◌, refl, ap, max, arith}
use Rattle.moo_syntax_ast.specs.declared.tree.Stmt.{Stmt}
use Rattle.moo_syntax_ast.specs.declared.tree.Arm.{Arm, ElseIf', Else'}
use Rattle.moo_syntax_ast.specs.declared.tree.Handler.{Handler, Except', ExceptAs'}
use Rattle.moo_syntax_ast.specs.Tree
use Rattle.moo_syntax_ast.specs.Tree.{Block, Arms, Handlers, no_statement, then, no_else, no_handler, return_nothing, returns, performs, branches, for_list, for_range, while_loop, breaks, continues, try_except, try_finally}
use Rattle.moo_syntax_ast.specs.Limits.{statement_height, block_height, arms_height, handlers_height}
use Rattle.moo_syntax_ast.specs.View.{statement, block, with_arm, arms_of, with_handler, handlers_of}
use Rattle.moo_syntax.specs.Statements.{before, arms_before, handlers_before}

pub before_nothing : (ss : List Stmt) → before ss no_statement ≡ block ss
before_nothing [] = refl
before_nothing (s ∷ ss) = ap (then (statement s)) (before_nothing ss)

pub before_push : (ss : List Stmt) (s : Stmt) (b : Block) → before (ss ++ s ∷ []) b ≡ before ss (then (statement s) b)
before_push [] s b = refl
before_push (r ∷ ss) s b = ap (then (statement r)) (before_push ss s b)

pub block_height_push : (ss : List Stmt) (s : Stmt) → block_height (block (ss ++ s ∷ [])) ≡ max (block_height (block ss)) (statement_height (statement s))
block_height_push [] s = omega arith
block_height_push (r ∷ ss) s = omega (arith, block_height_push ss s)

pub statement_height_positive : (s : Tree.Stmt) → 1 ≤ statement_height s
statement_height_positive return_nothing = omega arith
statement_height_positive (returns a) = omega arith
statement_height_positive (performs a) = omega arith
statement_height_positive (branches a b c) = omega arith
statement_height_positive (for_list x a b) = omega arith
statement_height_positive (for_range x a b c) = omega arith
statement_height_positive (while_loop n a b) = omega arith
statement_height_positive (breaks n) = omega arith
statement_height_positive (continues n) = omega arith
statement_height_positive (try_except b h) = omega arith
statement_height_positive (try_finally b c) = omega arith

pub arms_before_nothing : (front : List Arm) → arms_before front no_else ≡ arms_of front
arms_before_nothing [] = refl
arms_before_nothing (a ∷ front) = ap (with_arm a) (arms_before_nothing front)

pub arms_before_push : (front : List Arm) (a : Arm) (c : Arms) → arms_before (front ++ a ∷ []) c ≡ arms_before front (with_arm a c)
arms_before_push [] a c = refl
arms_before_push (b ∷ front) a c = ap (with_arm b) (arms_before_push front a c)

pub arms_push : (front : List Arm) (a : Arm) → arms_of (front ++ a ∷ []) ≡ arms_before front (with_arm a no_else)
arms_push [] a = refl
arms_push (b ∷ front) a = ap (with_arm b) (arms_push front a)

pub arms_before_height : (front : List Arm) (c : Arms) → arms_height (arms_before front c) ≤ max (arms_height (arms_of front)) (arms_height c)
arms_before_height [] c = omega arith
arms_before_height (ElseIf' e shape ss ∷ front) c = omega (arith, arms_before_height front c)
arms_before_height (Else' shape ss ∷ front) c = omega arith

pub arms_height_push : (front : List Arm) (a : Arm) → arms_height (arms_of (front ++ a ∷ [])) ≤ max (arms_height (arms_of front)) (arms_height (with_arm a no_else))
arms_height_push front a = rw arms_push (arms_before_height front (with_arm a no_else))

pub handlers_before_push : (front : List Handler) (h : Handler) (hs : Handlers) → handlers_before (front ++ h ∷ []) hs ≡ handlers_before front (with_handler h hs)
handlers_before_push [] h hs = refl
handlers_before_push (j ∷ front) h hs = ap (with_handler j) (handlers_before_push front h hs)

pub handlers_push : (front : List Handler) (h : Handler) → handlers_of (front ++ h ∷ []) ≡ handlers_before front (with_handler h no_handler)
handlers_push [] h = refl
handlers_push (j ∷ front) h = ap (with_handler j) (handlers_push front h)

pub with_handler_height : (h : Handler) (hs : Handlers) → handlers_height (with_handler h hs) ≡ max (handlers_height (with_handler h no_handler)) (handlers_height hs)
with_handler_height (Except' c shape ss) hs = omega arith
with_handler_height (ExceptAs' s c shape ss) hs = omega arith

pub handlers_before_height : (front : List Handler) (hs : Handlers) → handlers_height (handlers_before front hs) ≡ max (handlers_height (handlers_of front)) (handlers_height hs)
handlers_before_height [] hs = omega arith
handlers_before_height (h ∷ front) hs = omega (arith, with_handler_height h (handlers_before front hs), with_handler_height h (handlers_of front), handlers_before_height front hs)

pub handlers_height_push : (front : List Handler) (h : Handler) → handlers_height (handlers_of (front ++ h ∷ [])) ≡ max (handlers_height (handlers_of front)) (handlers_height (with_handler h no_handler))
handlers_height_push front h = rw handlers_push (handlers_before_height front (with_handler h no_handler))
