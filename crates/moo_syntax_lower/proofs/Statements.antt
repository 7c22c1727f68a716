-- Statements, arms and handlers, one after another.
use Rattle.std.proofs.Common.{◌≡◌, refl, ap, sym, ◌∙◌, ℕ, ◌+◌, ◌<◌, List, [], ◌∷◌, ◌++◌, length, get_or, drop}
use Rattle.std.proofs.lemmas.List.{drop_more}
use Rattle.moo_syntax_ast.specs.Tree
use Rattle.moo_syntax_ast.specs.declared.tree.Stmt.{Stmt}
use Rattle.moo_syntax_ast.specs.declared.tree.Arm.{Arm}
use Rattle.moo_syntax_ast.specs.declared.tree.Handler.{Handler}
use Rattle.moo_syntax_ast.specs.View.{statement, block, with_arm, arms_of, with_handler, handlers_of}
use Rattle.moo_syntax_node.specs.declared.statement.NodeStmt.{NodeStmt}
use Rattle.moo_syntax_node.specs.declared.statement.NodeArm.{NodeArm}
use Rattle.moo_syntax_node.specs.declared.statement.NodeHandler.{NodeHandler}
use Rattle.moo_syntax_node.specs.Blocks.{source_statement, statements_before, with_source_arm, arms_before, with_source_handler, handlers_before}

-- one more before the others
pub statement_last : (xs : List NodeStmt) (x : NodeStmt) (rest : Tree.Block) → statements_before (xs ++ x ∷ []) rest ≡ statements_before xs (Tree.then (source_statement x) rest)
statement_last [] x rest = refl
statement_last (y ∷ ys) x rest = ap (Tree.then (source_statement y)) (statement_last ys x rest)

pub arm_last : (xs : List NodeArm) (x : NodeArm) (rest : Tree.Arms) → arms_before (xs ++ x ∷ []) rest ≡ arms_before xs (with_source_arm x rest)
arm_last [] x rest = refl
arm_last (y ∷ ys) x rest = ap (with_source_arm y) (arm_last ys x rest)

pub handler_last : (xs : List NodeHandler) (x : NodeHandler) (rest : Tree.Handlers) → handlers_before (xs ++ x ∷ []) rest ≡ handlers_before xs (with_source_handler x rest)
handler_last [] x rest = refl
handler_last (y ∷ ys) x rest = ap (with_source_handler y) (handler_last ys x rest)

-- those from one on
pub statement_at : (xs : List Stmt) (i : ℕ) (x : Stmt) → i < length xs → x ≡ get_or xs i x → Tree.then (statement x) (block (drop (i + 1) xs)) ≡ block (drop i xs)
statement_at xs i x h e = ap (λ y. Tree.then (statement y) (block (drop (i + 1) xs))) e ∙ sym (ap block (drop_more xs i x h))

pub arm_at : (xs : List Arm) (i : ℕ) (x : Arm) → i < length xs → x ≡ get_or xs i x → with_arm x (arms_of (drop (i + 1) xs)) ≡ arms_of (drop i xs)
arm_at xs i x h e = ap (λ y. with_arm y (arms_of (drop (i + 1) xs))) e ∙ sym (ap arms_of (drop_more xs i x h))

pub handler_at : (xs : List Handler) (i : ℕ) (x : Handler) → i < length xs → x ≡ get_or xs i x → with_handler x (handlers_of (drop (i + 1) xs)) ≡ handlers_of (drop i xs)
handler_at xs i x h e = ap (λ y. with_handler y (handlers_of (drop (i + 1) xs))) e ∙ sym (ap handlers_of (drop_more xs i x h))
