-- The variables of arms and handlers, one after another.
use Rattle.std.proofs.Common.{ℕ, ◌+◌, ◌<◌, List, [], ◌∷◌, ◌++◌, ◌≡◌, refl, ap, sym, ◌∙◌, length, get_or, drop, append_assoc, Box, Vec, Global}
use Rattle.std.proofs.lemmas.List.{drop_more}
use Rattle.moo_syntax_ast.specs.declared.tree.Arm.{Arm, ElseIf', Else'}
use Rattle.moo_syntax_ast.specs.declared.tree.Arm.TheBlock as hidden
use Rattle.moo_syntax_ast.specs.declared.tree.Handler.{Handler, Except', ExceptAs'}
use Rattle.moo_syntax_ast.specs.declared.tree.Stmt as code
use Rattle.moo_syntax_ast.specs.declared.tree.Expr as expr
use Rattle.moo_syntax_ast.specs.Tree.{Handlers}
use Rattle.moo_syntax_ast.specs.View.{root, block, arms_of, with_arm, handlers_of, with_handler}
use Rattle.moo_syntax_ast.specs.Slots.{variables, block_variables, arms_variables, handlers_variables, handler_variables}
use Rattle.moo_syntax_ast.proofs.Rows.{row_block}

-- names and others after these
pub added : (names a b rest first all : List (List ℕ)) → first ≡ names ++ a → all ≡ first ++ b → all ++ rest ≡ names ++ ((a ++ b) ++ rest)
added names a b rest first all p q =
    ap (λ v. v ++ rest) (q ∙ ap (λ v. v ++ b) p ∙ append_assoc names a b) ∙ append_assoc names (a ++ b) rest

-- a name and others after it
pub named : (names : List (List ℕ)) (s : List ℕ) (a b : List (List ℕ)) → ((names ++ s ∷ []) ++ a) ++ b ≡ names ++ (s ∷ (a ++ b))
named names s a b = append_assoc (names ++ s ∷ []) a b ∙ append_assoc names (s ∷ []) (a ++ b)

pub named_more : (names : List (List ℕ)) (s : List ℕ) (a b c : List (List ℕ)) → (((names ++ s ∷ []) ++ a) ++ b) ++ c ≡ names ++ (s ∷ ((a ++ b) ++ c))
named_more names s a b c = ap (λ v. v ++ c) (named names s a b) ∙ append_assoc names (s ∷ (a ++ b)) c

module _ (arms : List Arm) (i : ℕ) (x : Arm) (h : i < length arms) (e : x ≡ get_or arms i x) where
  arms_at : arms_variables (arms_of (drop i arms)) ≡ arms_variables (with_arm x (arms_of (drop (i + 1) arms)))
  arms_at = ap (λ v. arms_variables (arms_of v)) (drop_more arms i x h ∙ ap (λ v. v ∷ drop (i + 1) arms) (sym e))

  pub elseif_at : (a : Box expr.Expr Global) (v : Vec code.Stmt Global) → x ≡ ElseIf' a (hidden.shape-the_row-Stmt-0 v) (hidden.hidden-the_row-Stmt-0 v) → arms_variables (arms_of (drop i arms)) ≡ (variables (root a) ++ block_variables (block v.items)) ++ arms_variables (arms_of (drop (i + 1) arms))
  elseif_at a v is = arms_at ∙ ap (λ y. arms_variables (with_arm y (arms_of (drop (i + 1) arms)))) is ∙ ap (λ b. (variables (root a) ++ block_variables b) ++ arms_variables (arms_of (drop (i + 1) arms))) (row_block v)

  pub else_at : (v : Vec code.Stmt Global) → x ≡ Else' (hidden.shape-the_row-Stmt-0 v) (hidden.hidden-the_row-Stmt-0 v) → arms_variables (arms_of (drop i arms)) ≡ block_variables (block v.items)
  else_at v is = arms_at ∙ ap (λ y. arms_variables (with_arm y (arms_of (drop (i + 1) arms)))) is ∙ ap block_variables (row_block v)

handler_step : (h : Handler) (hs : Handlers) → handlers_variables (with_handler h hs) ≡ handler_variables h ++ handlers_variables hs
handler_step (Except' c shape ss) hs = refl
handler_step (ExceptAs' s c shape ss) hs = refl

pub handlers_at : (xs : List Handler) (i : ℕ) (x : Handler) → i < length xs → x ≡ get_or xs i x → handlers_variables (handlers_of (drop i xs)) ≡ handler_variables x ++ handlers_variables (handlers_of (drop (i + 1) xs))
handlers_at xs i x h e = ap (λ v. handlers_variables (handlers_of v)) (drop_more xs i x h ∙ ap (λ v. v ∷ drop (i + 1) xs) (sym e)) ∙ handler_step x (handlers_of (drop (i + 1) xs))
