-- Arms and handlers line by line.
use Rattle.std.proofs.Common.{ℕ, ◌+◌, ◌<◌, List, [], ◌∷◌, ◌++◌, ◌≡◌, refl, ap, sym, ◌∙◌, length, get_or, drop, append_assoc, codes, Box, Vec, Global}
use Rattle.std.proofs.lemmas.List.{drop_more}
use Rattle.moo_syntax_ast.specs.declared.tree.Arm.{Arm, ElseIf', Else'}
use Rattle.moo_syntax_ast.specs.declared.tree.Arm.TheBlock as hidden
use Rattle.moo_syntax_ast.specs.declared.tree.Handler.{Handler, Except', ExceptAs'}
use Rattle.moo_syntax_ast.specs.declared.tree.Stmt as code
use Rattle.moo_syntax_ast.specs.declared.tree.Expr as expr
use Rattle.moo_syntax_ast.specs.Tree.{Handlers}
use Rattle.moo_syntax_ast.specs.View.{root, block, arms_of, with_arm, handlers_of, with_handler}
use Rattle.moo_syntax_ast.proofs.Rows.{row_block}
use Rattle.moo_unparse.specs.declared.form.Form.{Form}
use Rattle.moo_unparse.specs.Listings.{elseif_head, deeper, lines, arm_lines, handlers_lines}
use Rattle.moo_unparse.specs.Lines.{handler_lines}

-- a line and others after these
pub written : (lines : List (List ℕ)) (h : List ℕ) (body rest pushed all : List (List ℕ)) → pushed ≡ lines ++ h ∷ [] → all ≡ pushed ++ body → all ++ rest ≡ lines ++ (h ∷ (body ++ rest))
written lines h body rest pushed all p q =
    ap (λ v. v ++ rest) (q ∙ ap (λ v. v ++ body) p) ∙ append_assoc (lines ++ h ∷ []) body rest ∙ append_assoc lines (h ∷ []) (body ++ rest)

module _ (arms : List Arm) (i : ℕ) (x : Arm) (h : i < length arms) (e : x ≡ get_or arms i x) (f : Form) (m : List ℕ) where
  arms_at : arm_lines f m (arms_of (drop i arms)) ≡ arm_lines f m (with_arm x (arms_of (drop (i + 1) arms)))
  arms_at = ap (λ v. arm_lines f m (arms_of v)) (drop_more arms i x h ∙ ap (λ v. v ∷ drop (i + 1) arms) (sym e))

  pub elseif_at : (a : Box expr.Expr Global) (v : Vec code.Stmt Global) → x ≡ ElseIf' a (hidden.shape-the_row-Stmt-0 v) (hidden.hidden-the_row-Stmt-0 v) → arm_lines f m (arms_of (drop i arms)) ≡ (m ++ elseif_head f.parentheses (root a)) ∷ (lines f (deeper f m) (block v.items) ++ arm_lines f m (arms_of (drop (i + 1) arms)))
  elseif_at a v is = arms_at ∙ ap (λ y. arm_lines f m (with_arm y (arms_of (drop (i + 1) arms)))) is ∙ ap (λ b. (m ++ elseif_head f.parentheses (root a)) ∷ (lines f (deeper f m) b ++ arm_lines f m (arms_of (drop (i + 1) arms)))) (row_block v)

  pub else_at : (v : Vec code.Stmt Global) → x ≡ Else' (hidden.shape-the_row-Stmt-0 v) (hidden.hidden-the_row-Stmt-0 v) → arm_lines f m (arms_of (drop i arms)) ≡ (m ++ codes "else") ∷ (lines f (deeper f m) (block v.items) ++ (m ++ codes "endif") ∷ [])
  else_at v is = arms_at ∙ ap (λ y. arm_lines f m (with_arm y (arms_of (drop (i + 1) arms)))) is ∙ ap (λ b. (m ++ codes "else") ∷ (lines f (deeper f m) b ++ (m ++ codes "endif") ∷ [])) (row_block v)

handler_step : (f : Form) (m : List ℕ) (h : Handler) (hs : Handlers) → handlers_lines f m (with_handler h hs) ≡ handler_lines f m h ++ handlers_lines f m hs
handler_step f m (Except' c shape ss) hs = refl
handler_step f m (ExceptAs' s c shape ss) hs = refl

pub handlers_at : (f : Form) (m : List ℕ) (xs : List Handler) (i : ℕ) (x : Handler) → i < length xs → x ≡ get_or xs i x → handlers_lines f m (handlers_of (drop i xs)) ≡ handler_lines f m x ++ handlers_lines f m (handlers_of (drop (i + 1) xs))
handlers_at f m xs i x h e = ap (λ v. handlers_lines f m (handlers_of v)) (drop_more xs i x h ∙ ap (λ v. v ∷ drop (i + 1) xs) (sym e)) ∙ handler_step f m x (handlers_of (drop (i + 1) xs))
