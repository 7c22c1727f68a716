-- Each listing with indents has the lines of the one without.
use Rattle.std.proofs.Common.{ℕ, zero, suc, List, [], ◌∷◌, ◌++◌, ◌≡◌, refl, ap, subst, true, false, codes}
use Rattle.moo_syntax_ast.specs.Tree
use Rattle.moo_syntax_ast.specs.Tree.{Stmt, Arms, Handlers, Block}
use Rattle.moo_syntax_ast.specs.Listing as full
use Rattle.moo_unparse.specs.declared.form.Parentheses.{Parentheses}
use Rattle.moo_unparse.specs.declared.form.Parentheses.TheVariants.{All, Needed}
use Rattle.moo_unparse.specs.declared.form.Form.{Form}
use Rattle.moo_unparse.specs.Listings.{head, elseif_head, except_head, below, arm_lines, handlers_lines, lines, indented_listing, short_listing}
use Rattle.moo_unparse.specs.Indents.{blanks, AreIndented, no_line, line}
use Rattle.moo_unparse.proofs.Full.{full_is_a_form}

abbrev bare : Parentheses → Form
bare p = record { parentheses = p; indent = false }

abbrev indented : Parentheses → Form
indented p = record { parentheses = p; indent = true }

one_more : (n : ℕ) → blanks (suc n) ≡ blanks n ++ codes "  "
one_more zero = refl
one_more (suc n) = ap (λ v. codes "  " ++ v) (one_more n)

appended : {ls ms js ks : List (List ℕ)} → AreIndented ls ms → AreIndented js ks → AreIndented (ls ++ js) (ms ++ ks)
appended no_line e = e
appended (line n bytes d) e = line n bytes (appended d e)

last : (n : ℕ) (bytes : List ℕ) → AreIndented (bytes ∷ []) ((blanks n ++ bytes) ∷ [])
last n bytes = line n bytes no_line

deeper_lines : (p : Parentheses) (n : ℕ) (b : Block) → AreIndented (lines (bare p) [] b) (lines (indented p) (blanks (suc n)) b) → AreIndented (lines (bare p) [] b) (lines (indented p) (blanks n ++ codes "  ") b)
deeper_lines p n b d = subst (λ v. AreIndented (lines (bare p) [] b) (lines (indented p) v b)) (one_more n) d

mutual
  below_indented : (p : Parentheses) (n : ℕ) (s : Stmt) → AreIndented (below (bare p) [] s) (below (indented p) (blanks n) s)
  below_indented p n Tree.return_nothing = no_line
  below_indented p n (Tree.returns a) = no_line
  below_indented p n (Tree.performs a) = no_line
  below_indented p n (Tree.branches a b c) = appended (deeper_lines p n b (lines_indented p (suc n) b)) (arms_indented p n c)
  below_indented p n (Tree.for_list s a b) = appended (deeper_lines p n b (lines_indented p (suc n) b)) (last n (codes "endfor"))
  below_indented p n (Tree.for_range s a b c) = appended (deeper_lines p n c (lines_indented p (suc n) c)) (last n (codes "endfor"))
  below_indented p n (Tree.while_loop x a b) = appended (deeper_lines p n b (lines_indented p (suc n) b)) (last n (codes "endwhile"))
  below_indented p n (Tree.breaks x) = no_line
  below_indented p n (Tree.continues x) = no_line
  below_indented p n (Tree.try_except b h) = appended (deeper_lines p n b (lines_indented p (suc n) b)) (handlers_indented p n h)
  below_indented p n (Tree.try_finally b c) = appended (appended (deeper_lines p n b (lines_indented p (suc n) b)) (line n (codes "finally") (deeper_lines p n c (lines_indented p (suc n) c)))) (last n (codes "endtry"))

  arms_indented : (p : Parentheses) (n : ℕ) (c : Arms) → AreIndented (arm_lines (bare p) [] c) (arm_lines (indented p) (blanks n) c)
  arms_indented p n Tree.no_else = last n (codes "endif")
  arms_indented p n (Tree.otherwise b) = line n (codes "else") (appended (deeper_lines p n b (lines_indented p (suc n) b)) (last n (codes "endif")))
  arms_indented p n (Tree.elseif a b c) = line n (elseif_head p a) (appended (deeper_lines p n b (lines_indented p (suc n) b)) (arms_indented p n c))

  handlers_indented : (p : Parentheses) (n : ℕ) (h : Handlers) → AreIndented (handlers_lines (bare p) [] h) (handlers_lines (indented p) (blanks n) h)
  handlers_indented p n Tree.no_handler = last n (codes "endtry")
  handlers_indented p n (Tree.handler x c b h) = line n (except_head p x c) (appended (deeper_lines p n b (lines_indented p (suc n) b)) (handlers_indented p n h))

  lines_indented : (p : Parentheses) (n : ℕ) (b : Block) → AreIndented (lines (bare p) [] b) (lines (indented p) (blanks n) b)
  lines_indented p n Tree.no_statement = no_line
  lines_indented p n (Tree.then s ss) = line n (head p s) (appended (below_indented p n s) (lines_indented p n ss))

pub full_indented : (b : Block) → AreIndented (full.listing b) (indented_listing b)
full_indented b = subst (λ (v : List (List ℕ)). AreIndented v (indented_listing b)) (full_is_a_form b) (lines_indented All 0 b)

pub short_indented : (b : Block) → AreIndented (short_listing false b) (short_listing true b)
short_indented b = lines_indented Needed 0 b
