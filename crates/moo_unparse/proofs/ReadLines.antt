-- A listing of a program is read as its tokens, line by line.
use Rattle.std.proofs.Common.{ℕ, suc, List, [], ◌∷◌, ◌++◌, ◌≡◌, refl, sym, Bool, Option, Some, None, append_assoc, subst, codes, true, false}
use Rattle.std.proofs.lemmas.List.{append-nil}
use Rattle.moo_syntax_token.specs.declared.sign.Sign.TheVariants as sign
use Rattle.moo_syntax_token.specs.declared.keyword.Keyword.TheVariants as keyword
use Rattle.moo_syntax_token.specs.declared.token.Token.{Token}
use Rattle.moo_syntax_token.specs.declared.token.Token.TheVariants as token
use Rattle.moo_syntax_token.specs.Lexing.{text_end, line_end}
use Rattle.moo_syntax_token.specs.Tokens.{continues_name}
use Rattle.moo_syntax_token.specs.Spelling.{begins_with, is_name}
use Rattle.moo_syntax_ast.specs.Tree
use Rattle.moo_syntax_ast.specs.Tree.{Expr, Codes, Stmt, Arms, Handlers, Block}
use Rattle.moo_syntax_ast.specs.Listing.{is_compound_base, labelled}
use Rattle.moo_unparse.specs.declared.form.Parentheses.{Parentheses}
use Rattle.moo_unparse.specs.declared.form.Form.{Form}
use Rattle.moo_unparse.specs.Listings.{listed, head, elseif_head, except_head, step as blanks, deeper, below, arm_lines, handlers_lines, lines as listed_lines}
use Rattle.moo_unparse.proofs.Read.{Reads, ends_at, ends_dots, step, blank, plain, read, read_codes, read_label}
use Rattle.moo_unparse.proofs.Listed.{spell, spell_codes, spell_label, spell_statement, spell_arms, spell_handlers, spell_block, IsSound, AreSoundCodes, IsSoundLabel, IsSoundStatement, AreSoundArms, AreSoundHandlers, IsSoundBlock}

-- after the end of any line, these lines have these tokens
abbrev Goes : List (List ℕ) → List Token → Type 0
Goes lines ts = (n : ℕ) → Reads n lines [] ts

line : (text : List ℕ) (lines : List (List ℕ)) (ts us : List Token) → ((n : ℕ) → Reads n lines [] us → Reads n lines text ts) → Goes lines us → Goes (text ∷ lines) ts
line text lines ts us k g n = let r = k (suc n) (g (suc n)) in record { spots = r.spots; lexes = line_end r.lexes; same = r.same }

-- a keyword by itself
word : (k : _) (lines : List (List ℕ)) (ts : List Token) (n : ℕ) → Reads n lines [] ts → Reads n lines (Rattle.moo_syntax_token.specs.Spelling.spelled_keyword k) (token.Keyword k ∷ ts)
word k lines ts n r = subst (λ v. Reads n lines v (token.Keyword k ∷ ts)) (append-nil (Rattle.moo_syntax_token.specs.Spelling.spelled_keyword k)) (step (token.Keyword k) [] ts tt refl r)

-- a word ends before a label
label_apart : (l : Option (List ℕ)) (rest : List ℕ) → begins_with continues_name rest ≡ false → begins_with continues_name (labelled l ++ rest) ≡ false
label_apart None rest h = h
label_apart (Some s) rest h = refl

module _ {n : ℕ} {lines : List (List ℕ)} where
  -- an expression and the end of a line in parentheses, or a semicolon
  closed : (p : Parentheses) (a : Expr) → IsSound a → (ts : List Token) → Reads n lines [] ts → Reads n lines (listed p a ++ codes ")") (spell p a (token.Sign sign.RightParen ∷ ts))
  closed p a s ts r = read p a s (41 ∷ []) _ (ends_at (is_compound_base a) 41 [] refl refl refl refl refl) (plain sign.RightParen (λ b. refl) [] ts r)

  ended : (p : Parentheses) (a : Expr) → IsSound a → (ts : List Token) → Reads n lines [] ts → Reads n lines (listed p a ++ codes ";") (spell p a (token.Sign sign.Semicolon ∷ ts))
  ended p a s ts r = read p a s (59 ∷ []) _ (ends_at (is_compound_base a) 59 [] refl refl refl refl refl) (plain sign.Semicolon (λ b. refl) [] ts r)

  elseif_line : (p : Parentheses) (a : Expr) → IsSound a → (ts : List Token) → Reads n lines [] ts → Reads n lines (elseif_head p a) (token.Keyword keyword.ElseIf ∷ token.Sign sign.LeftParen ∷ spell p a (token.Sign sign.RightParen ∷ ts))
  elseif_line p a s ts r = simp append_assoc (step (token.Keyword keyword.ElseIf) _ _ tt refl (blank _ _ (plain sign.LeftParen (λ b. refl) _ _ (closed p a s ts r))))

  except_line : (p : Parentheses) (l : Option (List ℕ)) → IsSoundLabel l → (c : Codes) → AreSoundCodes c → (ts : List Token) → Reads n lines [] ts → Reads n lines (except_head p l c) (token.Keyword keyword.Except ∷ spell_label l (token.Sign sign.LeftParen ∷ spell_codes p c (token.Sign sign.RightParen ∷ ts)))
  except_line p l f c s ts r =
      let inner = blank _ _ (plain sign.LeftParen (λ b. refl) _ _ (read_codes p c s (41 ∷ []) _ (ends_at _ 41 [] refl refl refl refl refl) (plain sign.RightParen (λ b. refl) [] ts r))) in
      simp append_assoc (step (token.Keyword keyword.Except) _ _ tt (label_apart l _ refl) (read_label l f _ _ refl inner))

  branch_line : (p : Parentheses) (a : Expr) → IsSound a → (ts : List Token) → Reads n lines [] ts → Reads n lines (codes "if (" ++ listed p a ++ codes ")") (token.Keyword keyword.If ∷ token.Sign sign.LeftParen ∷ spell p a (token.Sign sign.RightParen ∷ ts))
  branch_line p a s ts r = simp append_assoc (step (token.Keyword keyword.If) _ _ tt refl (blank _ _ (plain sign.LeftParen (λ b. refl) _ _ (closed p a s ts r))))

  for_line : (p : Parentheses) (w : List ℕ) → is_name w ≡ true → (a : Expr) → IsSound a → (ts : List Token) → Reads n lines [] ts → Reads n lines (codes "for " ++ w ++ codes " in (" ++ listed p a ++ codes ")") (token.Keyword keyword.For ∷ token.Name w ∷ token.Keyword keyword.In ∷ token.Sign sign.LeftParen ∷ spell p a (token.Sign sign.RightParen ∷ ts))
  for_line p w f a s ts r = simp append_assoc (step (token.Keyword keyword.For) _ _ tt refl (blank _ _ (step (token.Name w) _ _ f refl (blank _ _ (step (token.Keyword keyword.In) _ _ tt refl (blank _ _ (plain sign.LeftParen (λ b. refl) _ _ (closed p a s ts r))))))))

  range_line : (p : Parentheses) (w : List ℕ) → is_name w ≡ true → (a b : Expr) → IsSound a → IsSound b → (ts : List Token) → Reads n lines [] ts → Reads n lines (codes "for " ++ w ++ codes " in [" ++ listed p a ++ codes ".." ++ listed p b ++ codes "]") (token.Keyword keyword.For ∷ token.Name w ∷ token.Keyword keyword.In ∷ token.Sign sign.LeftBracket ∷ spell p a (token.Sign sign.DotDot ∷ spell p b (token.Sign sign.RightBracket ∷ ts)))
  range_line p w f a b s t ts r = simp append_assoc (step (token.Keyword keyword.For) _ _ tt refl (blank _ _ (step (token.Name w) _ _ f refl (blank _ _ (step (token.Keyword keyword.In) _ _ tt refl (blank _ _ (plain sign.LeftBracket (λ b. refl) _ _ (read p a s _ _ (ends_dots (is_compound_base a) _) (plain sign.DotDot (λ b. refl) _ _ (read p b t (93 ∷ []) _ (ends_at (is_compound_base b) 93 [] refl refl refl refl refl) (plain sign.RightBracket (λ b. refl) [] ts r)))))))))))

  while_line : (p : Parentheses) (l : Option (List ℕ)) → IsSoundLabel l → (a : Expr) → IsSound a → (ts : List Token) → Reads n lines [] ts → Reads n lines (codes "while" ++ labelled l ++ codes " (" ++ listed p a ++ codes ")") (token.Keyword keyword.While ∷ spell_label l (token.Sign sign.LeftParen ∷ spell p a (token.Sign sign.RightParen ∷ ts)))
  while_line p l f a s ts r = simp append_assoc (step (token.Keyword keyword.While) _ _ tt (label_apart l _ refl) (read_label l f _ _ refl (blank _ _ (plain sign.LeftParen (λ b. refl) _ _ (closed p a s ts r)))))

  break_line : (l : Option (List ℕ)) → IsSoundLabel l → (ts : List Token) → Reads n lines [] ts → Reads n lines (codes "break" ++ labelled l ++ codes ";") (token.Keyword keyword.Break ∷ spell_label l (token.Sign sign.Semicolon ∷ ts))
  break_line l f ts r = simp append_assoc (step (token.Keyword keyword.Break) _ _ tt (label_apart l _ refl) (read_label l f _ _ refl (plain sign.Semicolon (λ b. refl) [] ts r)))

  continue_line : (l : Option (List ℕ)) → IsSoundLabel l → (ts : List Token) → Reads n lines [] ts → Reads n lines (codes "continue" ++ labelled l ++ codes ";") (token.Keyword keyword.Continue ∷ spell_label l (token.Sign sign.Semicolon ∷ ts))
  continue_line l f ts r = simp append_assoc (step (token.Keyword keyword.Continue) _ _ tt (label_apart l _ refl) (read_label l f _ _ refl (plain sign.Semicolon (λ b. refl) [] ts r)))

-- blanks alone
abbrev AreBlanks : List ℕ → Type 0
AreBlanks [] = Unit {0}
AreBlanks (b ∷ m) = (b ≡ 32) × AreBlanks m

both_blank : (m o : List ℕ) → AreBlanks m → AreBlanks o → AreBlanks (m ++ o)
both_blank [] o h k = k
both_blank (b ∷ m) o h k = (h.0, both_blank m o h.1 k)

step_blank : (i : Bool) → AreBlanks (blanks i)
step_blank true = (refl, (refl, tt))
step_blank false = tt

deeper_blank : (f : Form) (m : List ℕ) → AreBlanks m → AreBlanks (deeper f m)
deeper_blank f m h = both_blank m (blanks f.indent) h (step_blank f.indent)

after : {n : ℕ} {lines : List (List ℕ)} (m text : List ℕ) (ts : List Token) → AreBlanks m → Reads n lines text ts → Reads n lines (m ++ text) ts
after [] text ts h r = r
after {n} {lines} (b ∷ m) text ts h r = subst (λ v. Reads n lines (v ∷ (m ++ text)) ts) (sym h.0) (blank _ _ (after m text ts h.1 r))

-- a line after its margin
at : (m : List ℕ) → AreBlanks m → (text : List ℕ) (lines : List (List ℕ)) (ts us : List Token) → ((n : ℕ) → Reads n lines [] us → Reads n lines text ts) → Goes lines us → Goes ((m ++ text) ∷ lines) ts
at m h text lines ts us k g = line (m ++ text) lines ts us (λ n r. after m text ts h (k n r)) g

mutual
  go_block : (f : Form) (m : List ℕ) → AreBlanks m → (b : Block) → IsSoundBlock b → (rest : List (List ℕ)) (ts : List Token) → Goes rest ts → Goes (listed_lines f m b ++ rest) (spell_block f.parentheses b ts)
  go_block f m h Tree.no_statement s rest ts g = g
  go_block f m h (Tree.then st ss) s rest ts g = rw (append_assoc (below f m st) (listed_lines f m ss) rest) (go_statement f m h st s.0 _ _ (go_block f m h ss s.1 rest ts g))

  go_statement : (f : Form) (m : List ℕ) → AreBlanks m → (s : Stmt) → IsSoundStatement s → (rest : List (List ℕ)) (ts : List Token) → Goes rest ts → Goes ((m ++ head f.parentheses s) ∷ below f m s ++ rest) (spell_statement f.parentheses s ts)
  go_statement f m h Tree.return_nothing s rest ts g = at m h _ rest _ ts (λ n r. step (token.Keyword keyword.Return) _ _ tt refl (plain sign.Semicolon (λ b. refl) [] ts r)) g
  go_statement f m h (Tree.returns a) s rest ts g = at m h _ rest _ ts (λ n r. simp append_assoc (step (token.Keyword keyword.Return) _ _ tt refl (blank _ _ (ended f.parentheses a s ts r)))) g
  go_statement f m h (Tree.performs a) s rest ts g = at m h _ rest _ ts (λ n r. ended f.parentheses a s ts r) g
  go_statement f m h (Tree.branches a b c) s rest ts g = rw (append_assoc (listed_lines f (deeper f m) b) (arm_lines f m c) rest) (at m h _ _ _ _ (λ n r. branch_line f.parentheses a s.0 _ r) (go_block f (deeper f m) (deeper_blank f m h) b s.1 _ _ (go_arms f m h c s.2 rest ts g)))
  go_statement f m h (Tree.for_list w a b) s rest ts g = rw (append_assoc (listed_lines f (deeper f m) b) ((m ++ codes "endfor") ∷ []) rest) (at m h _ _ _ _ (λ n r. for_line f.parentheses w s.0 a s.1 _ r) (go_block f (deeper f m) (deeper_blank f m h) b s.2 _ _ (at m h _ rest _ ts (λ n r. word keyword.EndFor rest ts n r) g)))
  go_statement f m h (Tree.for_range w a b c) s rest ts g = rw (append_assoc (listed_lines f (deeper f m) c) ((m ++ codes "endfor") ∷ []) rest) (at m h _ _ _ _ (λ n r. range_line f.parentheses w s.0 a b s.1 s.2 _ r) (go_block f (deeper f m) (deeper_blank f m h) c s.3 _ _ (at m h _ rest _ ts (λ n r. word keyword.EndFor rest ts n r) g)))
  go_statement f m h (Tree.while_loop l a b) s rest ts g = rw (append_assoc (listed_lines f (deeper f m) b) ((m ++ codes "endwhile") ∷ []) rest) (at m h _ _ _ _ (λ n r. while_line f.parentheses l s.0 a s.1 _ r) (go_block f (deeper f m) (deeper_blank f m h) b s.2 _ _ (at m h _ rest _ ts (λ n r. word keyword.EndWhile rest ts n r) g)))
  go_statement f m h (Tree.breaks l) s rest ts g = at m h _ rest _ ts (λ n r. break_line l s ts r) g
  go_statement f m h (Tree.continues l) s rest ts g = at m h _ rest _ ts (λ n r. continue_line l s ts r) g
  go_statement f m h (Tree.try_except b c) s rest ts g = rw (append_assoc (listed_lines f (deeper f m) b) (handlers_lines f m c) rest) (at m h _ _ _ _ (λ n r. word keyword.Try _ _ n r) (go_block f (deeper f m) (deeper_blank f m h) b s.0 _ _ (go_handlers f m h c s.1 rest ts g)))
  go_statement f m h (Tree.try_finally b c) s rest ts g =
      let last = at m h (codes "endtry") rest (token.Keyword keyword.EndTry ∷ ts) ts (λ n r. word keyword.EndTry rest ts n r) g in
      let cleanup = go_block f (deeper f m) (deeper_blank f m h) c s.1 _ _ last in
      let middle = at m h (codes "finally") _ (token.Keyword keyword.Finally ∷ _) _ (λ n r. word keyword.Finally _ _ n r) cleanup in
      simp append_assoc (at m h (codes "try") _ _ _ (λ n r. word keyword.Try _ _ n r) (go_block f (deeper f m) (deeper_blank f m h) b s.0 _ _ middle))

  -- with what ends them
  go_arms : (f : Form) (m : List ℕ) → AreBlanks m → (c : Arms) → AreSoundArms c → (rest : List (List ℕ)) (ts : List Token) → Goes rest ts → Goes (arm_lines f m c ++ rest) (spell_arms f.parentheses c (token.Keyword keyword.EndIf ∷ ts))
  go_arms f m h Tree.no_else s rest ts g = at m h _ rest _ ts (λ n r. word keyword.EndIf rest ts n r) g
  go_arms f m h (Tree.otherwise b) s rest ts g = rw (append_assoc (listed_lines f (deeper f m) b) ((m ++ codes "endif") ∷ []) rest) (at m h _ _ _ _ (λ n r. word keyword.Else _ _ n r) (go_block f (deeper f m) (deeper_blank f m h) b s _ _ (at m h _ rest _ ts (λ n r. word keyword.EndIf rest ts n r) g)))
  go_arms f m h (Tree.elseif a b c) s rest ts g = rw (append_assoc (listed_lines f (deeper f m) b) (arm_lines f m c) rest) (at m h _ _ _ _ (λ n r. elseif_line f.parentheses a s.0 _ r) (go_block f (deeper f m) (deeper_blank f m h) b s.1 _ _ (go_arms f m h c s.2 rest ts g)))

  go_handlers : (f : Form) (m : List ℕ) → AreBlanks m → (c : Handlers) → AreSoundHandlers c → (rest : List (List ℕ)) (ts : List Token) → Goes rest ts → Goes (handlers_lines f m c ++ rest) (spell_handlers f.parentheses c (token.Keyword keyword.EndTry ∷ ts))
  go_handlers f m h Tree.no_handler s rest ts g = at m h _ rest _ ts (λ n r. word keyword.EndTry rest ts n r) g
  go_handlers f m h (Tree.handler l c b d) s rest ts g = rw (append_assoc (listed_lines f (deeper f m) b) (handlers_lines f m d) rest) (at m h _ _ _ _ (λ n r. except_line f.parentheses l s.0 c s.1 _ r) (go_block f (deeper f m) (deeper_blank f m h) b s.2 _ _ (go_handlers f m h d s.3 rest ts g)))

pub read_block : (f : Form) (b : Block) → IsSoundBlock b → (n : ℕ) → Reads n (listed_lines f [] b) [] (spell_block f.parentheses b [])
read_block f b s n = subst (λ lines. Reads n lines [] (spell_block f.parentheses b [])) (append-nil (listed_lines f [] b)) (go_block f [] tt b s [] [] (λ n. record { spots = []; lexes = text_end; same = refl }) n)
