-- Each phrase that the predictive choices read is one of the grammar.
use Rattle.std.proofs.Common.{ℕ, List, [], ◌∷◌, ◌≡◌, refl, sym, ap, subst, Bool, true, false, Option, Some, None, if◌then◌else◌}
use Rattle.moo_syntax_token.specs.declared.sign.Sign.TheVariants as sign
use Rattle.moo_syntax_token.specs.declared.keyword.Keyword.TheVariants as keyword
use Rattle.moo_syntax_token.specs.declared.token.Token.{Token}
use Rattle.moo_syntax_token.specs.declared.keyword.Keyword.{Keyword}
use Rattle.moo_syntax_token.specs.declared.token.Token.TheVariants as token
use Rattle.moo_syntax_token.specs.declared.token.Token.TheVariants.{Sign}
use Rattle.moo_syntax_ast.specs.Tree.{Expr, Stmt, length_mark, breaks, continues}
use Rattle.moo_syntax_grammar.specs.declared.level.Level.TheVariants.{Logic, Relation, Sum, Product}
use Rattle.moo_syntax_grammar.specs.Rules.{Rules, may_assign, may_jump}
use Rattle.moo_syntax_grammar.specs.Tokens.{is_sign, next_passes}
use Rattle.moo_syntax_grammar.specs.Grammar
use Rattle.moo_syntax_grammar.specs.Grammar.{Sort, Of, Kind, Derives, sort, has_optional}
use Rattle.moo_syntax_grammar.specs.Machine.{Reading, give, Reads, gives, takes, sees, misses, reads}
use Rattle.moo_syntax_grammar.specs.Predictive.{grammar, mark, after_brace, expect, expect_keyword, loop_at, jump}
use Rattle.moo_syntax_grammar.proofs.Leads.{Fact, Leads, Lead, sign_is, gives_lead, refuses_lead, forbids_lead, phrase_lead, peek_lead, taken_lead, sign_lead, expect_lead, keyword_taken_lead, keyword_lead, allowed_lead, name_lead, option_lead}

marked : {g : Rules} (i : Bool) {Q : Fact Sort.expr} → (i ≡ true → (r : List Token) → Q r length_mark r) → Lead g Sort.expr (mark i) Q
marked true m = gives_lead (m refl)
marked false m = refuses_lead

dollar_inside : {g : Rules} (i : Bool) → i ≡ true → (r : List Token) → Derives g (Grammar.primary i) (Sign sign.Dollar ∷ r) length_mark r
dollar_inside true h r = Grammar.dollar
dollar_inside false h r = absurd cc

at_assign : {e : Expr} (Q : Fact Sort.expr) → ((r : List Token) → Q (Sign sign.Assign ∷ r) e (Sign sign.Assign ∷ r)) → (r : List Token) → next_passes (is_sign sign.Assign) r ≡ true → Q r e r
at_assign Q m [] h = absurd cc
at_assign {e} Q m (x ∷ r) h = subst (λ v. Q (v ∷ r) e (v ∷ r)) (sym (sign_is sign.Assign x h)) (m r)

after : {g : Rules} (b : Bool) (e : Expr) {Q : Fact Sort.expr} → (b ≡ false → (r : List Token) → Q r e r) → ((r : List Token) → Q (Sign sign.Assign ∷ r) e (Sign sign.Assign ∷ r)) → Lead g Sort.expr (after_brace b e) Q
after false e m n = gives_lead (m refl)
after true e {Q} m n = peek_lead (gives_lead (at_assign Q n)) refuses_lead

loop_case : (b : Bool) (y x : List ℕ) → (if b then Some y else None) ≡ Some x → (b ≡ true) × (y ≡ x)
loop_case true y x h = (refl, cc)
loop_case false y x h = absurd cc

loop_is : (g : Rules) (ls : List (Option (List ℕ))) (t : Token) (x : List ℕ) → loop_at g ls t ≡ Some x → (may_jump g ls (Some x) ≡ true) × (t ≡ token.Name x)
loop_is g ls (token.Name y) x h =
    let c = loop_case (may_jump g ls (Some y)) y x h in
    (subst (λ v. may_jump g ls (Some v) ≡ true) c.1 c.0, ap token.Name c.1)
loop_is g ls _ x h = absurd cc

jump_lead : (g : Rules) (ls : List (Option (List ℕ))) (k : Keyword) (f : Option (List ℕ) → Stmt) {q : Reading Sort.stmt} {Q : Fact Sort.stmt}
    → (may_jump g ls None ≡ true → (r : List Token) → Q (token.Keyword k ∷ Sign sign.Semicolon ∷ r) (f None) r)
    → ((x : List ℕ) → may_jump g ls (Some x) ≡ true → (r : List Token) → Q (token.Keyword k ∷ token.Name x ∷ Sign sign.Semicolon ∷ r) (f (Some x)) r)
    → Lead g Sort.stmt q Q → Lead g Sort.stmt (jump g ls k f q) Q
jump_lead g ls k f {Q = Q} m n o = peek_lead (allowed_lead (may_jump g ls None) (λ is. keyword_taken_lead k
    (option_lead {f = loop_at g ls} [] {p = λ x. expect sign.Semicolon (give (f (Some x)))} (λ t x at.
    let l = loop_is g ls t x at in
    expect_lead sign.Semicolon (gives_lead (λ r. subst (λ v. Q (token.Keyword k ∷ v ∷ Sign sign.Semicolon ∷ r) (f (Some x)) r) (sym l.1) (n x l.0 r))))
    (peek_lead forbids_lead (expect_lead sign.Semicolon (gives_lead (λ r. m is r))))))) o

end_lead : {g : Rules} {s : Sort} (k : Keyword) {p : Reading s} {Q : Fact s} → Lead g s p (λ ts e r. Q (token.Keyword k ∷ ts) e r) → Lead g s (expect_keyword k p) Q
end_lead k m = keyword_lead k m refuses_lead

pub all_lead : (g : Rules) (k : Kind) → Lead g (sort k) (grammar g k) (Derives g k)
unfolding grammar
all_lead g (Grammar.expression i) = phrase_lead (λ a. peek_lead (allowed_lead (may_assign g a) (λ is. taken_lead sign.Assign (phrase_lead (λ b. gives_lead (λ r m d ts c. Grammar.assigns is c d))))) (gives_lead (λ r ts d. Grammar.plain d)))
all_lead g (Grammar.conditional i) = phrase_lead (λ a. sign_lead sign.Question (phrase_lead (λ b. expect_lead sign.Pipe (phrase_lead (λ c. gives_lead (λ r n z m y ts x. Grammar.chooses x y z))))) (gives_lead (λ r ts d. Grammar.unconditional d)))
all_lead g (Grammar.chain i l) = phrase_lead (λ a. phrase_lead (λ e. gives_lead (λ r m d ts c. Grammar.chained c d)))
all_lead g (Grammar.more i l a) = option_lead _ (λ x o is. phrase_lead (λ b. phrase_lead (λ e. gives_lead (λ r m d ts c. Grammar.one_more is c d)))) (gives_lead (λ r. Grammar.no_more))
all_lead g (Grammar.operand i Logic) = phrase_lead (λ a. gives_lead (λ r ts d. Grammar.relations d))
all_lead g (Grammar.operand i Relation) = phrase_lead (λ a. gives_lead (λ r ts d. Grammar.sums d))
all_lead g (Grammar.operand i Sum) = phrase_lead (λ a. gives_lead (λ r ts d. Grammar.products d))
all_lead g (Grammar.operand i Product) = phrase_lead (λ a. gives_lead (λ r ts d. Grammar.powers d))
all_lead g (Grammar.power i) = phrase_lead (λ a. sign_lead sign.Caret (phrase_lead (λ b. gives_lead (λ r m d ts c. Grammar.raised c d))) (gives_lead (λ r ts d. Grammar.unraised d)))
all_lead g (Grammar.unary i) =
    sign_lead sign.Bang (phrase_lead (λ a. gives_lead (λ r ts d. Grammar.inverts d)))
    (sign_lead sign.Minus (phrase_lead (λ a. gives_lead (λ r ts d. Grammar.negates d)))
    (phrase_lead (λ a. gives_lead (λ r ts d. Grammar.unsigned d))))
all_lead g (Grammar.postfix i) = phrase_lead (λ a. phrase_lead (λ e. gives_lead (λ r m d ts c. Grammar.based c d)))
all_lead g (Grammar.suffixes i a) =
    sign_lead sign.Dot
    (name_lead (λ s. phrase_lead (λ e. gives_lead (λ r ts d. Grammar.property_named d)))
    (expect_lead sign.LeftParen (phrase_lead (λ b. expect_lead sign.RightParen (phrase_lead (λ e. gives_lead (λ r m d ts c. Grammar.property_computed c d)))))))
    (sign_lead sign.Colon
    (name_lead (λ s. expect_lead sign.LeftParen (phrase_lead (λ xs. expect_lead sign.RightParen (phrase_lead (λ e. gives_lead (λ r m d ts c. Grammar.verb_named c d))))))
    (expect_lead sign.LeftParen (phrase_lead (λ b. expect_lead sign.RightParen (expect_lead sign.LeftParen (phrase_lead (λ xs. expect_lead sign.RightParen (phrase_lead (λ e. gives_lead (λ r n z m y ts x. Grammar.verb_computed x y z))))))))))
    (sign_lead sign.LeftBracket
    (phrase_lead (λ b. sign_lead sign.DotDot
    (phrase_lead (λ c. expect_lead sign.RightBracket (phrase_lead (λ e. gives_lead (λ r n z m y ts x. Grammar.ranged x y z)))))
    (expect_lead sign.RightBracket (phrase_lead (λ e. gives_lead (λ r m d ts c. Grammar.indexed c d))))))
    (gives_lead (λ r. Grammar.no_suffix))))
all_lead g (Grammar.primary i) =
    option_lead _ (λ x l is. gives_lead (λ r. Grammar.constant is))
    (name_lead (λ s. peek_lead (allowed_lead (g.functions s) (λ is. taken_lead sign.LeftParen (phrase_lead (λ xs. expect_lead sign.RightParen (gives_lead (λ r ts d. Grammar.called is d)))))) (gives_lead (λ r. Grammar.name)))
    (sign_lead sign.LeftParen (phrase_lead (λ a. expect_lead sign.RightParen (gives_lead (λ r ts d. Grammar.grouped d))))
    (sign_lead sign.LeftBrace (phrase_lead (λ xs. expect_lead sign.RightBrace (after (has_optional xs) _ (λ is r ts d. Grammar.listed is d) (λ r ts d. Grammar.scattered d))))
    (sign_lead sign.Dollar
    (name_lead (λ s. sign_lead sign.LeftParen (phrase_lead (λ xs. expect_lead sign.RightParen (gives_lead (λ r ts d. Grammar.system_verb d)))) (gives_lead (λ r. Grammar.system_property)))
    (marked i (dollar_inside i)))
    (expect_lead sign.Backquote (phrase_lead (λ a. expect_lead sign.Bang (phrase_lead (λ c. sign_lead sign.Arrow
    (phrase_lead (λ b. expect_lead sign.Quote (gives_lead (λ r n z m y ts x. Grammar.catches_or x y z))))
    (expect_lead sign.Quote (gives_lead (λ r m d ts c. Grammar.catches c d))))))))))))
all_lead g (Grammar.codes i) = keyword_lead keyword.Any (gives_lead (λ r. Grammar.any_code)) (phrase_lead (λ xs. gives_lead (λ r ts d. Grammar.these_codes d)))
all_lead g (Grammar.arguments i o) = peek_lead (gives_lead (λ r h. Grammar.no_arguments)) (phrase_lead (λ xs. gives_lead (λ r ts d. Grammar.some_arguments d)))
all_lead g (Grammar.members i true) =
    sign_lead sign.At (phrase_lead (λ a. sign_lead sign.Comma (phrase_lead (λ xs. gives_lead (λ r m d ts c. Grammar.a_splice c d))) (gives_lead (λ r ts d. Grammar.one_splice d))))
    (sign_lead sign.Question
    (name_lead (λ s. sign_lead sign.Assign
    (phrase_lead (λ a. sign_lead sign.Comma (phrase_lead (λ xs. gives_lead (λ r m d ts c. Grammar.a_default c d))) (gives_lead (λ r ts d. Grammar.one_default d))))
    (sign_lead sign.Comma (phrase_lead (λ xs. gives_lead (λ r ts d. Grammar.an_optional d))) (gives_lead (λ r. Grammar.one_optional))))
    refuses_lead)
    (phrase_lead (λ a. sign_lead sign.Comma (phrase_lead (λ xs. gives_lead (λ r m d ts c. Grammar.an_element c d))) (gives_lead (λ r ts d. Grammar.one_element d)))))
all_lead g (Grammar.members i false) =
    sign_lead sign.At (phrase_lead (λ a. sign_lead sign.Comma (phrase_lead (λ xs. gives_lead (λ r m d ts c. Grammar.a_splice c d))) (gives_lead (λ r ts d. Grammar.one_splice d))))
    (phrase_lead (λ a. sign_lead sign.Comma (phrase_lead (λ xs. gives_lead (λ r m d ts c. Grammar.an_element c d))) (gives_lead (λ r ts d. Grammar.one_element d))))
all_lead g (Grammar.statement ls) =
    keyword_lead keyword.If (phrase_lead (λ a. phrase_lead (λ b. phrase_lead (λ c. end_lead keyword.EndIf (gives_lead (λ r n z m y ts x. Grammar.branch x y z))))))
    (keyword_lead keyword.For (name_lead (λ x. end_lead keyword.In (sign_lead sign.LeftBracket
    (phrase_lead (λ a. expect_lead sign.DotDot (phrase_lead (λ b. expect_lead sign.RightBracket (phrase_lead (λ c. end_lead keyword.EndFor (gives_lead (λ r n z m y ts x. Grammar.for_numbers x y z))))))))
    (phrase_lead (λ a. phrase_lead (λ b. end_lead keyword.EndFor (gives_lead (λ r m d ts c. Grammar.for_elements c d)))))))
    refuses_lead)
    (keyword_lead keyword.While (phrase_lead (λ l. phrase_lead (λ a. phrase_lead (λ b. end_lead keyword.EndWhile (gives_lead (λ r n z m y ts x. Grammar.while_true x y z))))))
    (jump_lead g ls keyword.Break breaks (λ h r. Grammar.breaks_loop h) (λ x h r. Grammar.breaks_named h)
    (jump_lead g ls keyword.Continue continues (λ h r. Grammar.continues_loop h) (λ x h r. Grammar.continues_named h)
    (keyword_lead keyword.Return (sign_lead sign.Semicolon (gives_lead (λ r. Grammar.returns_nothing)) (phrase_lead (λ a. expect_lead sign.Semicolon (gives_lead (λ r ts d. Grammar.returns_value d)))))
    (keyword_lead keyword.Try (phrase_lead (λ b. keyword_lead keyword.Finally
    (phrase_lead (λ c. end_lead keyword.EndTry (gives_lead (λ r m d ts c. Grammar.cleans_up c d))))
    (phrase_lead (λ h. end_lead keyword.EndTry (gives_lead (λ r m d ts c. Grammar.tries c d))))))
    (phrase_lead (λ a. expect_lead sign.Semicolon (gives_lead (λ r ts d. Grammar.performed d))))))))))
all_lead g (Grammar.statements ls) = peek_lead
    (sign_lead sign.Semicolon (phrase_lead (λ ss. gives_lead (λ r ts d h. Grammar.an_end d))) (phrase_lead (λ s. phrase_lead (λ ss. gives_lead (λ r m d ts c h. Grammar.one_statement c d)))))
    (gives_lead (λ r. Grammar.no_statements))
all_lead g (Grammar.arms ls) =
    keyword_lead keyword.ElseIf (phrase_lead (λ a. phrase_lead (λ b. phrase_lead (λ c. gives_lead (λ r n z m y ts x. Grammar.an_arm x y z)))))
    (keyword_lead keyword.Else (phrase_lead (λ b. gives_lead (λ r ts d. Grammar.last_arm d))) (gives_lead (λ r. Grammar.no_arms)))
all_lead g (Grammar.handlers ls) = end_lead keyword.Except (phrase_lead (λ l. expect_lead sign.LeftParen (phrase_lead (λ c. expect_lead sign.RightParen (phrase_lead (λ b. peek_lead
    (phrase_lead (λ h. gives_lead (λ r o w i n z m y ts x. Grammar.a_handler x y z w)))
    (gives_lead (λ r n z m y ts x. Grammar.one_handler x y z))))))))
all_lead g Grammar.in_parens = expect_lead sign.LeftParen (phrase_lead (λ a. expect_lead sign.RightParen (gives_lead (λ r ts d. Grammar.parenthesized d))))
all_lead g Grammar.label = name_lead (λ x. gives_lead (λ r. Grammar.labelled)) (gives_lead (λ r. Grammar.unlabelled))

pub led : (g : Rules) (s : Sort) (Q : Fact s) {p : Reading s} {ts r : List Token} {e : Of s} → Reads (grammar g) s p ts e r → Leads g s p Q → Q ts e r
led g s Q {r = r} gives m = m r
led g s Q (takes {x = x} d) m = led g s (λ ts e r. Q (x ∷ ts) e r) d (m x)
led g s Q (sees {f = f} h d) m = led g s (λ ts e r. next_passes f ts ≡ true → Q ts e r) d m.0 h
led g s Q (misses {f = f} h d) m = led g s (λ ts e r. next_passes f ts ≡ false → Q ts e r) d m.1 h
led g s Q (reads {k = k} {ts = ts} {a = a} c d) m = led g s (λ m e r. (ts : List Token) → Derives g k ts a m → Q ts e r) d (m a) ts (led g (sort k) (Derives g k) c (all_lead g k).lead)

pub derived : {g : Rules} {k : Kind} {ts r : List Token} {e : Of (sort k)} → Reads (grammar g) (sort k) (grammar g k) ts e r → Derives g k ts e r
derived {g} {k} d = led g (sort k) (Derives g k) d (all_lead g k).lead
