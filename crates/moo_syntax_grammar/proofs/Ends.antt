-- How each reading of the grammar can be brought to an end in the loose grammar: if a rule stops it, and after a
-- phrase.
use Rattle.std.proofs.Common.{ℕ, List, [], ◌∷◌, refl, Bool, true, false, Option, Some, None, pos}
use Rattle.moo_syntax_token.specs.declared.sign.Sign.TheVariants as sign
use Rattle.moo_syntax_token.specs.declared.keyword.Keyword.TheVariants as keyword
use Rattle.moo_syntax_token.specs.declared.keyword.Keyword.{Keyword}
use Rattle.moo_syntax_token.specs.declared.token.Token.{Token}
use Rattle.moo_syntax_token.specs.declared.token.Token.TheVariants as token
use Rattle.moo_syntax_token.specs.declared.token.Token.TheVariants.{Sign}
use Rattle.moo_syntax_ast.specs.declared.operator.UnaryOperator.TheVariants.{Not}
use Rattle.moo_syntax_ast.specs.declared.operator.BinaryOperator.TheVariants.{Power}
use Rattle.moo_syntax_ast.specs.declared.tree.Literal.TheVariants as literal
use Rattle.moo_syntax_ast.specs.Tree as tree
use Rattle.moo_syntax_ast.specs.Tree.{Expr, Stmt}
use Rattle.moo_syntax_grammar.specs.declared.level.Level.TheVariants.{Logic, Relation, Sum, Product}
use Rattle.moo_syntax_grammar.specs.Rules.{Rules, loose, may_assign, may_jump}
use Rattle.moo_syntax_grammar.specs.Grammar
use Rattle.moo_syntax_grammar.specs.Grammar.{Sort, Kind, Derives, sort, joined, negated, text, system_object, has_optional}
use Rattle.moo_syntax_grammar.specs.Machine.{Reading, give}
use Rattle.moo_syntax_grammar.specs.Predictive.{grammar, mark, after_brace, expect, loop_at, jump}
use Rattle.moo_syntax_grammar.proofs.Leads.{Fact}
use Rattle.moo_syntax_grammar.proofs.Endings.{after, End, ending, tail, gives_end, refuses_end, phrase_end, last_end, peek_end, taken_end, sign_end, expect_end, keyword_taken_end, keyword_end, needed_end, ruled_end, ruled_keyword_end, forbidden_name_end, name_end, option_end}
use Rattle.moo_syntax_grammar.proofs.Examples.{zero_token, zero, a_conditional, an_expression}

mark_end : (i : Bool) {close : List Token → List Token} {Q : Fact Sort.expr} → End Sort.expr close (mark i) Q
mark_end true = gives_end
mark_end false = refuses_end

brace_end : (b : Bool) (e : Expr) {close : List Token → List Token} {Q : Fact Sort.expr} → End Sort.expr close (after_brace b e) Q
brace_end true e = peek_end gives_end refuses_end
brace_end false e = gives_end

jump_end : (g : Rules) (ls : List (Option (List ℕ))) (k : Keyword) (f : Option (List ℕ) → Stmt) {q : Reading Sort.stmt} {close : List Token → List Token} {Q : Fact Sort.stmt}
    → ((r : List Token) → Q (token.Keyword k ∷ Sign sign.Semicolon ∷ r) (f None) (close r))
    → ((x : List ℕ) (r : List Token) → Q (token.Keyword k ∷ token.Name x ∷ Sign sign.Semicolon ∷ r) (f (Some x)) (close r))
    → End Sort.stmt close q Q → End Sort.stmt close (jump g ls k f q) Q
jump_end g ls k f m n o = peek_end
    (ruled_keyword_end k (may_jump g ls None) (ending (λ r. Sign sign.Semicolon ∷ r) (f None) m)
    (keyword_taken_end k (option_end {f = loop_at g ls} [] {p = λ x. expect sign.Semicolon (give (f (Some x)))} (λ t x at. expect_end sign.Semicolon gives_end)
    (forbidden_name_end (λ x. ending (λ r. Sign sign.Semicolon ∷ r) (f (Some x)) (n x)) (expect_end sign.Semicolon gives_end)))))
    o

pub all_end : (g : Rules) (k : Kind) → End (sort k) (after k) (grammar g k) (Derives loose k)
unfolding grammar
all_end g (Grammar.expression i) = phrase_end
    (λ a. tail (λ r. zero_token ∷ r) (tree.assign a zero) (λ r ts d. Grammar.assigns refl d (an_expression i r)))
    (λ a. peek_end
    (ruled_end sign.Assign (may_assign g a) (ending (λ r. zero_token ∷ r) (tree.assign a zero) (λ r ts d. Grammar.assigns refl d (an_expression i r)))
    (taken_end sign.Assign (last_end (tree.assign a) (λ b r m d ts c. Grammar.assigns refl c d))))
    gives_end)
all_end g (Grammar.conditional i) = phrase_end
    (λ a. tail (λ r. r) a (λ r ts d. Grammar.unconditional d))
    (λ a. sign_end sign.Question (phrase_end
    (λ b. tail (λ r. Sign sign.Pipe ∷ zero_token ∷ Sign sign.Assign ∷ r) (tree.conditional a b zero) (λ r m d ts c. Grammar.chooses c d (a_conditional i _)))
    (λ b. expect_end sign.Pipe (last_end (tree.conditional a b) (λ c r n z m y ts x. Grammar.chooses x y z))))
    gives_end)
all_end g (Grammar.chain i l) = phrase_end (λ a. tail (λ r. r) a (λ r ts d. Grammar.chained d Grammar.no_more)) (λ a. last_end (λ e. e) (λ e r m d ts c. Grammar.chained c d))
all_end g (Grammar.more i l a) = option_end _ (λ x o is. phrase_end (λ b. tail (λ r. r) (joined o a b) (λ r ts d. Grammar.one_more is d Grammar.no_more)) (λ b. last_end (λ e. e) (λ e r m d ts c. Grammar.one_more is c d))) gives_end
all_end g (Grammar.operand i Logic) = last_end (λ e. e) (λ e r ts d. Grammar.relations d)
all_end g (Grammar.operand i Relation) = last_end (λ e. e) (λ e r ts d. Grammar.sums d)
all_end g (Grammar.operand i Sum) = last_end (λ e. e) (λ e r ts d. Grammar.products d)
all_end g (Grammar.operand i Product) = last_end (λ e. e) (λ e r ts d. Grammar.powers d)
all_end g (Grammar.power i) = phrase_end (λ a. tail (λ r. r) a (λ r ts d. Grammar.unraised d)) (λ a. sign_end sign.Caret (last_end (tree.binary Power a) (λ b r m d ts c. Grammar.raised c d)) gives_end)
all_end g (Grammar.unary i) =
    sign_end sign.Bang (last_end (tree.unary Not) (λ a r ts d. Grammar.inverts d))
    (sign_end sign.Minus (last_end negated (λ a r ts d. Grammar.negates d))
    (last_end (λ e. e) (λ a r ts d. Grammar.unsigned d)))
all_end g (Grammar.postfix i) = phrase_end (λ a. tail (λ r. r) a (λ r ts d. Grammar.based d Grammar.no_suffix)) (λ a. last_end (λ e. e) (λ e r m d ts c. Grammar.based c d))
all_end g (Grammar.suffixes i a) =
    sign_end sign.Dot
    (name_end (λ s. last_end (λ e. e) (λ e r ts d. Grammar.property_named d))
    (expect_end sign.LeftParen (phrase_end
    (λ b. tail (λ r. Sign sign.RightParen ∷ Sign sign.Assign ∷ r) (tree.property a b) (λ r ts d. Grammar.property_computed d Grammar.no_suffix))
    (λ b. expect_end sign.RightParen (last_end (λ e. e) (λ e r m d ts c. Grammar.property_computed c d))))))
    (sign_end sign.Colon
    (name_end (λ s. expect_end sign.LeftParen (phrase_end
    (λ xs. tail (λ r. Sign sign.RightParen ∷ Sign sign.Assign ∷ r) (tree.verb_call a (text s) xs) (λ r ts d. Grammar.verb_named d Grammar.no_suffix))
    (λ xs. expect_end sign.RightParen (last_end (λ e. e) (λ e r m d ts c. Grammar.verb_named c d)))))
    (expect_end sign.LeftParen (phrase_end
    (λ b. tail (λ r. Sign sign.RightParen ∷ Sign sign.LeftParen ∷ Sign sign.RightParen ∷ Sign sign.Assign ∷ r) (tree.verb_call a b tree.no_items) (λ r ts d. Grammar.verb_computed d Grammar.no_arguments Grammar.no_suffix))
    (λ b. expect_end sign.RightParen (expect_end sign.LeftParen (phrase_end
    (λ xs. tail (λ r. Sign sign.RightParen ∷ Sign sign.Assign ∷ r) (tree.verb_call a b xs) (λ r m d ts c. Grammar.verb_computed c d Grammar.no_suffix))
    (λ xs. expect_end sign.RightParen (last_end (λ e. e) (λ e r n z m y ts x. Grammar.verb_computed x y z)))))))))
    (sign_end sign.LeftBracket (phrase_end
    (λ b. tail (λ r. Sign sign.RightBracket ∷ Sign sign.Assign ∷ r) (tree.index a b) (λ r ts d. Grammar.indexed d Grammar.no_suffix))
    (λ b. sign_end sign.DotDot (phrase_end
    (λ c. tail (λ r. Sign sign.RightBracket ∷ Sign sign.Assign ∷ r) (tree.range a b c) (λ r m d ts x. Grammar.ranged x d Grammar.no_suffix))
    (λ c. expect_end sign.RightBracket (last_end (λ e. e) (λ e r n z m y ts x. Grammar.ranged x y z))))
    (expect_end sign.RightBracket (last_end (λ e. e) (λ e r m d ts c. Grammar.indexed c d)))))
    gives_end))
all_end g (Grammar.primary i) =
    option_end (literal.Integer (pos 0)) {p = λ l. give (tree.literal l)} (λ x l is. gives_end)
    (name_end (λ s. peek_end
    (ruled_end sign.LeftParen (g.functions s) (ending (λ r. Sign sign.RightParen ∷ Sign sign.Assign ∷ r) (tree.call s tree.no_items) (λ r. Grammar.called refl Grammar.no_arguments))
    (taken_end sign.LeftParen (phrase_end
    (λ xs. tail (λ r. Sign sign.RightParen ∷ Sign sign.Assign ∷ r) (tree.call s xs) (λ r ts d. Grammar.called refl d))
    (λ xs. expect_end sign.RightParen (gives_end {e = tree.call s xs})))))
    (gives_end {e = tree.variable s}))
    (sign_end sign.LeftParen (phrase_end
    (λ a. tail (λ r. Sign sign.RightParen ∷ Sign sign.Assign ∷ r) a (λ r ts d. Grammar.grouped d))
    (λ a. expect_end sign.RightParen (gives_end {e = a})))
    (sign_end sign.LeftBrace (phrase_end
    (λ xs. tail (λ r. Sign sign.RightBrace ∷ Sign sign.Assign ∷ r) (tree.list xs) (λ r ts d. Grammar.scattered d))
    (λ xs. expect_end sign.RightBrace (brace_end (has_optional xs) (tree.list xs))))
    (sign_end sign.Dollar
    (name_end (λ s. sign_end sign.LeftParen (phrase_end
    (λ xs. tail (λ r. Sign sign.RightParen ∷ Sign sign.Assign ∷ r) (tree.verb_call system_object (text s) xs) (λ r ts d. Grammar.system_verb d))
    (λ xs. expect_end sign.RightParen (gives_end {e = tree.verb_call system_object (text s) xs})))
    (gives_end {e = tree.property system_object (text s)}))
    (mark_end i))
    (expect_end sign.Backquote (phrase_end
    (λ a. tail (λ r. Sign sign.Bang ∷ token.Keyword keyword.Any ∷ Sign sign.Quote ∷ Sign sign.Assign ∷ r) (tree.catch a tree.any_error) (λ r ts d. Grammar.catches d Grammar.any_code))
    (λ a. expect_end sign.Bang (phrase_end
    (λ c. tail (λ r. Sign sign.Quote ∷ Sign sign.Assign ∷ r) (tree.catch a c) (λ r m d ts x. Grammar.catches x d))
    (λ c. sign_end sign.Arrow (phrase_end
    (λ b. tail (λ r. Sign sign.Quote ∷ Sign sign.Assign ∷ r) (tree.catch_or a c b) (λ r n z m y ts x. Grammar.catches_or x y z))
    (λ b. expect_end sign.Quote (gives_end {e = tree.catch_or a c b})))
    (expect_end sign.Quote (gives_end {e = tree.catch a c})))))))))))
all_end g (Grammar.codes i) = keyword_end keyword.Any gives_end (last_end tree.listed_errors (λ xs r ts d. Grammar.these_codes d))
all_end g (Grammar.arguments i o) = peek_end gives_end (last_end (λ xs. xs) (λ xs r ts d. Grammar.some_arguments d))
all_end g (Grammar.members i true) =
    sign_end sign.At (phrase_end (λ a. tail (λ r. r) (tree.splice a tree.no_items) (λ r ts d. Grammar.one_splice d)) (λ a. sign_end sign.Comma (last_end (tree.splice a) (λ xs r m d ts c. Grammar.a_splice c d)) gives_end))
    (sign_end sign.Question
    (name_end (λ s. sign_end sign.Assign (phrase_end (λ a. tail (λ r. r) (tree.defaulted s a tree.no_items) (λ r ts d. Grammar.one_default d)) (λ a. sign_end sign.Comma (last_end (tree.defaulted s a) (λ xs r m d ts c. Grammar.a_default c d)) (gives_end {e = tree.defaulted s a tree.no_items})))
    (sign_end sign.Comma (last_end (tree.optional s) (λ xs r ts d. Grammar.an_optional d)) (gives_end {e = tree.optional s tree.no_items})))
    refuses_end)
    (phrase_end (λ a. tail (λ r. r) (tree.element a tree.no_items) (λ r ts d. Grammar.one_element d)) (λ a. sign_end sign.Comma (last_end (tree.element a) (λ xs r m d ts c. Grammar.an_element c d)) gives_end)))
all_end g (Grammar.members i false) =
    sign_end sign.At (phrase_end (λ a. tail (λ r. r) (tree.splice a tree.no_items) (λ r ts d. Grammar.one_splice d)) (λ a. sign_end sign.Comma (last_end (tree.splice a) (λ xs r m d ts c. Grammar.a_splice c d)) gives_end))
    (phrase_end (λ a. tail (λ r. r) (tree.element a tree.no_items) (λ r ts d. Grammar.one_element d)) (λ a. sign_end sign.Comma (last_end (tree.element a) (λ xs r m d ts c. Grammar.an_element c d)) gives_end))
all_end g (Grammar.statement ls) =
    keyword_end keyword.If (phrase_end
    (λ a. tail (λ r. token.Keyword keyword.EndIf ∷ r) (tree.branches a tree.no_statement tree.no_else) (λ r ts d. Grammar.branch d Grammar.no_statements Grammar.no_arms))
    (λ a. phrase_end
    (λ b. tail (λ r. token.Keyword keyword.EndIf ∷ r) (tree.branches a b tree.no_else) (λ r m d ts c. Grammar.branch c d Grammar.no_arms))
    (λ b. phrase_end
    (λ c. tail (λ r. token.Keyword keyword.EndIf ∷ r) (tree.branches a b c) (λ r n z m y ts x. Grammar.branch x y z))
    (λ c. needed_end keyword.EndIf gives_end))))
    (keyword_end keyword.For (name_end (λ x. needed_end keyword.In (sign_end sign.LeftBracket
    (phrase_end
    (λ a. tail (λ r. Sign sign.DotDot ∷ zero_token ∷ Sign sign.RightBracket ∷ token.Keyword keyword.EndFor ∷ r) (tree.for_range x a zero tree.no_statement) (λ r ts d. Grammar.for_numbers d (an_expression false _) Grammar.no_statements))
    (λ a. expect_end sign.DotDot (phrase_end
    (λ b. tail (λ r. Sign sign.RightBracket ∷ token.Keyword keyword.EndFor ∷ r) (tree.for_range x a b tree.no_statement) (λ r m d ts c. Grammar.for_numbers c d Grammar.no_statements))
    (λ b. expect_end sign.RightBracket (phrase_end
    (λ c. tail (λ r. token.Keyword keyword.EndFor ∷ r) (tree.for_range x a b c) (λ r n z m y ts w. Grammar.for_numbers w y z))
    (λ c. needed_end keyword.EndFor (gives_end {e = tree.for_range x a b c})))))))
    (phrase_end
    (λ a. tail (λ r. token.Keyword keyword.EndFor ∷ r) (tree.for_list x a tree.no_statement) (λ r ts d. Grammar.for_elements d Grammar.no_statements))
    (λ a. phrase_end
    (λ b. tail (λ r. token.Keyword keyword.EndFor ∷ r) (tree.for_list x a b) (λ r m d ts c. Grammar.for_elements c d))
    (λ b. needed_end keyword.EndFor (gives_end {e = tree.for_list x a b}))))))
    refuses_end)
    (keyword_end keyword.While (phrase_end
    (λ l. tail (λ r. Sign sign.LeftParen ∷ zero_token ∷ Sign sign.RightParen ∷ token.Keyword keyword.EndWhile ∷ r) (tree.while_loop l zero tree.no_statement) (λ r ts d. Grammar.while_true d (Grammar.parenthesized (an_expression false _)) Grammar.no_statements))
    (λ l. phrase_end
    (λ a. tail (λ r. token.Keyword keyword.EndWhile ∷ r) (tree.while_loop l a tree.no_statement) (λ r m d ts c. Grammar.while_true c d Grammar.no_statements))
    (λ a. phrase_end
    (λ b. tail (λ r. token.Keyword keyword.EndWhile ∷ r) (tree.while_loop l a b) (λ r n z m y ts x. Grammar.while_true x y z))
    (λ b. needed_end keyword.EndWhile gives_end))))
    (jump_end g ls keyword.Break tree.breaks (λ r. Grammar.breaks_loop refl) (λ x r. Grammar.breaks_named refl)
    (jump_end g ls keyword.Continue tree.continues (λ r. Grammar.continues_loop refl) (λ x r. Grammar.continues_named refl)
    (keyword_end keyword.Return (sign_end sign.Semicolon gives_end (phrase_end (λ a. tail (λ r. Sign sign.Semicolon ∷ r) (tree.returns a) (λ r ts d. Grammar.returns_value d)) (λ a. expect_end sign.Semicolon gives_end)))
    (keyword_end keyword.Try (phrase_end
    (λ b. tail (λ r. token.Keyword keyword.Finally ∷ token.Keyword keyword.EndTry ∷ r) (tree.try_finally b tree.no_statement) (λ r ts d. Grammar.cleans_up d Grammar.no_statements))
    (λ b. keyword_end keyword.Finally
    (phrase_end (λ c. tail (λ r. token.Keyword keyword.EndTry ∷ r) (tree.try_finally b c) (λ r m d ts x. Grammar.cleans_up x d)) (λ c. needed_end keyword.EndTry gives_end))
    (phrase_end (λ h. tail (λ r. token.Keyword keyword.EndTry ∷ r) (tree.try_except b h) (λ r m d ts c. Grammar.tries c d)) (λ h. needed_end keyword.EndTry gives_end))))
    (phrase_end (λ a. tail (λ r. Sign sign.Semicolon ∷ r) (tree.performs a) (λ r ts d. Grammar.performed d)) (λ a. expect_end sign.Semicolon gives_end))))))))
all_end g (Grammar.statements ls) = peek_end
    (sign_end sign.Semicolon (last_end (λ ss. ss) (λ ss r ts d h. Grammar.an_end d)) (phrase_end (λ s. tail (λ r. r) (tree.then s tree.no_statement) (λ r ts d h. Grammar.one_statement d Grammar.no_statements)) (λ s. last_end (tree.then s) (λ ss r m d ts c h. Grammar.one_statement c d))))
    gives_end
all_end g (Grammar.arms ls) =
    keyword_end keyword.ElseIf (phrase_end
    (λ a. tail (λ r. r) (tree.elseif a tree.no_statement tree.no_else) (λ r ts d. Grammar.an_arm d Grammar.no_statements Grammar.no_arms))
    (λ a. phrase_end
    (λ b. tail (λ r. r) (tree.elseif a b tree.no_else) (λ r m d ts c. Grammar.an_arm c d Grammar.no_arms))
    (λ b. last_end (tree.elseif a b) (λ c r n z m y ts x. Grammar.an_arm x y z))))
    (keyword_end keyword.Else (last_end tree.otherwise (λ b r ts d. Grammar.last_arm d)) gives_end)
all_end g (Grammar.handlers ls) = needed_end keyword.Except (phrase_end
    (λ l. tail (λ r. Sign sign.LeftParen ∷ token.Keyword keyword.Any ∷ Sign sign.RightParen ∷ r) (tree.handler l tree.any_error tree.no_statement tree.no_handler) (λ r ts d. Grammar.one_handler d Grammar.any_code Grammar.no_statements))
    (λ l. expect_end sign.LeftParen (phrase_end
    (λ c. tail (λ r. Sign sign.RightParen ∷ r) (tree.handler l c tree.no_statement tree.no_handler) (λ r m d ts x. Grammar.one_handler x d Grammar.no_statements))
    (λ c. expect_end sign.RightParen (phrase_end
    (λ b. tail (λ r. r) (tree.handler l c b tree.no_handler) (λ r n z m y ts x. Grammar.one_handler x y z))
    (λ b. peek_end (last_end (tree.handler l c b) (λ h r o w i n z m y ts x. Grammar.a_handler x y z w)) gives_end))))))
all_end g Grammar.in_parens = expect_end sign.LeftParen (phrase_end (λ a. tail (λ r. Sign sign.RightParen ∷ r) a (λ r ts d. Grammar.parenthesized d)) (λ a. expect_end sign.RightParen gives_end))
all_end g Grammar.label = name_end (λ x. gives_end {e = Some x}) (gives_end {e = None})
