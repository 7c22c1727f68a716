-- The choices of a predictive parser for the grammar.
use Rattle.std.specs.Prelude.{ℕ, List, [], ◌∷◌, Bool, true, false, Option, Some, None, pos, is_some, unwrap_or, if◌then◌else◌, ◌||◌}
use Rattle.moo_syntax_token.specs.declared.sign.Sign.{Sign}
use Rattle.moo_syntax_token.specs.declared.sign.Sign.TheVariants.{LeftParen, RightParen, LeftBrace, RightBrace, LeftBracket, RightBracket, Comma, Dot, DotDot, Colon, Semicolon, Question, Pipe, Assign, Arrow, Backquote, Quote, Bang, Dollar, At, Minus, Caret}
use Rattle.moo_syntax_token.specs.declared.keyword.Keyword.{Keyword}
use Rattle.moo_syntax_token.specs.declared.keyword.Keyword.TheVariants.{If, Else, ElseIf, EndIf, For, In, EndFor, While, EndWhile, Return, Try, EndTry, Except, Finally, Any, Break, Continue}
use Rattle.moo_syntax_token.specs.declared.token.Token.{Token}
use Rattle.moo_syntax_token.specs.declared.token.Token.TheVariants as token
use Rattle.moo_syntax_ast.specs.declared.operator.UnaryOperator.TheVariants.{Not}
use Rattle.moo_syntax_ast.specs.declared.operator.BinaryOperator.TheVariants.{Power}
use Rattle.moo_syntax_ast.specs.declared.tree.Literal.{Literal}
use Rattle.moo_syntax_ast.specs.declared.tree.Literal.TheVariants.{Integer}
use Rattle.moo_syntax_ast.specs.Tree.{Expr, Items, Codes, Stmt, literal, variable, length_mark, binary, index, range, list, property, verb_call, call, assign, catch, catch_or, no_items, element, splice, optional, defaulted, any_error, listed_errors, return_nothing, returns, performs, branches, for_list, for_range, while_loop, breaks, continues, try_except, try_finally, no_else, otherwise, elseif, no_handler, handler, no_statement}
use Rattle.moo_syntax_ast.specs.Tree as tree
use Rattle.moo_syntax_grammar.specs.declared.level.Level.{Level}
use Rattle.moo_syntax_grammar.specs.declared.level.Level.TheVariants.{Logic, Relation, Sum, Product}
use Rattle.moo_syntax_grammar.specs.declared.level.Operator.{Operator}
use Rattle.moo_syntax_grammar.specs.declared.level.Operator.TheVariants as operator
use Rattle.moo_syntax_grammar.specs.Tokens.{is_sign, is_keyword, operator_at, literal_at, name_at}
use Rattle.moo_syntax_grammar.specs.Grammar.{Sort, Kind, expression, conditional, chain, more, operand, power, unary, postfix, suffixes, primary, arguments, members, codes, statement, statements, arms, handlers, label, in_parens, sort, negated, joined, text, system_object, has_optional}
use Rattle.moo_syntax_grammar.specs.Rules.{Rules, may_assign, may_jump}
use Rattle.moo_syntax_grammar.specs.Machine.{Reading, give, refuse, forbid, take, peek, phrase}

-- whether the token ends arguments or the items of braces
abbrev pub is_closer : Token → Bool
is_closer x = is_sign RightParen x || is_sign RightBrace x

-- whether an expression begins with the token
abbrev pub begins_expression : Token → Bool
begins_expression (token.Sign Bang) = true
begins_expression (token.Sign Minus) = true
begins_expression (token.Sign Dollar) = true
begins_expression (token.Sign LeftParen) = true
begins_expression (token.Sign LeftBrace) = true
begins_expression (token.Sign Backquote) = true
begins_expression (token.Integer n) = true
begins_expression (token.Object n) = true
begins_expression (token.Error e) = true
begins_expression (token.Str s) = true
begins_expression (token.Name s) = true
begins_expression _ = false

-- whether a statement begins with the token, or is it
abbrev pub begins_statement : Token → Bool
begins_statement (token.Sign Semicolon) = true
begins_statement (token.Keyword If) = true
begins_statement (token.Keyword For) = true
begins_statement (token.Keyword While) = true
begins_statement (token.Keyword Break) = true
begins_statement (token.Keyword Continue) = true
begins_statement (token.Keyword Return) = true
begins_statement (token.Keyword Try) = true
begins_statement x = begins_expression x

-- takes the next token if it passes the test
abbrev pub test : {s : Sort} → (Token → Bool) → (Token → Reading s) → Reading s → Reading s
test f p q = peek f (take p) q

-- takes the sign if it comes next
abbrev pub if_sign : {s : Sort} → Sign → Reading s → Reading s → Reading s
if_sign m p q = test (is_sign m) (λ _. p) q

-- the sign must come next
abbrev pub expect : {s : Sort} → Sign → Reading s → Reading s
expect m p = if_sign m p refuse

-- takes the keyword if it comes next
abbrev pub if_keyword : {s : Sort} → Keyword → Reading s → Reading s → Reading s
if_keyword k p q = test (is_keyword k) (λ _. p) q

-- the keyword must come next
abbrev pub expect_keyword : {s : Sort} → Keyword → Reading s → Reading s
expect_keyword k p = if_keyword k p refuse

abbrev pub if_name : {s : Sort} → (List ℕ → Reading s) → Reading s → Reading s
if_name p q = test (λ x. is_some (name_at x)) (λ x. p (unwrap_or (name_at x) [])) q

abbrev pub if_literal : {s : Sort} → (Literal → Reading s) → Reading s → Reading s
if_literal p q = test (λ x. is_some (literal_at x)) (λ x. p (unwrap_or (literal_at x) (Integer (pos 0)))) q

abbrev pub if_operator : {s : Sort} → Level → (Operator → Reading s) → Reading s → Reading s
if_operator l p q = test (λ x. is_some (operator_at l x)) (λ x. p (unwrap_or (operator_at l x) (operator.Binary Power))) q

-- continues if a rule is obeyed
abbrev pub allowed : {s : Sort} → Bool → Reading s → Reading s
allowed true p = p
allowed false p = forbid

-- after a member: a comma and further members, or the end of the members
abbrev pub after_member : Bool → Bool → (Items → Items) → Reading Sort.items
after_member i o f = if_sign Comma (phrase (members i o) λ xs. give (f xs)) (give (f no_items))

-- after the `?` of a member
abbrev pub after_question : Bool → Reading Sort.items
after_question i = if_name (λ s. if_sign Assign (phrase (expression i) λ a. after_member i true (defaulted s a)) (after_member i true (optional s))) refuse

-- a member with `?`, if it is allowed
abbrev pub if_optional : Bool → Reading Sort.items → Reading Sort.items → Reading Sort.items
if_optional true p q = if_sign Question p q
if_optional false p q = q

abbrev pub after_codes : Bool → Expr → Codes → Reading Sort.expr
after_codes i a c = if_sign Arrow (phrase (expression i) λ b. expect Quote (give (catch_or a c b))) (expect Quote (give (catch a c)))

abbrev pub guarded : Bool → Reading Sort.expr
guarded i = if_sign Backquote (phrase (expression i) λ a. expect Bang (phrase (codes i) λ c. after_codes i a c)) refuse

-- `$` alone, inside an index
abbrev pub mark : Bool → Reading Sort.expr
mark false = refuse
mark true = give length_mark

abbrev pub after_dollar : Bool → Reading Sort.expr
after_dollar i = if_name (λ s. if_sign LeftParen
    (phrase (arguments i false) λ xs. expect RightParen (give (verb_call system_object (text s) xs)))
    (give (property system_object (text s)))) (mark i)

abbrev pub dollar : Bool → Reading Sort.expr
dollar i = if_sign Dollar (after_dollar i) (guarded i)

-- after the items of braces: `=`, if a `?` piece is among them
abbrev pub after_brace : Bool → Expr → Reading Sort.expr
after_brace false e = give e
after_brace true e = peek (is_sign Assign) (give e) refuse

abbrev pub braced : Bool → Reading Sort.expr
braced i = if_sign LeftBrace (phrase (arguments i true) λ xs. expect RightBrace (after_brace (has_optional xs) (list xs))) (dollar i)

-- a variable, or a call
abbrev pub named : Rules → Bool → List ℕ → Reading Sort.expr
named g i s = peek (is_sign LeftParen) (allowed (g.functions s) (take λ _. phrase (arguments i false) λ xs. expect RightParen (give (call s xs)))) (give (variable s))

abbrev pub after_dot : Bool → Expr → Reading Sort.expr
after_dot i a = if_name (λ s. phrase (suffixes i (property a (text s))) λ e. give e)
    (expect LeftParen (phrase (expression i) λ b. expect RightParen (phrase (suffixes i (property a b)) λ e. give e)))

abbrev pub verb_arguments : Bool → Expr → Expr → Reading Sort.expr
verb_arguments i a b = expect LeftParen (phrase (arguments i false) λ xs. expect RightParen (phrase (suffixes i (verb_call a b xs)) λ e. give e))

abbrev pub after_colon : Bool → Expr → Reading Sort.expr
after_colon i a = if_name (λ s. verb_arguments i a (text s))
    (expect LeftParen (phrase (expression i) λ b. expect RightParen (verb_arguments i a b)))

abbrev pub after_bracket : Bool → Expr → Reading Sort.expr
after_bracket i a = phrase (expression true) λ b. if_sign DotDot
    (phrase (expression true) λ c. expect RightBracket (phrase (suffixes i (range a b c)) λ e. give e))
    (expect RightBracket (phrase (suffixes i (index a b)) λ e. give e))

-- the name of a loop that a jump may name here
abbrev pub loop_at : Rules → List (Option (List ℕ)) → Token → Option (List ℕ)
loop_at g ls (token.Name x) = if may_jump g ls (Some x) then Some x else None
loop_at g ls _ = None

-- the end of a jump, with an optional name before it, which is that of a loop
abbrev pub after_jump : Rules → List (Option (List ℕ)) → (Option (List ℕ) → Stmt) → Reading Sort.stmt
after_jump g ls f = test (λ x. is_some (loop_at g ls x)) (λ x. expect Semicolon (give (f (Some (unwrap_or (loop_at g ls x) []))))) (peek (λ x. is_some (name_at x)) forbid (expect Semicolon (give (f None))))

abbrev pub jump : Rules → List (Option (List ℕ)) → Keyword → (Option (List ℕ) → Stmt) → Reading Sort.stmt → Reading Sort.stmt
jump g ls k f q = peek (is_keyword k) (allowed (may_jump g ls None) (take λ _. after_jump g ls f)) q

abbrev pub after_if : List (Option (List ℕ)) → Reading Sort.stmt
after_if ls = phrase in_parens λ a. phrase (statements ls) λ b. phrase (arms ls) λ c. expect_keyword EndIf (give (branches a b c))

abbrev pub after_in : List (Option (List ℕ)) → List ℕ → Reading Sort.stmt
after_in ls x = if_sign LeftBracket
    (phrase (expression false) λ a. expect DotDot (phrase (expression false) λ b. expect RightBracket (phrase (statements (Some x ∷ ls)) λ c. expect_keyword EndFor (give (for_range x a b c)))))
    (phrase in_parens λ a. phrase (statements (Some x ∷ ls)) λ b. expect_keyword EndFor (give (for_list x a b)))

abbrev pub after_for : List (Option (List ℕ)) → Reading Sort.stmt
after_for ls = if_name (λ x. expect_keyword In (after_in ls x)) refuse

abbrev pub after_while : List (Option (List ℕ)) → Reading Sort.stmt
after_while ls = phrase label λ l. phrase in_parens λ a. phrase (statements (l ∷ ls)) λ b. expect_keyword EndWhile (give (while_loop l a b))

abbrev pub after_return : Reading Sort.stmt
after_return = if_sign Semicolon (give return_nothing) (phrase (expression false) λ a. expect Semicolon (give (returns a)))

abbrev pub after_try : List (Option (List ℕ)) → Reading Sort.stmt
after_try ls = phrase (statements ls) λ b. if_keyword Finally
    (phrase (statements ls) λ c. expect_keyword EndTry (give (try_finally b c)))
    (phrase (handlers ls) λ h. expect_keyword EndTry (give (try_except b h)))

unfoldable pub grammar : Rules → (k : Kind) → Reading (sort k)
grammar g (expression i) = phrase (conditional i) λ a. peek (is_sign Assign) (allowed (may_assign g a) (take λ _. phrase (expression i) λ b. give (assign a b))) (give a)
grammar g (conditional i) = phrase (chain i Logic) λ a. if_sign Question (phrase (expression i) λ b. expect Pipe (phrase (conditional i) λ c. give (tree.conditional a b c))) (give a)
grammar g (chain i l) = phrase (operand i l) λ a. phrase (more i l a) λ e. give e
grammar g (more i l a) = if_operator l (λ o. phrase (operand i l) λ b. phrase (more i l (joined o a b)) λ e. give e) (give a)
grammar g (operand i Logic) = phrase (chain i Relation) λ e. give e
grammar g (operand i Relation) = phrase (chain i Sum) λ e. give e
grammar g (operand i Sum) = phrase (chain i Product) λ e. give e
grammar g (operand i Product) = phrase (power i) λ e. give e
grammar g (power i) = phrase (unary i) λ a. if_sign Caret (phrase (power i) λ b. give (binary Power a b)) (give a)
grammar g (unary i) = if_sign Bang (phrase (unary i) λ a. give (tree.unary Not a)) (if_sign Minus (phrase (unary i) λ a. give (negated a)) (phrase (postfix i) λ a. give a))
grammar g (postfix i) = phrase (primary i) λ a. phrase (suffixes i a) λ e. give e
grammar g (suffixes i a) = if_sign Dot (after_dot i a) (if_sign Colon (after_colon i a) (if_sign LeftBracket (after_bracket i a) (give a)))
grammar g (primary i) = if_literal (λ l. give (literal l))
    (if_name (named g i)
    (if_sign LeftParen (phrase (expression i) λ a. expect RightParen (give a)) (braced i)))
grammar g (codes i) = if_keyword Any (give any_error) (phrase (members i false) λ xs. give (listed_errors xs))
grammar g (arguments i o) = peek is_closer (give no_items) (phrase (members i o) λ xs. give xs)
grammar g (members i o) = if_sign At (phrase (expression i) λ a. after_member i o (splice a))
    (if_optional o (after_question i) (phrase (expression i) λ a. after_member i o (element a)))
grammar g (statement ls) =
    if_keyword If (after_if ls)
    (if_keyword For (after_for ls)
    (if_keyword While (after_while ls)
    (jump g ls Break breaks
    (jump g ls Continue continues
    (if_keyword Return after_return
    (if_keyword Try (after_try ls)
    (phrase (expression false) λ a. expect Semicolon (give (performs a)))))))))
grammar g (statements ls) = peek begins_statement
    (if_sign Semicolon (phrase (statements ls) λ ss. give ss) (phrase (statement ls) λ s. phrase (statements ls) λ ss. give (tree.then s ss)))
    (give no_statement)
grammar g (arms ls) = if_keyword ElseIf (phrase in_parens λ a. phrase (statements ls) λ b. phrase (arms ls) λ c. give (elseif a b c))
    (if_keyword Else (phrase (statements ls) λ b. give (otherwise b)) (give no_else))
grammar g (handlers ls) = expect_keyword Except (phrase label λ l. expect LeftParen (phrase (codes false) λ c. expect RightParen (phrase (statements ls) λ b.
    peek (is_keyword Except) (phrase (handlers ls) λ h. give (handler l c b h)) (give (handler l c b no_handler)))))
grammar g in_parens = expect LeftParen (phrase (expression false) λ a. expect RightParen (give a))
grammar g label = if_name (λ x. give (Some x)) (give None)
