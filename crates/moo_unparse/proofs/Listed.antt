-- The tokens of a listing, written in front of others.
use Rattle.std.specs.Prelude.{ℕ, ℤ, pos, negsuc, List, ◌∷◌, ◌≡◌, Bool, true, false, Option, Some, None, FitsSigned}
use Rattle.std.specs.Int.{int_wrapping_neg, w32}
use Rattle.moo_syntax_token.specs.declared.sign.Sign.{Sign}
use Rattle.moo_syntax_token.specs.declared.sign.Sign.TheVariants as sign
use Rattle.moo_syntax_token.specs.declared.keyword.Keyword.TheVariants as keyword
use Rattle.moo_syntax_token.specs.declared.token.Token.{Token}
use Rattle.moo_syntax_token.specs.declared.token.Token.TheVariants as token
use Rattle.moo_syntax_token.specs.Spelling.{is_name}
use Rattle.moo_syntax_ast.specs.declared.operator.UnaryOperator.{UnaryOperator}
use Rattle.moo_syntax_ast.specs.declared.operator.UnaryOperator.TheVariants.{Not, Negate}
use Rattle.moo_syntax_ast.specs.declared.operator.BinaryOperator.{BinaryOperator}
use Rattle.moo_syntax_ast.specs.declared.operator.BinaryOperator.TheVariants.{Add, Subtract, Multiply, Divide, Remainder, Power, Equal, NotEqual, Less, LessOrEqual, Greater, GreaterOrEqual, In}
use Rattle.moo_syntax_ast.specs.declared.operator.LogicOperator.{LogicOperator}
use Rattle.moo_syntax_ast.specs.declared.operator.LogicOperator.TheVariants.{And, Or}
use Rattle.moo_syntax_ast.specs.declared.tree.Literal.{Literal}
use Rattle.moo_syntax_ast.specs.declared.tree.Literal.TheVariants.{Integer, Object, Error, Str}
use Rattle.moo_syntax_ast.specs.Tree.{Expr, literal, variable, length_mark, unary, binary, logic, conditional, index, range, list, property, verb_call, call, assign, catch, catch_or, Items, no_items, element, splice, optional, defaulted, Codes, any_error, listed_errors, Stmt, return_nothing, returns, performs, branches, for_list, for_range, while_loop, breaks, continues, try_except, try_finally, Arms, no_else, otherwise, elseif, Handlers, no_handler, handler, Block, no_statement, then}
use Rattle.moo_syntax_ast.specs.Listing.{is_compound, is_compound_base, constant_name, is_system_object}
use Rattle.moo_unparse.specs.declared.form.Parentheses.{Parentheses}
use Rattle.moo_unparse.specs.declared.form.Part.TheVariants as part
use Rattle.moo_unparse.specs.Parts.{operator_part, left_of, right_of, needs}

abbrev pub unary_mark : UnaryOperator → Sign
unary_mark Not = sign.Bang
unary_mark Negate = sign.Minus

abbrev pub binary_token : BinaryOperator → Token
binary_token Add = token.Sign sign.Plus
binary_token Subtract = token.Sign sign.Minus
binary_token Multiply = token.Sign sign.Star
binary_token Divide = token.Sign sign.Slash
binary_token Remainder = token.Sign sign.Percent
binary_token Power = token.Sign sign.Caret
binary_token Equal = token.Sign sign.Equal
binary_token NotEqual = token.Sign sign.NotEqual
binary_token Less = token.Sign sign.Less
binary_token LessOrEqual = token.Sign sign.LessEqual
binary_token Greater = token.Sign sign.Greater
binary_token GreaterOrEqual = token.Sign sign.GreaterEqual
binary_token In = token.Keyword keyword.In

abbrev pub logic_mark : LogicOperator → Sign
logic_mark And = sign.AndAnd
logic_mark Or = sign.OrOr

-- a minus of its own before a negative integer
abbrev pub integer_tokens : ℤ → List Token → List Token
integer_tokens (pos n) r = token.Integer (pos n) ∷ r
integer_tokens (negsuc n) r = token.Sign sign.Minus ∷ token.Integer (int_wrapping_neg w32 (negsuc n)) ∷ r

abbrev pub literal_tokens : Literal → List Token → List Token
literal_tokens (Integer n) r = integer_tokens n r
literal_tokens (Object n) r = token.Object n ∷ r
literal_tokens (Error e) r = token.Error e ∷ r
literal_tokens (Str s) r = token.Str s ∷ r

-- the text of f, in parentheses or without, before r
abbrev pub parens : Bool → (List Token → List Token) → List Token → List Token
parens true f r = token.Sign sign.LeftParen ∷ f (token.Sign sign.RightParen ∷ r)
parens false f r = f r

-- a property or a verb of what f writes, by its name, which g writes
abbrev pub selected : Sign → Option (List ℕ) → Bool → (f g : List Token → List Token) → List Token → List Token
selected m (Some s) true f g r = token.Sign sign.Dollar ∷ token.Name s ∷ r
selected m (Some s) false f g r = f (token.Sign m ∷ token.Name s ∷ r)
selected m None system f g r = f (token.Sign m ∷ token.Sign sign.LeftParen ∷ g (token.Sign sign.RightParen ∷ r))

-- a comma and the items after it, if any follow
abbrev pub further : Items → List Token → List Token
further no_items ts = ts
further (element a xs) ts = token.Sign sign.Comma ∷ ts
further (splice a xs) ts = token.Sign sign.Comma ∷ ts
further (optional s xs) ts = token.Sign sign.Comma ∷ ts
further (defaulted s a xs) ts = token.Sign sign.Comma ∷ ts

abbrev mutual
  pub spell : Parentheses → Expr → List Token → List Token
  spell p (literal l) r = literal_tokens l r
  spell p (variable s) r = token.Name s ∷ r
  spell p length_mark r = token.Sign sign.Dollar ∷ r
  spell p (unary o a) r = token.Sign (unary_mark o) ∷ parens (needs p part.Sign a) (spell p a) r
  spell p (binary o a b) r = parens (needs p (left_of (operator_part o)) a) (spell p a) (binary_token o ∷ parens (needs p (right_of (operator_part o)) b) (spell p b) r)
  spell p (logic o a b) r = parens (needs p (left_of part.Logic) a) (spell p a) (token.Sign (logic_mark o) ∷ parens (needs p (right_of part.Logic) b) (spell p b) r)
  spell p (conditional a b c) r = parens (needs p part.Logic a) (spell p a) (token.Sign sign.Question ∷ parens (needs p part.Assignment b) (spell p b) (token.Sign sign.Pipe ∷ parens (needs p part.Conditional c) (spell p c) r))
  spell p (index a b) r = parens (is_compound_base a) (spell p a) (token.Sign sign.LeftBracket ∷ spell p b (token.Sign sign.RightBracket ∷ r))
  spell p (range a b c) r = parens (is_compound_base a) (spell p a) (token.Sign sign.LeftBracket ∷ spell p b (token.Sign sign.DotDot ∷ spell p c (token.Sign sign.RightBracket ∷ r)))
  spell p (list xs) r = token.Sign sign.LeftBrace ∷ spell_items p xs (token.Sign sign.RightBrace ∷ r)
  spell p (property a b) r = selected sign.Dot (constant_name b) (is_system_object a) (λ ts. parens (is_compound_base a) (spell p a) ts) (spell p b) r
  spell p (verb_call a b xs) r = selected sign.Colon (constant_name b) (is_system_object a) (λ ts. parens (is_compound_base a) (spell p a) ts) (spell p b) (token.Sign sign.LeftParen ∷ spell_items p xs (token.Sign sign.RightParen ∷ r))
  spell p (call s xs) r = token.Name s ∷ token.Sign sign.LeftParen ∷ spell_items p xs (token.Sign sign.RightParen ∷ r)
  spell p (assign a b) r = parens (is_compound a) (spell p a) (token.Sign sign.Assign ∷ spell p b r)
  spell p (catch a c) r = token.Sign sign.Backquote ∷ spell p a (token.Sign sign.Bang ∷ spell_codes p c (token.Sign sign.Quote ∷ r))
  spell p (catch_or a c b) r = token.Sign sign.Backquote ∷ spell p a (token.Sign sign.Bang ∷ spell_codes p c (token.Sign sign.Arrow ∷ spell p b (token.Sign sign.Quote ∷ r)))

  pub spell_items : Parentheses → Items → List Token → List Token
  spell_items p no_items r = r
  spell_items p (element a xs) r = spell p a (further xs (spell_items p xs r))
  spell_items p (splice a xs) r = token.Sign sign.At ∷ spell p a (further xs (spell_items p xs r))
  spell_items p (optional s xs) r = token.Sign sign.Question ∷ token.Name s ∷ further xs (spell_items p xs r)
  spell_items p (defaulted s a xs) r = token.Sign sign.Question ∷ token.Name s ∷ token.Sign sign.Assign ∷ spell p a (further xs (spell_items p xs r))

  pub spell_codes : Parentheses → Codes → List Token → List Token
  spell_codes p any_error r = token.Keyword keyword.Any ∷ r
  spell_codes p (listed_errors xs) r = spell_items p xs r

abbrev pub spell_label : Option (List ℕ) → List Token → List Token
spell_label None r = r
spell_label (Some s) r = token.Name s ∷ r

abbrev mutual
  pub spell_statement : Parentheses → Stmt → List Token → List Token
  spell_statement p return_nothing r = token.Keyword keyword.Return ∷ token.Sign sign.Semicolon ∷ r
  spell_statement p (returns a) r = token.Keyword keyword.Return ∷ spell p a (token.Sign sign.Semicolon ∷ r)
  spell_statement p (performs a) r = spell p a (token.Sign sign.Semicolon ∷ r)
  spell_statement p (branches a b c) r = token.Keyword keyword.If ∷ token.Sign sign.LeftParen ∷ spell p a (token.Sign sign.RightParen ∷ spell_block p b (spell_arms p c (token.Keyword keyword.EndIf ∷ r)))
  spell_statement p (for_list s a b) r = token.Keyword keyword.For ∷ token.Name s ∷ token.Keyword keyword.In ∷ token.Sign sign.LeftParen ∷ spell p a (token.Sign sign.RightParen ∷ spell_block p b (token.Keyword keyword.EndFor ∷ r))
  spell_statement p (for_range s a b c) r = token.Keyword keyword.For ∷ token.Name s ∷ token.Keyword keyword.In ∷ token.Sign sign.LeftBracket ∷ spell p a (token.Sign sign.DotDot ∷ spell p b (token.Sign sign.RightBracket ∷ spell_block p c (token.Keyword keyword.EndFor ∷ r)))
  spell_statement p (while_loop n a b) r = token.Keyword keyword.While ∷ spell_label n (token.Sign sign.LeftParen ∷ spell p a (token.Sign sign.RightParen ∷ spell_block p b (token.Keyword keyword.EndWhile ∷ r)))
  spell_statement p (breaks n) r = token.Keyword keyword.Break ∷ spell_label n (token.Sign sign.Semicolon ∷ r)
  spell_statement p (continues n) r = token.Keyword keyword.Continue ∷ spell_label n (token.Sign sign.Semicolon ∷ r)
  spell_statement p (try_except b h) r = token.Keyword keyword.Try ∷ spell_block p b (spell_handlers p h (token.Keyword keyword.EndTry ∷ r))
  spell_statement p (try_finally b c) r = token.Keyword keyword.Try ∷ spell_block p b (token.Keyword keyword.Finally ∷ spell_block p c (token.Keyword keyword.EndTry ∷ r))

  pub spell_arms : Parentheses → Arms → List Token → List Token
  spell_arms p no_else r = r
  spell_arms p (otherwise b) r = token.Keyword keyword.Else ∷ spell_block p b r
  spell_arms p (elseif a b c) r = token.Keyword keyword.ElseIf ∷ token.Sign sign.LeftParen ∷ spell p a (token.Sign sign.RightParen ∷ spell_block p b (spell_arms p c r))

  pub spell_handlers : Parentheses → Handlers → List Token → List Token
  spell_handlers p no_handler r = r
  spell_handlers p (handler n c b h) r = token.Keyword keyword.Except ∷ spell_label n (token.Sign sign.LeftParen ∷ spell_codes p c (token.Sign sign.RightParen ∷ spell_block p b (spell_handlers p h r)))

  pub spell_block : Parentheses → Block → List Token → List Token
  spell_block p no_statement r = r
  spell_block p (then s ss) r = spell_statement p s (spell_block p ss r)

-- a literal in range: an integer has 32 bits
abbrev pub IsSoundLiteral : Literal → Type 0
IsSoundLiteral (Integer n) = FitsSigned w32 n
IsSoundLiteral (Object n) = FitsSigned w32 n
IsSoundLiteral (Error e) = Unit {0}
IsSoundLiteral (Str s) = Unit {0}

-- numbers of 32 bits, and names of variables and functions
abbrev mutual
  pub IsSound : Expr → Type 0
  IsSound (literal l) = IsSoundLiteral l
  IsSound (variable s) = is_name s ≡ true
  IsSound length_mark = Unit {0}
  IsSound (unary o a) = IsSound a
  IsSound (binary o a b) = IsSound a × IsSound b
  IsSound (logic o a b) = IsSound a × IsSound b
  IsSound (conditional a b c) = IsSound a × IsSound b × IsSound c
  IsSound (index a b) = IsSound a × IsSound b
  IsSound (range a b c) = IsSound a × IsSound b × IsSound c
  IsSound (list xs) = AreSound xs
  IsSound (property a b) = IsSound a × IsSound b
  IsSound (verb_call a b xs) = IsSound a × IsSound b × AreSound xs
  IsSound (call s xs) = (is_name s ≡ true) × AreSound xs
  IsSound (assign a b) = IsSound a × IsSound b
  IsSound (catch a c) = IsSound a × AreSoundCodes c
  IsSound (catch_or a c b) = IsSound a × AreSoundCodes c × IsSound b

  pub AreSound : Items → Type 0
  AreSound no_items = Unit {0}
  AreSound (element a xs) = IsSound a × AreSound xs
  AreSound (splice a xs) = IsSound a × AreSound xs
  AreSound (optional s xs) = (is_name s ≡ true) × AreSound xs
  AreSound (defaulted s a xs) = (is_name s ≡ true) × IsSound a × AreSound xs

  pub AreSoundCodes : Codes → Type 0
  AreSoundCodes any_error = Unit {0}
  AreSoundCodes (listed_errors xs) = AreSound xs

-- a token within the ranges of values and names
abbrev pub IsSoundToken : Token → Type 0
IsSoundToken (token.Integer n) = FitsSigned w32 n
IsSoundToken (token.Object n) = FitsSigned w32 n
IsSoundToken (token.Name s) = is_name s ≡ true
IsSoundToken _ = Unit {0}

abbrev pub IsSoundLabel : Option (List ℕ) → Type 0
IsSoundLabel None = Unit {0}
IsSoundLabel (Some s) = is_name s ≡ true

abbrev mutual
  pub IsSoundStatement : Stmt → Type 0
  IsSoundStatement return_nothing = Unit {0}
  IsSoundStatement (returns a) = IsSound a
  IsSoundStatement (performs a) = IsSound a
  IsSoundStatement (branches a b c) = IsSound a × IsSoundBlock b × AreSoundArms c
  IsSoundStatement (for_list s a b) = (is_name s ≡ true) × IsSound a × IsSoundBlock b
  IsSoundStatement (for_range s a b c) = (is_name s ≡ true) × IsSound a × IsSound b × IsSoundBlock c
  IsSoundStatement (while_loop n a b) = IsSoundLabel n × IsSound a × IsSoundBlock b
  IsSoundStatement (breaks n) = IsSoundLabel n
  IsSoundStatement (continues n) = IsSoundLabel n
  IsSoundStatement (try_except b h) = IsSoundBlock b × AreSoundHandlers h
  IsSoundStatement (try_finally b c) = IsSoundBlock b × IsSoundBlock c

  pub AreSoundArms : Arms → Type 0
  AreSoundArms no_else = Unit {0}
  AreSoundArms (otherwise b) = IsSoundBlock b
  AreSoundArms (elseif a b c) = IsSound a × IsSoundBlock b × AreSoundArms c

  pub AreSoundHandlers : Handlers → Type 0
  AreSoundHandlers no_handler = Unit {0}
  AreSoundHandlers (handler n c b h) = IsSoundLabel n × AreSoundCodes c × IsSoundBlock b × AreSoundHandlers h

  pub IsSoundBlock : Block → Type 0
  IsSoundBlock no_statement = Unit {0}
  IsSoundBlock (then s ss) = IsSoundStatement s × IsSoundBlock ss
