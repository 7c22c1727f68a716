-- The grammar. Derives g k ts t r: under the rules g the tokens ts begin with a phrase of kind k, whose tree is t; r
-- are the tokens after it.
use Rattle.std.specs.Prelude.{ℕ, List, [], ◌∷◌, ◌≡◌, Bool, true, false, Option, Some, None, pos}
use Rattle.std.specs.Int.{int_wrapping_neg, w32}
use Rattle.moo_syntax_token.specs.declared.sign.Sign.TheVariants.{LeftParen, RightParen, LeftBrace, RightBrace, LeftBracket, RightBracket, Comma, Dot, DotDot, Colon, Semicolon, Question, Pipe, Assign, Arrow, Backquote, Quote, Bang, Dollar, At, Minus, Caret}
use Rattle.moo_syntax_token.specs.declared.keyword.Keyword.TheVariants.{If, Else, ElseIf, EndIf, For, In, EndFor, While, EndWhile, Return, Try, EndTry, Except, Finally, Any, Break, Continue}
use Rattle.moo_syntax_token.specs.declared.token.Token.{Token}
use Rattle.moo_syntax_token.specs.declared.token.Token.TheVariants.{Name, Keyword, Sign}
use Rattle.moo_syntax_ast.specs.declared.operator.UnaryOperator.TheVariants.{Not, Negate}
use Rattle.moo_syntax_ast.specs.declared.operator.BinaryOperator.TheVariants.{Power}
use Rattle.moo_syntax_ast.specs.declared.tree.Literal.{Literal}
use Rattle.moo_syntax_ast.specs.declared.tree.Literal.TheVariants.{Integer, Object, Str}
use Rattle.moo_syntax_ast.specs.Tree.{Expr, Items, Codes, Stmt, Block, literal, variable, length_mark, binary, logic, index, range, list, property, verb_call, call, assign, catch, catch_or, no_items, element, splice, optional, defaulted, any_error, listed_errors, return_nothing, returns, performs, branches, for_list, for_range, while_loop, breaks, continues, try_except, try_finally, Arms, no_else, otherwise, elseif, Handlers, no_handler, handler, no_statement, then}
use Rattle.moo_syntax_ast.specs.Tree as tree
use Rattle.moo_syntax_grammar.specs.declared.level.Level.{Level}
use Rattle.moo_syntax_grammar.specs.declared.level.Level.TheVariants.{Logic, Relation, Sum, Product}
use Rattle.moo_syntax_grammar.specs.declared.level.Operator.{Operator}
use Rattle.moo_syntax_grammar.specs.declared.level.Operator.TheVariants as operator
use Rattle.moo_syntax_grammar.specs.declared.names.Names.{Names}
use Rattle.moo_syntax_grammar.specs.Rules.{Rules, strict, may_assign, may_jump}
use Rattle.moo_syntax_grammar.specs.Tokens.{operator_at, literal_at}

-- the kinds of trees that phrases have
pub data Sort : Type 0 where
  expr : Sort
  items : Sort
  errors : Sort
  stmt : Sort
  block : Sort
  arm_list : Sort
  handler_list : Sort
  -- a name, or none
  label_name : Sort

abbrev pub Of : Sort → Type 0
Of expr = Expr
Of items = Items
Of errors = Codes
Of stmt = Stmt
Of block = Block
Of arm_list = Arms
Of handler_list = Handlers
Of label_name = Option (List ℕ)

-- The levels of the grammar. The flag is true for a phrase inside an index, where `$` is allowed.
pub data Kind : Type 0 where
  expression : Bool → Kind
  conditional : Bool → Kind
  chain : Bool → Level → Kind
  -- the rest of a chain after its first operands
  more : Bool → Level → Expr → Kind
  operand : Bool → Level → Kind
  power : Bool → Kind
  unary : Bool → Kind
  postfix : Bool → Kind
  -- the suffixes of a base
  suffixes : Bool → Expr → Kind
  primary : Bool → Kind
  -- the second flag of these is true if `?` pieces are allowed among them
  arguments : Bool → Bool → Kind
  members : Bool → Bool → Kind
  codes : Bool → Kind
  -- The names of the loops around a statement, the innermost first.
  statement : List (Option (List ℕ)) → Kind
  statements : List (Option (List ℕ)) → Kind
  -- the further arms of an `if`
  arms : List (Option (List ℕ)) → Kind
  handlers : List (Option (List ℕ)) → Kind
  label : Kind
  -- an expression in parentheses
  in_parens : Kind

abbrev pub sort : Kind → Sort
sort (expression i) = expr
sort (conditional i) = expr
sort (chain i l) = expr
sort (more i l a) = expr
sort (operand i l) = expr
sort (power i) = expr
sort (unary i) = expr
sort (postfix i) = expr
sort (suffixes i a) = expr
sort (primary i) = expr
sort (arguments i o) = items
sort (members i o) = items
sort (codes i) = errors
sort (statement ls) = stmt
sort (statements ls) = block
sort (arms ls) = arm_list
sort (handlers ls) = handler_list
sort label = label_name
sort in_parens = expr

-- a minus before an integer literal is part of the literal
abbrev pub negated : Expr → Expr
negated (literal (Integer n)) = literal (Integer (int_wrapping_neg w32 n))
negated e = tree.unary Negate e

abbrev pub joined : Operator → Expr → Expr → Expr
joined (operator.Binary o) a b = binary o a b
joined (operator.Logic o) a b = logic o a b

-- the string literal of a name
abbrev pub text : List ℕ → Expr
text s = literal (Str s)

-- the object that `$` before a name is
abbrev pub system_object : Expr
system_object = literal (Object (pos 0))

abbrev pub has_optional : Items → Bool
has_optional no_items = false
has_optional (element a xs) = has_optional xs
has_optional (splice a xs) = has_optional xs
has_optional (optional s xs) = true
has_optional (defaulted s a xs) = true

pub data Derives (g : Rules) : (k : Kind) → List Token → Of (sort k) → List Token → Type 0 where
  -- expression: conditional | conditional = expression
  plain : {i : Bool} {ts r : List Token} {a : Expr} → Derives g (conditional i) ts a r → Derives g (expression i) ts a r
  assigns : {i : Bool} {ts m r : List Token} {a b : Expr} → may_assign g a ≡ true → Derives g (conditional i) ts a (Sign Assign ∷ m) → Derives g (expression i) m b r → Derives g (expression i) ts (assign a b) r
  -- conditional: chain [? expression | conditional]
  unconditional : {i : Bool} {ts r : List Token} {a : Expr} → Derives g (chain i Logic) ts a r → Derives g (conditional i) ts a r
  chooses : {i : Bool} {ts m n r : List Token} {a b c : Expr} → Derives g (chain i Logic) ts a (Sign Question ∷ m) → Derives g (expression i) m b (Sign Pipe ∷ n) → Derives g (conditional i) n c r → Derives g (conditional i) ts (tree.conditional a b c) r
  -- chain: operand {operator operand}, grouped from the left
  chained : {i : Bool} {l : Level} {ts m r : List Token} {a e : Expr} → Derives g (operand i l) ts a m → Derives g (more i l a) m e r → Derives g (chain i l) ts e r
  no_more : {i : Bool} {l : Level} {r : List Token} {a : Expr} → Derives g (more i l a) r a r
  one_more : {i : Bool} {l : Level} {x : Token} {o : Operator} {ts m r : List Token} {a b e : Expr} → operator_at l x ≡ Some o → Derives g (operand i l) ts b m → Derives g (more i l (joined o a b)) m e r → Derives g (more i l a) (x ∷ ts) e r
  -- the operands of each chain
  relations : {i : Bool} {ts r : List Token} {a : Expr} → Derives g (chain i Relation) ts a r → Derives g (operand i Logic) ts a r
  sums : {i : Bool} {ts r : List Token} {a : Expr} → Derives g (chain i Sum) ts a r → Derives g (operand i Relation) ts a r
  products : {i : Bool} {ts r : List Token} {a : Expr} → Derives g (chain i Product) ts a r → Derives g (operand i Sum) ts a r
  powers : {i : Bool} {ts r : List Token} {a : Expr} → Derives g (power i) ts a r → Derives g (operand i Product) ts a r
  -- power: unary [^ power]
  unraised : {i : Bool} {ts r : List Token} {a : Expr} → Derives g (unary i) ts a r → Derives g (power i) ts a r
  raised : {i : Bool} {ts m r : List Token} {a b : Expr} → Derives g (unary i) ts a (Sign Caret ∷ m) → Derives g (power i) m b r → Derives g (power i) ts (binary Power a b) r
  -- unary: ! unary | - unary | postfix
  inverts : {i : Bool} {ts r : List Token} {a : Expr} → Derives g (unary i) ts a r → Derives g (unary i) (Sign Bang ∷ ts) (tree.unary Not a) r
  negates : {i : Bool} {ts r : List Token} {a : Expr} → Derives g (unary i) ts a r → Derives g (unary i) (Sign Minus ∷ ts) (negated a) r
  unsigned : {i : Bool} {ts r : List Token} {a : Expr} → Derives g (postfix i) ts a r → Derives g (unary i) ts a r
  -- postfix: primary {.NAME | .(expression) | :NAME(arguments) | :(expression)(arguments) | [expression] | [expression .. expression]}
  based : {i : Bool} {ts m r : List Token} {a e : Expr} → Derives g (primary i) ts a m → Derives g (suffixes i a) m e r → Derives g (postfix i) ts e r
  no_suffix : {i : Bool} {r : List Token} {a : Expr} → Derives g (suffixes i a) r a r
  property_named : {i : Bool} {s : List ℕ} {ts r : List Token} {a e : Expr} → Derives g (suffixes i (property a (text s))) ts e r → Derives g (suffixes i a) (Sign Dot ∷ Name s ∷ ts) e r
  property_computed : {i : Bool} {ts m r : List Token} {a b e : Expr} → Derives g (expression i) ts b (Sign RightParen ∷ m) → Derives g (suffixes i (property a b)) m e r → Derives g (suffixes i a) (Sign Dot ∷ Sign LeftParen ∷ ts) e r
  verb_named : {i : Bool} {s : List ℕ} {ts m r : List Token} {xs : Items} {a e : Expr} → Derives g (arguments i false) ts xs (Sign RightParen ∷ m) → Derives g (suffixes i (verb_call a (text s) xs)) m e r → Derives g (suffixes i a) (Sign Colon ∷ Name s ∷ Sign LeftParen ∷ ts) e r
  verb_computed : {i : Bool} {ts m n r : List Token} {xs : Items} {a b e : Expr} → Derives g (expression i) ts b (Sign RightParen ∷ Sign LeftParen ∷ m) → Derives g (arguments i false) m xs (Sign RightParen ∷ n) → Derives g (suffixes i (verb_call a b xs)) n e r → Derives g (suffixes i a) (Sign Colon ∷ Sign LeftParen ∷ ts) e r
  indexed : {i : Bool} {ts m r : List Token} {a b e : Expr} → Derives g (expression true) ts b (Sign RightBracket ∷ m) → Derives g (suffixes i (index a b)) m e r → Derives g (suffixes i a) (Sign LeftBracket ∷ ts) e r
  ranged : {i : Bool} {ts m n r : List Token} {a b c e : Expr} → Derives g (expression true) ts b (Sign DotDot ∷ m) → Derives g (expression true) m c (Sign RightBracket ∷ n) → Derives g (suffixes i (range a b c)) n e r → Derives g (suffixes i a) (Sign LeftBracket ∷ ts) e r
  -- primary: LITERAL | NAME | NAME(arguments) | $NAME | $NAME(arguments) | $ | (expression) | {arguments} | `expression ! codes [=> expression]'
  -- In braces, `?` pieces are allowed only if `=` follows. Inside an index, `$` is allowed alone.
  constant : {i : Bool} {x : Token} {l : Literal} {r : List Token} → literal_at x ≡ Some l → Derives g (primary i) (x ∷ r) (literal l) r
  name : {i : Bool} {s : List ℕ} {r : List Token} → Derives g (primary i) (Name s ∷ r) (variable s) r
  called : {i : Bool} {s : List ℕ} {ts r : List Token} {xs : Items} → g.functions s ≡ true → Derives g (arguments i false) ts xs (Sign RightParen ∷ r) → Derives g (primary i) (Name s ∷ Sign LeftParen ∷ ts) (call s xs) r
  system_property : {i : Bool} {s : List ℕ} {r : List Token} → Derives g (primary i) (Sign Dollar ∷ Name s ∷ r) (property system_object (text s)) r
  system_verb : {i : Bool} {s : List ℕ} {ts r : List Token} {xs : Items} → Derives g (arguments i false) ts xs (Sign RightParen ∷ r) → Derives g (primary i) (Sign Dollar ∷ Name s ∷ Sign LeftParen ∷ ts) (verb_call system_object (text s) xs) r
  dollar : {r : List Token} → Derives g (primary true) (Sign Dollar ∷ r) length_mark r
  grouped : {i : Bool} {ts r : List Token} {a : Expr} → Derives g (expression i) ts a (Sign RightParen ∷ r) → Derives g (primary i) (Sign LeftParen ∷ ts) a r
  listed : {i : Bool} {ts r : List Token} {xs : Items} → has_optional xs ≡ false → Derives g (arguments i true) ts xs (Sign RightBrace ∷ r) → Derives g (primary i) (Sign LeftBrace ∷ ts) (list xs) r
  scattered : {i : Bool} {ts r : List Token} {xs : Items} → Derives g (arguments i true) ts xs (Sign RightBrace ∷ Sign Assign ∷ r) → Derives g (primary i) (Sign LeftBrace ∷ ts) (list xs) (Sign Assign ∷ r)
  catches : {i : Bool} {ts m r : List Token} {a : Expr} {c : Codes} → Derives g (expression i) ts a (Sign Bang ∷ m) → Derives g (codes i) m c (Sign Quote ∷ r) → Derives g (primary i) (Sign Backquote ∷ ts) (catch a c) r
  catches_or : {i : Bool} {ts m n r : List Token} {a b : Expr} {c : Codes} → Derives g (expression i) ts a (Sign Bang ∷ m) → Derives g (codes i) m c (Sign Arrow ∷ n) → Derives g (expression i) n b (Sign Quote ∷ r) → Derives g (primary i) (Sign Backquote ∷ ts) (catch_or a c b) r
  -- codes: ANY | members
  any_code : {i : Bool} {r : List Token} → Derives g (codes i) (Keyword Any ∷ r) any_error r
  these_codes : {i : Bool} {ts r : List Token} {xs : Items} → Derives g (members i false) ts xs r → Derives g (codes i) ts (listed_errors xs) r
  -- arguments: [members]; members: member {, member}; member: expression | @expression | ?NAME | ?NAME = expression
  no_arguments : {i o : Bool} {r : List Token} → Derives g (arguments i o) r no_items r
  some_arguments : {i o : Bool} {ts r : List Token} {xs : Items} → Derives g (members i o) ts xs r → Derives g (arguments i o) ts xs r
  one_element : {i o : Bool} {ts r : List Token} {a : Expr} → Derives g (expression i) ts a r → Derives g (members i o) ts (element a no_items) r
  an_element : {i o : Bool} {ts m r : List Token} {a : Expr} {xs : Items} → Derives g (expression i) ts a (Sign Comma ∷ m) → Derives g (members i o) m xs r → Derives g (members i o) ts (element a xs) r
  one_splice : {i o : Bool} {ts r : List Token} {a : Expr} → Derives g (expression i) ts a r → Derives g (members i o) (Sign At ∷ ts) (splice a no_items) r
  a_splice : {i o : Bool} {ts m r : List Token} {a : Expr} {xs : Items} → Derives g (expression i) ts a (Sign Comma ∷ m) → Derives g (members i o) m xs r → Derives g (members i o) (Sign At ∷ ts) (splice a xs) r
  one_optional : {i : Bool} {s : List ℕ} {r : List Token} → Derives g (members i true) (Sign Question ∷ Name s ∷ r) (optional s no_items) r
  an_optional : {i : Bool} {s : List ℕ} {m r : List Token} {xs : Items} → Derives g (members i true) m xs r → Derives g (members i true) (Sign Question ∷ Name s ∷ Sign Comma ∷ m) (optional s xs) r
  one_default : {i : Bool} {s : List ℕ} {ts r : List Token} {a : Expr} → Derives g (expression i) ts a r → Derives g (members i true) (Sign Question ∷ Name s ∷ Sign Assign ∷ ts) (defaulted s a no_items) r
  a_default : {i : Bool} {s : List ℕ} {ts m r : List Token} {a : Expr} {xs : Items} → Derives g (expression i) ts a (Sign Comma ∷ m) → Derives g (members i true) m xs r → Derives g (members i true) (Sign Question ∷ Name s ∷ Sign Assign ∷ ts) (defaulted s a xs) r
  -- statement: if in_parens statements arms endif
  branch : {ls : List (Option (List ℕ))} {ts m n r : List Token} {a : Expr} {b : Block} {c : Arms} → Derives g in_parens ts a m → Derives g (statements ls) m b n → Derives g (arms ls) n c (Keyword EndIf ∷ r) → Derives g (statement ls) (Keyword If ∷ ts) (branches a b c) r
  -- | for NAME in in_parens statements endfor | for NAME in [expression .. expression] statements endfor
  for_elements : {ls : List (Option (List ℕ))} {x : List ℕ} {ts m r : List Token} {a : Expr} {b : Block} → Derives g in_parens ts a m → Derives g (statements (Some x ∷ ls)) m b (Keyword EndFor ∷ r) → Derives g (statement ls) (Keyword For ∷ Name x ∷ Keyword In ∷ ts) (for_list x a b) r
  for_numbers : {ls : List (Option (List ℕ))} {x : List ℕ} {ts m n r : List Token} {a b : Expr} {c : Block} → Derives g (expression false) ts a (Sign DotDot ∷ m) → Derives g (expression false) m b (Sign RightBracket ∷ n) → Derives g (statements (Some x ∷ ls)) n c (Keyword EndFor ∷ r) → Derives g (statement ls) (Keyword For ∷ Name x ∷ Keyword In ∷ Sign LeftBracket ∷ ts) (for_range x a b c) r
  -- | while label in_parens statements endwhile
  while_true : {ls : List (Option (List ℕ))} {l : Option (List ℕ)} {ts m n r : List Token} {a : Expr} {b : Block} → Derives g label ts l m → Derives g in_parens m a n → Derives g (statements (l ∷ ls)) n b (Keyword EndWhile ∷ r) → Derives g (statement ls) (Keyword While ∷ ts) (while_loop l a b) r
  -- | break ; | break NAME ; | continue ; | continue NAME ;
  breaks_loop : {ls : List (Option (List ℕ))} {r : List Token} → may_jump g ls None ≡ true → Derives g (statement ls) (Keyword Break ∷ Sign Semicolon ∷ r) (breaks None) r
  breaks_named : {ls : List (Option (List ℕ))} {x : List ℕ} {r : List Token} → may_jump g ls (Some x) ≡ true → Derives g (statement ls) (Keyword Break ∷ Name x ∷ Sign Semicolon ∷ r) (breaks (Some x)) r
  continues_loop : {ls : List (Option (List ℕ))} {r : List Token} → may_jump g ls None ≡ true → Derives g (statement ls) (Keyword Continue ∷ Sign Semicolon ∷ r) (continues None) r
  continues_named : {ls : List (Option (List ℕ))} {x : List ℕ} {r : List Token} → may_jump g ls (Some x) ≡ true → Derives g (statement ls) (Keyword Continue ∷ Name x ∷ Sign Semicolon ∷ r) (continues (Some x)) r
  -- | return ; | return expression ;
  returns_nothing : {ls : List (Option (List ℕ))} {r : List Token} → Derives g (statement ls) (Keyword Return ∷ Sign Semicolon ∷ r) return_nothing r
  returns_value : {ls : List (Option (List ℕ))} {ts r : List Token} {a : Expr} → Derives g (expression false) ts a (Sign Semicolon ∷ r) → Derives g (statement ls) (Keyword Return ∷ ts) (returns a) r
  -- | try statements handlers endtry | try statements finally statements endtry
  tries : {ls : List (Option (List ℕ))} {ts m r : List Token} {b : Block} {h : Handlers} → Derives g (statements ls) ts b m → Derives g (handlers ls) m h (Keyword EndTry ∷ r) → Derives g (statement ls) (Keyword Try ∷ ts) (try_except b h) r
  cleans_up : {ls : List (Option (List ℕ))} {ts m r : List Token} {b c : Block} → Derives g (statements ls) ts b (Keyword Finally ∷ m) → Derives g (statements ls) m c (Keyword EndTry ∷ r) → Derives g (statement ls) (Keyword Try ∷ ts) (try_finally b c) r
  -- | expression ;
  performed : {ls : List (Option (List ℕ))} {ts r : List Token} {a : Expr} → Derives g (expression false) ts a (Sign Semicolon ∷ r) → Derives g (statement ls) ts (performs a) r
  -- arms: {elseif in_parens statements} [else statements]
  no_arms : {ls : List (Option (List ℕ))} {r : List Token} → Derives g (arms ls) r no_else r
  last_arm : {ls : List (Option (List ℕ))} {ts r : List Token} {b : Block} → Derives g (statements ls) ts b r → Derives g (arms ls) (Keyword Else ∷ ts) (otherwise b) r
  an_arm : {ls : List (Option (List ℕ))} {ts m n r : List Token} {a : Expr} {b : Block} {c : Arms} → Derives g in_parens ts a m → Derives g (statements ls) m b n → Derives g (arms ls) n c r → Derives g (arms ls) (Keyword ElseIf ∷ ts) (elseif a b c) r
  -- handlers: handler {handler}; handler: except label (codes) statements
  one_handler : {ls : List (Option (List ℕ))} {l : Option (List ℕ)} {ts m n r : List Token} {c : Codes} {b : Block} → Derives g label ts l (Sign LeftParen ∷ m) → Derives g (codes false) m c (Sign RightParen ∷ n) → Derives g (statements ls) n b r → Derives g (handlers ls) (Keyword Except ∷ ts) (handler l c b no_handler) r
  a_handler : {ls : List (Option (List ℕ))} {l : Option (List ℕ)} {ts m n o r : List Token} {c : Codes} {b : Block} {h : Handlers} → Derives g label ts l (Sign LeftParen ∷ m) → Derives g (codes false) m c (Sign RightParen ∷ n) → Derives g (statements ls) n b o → Derives g (handlers ls) o h r → Derives g (handlers ls) (Keyword Except ∷ ts) (handler l c b h) r
  -- in_parens: (expression)
  parenthesized : {ts r : List Token} {a : Expr} → Derives g (expression false) ts a (Sign RightParen ∷ r) → Derives g in_parens (Sign LeftParen ∷ ts) a r
  -- label: [NAME]
  unlabelled : {r : List Token} → Derives g label r None r
  labelled : {x : List ℕ} {r : List Token} → Derives g label (Name x ∷ r) (Some x) r
  -- statements: {statement | ;}
  no_statements : {ls : List (Option (List ℕ))} {r : List Token} → Derives g (statements ls) r no_statement r
  one_statement : {ls : List (Option (List ℕ))} {ts m r : List Token} {s : Stmt} {ss : Block} → Derives g (statement ls) ts s m → Derives g (statements ls) m ss r → Derives g (statements ls) ts (then s ss) r
  an_end : {ls : List (Option (List ℕ))} {ts r : List Token} {ss : Block} → Derives g (statements ls) ts ss r → Derives g (statements ls) (Sign Semicolon ∷ ts) ss r

-- the tokens, all of them, are the program by these rules
abbrev pub IsProgramBy : Rules → List Token → Block → Type 0
IsProgramBy g ts b = Derives g (statements []) ts b []

-- the tokens, all of them, are the program
abbrev pub IsProgram : Names → List Token → Block → Type 0
IsProgram names ts b = IsProgramBy (strict names) ts b
