-- The full listing of a program: its lines, with all the parentheses.
use Rattle.std.specs.Prelude.{ℕ, List, [], ◌∷◌, ◌++◌, Bool, true, false, Option, Some, None, zero, pos, codes}
use Rattle.moo_value.specs.Text.{literal as text_of}
use Rattle.moo_syntax_token.specs.Spelling.{is_name}
use Rattle.moo_syntax_ast.specs.declared.operator.UnaryOperator.{UnaryOperator}
use Rattle.moo_syntax_ast.specs.declared.operator.UnaryOperator.TheVariants.{Not, Negate}
use Rattle.moo_syntax_ast.specs.declared.operator.BinaryOperator.{BinaryOperator}
use Rattle.moo_syntax_ast.specs.declared.operator.BinaryOperator.TheVariants.{Add, Subtract, Multiply, Divide, Remainder, Power, Equal, NotEqual, Less, LessOrEqual, Greater, GreaterOrEqual, In}
use Rattle.moo_syntax_ast.specs.declared.operator.LogicOperator.{LogicOperator}
use Rattle.moo_syntax_ast.specs.declared.operator.LogicOperator.TheVariants.{And, Or}
use Rattle.moo_syntax_ast.specs.declared.tree.Literal.TheVariants.{Integer, Object, Str}
use Rattle.moo_syntax_ast.specs.Tree.{Expr, literal, variable, length_mark, unary, binary, logic, conditional, index, range, list, property, verb_call, call, assign, catch, catch_or, Items, no_items, element, splice, optional, defaulted, Codes, any_error, listed_errors, Stmt, return_nothing, returns, performs, branches, for_list, for_range, while_loop, breaks, continues, try_except, try_finally, Arms, no_else, otherwise, elseif, Handlers, no_handler, handler, Block, no_statement, then, literal_value}

abbrev pub unary_sign : UnaryOperator → List ℕ
unary_sign Not = codes "!"
unary_sign Negate = codes "-"

abbrev pub binary_sign : BinaryOperator → List ℕ
binary_sign Add = codes "+"
binary_sign Subtract = codes "-"
binary_sign Multiply = codes "*"
binary_sign Divide = codes "/"
binary_sign Remainder = codes "%"
binary_sign Power = codes "^"
binary_sign Equal = codes "=="
binary_sign NotEqual = codes "!="
binary_sign Less = codes "<"
binary_sign LessOrEqual = codes "<="
binary_sign Greater = codes ">"
binary_sign GreaterOrEqual = codes ">="
binary_sign In = codes "in"

abbrev pub logic_sign : LogicOperator → List ℕ
logic_sign And = codes "&&"
logic_sign Or = codes "||"

-- an operator, a conditional or an assignment, which is in parentheses as an operand
abbrev pub is_compound : Expr → Bool
is_compound (unary o a) = true
is_compound (binary o a b) = true
is_compound (logic o a b) = true
is_compound (conditional a b c) = true
is_compound (assign a b) = true
is_compound _ = false

-- a compound expression or an integer literal, which is in parentheses before `.`, `:` and `[`
abbrev pub is_compound_base : Expr → Bool
is_compound_base (literal (Integer n)) = true
is_compound_base e = is_compound e

-- a text in parentheses, or without
abbrev pub in_parentheses : Bool → List ℕ → List ℕ
in_parentheses true text = codes "(" ++ text ++ codes ")"
in_parentheses false text = text

abbrev pub some_if : Bool → List ℕ → Option (List ℕ)
some_if true s = Some s
some_if false s = None

-- the name that the expression is: a string literal that is a name and no keyword
abbrev pub constant_name : Expr → Option (List ℕ)
constant_name (literal (Str s)) = some_if (is_name s) s
constant_name e = None

-- `#0`
abbrev pub is_system_object : Expr → Bool
is_system_object (literal (Object (pos zero))) = true
is_system_object e = false

-- A property or a verb of a base: after the sign its name, or an expression in parentheses; `$` and the name for one of
-- `#0`.
abbrev pub selected : (sign : List ℕ) → Option (List ℕ) → Bool → (base name : List ℕ) → List ℕ
selected sign (Some s) true base name = codes "$" ++ s
selected sign (Some s) false base name = base ++ sign ++ s
selected sign None system base name = base ++ sign ++ codes "(" ++ name ++ codes ")"

-- the text after an item: a comma, a blank and the items that follow, if any do
abbrev pub further : Items → List ℕ → List ℕ
further no_items text = text
further (element a xs) text = codes ", " ++ text
further (splice a xs) text = codes ", " ++ text
further (optional s xs) text = codes ", " ++ text
further (defaulted s a xs) text = codes ", " ++ text

abbrev mutual
  pub listed : Expr → List ℕ
  listed (literal l) = text_of (literal_value l)
  listed (variable s) = s
  listed length_mark = codes "$"
  listed (unary o a) = unary_sign o ++ in_parentheses (is_compound a) (listed a)
  listed (binary o a b) = in_parentheses (is_compound a) (listed a) ++ codes " " ++ binary_sign o ++ codes " " ++ in_parentheses (is_compound b) (listed b)
  listed (logic o a b) = in_parentheses (is_compound a) (listed a) ++ codes " " ++ logic_sign o ++ codes " " ++ in_parentheses (is_compound b) (listed b)
  listed (conditional a b c) = in_parentheses (is_compound a) (listed a) ++ codes " ? " ++ in_parentheses (is_compound b) (listed b) ++ codes " | " ++ in_parentheses (is_compound c) (listed c)
  listed (index a b) = in_parentheses (is_compound_base a) (listed a) ++ codes "[" ++ listed b ++ codes "]"
  listed (range a b c) = in_parentheses (is_compound_base a) (listed a) ++ codes "[" ++ listed b ++ codes ".." ++ listed c ++ codes "]"
  listed (list xs) = codes "{" ++ listed_items xs ++ codes "}"
  listed (property a b) = selected (codes ".") (constant_name b) (is_system_object a) (in_parentheses (is_compound_base a) (listed a)) (listed b)
  listed (verb_call a b xs) = selected (codes ":") (constant_name b) (is_system_object a) (in_parentheses (is_compound_base a) (listed a)) (listed b) ++ codes "(" ++ listed_items xs ++ codes ")"
  listed (call s xs) = s ++ codes "(" ++ listed_items xs ++ codes ")"
  listed (assign a b) = in_parentheses (is_compound a) (listed a) ++ codes " = " ++ listed b
  listed (catch a c) = codes "`" ++ listed a ++ codes " ! " ++ listed_codes c ++ codes "'"
  listed (catch_or a c b) = codes "`" ++ listed a ++ codes " ! " ++ listed_codes c ++ codes " => " ++ listed b ++ codes "'"

  pub listed_items : Items → List ℕ
  listed_items no_items = []
  listed_items (element a xs) = listed a ++ further xs (listed_items xs)
  listed_items (splice a xs) = codes "@" ++ listed a ++ further xs (listed_items xs)
  listed_items (optional s xs) = codes "?" ++ s ++ further xs (listed_items xs)
  listed_items (defaulted s a xs) = codes "?" ++ s ++ codes " = " ++ listed a ++ further xs (listed_items xs)

  pub listed_codes : Codes → List ℕ
  listed_codes any_error = codes "ANY"
  listed_codes (listed_errors xs) = listed_items xs

-- a blank and a name, if there is one
abbrev pub labelled : Option (List ℕ) → List ℕ
labelled None = []
labelled (Some s) = codes " " ++ s

-- the first line of a statement
abbrev pub head : Stmt → List ℕ
head return_nothing = codes "return;"
head (returns a) = codes "return " ++ listed a ++ codes ";"
head (performs a) = listed a ++ codes ";"
head (branches a b c) = codes "if (" ++ listed a ++ codes ")"
head (for_list s a b) = codes "for " ++ s ++ codes " in (" ++ listed a ++ codes ")"
head (for_range s a b c) = codes "for " ++ s ++ codes " in [" ++ listed a ++ codes ".." ++ listed b ++ codes "]"
head (while_loop n a b) = codes "while" ++ labelled n ++ codes " (" ++ listed a ++ codes ")"
head (breaks n) = codes "break" ++ labelled n ++ codes ";"
head (continues n) = codes "continue" ++ labelled n ++ codes ";"
head (try_except b h) = codes "try"
head (try_finally b c) = codes "try"

abbrev pub elseif_head : Expr → List ℕ
elseif_head a = codes "elseif (" ++ listed a ++ codes ")"

abbrev pub except_head : Option (List ℕ) → Codes → List ℕ
except_head n c = codes "except" ++ labelled n ++ codes " (" ++ listed_codes c ++ codes ")"

abbrev mutual
  -- the lines of a statement after the first
  pub below : Stmt → List (List ℕ)
  below (branches a b c) = listing b ++ listed_arms c
  below (for_list s a b) = listing b ++ codes "endfor" ∷ []
  below (for_range s a b c) = listing c ++ codes "endfor" ∷ []
  below (while_loop n a b) = listing b ++ codes "endwhile" ∷ []
  below (try_except b h) = listing b ++ listed_handlers h
  below (try_finally b c) = listing b ++ codes "finally" ∷ listing c ++ codes "endtry" ∷ []
  below s = []

  -- the lines after the first statements of an `if`
  pub listed_arms : Arms → List (List ℕ)
  listed_arms no_else = codes "endif" ∷ []
  listed_arms (otherwise b) = codes "else" ∷ listing b ++ codes "endif" ∷ []
  listed_arms (elseif a b c) = elseif_head a ∷ listing b ++ listed_arms c

  -- the lines after the statements of a `try`
  pub listed_handlers : Handlers → List (List ℕ)
  listed_handlers no_handler = codes "endtry" ∷ []
  listed_handlers (handler n c b h) = except_head n c ∷ listing b ++ listed_handlers h

  -- the lines of a program, one statement's head or end on each
  pub listing : Block → List (List ℕ)
  listing no_statement = []
  listing (then s ss) = head s ∷ below s ++ listing ss

abbrev pub listed_statement : Stmt → List (List ℕ)
listed_statement s = head s ∷ below s
