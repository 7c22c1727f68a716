-- The listings of a program: with all parentheses or those that are needed, and with or without indents.
use Rattle.std.specs.Prelude.{ℕ, List, [], ◌∷◌, ◌++◌, Bool, true, false, Option, codes}
use Rattle.moo_value.specs.Text.{literal as text_of}
use Rattle.moo_syntax_ast.specs.Tree.{Expr, literal, variable, length_mark, unary, binary, logic, conditional, index, range, list, property, verb_call, call, assign, catch, catch_or, Items, no_items, element, splice, optional, defaulted, Codes, any_error, listed_errors, Stmt, return_nothing, returns, performs, branches, for_list, for_range, while_loop, breaks, continues, try_except, try_finally, Arms, no_else, otherwise, elseif, Handlers, no_handler, handler, Block, no_statement, then, literal_value}
use Rattle.moo_syntax_ast.specs.Listing.{unary_sign, binary_sign, logic_sign, is_compound, is_compound_base, in_parentheses, constant_name, is_system_object, selected, further, labelled}
use Rattle.moo_unparse.specs.declared.form.Parentheses.{Parentheses}
use Rattle.moo_unparse.specs.declared.form.Parentheses.TheVariants.{All, Needed}
use Rattle.moo_unparse.specs.declared.form.Form.{Form}
use Rattle.moo_unparse.specs.declared.form.Part.TheVariants.{Assignment, Conditional, Logic, Sign}
use Rattle.moo_unparse.specs.Parts.{operator_part, left_of, right_of, needs}

-- the text of expressions; the parameter selects the operands that are in parentheses
abbrev mutual
  pub listed : Parentheses → Expr → List ℕ
  listed p (literal l) = text_of (literal_value l)
  listed p (variable s) = s
  listed p length_mark = codes "$"
  listed p (unary o a) = unary_sign o ++ in_parentheses (needs p Sign a) (listed p a)
  listed p (binary o a b) = in_parentheses (needs p (left_of (operator_part o)) a) (listed p a) ++ codes " " ++ binary_sign o ++ codes " " ++ in_parentheses (needs p (right_of (operator_part o)) b) (listed p b)
  listed p (logic o a b) = in_parentheses (needs p (left_of Logic) a) (listed p a) ++ codes " " ++ logic_sign o ++ codes " " ++ in_parentheses (needs p (right_of Logic) b) (listed p b)
  listed p (conditional a b c) = in_parentheses (needs p Logic a) (listed p a) ++ codes " ? " ++ in_parentheses (needs p Assignment b) (listed p b) ++ codes " | " ++ in_parentheses (needs p Conditional c) (listed p c)
  listed p (index a b) = in_parentheses (is_compound_base a) (listed p a) ++ codes "[" ++ listed p b ++ codes "]"
  listed p (range a b c) = in_parentheses (is_compound_base a) (listed p a) ++ codes "[" ++ listed p b ++ codes ".." ++ listed p c ++ codes "]"
  listed p (list xs) = codes "{" ++ listed_items p xs ++ codes "}"
  listed p (property a b) = selected (codes ".") (constant_name b) (is_system_object a) (in_parentheses (is_compound_base a) (listed p a)) (listed p b)
  listed p (verb_call a b xs) = selected (codes ":") (constant_name b) (is_system_object a) (in_parentheses (is_compound_base a) (listed p a)) (listed p b) ++ codes "(" ++ listed_items p xs ++ codes ")"
  listed p (call s xs) = s ++ codes "(" ++ listed_items p xs ++ codes ")"
  listed p (assign a b) = in_parentheses (is_compound a) (listed p a) ++ codes " = " ++ listed p b
  listed p (catch a c) = codes "`" ++ listed p a ++ codes " ! " ++ listed_codes p c ++ codes "'"
  listed p (catch_or a c b) = codes "`" ++ listed p a ++ codes " ! " ++ listed_codes p c ++ codes " => " ++ listed p b ++ codes "'"

  pub listed_items : Parentheses → Items → List ℕ
  listed_items p no_items = []
  listed_items p (element a xs) = listed p a ++ further xs (listed_items p xs)
  listed_items p (splice a xs) = codes "@" ++ listed p a ++ further xs (listed_items p xs)
  listed_items p (optional s xs) = codes "?" ++ s ++ further xs (listed_items p xs)
  listed_items p (defaulted s a xs) = codes "?" ++ s ++ codes " = " ++ listed p a ++ further xs (listed_items p xs)

  pub listed_codes : Parentheses → Codes → List ℕ
  listed_codes p any_error = codes "ANY"
  listed_codes p (listed_errors xs) = listed_items p xs

-- the first line of a statement
abbrev pub head : Parentheses → Stmt → List ℕ
head p return_nothing = codes "return;"
head p (returns a) = codes "return " ++ listed p a ++ codes ";"
head p (performs a) = listed p a ++ codes ";"
head p (branches a b c) = codes "if (" ++ listed p a ++ codes ")"
head p (for_list s a b) = codes "for " ++ s ++ codes " in (" ++ listed p a ++ codes ")"
head p (for_range s a b c) = codes "for " ++ s ++ codes " in [" ++ listed p a ++ codes ".." ++ listed p b ++ codes "]"
head p (while_loop n a b) = codes "while" ++ labelled n ++ codes " (" ++ listed p a ++ codes ")"
head p (breaks n) = codes "break" ++ labelled n ++ codes ";"
head p (continues n) = codes "continue" ++ labelled n ++ codes ";"
head p (try_except b h) = codes "try"
head p (try_finally b c) = codes "try"

abbrev pub elseif_head : Parentheses → Expr → List ℕ
elseif_head p a = codes "elseif (" ++ listed p a ++ codes ")"

abbrev pub except_head : Parentheses → Option (List ℕ) → Codes → List ℕ
except_head p n c = codes "except" ++ labelled n ++ codes " (" ++ listed_codes p c ++ codes ")"

-- the addition to the margin for the lines within a statement
abbrev pub step : Bool → List ℕ
step true = codes "  "
step false = []

abbrev pub deeper : Form → List ℕ → List ℕ
deeper f margin = margin ++ step f.indent

-- the lines of statements, with the margin before them
abbrev mutual
  -- the lines after the first
  pub below : Form → (margin : List ℕ) → Stmt → List (List ℕ)
  below f m (branches a b c) = lines f (deeper f m) b ++ arm_lines f m c
  below f m (for_list s a b) = lines f (deeper f m) b ++ (m ++ codes "endfor") ∷ []
  below f m (for_range s a b c) = lines f (deeper f m) c ++ (m ++ codes "endfor") ∷ []
  below f m (while_loop n a b) = lines f (deeper f m) b ++ (m ++ codes "endwhile") ∷ []
  below f m (try_except b h) = lines f (deeper f m) b ++ handlers_lines f m h
  below f m (try_finally b c) = lines f (deeper f m) b ++ (m ++ codes "finally") ∷ lines f (deeper f m) c ++ (m ++ codes "endtry") ∷ []
  below f m s = []

  -- the lines after the first statements of an `if`
  pub arm_lines : Form → (margin : List ℕ) → Arms → List (List ℕ)
  arm_lines f m no_else = (m ++ codes "endif") ∷ []
  arm_lines f m (otherwise b) = (m ++ codes "else") ∷ lines f (deeper f m) b ++ (m ++ codes "endif") ∷ []
  arm_lines f m (elseif a b c) = (m ++ elseif_head f.parentheses a) ∷ lines f (deeper f m) b ++ arm_lines f m c

  -- the lines after the statements of a `try`
  pub handlers_lines : Form → (margin : List ℕ) → Handlers → List (List ℕ)
  handlers_lines f m no_handler = (m ++ codes "endtry") ∷ []
  handlers_lines f m (handler n c b h) = (m ++ except_head f.parentheses n c) ∷ lines f (deeper f m) b ++ handlers_lines f m h

  pub lines : Form → (margin : List ℕ) → Block → List (List ℕ)
  lines f m no_statement = []
  lines f m (then s ss) = (m ++ head f.parentheses s) ∷ below f m s ++ lines f m ss

-- a program's lines
abbrev pub listing_in : Form → Block → List (List ℕ)
listing_in f b = lines f [] b

-- all parentheses, and an indent of two blanks for each statement around a line
abbrev pub indented_listing : Block → List (List ℕ)
indented_listing b = listing_in (record { parentheses = All; indent = true }) b

-- the parentheses that are needed, with or without indents
abbrev pub short_listing : (indent : Bool) → Block → List (List ℕ)
short_listing indent b = listing_in (record { parentheses = Needed; indent = indent }) b
