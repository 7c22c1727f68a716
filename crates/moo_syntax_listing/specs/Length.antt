-- The length of the full listing, computed without writing it.
use Rattle.std.specs.Prelude.{ℕ, ◌+◌, ◌<◌, ◌≡◌, ◌==◌, ◌||◌, List, length, count_by, nat_lt, ◌&&◌, Bool, true, false, Option, Some, None, MatchOption}
use Rattle.std.specs.Fmt.{signed_decimal}
use Rattle.moo_value.specs.Errors.{error_name}
use Rattle.moo_value.specs.Size.{weight_limit}
use Rattle.moo_syntax_ast.specs.declared.tree.Literal.{Literal}
use Rattle.moo_syntax_ast.specs.declared.tree.Literal.TheVariants.{Integer, Object, Error, Str}
use Rattle.moo_syntax_ast.specs.declared.tree.Item.{Item, Element', Splice', Optional, Defaulted'}
use Rattle.moo_syntax_ast.specs.Tree.{Expr, literal, variable, length_mark, unary, binary, logic, conditional, index, range, list, property, verb_call, call, assign, catch, catch_or, Items, no_items, element, splice, optional, defaulted, Codes, any_error, listed_errors, Stmt, return_nothing, returns, performs, branches, for_list, for_range, while_loop, breaks, continues, try_except, try_finally, Arms, no_else, otherwise, elseif, Handlers, no_handler, handler, Block, no_statement, then}
use Rattle.moo_syntax_ast.specs.declared.tree.Handler.{Handler, Except', ExceptAs'}
use Rattle.moo_syntax_ast.specs.View.{tree, codes_of, statements}
use Rattle.moo_syntax_ast.specs.Listing.{binary_sign, is_compound, is_compound_base, constant_name, is_system_object, head, elseif_head, except_head}

-- the length with two parentheses, or without
abbrev pub length_in_parentheses : Bool → ℕ → ℕ
length_in_parentheses true n = n + 2
length_in_parentheses false n = n

-- with a comma and a blank before what follows, if anything does
abbrev pub further_length : Items → ℕ → ℕ
further_length no_items n = n
further_length (element a xs) n = 2 + n
further_length (splice a xs) n = 2 + n
further_length (optional s xs) n = 2 + n
further_length (defaulted s a xs) n = 2 + n

-- a sign of one byte, and after it a name, or an expression in parentheses
abbrev pub selector_length : Option (List ℕ) → ℕ → ℕ
selector_length (Some s) name = 1 + length s
selector_length None name = 3 + name

-- the base of a property or a verb, which is left out if the listing has `$` in its place
abbrev pub shown_base_length : Option (List ℕ) → Bool → ℕ → ℕ
shown_base_length (Some s) true base = 0
shown_base_length (Some s) false base = base
shown_base_length None system base = base

-- a byte that has a backslash before it in a literal
abbrev pub is_escaped : ℕ → Bool
is_escaped b = b == 34 || b == 92

abbrev pub literal_length : Literal → ℕ
literal_length (Integer n) = length (signed_decimal n)
literal_length (Object n) = 1 + length (signed_decimal n)
literal_length (Error e) = length (error_name e)
literal_length (Str s) = 2 + length s + count_by is_escaped s

abbrev mutual
  pub listed_length : Expr → ℕ
  listed_length (literal l) = literal_length l
  listed_length (variable s) = length s
  listed_length length_mark = 1
  listed_length (unary o a) = 1 + length_in_parentheses (is_compound a) (listed_length a)
  listed_length (binary o a b) = 2 + length (binary_sign o) + length_in_parentheses (is_compound a) (listed_length a) + length_in_parentheses (is_compound b) (listed_length b)
  listed_length (logic o a b) = 4 + length_in_parentheses (is_compound a) (listed_length a) + length_in_parentheses (is_compound b) (listed_length b)
  listed_length (conditional a b c) = 6 + length_in_parentheses (is_compound a) (listed_length a) + length_in_parentheses (is_compound b) (listed_length b) + length_in_parentheses (is_compound c) (listed_length c)
  listed_length (index a b) = 2 + length_in_parentheses (is_compound_base a) (listed_length a) + listed_length b
  listed_length (range a b c) = 4 + length_in_parentheses (is_compound_base a) (listed_length a) + listed_length b + listed_length c
  listed_length (list xs) = 2 + items_length xs
  listed_length (property a b) = shown_base_length (constant_name b) (is_system_object a) (length_in_parentheses (is_compound_base a) (listed_length a)) + selector_length (constant_name b) (listed_length b)
  listed_length (verb_call a b xs) = shown_base_length (constant_name b) (is_system_object a) (length_in_parentheses (is_compound_base a) (listed_length a)) + selector_length (constant_name b) (listed_length b) + (2 + items_length xs)
  listed_length (call s xs) = length s + (2 + items_length xs)
  listed_length (assign a b) = 3 + length_in_parentheses (is_compound a) (listed_length a) + listed_length b
  listed_length (catch a c) = 5 + listed_length a + codes_length c
  listed_length (catch_or a c b) = 9 + listed_length a + codes_length c + listed_length b

  pub items_length : Items → ℕ
  items_length no_items = 0
  items_length (element a xs) = listed_length a + further_length xs (items_length xs)
  items_length (splice a xs) = 1 + listed_length a + further_length xs (items_length xs)
  items_length (optional s xs) = 1 + length s + further_length xs (items_length xs)
  items_length (defaulted s a xs) = 4 + length s + listed_length a + further_length xs (items_length xs)

  pub codes_length : Codes → ℕ
  codes_length any_error = 3
  codes_length (listed_errors xs) = items_length xs

abbrev pub item_length : Item → ℕ
item_length (Element' p e) = listed_length (tree e)
item_length (Splice' p e) = 1 + listed_length (tree e)
item_length (Optional s) = 1 + length s.value
item_length (Defaulted' s p e) = 4 + length s.value + listed_length (tree e)

-- an item after a comma and a blank
abbrev pub further_item_length : Item → ℕ
further_item_length x = 2 + item_length x

-- a blank and a name, if there is one
abbrev pub label_length : Option (List ℕ) → ℕ
label_length None = 0
label_length (Some s) = 1 + length s

-- the first line of a statement
abbrev pub head_length : Stmt → ℕ
head_length return_nothing = 7
head_length (returns a) = 8 + listed_length a
head_length (performs a) = 1 + listed_length a
head_length (branches a b c) = 5 + listed_length a
head_length (for_list s a b) = 10 + length s + listed_length a
head_length (for_range s a b c) = 12 + length s + listed_length a + listed_length b
head_length (while_loop n a b) = 8 + label_length n + listed_length a
head_length (breaks n) = 6 + label_length n
head_length (continues n) = 9 + label_length n
head_length (try_except b h) = 3
head_length (try_finally b c) = 3

-- the bytes of a line that are left after n bytes, if they fit
abbrev pub Leaves : ℕ → ℕ → Option ℕ → Type 0
Leaves room n result = MatchOption result (room < n) (λ rest. rest + n ≡ room)

-- whether the line is short enough for a string
abbrev pub fits : List ℕ → Bool
fits line = nat_lt (length line) weight_limit

abbrev mutual
  -- whether each line of the statements is short enough for a string
  pub block_fits : Block → Bool
  block_fits no_statement = true
  block_fits (then s ss) = (fits (head s) && below_fits s) && block_fits ss

  -- whether the lines of a statement after the first are
  pub below_fits : Stmt → Bool
  below_fits (branches a b c) = block_fits b && arms_fit c
  below_fits (for_list s a b) = block_fits b
  below_fits (for_range s a b c) = block_fits c
  below_fits (while_loop n a b) = block_fits b
  below_fits (try_except b h) = block_fits b && handlers_fit h
  below_fits (try_finally b c) = block_fits b && block_fits c
  below_fits s = true

  pub arms_fit : Arms → Bool
  arms_fit no_else = true
  arms_fit (otherwise b) = block_fits b
  arms_fit (elseif a b c) = (fits (elseif_head a) && block_fits b) && arms_fit c

  pub handlers_fit : Handlers → Bool
  handlers_fit no_handler = true
  handlers_fit (handler n c b h) = (fits (except_head n c) && block_fits b) && handlers_fit h

-- a handler by itself
abbrev pub handler_fits : Handler → Bool
handler_fits (Except' c shape ss) = fits (except_head None (codes_of c)) && block_fits (statements ss)
handler_fits (ExceptAs' s c shape ss) = fits (except_head (Some s) (codes_of c)) && block_fits (statements ss)
