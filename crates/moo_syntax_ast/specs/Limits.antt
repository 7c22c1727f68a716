-- The limits of a program.
use Rattle.std.specs.Prelude.{ℕ, List, ◌+◌, ◌≤◌, ◌<◌, max, length, [], ◌∷◌}
use Rattle.moo_value.specs.Size.{weight_limit}
use Rattle.moo_syntax_ast.specs.Tree.{Expr, literal, variable, length_mark, unary, binary, logic, conditional, index, range, list, property, verb_call, call, assign, catch, catch_or, Items, no_items, element, splice, optional, defaulted, Codes, any_error, listed_errors, Stmt, return_nothing, returns, performs, branches, for_list, for_range, while_loop, breaks, continues, try_except, try_finally, Arms, no_else, otherwise, elseif, Handlers, no_handler, handler, Block, no_statement, then}
use Rattle.moo_syntax_ast.specs.Listing.{listing}

abbrev mutual
  -- the most nodes on a path from the expression down to a leaf, both counted
  pub height : Expr → ℕ
  height (literal l) = 1
  height (variable s) = 1
  height length_mark = 1
  height (unary o a) = 1 + height a
  height (binary o a b) = 1 + max (height a) (height b)
  height (logic o a b) = 1 + max (height a) (height b)
  height (conditional a b c) = 1 + max (height a) (max (height b) (height c))
  height (index a b) = 1 + max (height a) (height b)
  height (range a b c) = 1 + max (height a) (max (height b) (height c))
  height (list xs) = 1 + items_height xs
  height (property a b) = 1 + max (height a) (height b)
  height (verb_call a b xs) = 1 + max (height a) (max (height b) (items_height xs))
  height (call s xs) = 1 + items_height xs
  height (assign a b) = 1 + max (height a) (height b)
  height (catch a c) = 1 + max (height a) (codes_height c)
  height (catch_or a c b) = 1 + max (height a) (max (codes_height c) (height b))

  -- the greatest height of an item; a name in the target of a scatter is a leaf, and a default is on the level of its
  -- name
  pub items_height : Items → ℕ
  items_height no_items = 0
  items_height (element a xs) = max (height a) (items_height xs)
  items_height (splice a xs) = max (height a) (items_height xs)
  items_height (optional s xs) = max 1 (items_height xs)
  items_height (defaulted s a xs) = max (height a) (items_height xs)

  -- the greatest height of the errors of a catch; `ANY` is no node
  pub codes_height : Codes → ℕ
  codes_height any_error = 0
  codes_height (listed_errors xs) = items_height xs

abbrev mutual
  -- the most nodes on a path from the statement down to a leaf, both counted
  pub statement_height : Stmt → ℕ
  statement_height return_nothing = 1
  statement_height (returns a) = 1 + height a
  statement_height (performs a) = 1 + height a
  statement_height (branches a b c) = 1 + max (height a) (max (block_height b) (arms_height c))
  statement_height (for_list x a b) = 1 + max (height a) (block_height b)
  statement_height (for_range x a b c) = 1 + max (height a) (max (height b) (block_height c))
  statement_height (while_loop n a b) = 1 + max (height a) (block_height b)
  statement_height (breaks n) = 1
  statement_height (continues n) = 1
  statement_height (try_except b h) = 1 + max (block_height b) (handlers_height h)
  statement_height (try_finally b c) = 1 + max (block_height b) (block_height c)

  -- the greatest height in the arms
  pub arms_height : Arms → ℕ
  arms_height no_else = 0
  arms_height (otherwise b) = block_height b
  arms_height (elseif a b c) = max (height a) (max (block_height b) (arms_height c))

  -- the greatest height in the handlers
  pub handlers_height : Handlers → ℕ
  handlers_height no_handler = 0
  handlers_height (handler n c b h) = max (codes_height c) (max (block_height b) (handlers_height h))

  -- the most nodes on a path, from a statement of the program down to a leaf
  pub block_height : Block → ℕ
  block_height no_statement = 0
  block_height (then s ss) = max (statement_height s) (block_height ss)

abbrev pub most_nodes : ℕ
most_nodes = 100

abbrev pub most_brackets : ℕ
most_brackets = 200

-- a line that a string can hold
abbrev pub FitsLine : List ℕ → Type 0
FitsLine line = length line < weight_limit

abbrev pub AllFit : List (List ℕ) → Type 0
AllFit [] = Unit {0}
AllFit (line ∷ lines) = FitsLine line × AllFit lines

-- at most 100 nodes on a path, and each line of the full listing is short enough for a string
pub record IsWithinLimits (b : Block) : Type 0 where
  pub nodes : block_height b ≤ most_nodes
  pub lines : AllFit (listing b)
