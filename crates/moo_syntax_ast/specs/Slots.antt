-- The variables of a program.
use Rattle.std.specs.Prelude.{ℕ, List, [], ◌∷◌, ◌++◌, map, Bool, false, ◌||◌, Option, Some, None, cond}
use Rattle.std.specs.Str.{bytes_eq}
use Rattle.moo_value.specs.Compare.{folded}
use Rattle.moo_syntax_ast.specs.declared.tree.Item.{Item, Element', Splice', Optional, Defaulted'}
use Rattle.moo_syntax_ast.specs.declared.tree.Handler.{Handler, Except', ExceptAs'}
use Rattle.moo_syntax_ast.specs.Tree.{Expr, literal, variable, length_mark, unary, binary, logic, conditional, index, range, list, property, verb_call, call, assign, catch, catch_or, Items, no_items, element, splice, optional, defaulted, Codes, any_error, listed_errors, Stmt, return_nothing, returns, performs, branches, for_list, for_range, while_loop, breaks, continues, try_except, try_finally, Arms, no_else, otherwise, elseif, Handlers, no_handler, handler, Block, no_statement, then}
use Rattle.moo_syntax_ast.specs.View.{tree, codes_of, statements}

-- the occurrences of variables in an expression, as spelled, in the order of its text
abbrev mutual
  pub variables : Expr → List (List ℕ)
  variables (literal l) = []
  variables (variable s) = s ∷ []
  variables length_mark = []
  variables (unary o a) = variables a
  variables (binary o a b) = variables a ++ variables b
  variables (logic o a b) = variables a ++ variables b
  variables (conditional a b c) = variables a ++ variables b ++ variables c
  variables (index a b) = variables a ++ variables b
  variables (range a b c) = variables a ++ variables b ++ variables c
  variables (list xs) = items_variables xs
  variables (property a b) = variables a ++ variables b
  variables (verb_call a b xs) = variables a ++ variables b ++ items_variables xs
  variables (call s xs) = items_variables xs
  variables (assign a b) = variables a ++ variables b
  variables (catch a c) = variables a ++ codes_variables c
  variables (catch_or a c b) = variables a ++ codes_variables c ++ variables b

  pub items_variables : Items → List (List ℕ)
  items_variables no_items = []
  items_variables (element a xs) = variables a ++ items_variables xs
  items_variables (splice a xs) = variables a ++ items_variables xs
  items_variables (optional s xs) = s ∷ items_variables xs
  items_variables (defaulted s a xs) = s ∷ variables a ++ items_variables xs

  pub codes_variables : Codes → List (List ℕ)
  codes_variables any_error = []
  codes_variables (listed_errors xs) = items_variables xs

-- the variable that a handler sets, if it sets one
abbrev pub set_variable : Option (List ℕ) → List (List ℕ)
set_variable None = []
set_variable (Some s) = s ∷ []

-- the occurrences of variables in statements; the name of a `while`, of a `break` or a `continue` is no variable
abbrev mutual
  pub statement_variables : Stmt → List (List ℕ)
  statement_variables return_nothing = []
  statement_variables (returns a) = variables a
  statement_variables (performs a) = variables a
  statement_variables (branches a b c) = variables a ++ block_variables b ++ arms_variables c
  statement_variables (for_list s a b) = s ∷ variables a ++ block_variables b
  statement_variables (for_range s a b c) = s ∷ variables a ++ variables b ++ block_variables c
  statement_variables (while_loop n a b) = variables a ++ block_variables b
  statement_variables (breaks n) = []
  statement_variables (continues n) = []
  statement_variables (try_except b h) = block_variables b ++ handlers_variables h
  statement_variables (try_finally b c) = block_variables b ++ block_variables c

  pub arms_variables : Arms → List (List ℕ)
  arms_variables no_else = []
  arms_variables (otherwise b) = block_variables b
  arms_variables (elseif a b c) = variables a ++ block_variables b ++ arms_variables c

  pub handlers_variables : Handlers → List (List ℕ)
  handlers_variables no_handler = []
  handlers_variables (handler n c b h) = set_variable n ++ codes_variables c ++ block_variables b ++ handlers_variables h

  pub block_variables : Block → List (List ℕ)
  block_variables no_statement = []
  block_variables (then s ss) = statement_variables s ++ block_variables ss

-- the first occurrences of names that have not been seen
abbrev pub firsts : (seen : List ℕ → Bool) → List (List ℕ) → List (List ℕ)
firsts seen [] = []
firsts seen (x ∷ xs) = cond (seen x) (firsts seen xs) (x ∷ firsts (λ y. bytes_eq x y || seen y) xs)

-- the names of the variables in lower case, each once, in the order of their first occurrences
abbrev pub slots : Block → List (List ℕ)
slots b = firsts (λ _. false) (map folded (block_variables b))

-- the variables of one item, and those of one handler
abbrev pub item_variables : Item → List (List ℕ)
item_variables (Element' p e) = variables (tree e)
item_variables (Splice' p e) = variables (tree e)
item_variables (Optional s) = s.value ∷ []
item_variables (Defaulted' s p e) = s.value ∷ variables (tree e)

abbrev pub handler_variables : Handler → List (List ℕ)
handler_variables (Except' c shape ss) = codes_variables (codes_of c) ++ block_variables (statements ss)
handler_variables (ExceptAs' s c shape ss) = s ∷ codes_variables (codes_of c) ++ block_variables (statements ss)
