-- The outcomes of the parser of statements.
use Rattle.std.specs.Prelude.{ℕ, List, [], ◌∷◌, ◌≡◌, ◌≤◌, ◌<◌, ◌+◌, true, false, Option, Some}
use Rattle.moo_syntax_token.specs.declared.token.Token.{Token}
use Rattle.moo_syntax_token.specs.declared.token.Token.TheVariants.{Name}
use Rattle.moo_syntax_token.specs.declared.sign.Sign.TheVariants.{RightBracket, DotDot, Semicolon}
use Rattle.moo_syntax_token.specs.declared.keyword.Keyword.{Keyword}
use Rattle.moo_syntax_token.specs.declared.keyword.Keyword.TheVariants.{EndFor, Except}
use Rattle.moo_syntax_ast.specs.declared.tree.Stmt.{Stmt}
use Rattle.moo_syntax_ast.specs.declared.tree.Arm.{Arm}
use Rattle.moo_syntax_ast.specs.declared.tree.Handler.{Handler}
use Rattle.moo_syntax_ast.specs.Tree
use Rattle.moo_syntax_ast.specs.Tree.{Block, Arms, Handlers, then, for_range, performs, no_handler}
use Rattle.moo_syntax_ast.specs.Limits.{handlers_height}
use Rattle.moo_syntax_ast.specs.View.{statement, with_arm, with_handler}
use Rattle.moo_syntax_grammar.specs.declared.names.Names.{Names}
use Rattle.moo_syntax_grammar.specs.Rules.{Rules, Admits, strict, has_loop}
use Rattle.moo_syntax_grammar.specs.Grammar.{Sort, expression, statements, handlers}
use Rattle.moo_syntax_grammar.specs.Machine.{Reading, give, peek, phrase, Reads, Fails}
use Rattle.moo_syntax_grammar.specs.Predictive.{grammar, expect, expect_keyword, jump}
use Rattle.moo_syntax_grammar.specs.Tokens.{is_keyword}
use Rattle.moo_syntax.specs.declared.cursor.Cursor.{Cursor}
use Rattle.moo_syntax.specs.declared.fault.Fault.{Fault}
use Rattle.moo_syntax.specs.declared.fault.Fault.TheVariants.{TooDeep}
use Rattle.moo_syntax.specs.Cursor.{left}
use Rattle.moo_syntax.specs.Outgrown.{Deepens}
use Rattle.moo_syntax.specs.Outcome.{ToldBy, why, Stands, LeadsTo}

-- statements before others
abbrev pub before : List Stmt → Block → Block
before [] b = b
before (s ∷ ss) b = then (statement s) (before ss b)

-- arms before others
abbrev pub arms_before : List Arm → Arms → Arms
arms_before [] c = c
arms_before (a ∷ front) c = with_arm a (arms_before front c)

-- handlers before others
abbrev pub handlers_before : List Handler → Handlers → Handlers
handlers_before [] hs = hs
handlers_before (h ∷ front) hs = with_handler h (handlers_before front hs)

-- the reading after the bracket of a `for`
abbrev pub after_range : List (Option (List ℕ)) → List ℕ → Reading Sort.stmt
after_range ls x = phrase (expression false) λ a. expect DotDot (phrase (expression false) λ b. expect RightBracket (phrase (statements (Some x ∷ ls)) λ c. expect_keyword EndFor (give (for_range x a b c))))

-- an expression as a statement
abbrev pub performing : Reading Sort.stmt
performing = phrase (expression false) λ a. expect Semicolon (give (performs a))

-- the reading after a handler
abbrev pub after_handler : List (Option (List ℕ)) → (Handlers → Handlers) → Reading Sort.handler_list
after_handler ls f = peek (is_keyword Except) (phrase (handlers ls) λ h. give (f h)) (give (f no_handler))

-- a handler was read, of which others or the end is still to come
pub record IsHandler (names : Names) (ls : List (Option (List ℕ))) (room : ℕ) (old new : Cursor) (h : Handler) : Type 0 where
  pub leads : LeadsTo names Sort.handler_list (λ g. grammar g (handlers ls)) (λ g. after_handler ls (with_handler h)) (left old) (left new)
  pub fits : handlers_height (with_handler h no_handler) ≤ room
  pub tokens : old.at + handlers_height (with_handler h no_handler) ≤ new.at

-- the first token is a name that none of the loops has
pub record IsStranger (ls : List (Option (List ℕ))) (ts : List Token) : Type 0 where
  pub name : List ℕ
  pub rest : List Token
  pub token : ts ≡ Name name ∷ rest
  pub other : has_loop ls (Some name) ≡ false

-- a jump with this keyword and name was read, whatever statement is made of it
pub record Jumps (names : Names) (k : Keyword) (ls : List (Option (List ℕ))) (room : ℕ) (old new : Cursor) (name : Option (List ℕ)) : Type 0 where
  pub reads : (f : Option (List ℕ) → Tree.Stmt) (q : Reading Sort.stmt) (g : Rules) → Admits g (strict names) → Reads (grammar g) Sort.stmt (jump g ls k f q) (left old) (f name) (left new)
  pub fits : 1 ≤ room
  pub tokens : old.at + 1 ≤ new.at

-- a jump with this keyword was not read
pub record HasNotJumped (names : Names) (k : Keyword) (ls : List (Option (List ℕ))) (room : ℕ) (old new : Cursor) (f : Fault) : Type 0 where
  pub fails : (h : Option (List ℕ) → Tree.Stmt) (q : Reading Sort.stmt) (g : Rules) → ToldBy f names g → Fails (grammar g) (why f) Sort.stmt (jump g ls k h q) (left old) (left new)
  pub stands : Stands f names new
  pub deep : f ≡ TooDeep → (g : Rules) → Admits g (strict names) → (h : Option (List ℕ) → Tree.Stmt) (q : Reading Sort.stmt) → Deepens g true Sort.stmt room (jump g ls k h q) (left old) (left new)
  pub long : f ≡ TooDeep → old.at + room < new.at
