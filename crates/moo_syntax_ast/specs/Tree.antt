-- Programs as trees, without regard to how the program stores them.
use Rattle.std.specs.Prelude.{ℕ, List, Option}
use Rattle.moo_value.specs.Tree
use Rattle.moo_syntax_ast.specs.declared.operator.UnaryOperator.{UnaryOperator}
use Rattle.moo_syntax_ast.specs.declared.operator.BinaryOperator.{BinaryOperator}
use Rattle.moo_syntax_ast.specs.declared.operator.LogicOperator.{LogicOperator}
use Rattle.moo_syntax_ast.specs.declared.tree.Literal.{Literal}
use Rattle.moo_syntax_ast.specs.declared.tree.Literal.TheVariants.{Integer, Object, Error, Str}

mutual
  pub data Expr : Type 0 where
    literal : Literal → Expr
    -- its name, as it is spelled
    variable : List ℕ → Expr
    -- `$`
    length_mark : Expr
    unary : UnaryOperator → Expr → Expr
    binary : BinaryOperator → Expr → Expr → Expr
    logic : LogicOperator → Expr → Expr → Expr
    -- a ? b | c
    conditional : Expr → Expr → Expr → Expr
    -- a[b]
    index : Expr → Expr → Expr
    -- a[b..c]
    range : Expr → Expr → Expr → Expr
    list : Items → Expr
    -- a.(b)
    property : Expr → Expr → Expr
    -- a:(b)(..)
    verb_call : Expr → Expr → Items → Expr
    -- a built-in function's name, as it is spelled, and the arguments
    call : List ℕ → Items → Expr
    -- a = b
    assign : Expr → Expr → Expr
    -- `a ! codes'
    catch : Expr → Codes → Expr
    -- `a ! codes => b'
    catch_or : Expr → Codes → Expr → Expr

  -- the items of a list, of a call's arguments, of a catch's errors, or of the target of a scatter
  pub data Items : Type 0 where
    no_items : Items
    element : Expr → Items → Items
    -- @a
    splice : Expr → Items → Items
    -- ?a
    optional : List ℕ → Items → Items
    -- ?a = b
    defaulted : List ℕ → Expr → Items → Items

  -- the errors that are caught
  pub data Codes : Type 0 where
    -- ANY
    any_error : Codes
    listed_errors : Items → Codes

mutual
  pub data Stmt : Type 0 where
    return_nothing : Stmt
    returns : Expr → Stmt
    -- a;
    performs : Expr → Stmt
    -- the first condition, its statements, and the further arms
    branches : Expr → Block → Arms → Stmt
    -- for x in (a)
    for_list : List ℕ → Expr → Block → Stmt
    -- for x in [a..b]
    for_range : List ℕ → Expr → Expr → Block → Stmt
    while_loop : Option (List ℕ) → Expr → Block → Stmt
    breaks : Option (List ℕ) → Stmt
    continues : Option (List ℕ) → Stmt
    try_except : Block → Handlers → Stmt
    try_finally : Block → Block → Stmt

  -- the further arms of an `if`
  pub data Arms : Type 0 where
    no_else : Arms
    otherwise : Block → Arms
    elseif : Expr → Block → Arms → Arms

  -- the handlers of a `try`: the variable that is set, the errors, and the statements
  pub data Handlers : Type 0 where
    no_handler : Handlers
    handler : Option (List ℕ) → Codes → Block → Handlers → Handlers

  -- statements, one after another
  pub data Block : Type 0 where
    no_statement : Block
    then : Stmt → Block → Block

-- the value that a literal is
abbrev pub literal_value : Literal → Tree.Tree
literal_value (Integer n) = Tree.integer n
literal_value (Object n) = Tree.object n
literal_value (Error e) = Tree.error e
literal_value (Str s) = Tree.string s
