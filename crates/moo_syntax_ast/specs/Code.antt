-- A program is stored as its marks in order, and is read back from the last mark to the first.
use Rattle.std.specs.Prelude.{◌≡◌, ℕ, List, [], ◌∷◌, Option, refl}
use Rattle.std.proofs.Common.{ap, ◌∙◌}
use Rattle.std.specs.Coded.{Coded, code_by}
use Rattle.moo_syntax_ast.specs.declared.operator.UnaryOperator.{UnaryOperator}
use Rattle.moo_syntax_ast.specs.declared.operator.BinaryOperator.{BinaryOperator}
use Rattle.moo_syntax_ast.specs.declared.operator.LogicOperator.{LogicOperator}
use Rattle.moo_syntax_ast.specs.declared.tree.Literal.{Literal}
use Rattle.moo_syntax_ast.specs.Tree
use Rattle.moo_syntax_ast.specs.Tree.{Expr, Items, Codes, Stmt, Arms, Handlers, Block}

-- the mark of a node of the tree
pub data Mark : Type 0 where
  literal : Literal → Mark
  variable : List ℕ → Mark
  length_mark : Mark
  unary : UnaryOperator → Mark
  binary : BinaryOperator → Mark
  logic : LogicOperator → Mark
  conditional : Mark
  index : Mark
  range : Mark
  list : Mark
  property : Mark
  verb_call : Mark
  call : List ℕ → Mark
  assign : Mark
  catch : Mark
  catch_or : Mark
  no_items : Mark
  element : Mark
  splice : Mark
  optional : List ℕ → Mark
  defaulted : List ℕ → Mark
  any_error : Mark
  listed_errors : Mark
  return_nothing : Mark
  returns : Mark
  performs : Mark
  branches : Mark
  for_list : List ℕ → Mark
  for_range : List ℕ → Mark
  while_loop : Option (List ℕ) → Mark
  breaks : Option (List ℕ) → Mark
  continues : Option (List ℕ) → Mark
  try_except : Mark
  try_finally : Mark
  no_else : Mark
  otherwise : Mark
  elseif : Mark
  no_handler : Mark
  handler : Option (List ℕ) → Mark
  no_statement : Mark
  then : Mark

-- the part of a program that a beginning of the marks is
pub data Part : Type 0 where
  expr : Expr → Part
  items : Items → Part
  codes : Codes → Part
  statement : Stmt → Part
  arms : Arms → Part
  handlers : Handlers → Part
  block : Block → Part

abbrev mutual
  marks : Expr → List Mark → List Mark
  marks (Tree.literal l) ms = literal l ∷ ms
  marks (Tree.variable s) ms = variable s ∷ ms
  marks Tree.length_mark ms = length_mark ∷ ms
  marks (Tree.unary o a) ms = unary o ∷ marks a ms
  marks (Tree.binary o a b) ms = binary o ∷ marks a (marks b ms)
  marks (Tree.logic o a b) ms = logic o ∷ marks a (marks b ms)
  marks (Tree.conditional a b c) ms = conditional ∷ marks a (marks b (marks c ms))
  marks (Tree.index a b) ms = index ∷ marks a (marks b ms)
  marks (Tree.range a b c) ms = range ∷ marks a (marks b (marks c ms))
  marks (Tree.list xs) ms = list ∷ items_marks xs ms
  marks (Tree.property a b) ms = property ∷ marks a (marks b ms)
  marks (Tree.verb_call a b xs) ms = verb_call ∷ marks a (marks b (items_marks xs ms))
  marks (Tree.call s xs) ms = call s ∷ items_marks xs ms
  marks (Tree.assign a b) ms = assign ∷ marks a (marks b ms)
  marks (Tree.catch a c) ms = catch ∷ marks a (codes_marks c ms)
  marks (Tree.catch_or a c b) ms = catch_or ∷ marks a (marks b (codes_marks c ms))

  items_marks : Items → List Mark → List Mark
  items_marks Tree.no_items ms = no_items ∷ ms
  items_marks (Tree.element a xs) ms = element ∷ marks a (items_marks xs ms)
  items_marks (Tree.splice a xs) ms = splice ∷ marks a (items_marks xs ms)
  items_marks (Tree.optional s xs) ms = optional s ∷ items_marks xs ms
  items_marks (Tree.defaulted s a xs) ms = defaulted s ∷ marks a (items_marks xs ms)

  codes_marks : Codes → List Mark → List Mark
  codes_marks Tree.any_error ms = any_error ∷ ms
  codes_marks (Tree.listed_errors xs) ms = listed_errors ∷ items_marks xs ms

abbrev mutual
  statement_marks : Stmt → List Mark → List Mark
  statement_marks Tree.return_nothing ms = return_nothing ∷ ms
  statement_marks (Tree.returns a) ms = returns ∷ marks a ms
  statement_marks (Tree.performs a) ms = performs ∷ marks a ms
  statement_marks (Tree.branches a b c) ms = branches ∷ marks a (block_marks b (arms_marks c ms))
  statement_marks (Tree.for_list x a b) ms = for_list x ∷ marks a (block_marks b ms)
  statement_marks (Tree.for_range x a b c) ms = for_range x ∷ marks a (marks b (block_marks c ms))
  statement_marks (Tree.while_loop n a b) ms = while_loop n ∷ marks a (block_marks b ms)
  statement_marks (Tree.breaks n) ms = breaks n ∷ ms
  statement_marks (Tree.continues n) ms = continues n ∷ ms
  statement_marks (Tree.try_except b h) ms = try_except ∷ block_marks b (handlers_marks h ms)
  statement_marks (Tree.try_finally b c) ms = try_finally ∷ block_marks b (block_marks c ms)

  arms_marks : Arms → List Mark → List Mark
  arms_marks Tree.no_else ms = no_else ∷ ms
  arms_marks (Tree.otherwise b) ms = otherwise ∷ block_marks b ms
  arms_marks (Tree.elseif a b c) ms = elseif ∷ marks a (block_marks b (arms_marks c ms))

  handlers_marks : Handlers → List Mark → List Mark
  handlers_marks Tree.no_handler ms = no_handler ∷ ms
  handlers_marks (Tree.handler n c b h) ms = handler n ∷ codes_marks c (block_marks b (handlers_marks h ms))

  block_marks : Block → List Mark → List Mark
  block_marks Tree.no_statement ms = no_statement ∷ ms
  block_marks (Tree.then s ss) ms = then ∷ statement_marks s (block_marks ss ms)

abbrev from_expr : (Expr → Part) → List Part → List Part
from_expr f (expr a ∷ ps) = f a ∷ ps
from_expr f _ = []

abbrev from_two : (Expr → Expr → Part) → List Part → List Part
from_two f (expr a ∷ expr b ∷ ps) = f a b ∷ ps
from_two f _ = []

abbrev from_three : (Expr → Expr → Expr → Part) → List Part → List Part
from_three f (expr a ∷ expr b ∷ expr c ∷ ps) = f a b c ∷ ps
from_three f _ = []

abbrev from_items : (Items → Part) → List Part → List Part
from_items f (items xs ∷ ps) = f xs ∷ ps
from_items f _ = []

abbrev from_expr_and_items : (Expr → Items → Part) → List Part → List Part
from_expr_and_items f (expr a ∷ items xs ∷ ps) = f a xs ∷ ps
from_expr_and_items f _ = []

abbrev from_two_and_items : (Expr → Expr → Items → Part) → List Part → List Part
from_two_and_items f (expr a ∷ expr b ∷ items xs ∷ ps) = f a b xs ∷ ps
from_two_and_items f _ = []

abbrev from_expr_and_codes : (Expr → Codes → Part) → List Part → List Part
from_expr_and_codes f (expr a ∷ codes c ∷ ps) = f a c ∷ ps
from_expr_and_codes f _ = []

abbrev from_two_and_codes : (Expr → Expr → Codes → Part) → List Part → List Part
from_two_and_codes f (expr a ∷ expr b ∷ codes c ∷ ps) = f a b c ∷ ps
from_two_and_codes f _ = []

abbrev from_statement_and_block : (Stmt → Block → Part) → List Part → List Part
from_statement_and_block f (statement s ∷ block b ∷ ps) = f s b ∷ ps
from_statement_and_block f _ = []

abbrev from_block : (Block → Part) → List Part → List Part
from_block f (block b ∷ ps) = f b ∷ ps
from_block f _ = []

abbrev from_two_blocks : (Block → Block → Part) → List Part → List Part
from_two_blocks f (block b ∷ block c ∷ ps) = f b c ∷ ps
from_two_blocks f _ = []

abbrev from_expr_and_block : (Expr → Block → Part) → List Part → List Part
from_expr_and_block f (expr a ∷ block b ∷ ps) = f a b ∷ ps
from_expr_and_block f _ = []

abbrev from_two_and_block : (Expr → Expr → Block → Part) → List Part → List Part
from_two_and_block f (expr a ∷ expr b ∷ block c ∷ ps) = f a b c ∷ ps
from_two_and_block f _ = []

abbrev from_arm : (Expr → Block → Arms → Part) → List Part → List Part
from_arm f (expr a ∷ block b ∷ arms c ∷ ps) = f a b c ∷ ps
from_arm f _ = []

abbrev from_block_and_handlers : (Block → Handlers → Part) → List Part → List Part
from_block_and_handlers f (block b ∷ handlers h ∷ ps) = f b h ∷ ps
from_block_and_handlers f _ = []

abbrev from_handler : (Codes → Block → Handlers → Part) → List Part → List Part
from_handler f (codes c ∷ block b ∷ handlers h ∷ ps) = f c b h ∷ ps
from_handler f _ = []

abbrev unmarked : List Mark → List Part
unmarked [] = []
unmarked (literal l ∷ ms) = expr (Tree.literal l) ∷ unmarked ms
unmarked (variable s ∷ ms) = expr (Tree.variable s) ∷ unmarked ms
unmarked (length_mark ∷ ms) = expr Tree.length_mark ∷ unmarked ms
unmarked (unary o ∷ ms) = from_expr (λ a. expr (Tree.unary o a)) (unmarked ms)
unmarked (binary o ∷ ms) = from_two (λ a b. expr (Tree.binary o a b)) (unmarked ms)
unmarked (logic o ∷ ms) = from_two (λ a b. expr (Tree.logic o a b)) (unmarked ms)
unmarked (conditional ∷ ms) = from_three (λ a b c. expr (Tree.conditional a b c)) (unmarked ms)
unmarked (index ∷ ms) = from_two (λ a b. expr (Tree.index a b)) (unmarked ms)
unmarked (range ∷ ms) = from_three (λ a b c. expr (Tree.range a b c)) (unmarked ms)
unmarked (list ∷ ms) = from_items (λ xs. expr (Tree.list xs)) (unmarked ms)
unmarked (property ∷ ms) = from_two (λ a b. expr (Tree.property a b)) (unmarked ms)
unmarked (verb_call ∷ ms) = from_two_and_items (λ a b xs. expr (Tree.verb_call a b xs)) (unmarked ms)
unmarked (call s ∷ ms) = from_items (λ xs. expr (Tree.call s xs)) (unmarked ms)
unmarked (assign ∷ ms) = from_two (λ a b. expr (Tree.assign a b)) (unmarked ms)
unmarked (catch ∷ ms) = from_expr_and_codes (λ a c. expr (Tree.catch a c)) (unmarked ms)
unmarked (catch_or ∷ ms) = from_two_and_codes (λ a b c. expr (Tree.catch_or a c b)) (unmarked ms)
unmarked (no_items ∷ ms) = items Tree.no_items ∷ unmarked ms
unmarked (element ∷ ms) = from_expr_and_items (λ a xs. items (Tree.element a xs)) (unmarked ms)
unmarked (splice ∷ ms) = from_expr_and_items (λ a xs. items (Tree.splice a xs)) (unmarked ms)
unmarked (optional s ∷ ms) = from_items (λ xs. items (Tree.optional s xs)) (unmarked ms)
unmarked (defaulted s ∷ ms) = from_expr_and_items (λ a xs. items (Tree.defaulted s a xs)) (unmarked ms)
unmarked (any_error ∷ ms) = codes Tree.any_error ∷ unmarked ms
unmarked (listed_errors ∷ ms) = from_items (λ xs. codes (Tree.listed_errors xs)) (unmarked ms)
unmarked (return_nothing ∷ ms) = statement Tree.return_nothing ∷ unmarked ms
unmarked (returns ∷ ms) = from_expr (λ a. statement (Tree.returns a)) (unmarked ms)
unmarked (performs ∷ ms) = from_expr (λ a. statement (Tree.performs a)) (unmarked ms)
unmarked (branches ∷ ms) = from_arm (λ a b c. statement (Tree.branches a b c)) (unmarked ms)
unmarked (for_list x ∷ ms) = from_expr_and_block (λ a b. statement (Tree.for_list x a b)) (unmarked ms)
unmarked (for_range x ∷ ms) = from_two_and_block (λ a b c. statement (Tree.for_range x a b c)) (unmarked ms)
unmarked (while_loop n ∷ ms) = from_expr_and_block (λ a b. statement (Tree.while_loop n a b)) (unmarked ms)
unmarked (breaks n ∷ ms) = statement (Tree.breaks n) ∷ unmarked ms
unmarked (continues n ∷ ms) = statement (Tree.continues n) ∷ unmarked ms
unmarked (try_except ∷ ms) = from_block_and_handlers (λ b h. statement (Tree.try_except b h)) (unmarked ms)
unmarked (try_finally ∷ ms) = from_two_blocks (λ b c. statement (Tree.try_finally b c)) (unmarked ms)
unmarked (no_else ∷ ms) = arms Tree.no_else ∷ unmarked ms
unmarked (otherwise ∷ ms) = from_block (λ b. arms (Tree.otherwise b)) (unmarked ms)
unmarked (elseif ∷ ms) = from_arm (λ a b c. arms (Tree.elseif a b c)) (unmarked ms)
unmarked (no_handler ∷ ms) = handlers Tree.no_handler ∷ unmarked ms
unmarked (handler n ∷ ms) = from_handler (λ c b h. handlers (Tree.handler n c b h)) (unmarked ms)
unmarked (no_statement ∷ ms) = block Tree.no_statement ∷ unmarked ms
unmarked (then ∷ ms) = from_statement_and_block (λ s b. block (Tree.then s b)) (unmarked ms)

after : {p : Part} {ps qs : List Part} → ps ≡ qs → ◌≡◌ {A = List Part} (p ∷ ps) (p ∷ qs)
after {p} e = ap (λ v. p ∷ v) e

mutual
  unmarked-marks : (a : Expr) (ms : List Mark) → unmarked (marks a ms) ≡ expr a ∷ unmarked ms
  unmarked-marks (Tree.literal l) ms = refl
  unmarked-marks (Tree.variable s) ms = refl
  unmarked-marks Tree.length_mark ms = refl
  unmarked-marks (Tree.unary o a) ms = ap (from_expr (λ a. expr (Tree.unary o a))) (unmarked-marks a ms)
  unmarked-marks (Tree.binary o a b) ms =
      ap (from_two (λ a b. expr (Tree.binary o a b))) (unmarked-marks a (marks b ms) ∙ after (unmarked-marks b ms))
  unmarked-marks (Tree.logic o a b) ms =
      ap (from_two (λ a b. expr (Tree.logic o a b))) (unmarked-marks a (marks b ms) ∙ after (unmarked-marks b ms))
  unmarked-marks (Tree.conditional a b c) ms =
      ap (from_three (λ a b c. expr (Tree.conditional a b c))) (unmarked-marks a (marks b (marks c ms)) ∙ after (unmarked-marks b (marks c ms) ∙ after (unmarked-marks c ms)))
  unmarked-marks (Tree.index a b) ms =
      ap (from_two (λ a b. expr (Tree.index a b))) (unmarked-marks a (marks b ms) ∙ after (unmarked-marks b ms))
  unmarked-marks (Tree.range a b c) ms =
      ap (from_three (λ a b c. expr (Tree.range a b c))) (unmarked-marks a (marks b (marks c ms)) ∙ after (unmarked-marks b (marks c ms) ∙ after (unmarked-marks c ms)))
  unmarked-marks (Tree.list xs) ms = ap (from_items (λ xs. expr (Tree.list xs))) (unmarked-items_marks xs ms)
  unmarked-marks (Tree.property a b) ms =
      ap (from_two (λ a b. expr (Tree.property a b))) (unmarked-marks a (marks b ms) ∙ after (unmarked-marks b ms))
  unmarked-marks (Tree.verb_call a b xs) ms =
      ap (from_two_and_items (λ a b xs. expr (Tree.verb_call a b xs))) (unmarked-marks a (marks b (items_marks xs ms)) ∙ after (unmarked-marks b (items_marks xs ms) ∙ after (unmarked-items_marks xs ms)))
  unmarked-marks (Tree.call s xs) ms = ap (from_items (λ xs. expr (Tree.call s xs))) (unmarked-items_marks xs ms)
  unmarked-marks (Tree.assign a b) ms =
      ap (from_two (λ a b. expr (Tree.assign a b))) (unmarked-marks a (marks b ms) ∙ after (unmarked-marks b ms))
  unmarked-marks (Tree.catch a c) ms =
      ap (from_expr_and_codes (λ a c. expr (Tree.catch a c))) (unmarked-marks a (codes_marks c ms) ∙ after (unmarked-codes_marks c ms))
  unmarked-marks (Tree.catch_or a c b) ms =
      ap (from_two_and_codes (λ a b c. expr (Tree.catch_or a c b))) (unmarked-marks a (marks b (codes_marks c ms)) ∙ after (unmarked-marks b (codes_marks c ms) ∙ after (unmarked-codes_marks c ms)))

  unmarked-items_marks : (xs : Items) (ms : List Mark) → unmarked (items_marks xs ms) ≡ items xs ∷ unmarked ms
  unmarked-items_marks Tree.no_items ms = refl
  unmarked-items_marks (Tree.element a xs) ms =
      ap (from_expr_and_items (λ a xs. items (Tree.element a xs))) (unmarked-marks a (items_marks xs ms) ∙ after (unmarked-items_marks xs ms))
  unmarked-items_marks (Tree.splice a xs) ms =
      ap (from_expr_and_items (λ a xs. items (Tree.splice a xs))) (unmarked-marks a (items_marks xs ms) ∙ after (unmarked-items_marks xs ms))
  unmarked-items_marks (Tree.optional s xs) ms = ap (from_items (λ xs. items (Tree.optional s xs))) (unmarked-items_marks xs ms)
  unmarked-items_marks (Tree.defaulted s a xs) ms =
      ap (from_expr_and_items (λ a xs. items (Tree.defaulted s a xs))) (unmarked-marks a (items_marks xs ms) ∙ after (unmarked-items_marks xs ms))

  unmarked-codes_marks : (c : Codes) (ms : List Mark) → unmarked (codes_marks c ms) ≡ codes c ∷ unmarked ms
  unmarked-codes_marks Tree.any_error ms = refl
  unmarked-codes_marks (Tree.listed_errors xs) ms = ap (from_items (λ xs. codes (Tree.listed_errors xs))) (unmarked-items_marks xs ms)

mutual
  unmarked-statement_marks : (s : Stmt) (ms : List Mark) → unmarked (statement_marks s ms) ≡ statement s ∷ unmarked ms
  unmarked-statement_marks Tree.return_nothing ms = refl
  unmarked-statement_marks (Tree.returns a) ms = ap (from_expr (λ a. statement (Tree.returns a))) (unmarked-marks a ms)
  unmarked-statement_marks (Tree.performs a) ms = ap (from_expr (λ a. statement (Tree.performs a))) (unmarked-marks a ms)
  unmarked-statement_marks (Tree.branches a b c) ms =
      ap (from_arm (λ a b c. statement (Tree.branches a b c))) (unmarked-marks a (block_marks b (arms_marks c ms)) ∙ after (unmarked-block_marks b (arms_marks c ms) ∙ after (unmarked-arms_marks c ms)))
  unmarked-statement_marks (Tree.for_list x a b) ms =
      ap (from_expr_and_block (λ a b. statement (Tree.for_list x a b))) (unmarked-marks a (block_marks b ms) ∙ after (unmarked-block_marks b ms))
  unmarked-statement_marks (Tree.for_range x a b c) ms =
      ap (from_two_and_block (λ a b c. statement (Tree.for_range x a b c))) (unmarked-marks a (marks b (block_marks c ms)) ∙ after (unmarked-marks b (block_marks c ms) ∙ after (unmarked-block_marks c ms)))
  unmarked-statement_marks (Tree.while_loop n a b) ms =
      ap (from_expr_and_block (λ a b. statement (Tree.while_loop n a b))) (unmarked-marks a (block_marks b ms) ∙ after (unmarked-block_marks b ms))
  unmarked-statement_marks (Tree.breaks n) ms = refl
  unmarked-statement_marks (Tree.continues n) ms = refl
  unmarked-statement_marks (Tree.try_except b h) ms =
      ap (from_block_and_handlers (λ b h. statement (Tree.try_except b h))) (unmarked-block_marks b (handlers_marks h ms) ∙ after (unmarked-handlers_marks h ms))
  unmarked-statement_marks (Tree.try_finally b c) ms =
      ap (from_two_blocks (λ b c. statement (Tree.try_finally b c))) (unmarked-block_marks b (block_marks c ms) ∙ after (unmarked-block_marks c ms))

  unmarked-arms_marks : (c : Arms) (ms : List Mark) → unmarked (arms_marks c ms) ≡ arms c ∷ unmarked ms
  unmarked-arms_marks Tree.no_else ms = refl
  unmarked-arms_marks (Tree.otherwise b) ms = ap (from_block (λ b. arms (Tree.otherwise b))) (unmarked-block_marks b ms)
  unmarked-arms_marks (Tree.elseif a b c) ms =
      ap (from_arm (λ a b c. arms (Tree.elseif a b c))) (unmarked-marks a (block_marks b (arms_marks c ms)) ∙ after (unmarked-block_marks b (arms_marks c ms) ∙ after (unmarked-arms_marks c ms)))

  unmarked-handlers_marks : (h : Handlers) (ms : List Mark) → unmarked (handlers_marks h ms) ≡ handlers h ∷ unmarked ms
  unmarked-handlers_marks Tree.no_handler ms = refl
  unmarked-handlers_marks (Tree.handler n c b h) ms =
      ap (from_handler (λ c b h. handlers (Tree.handler n c b h))) (unmarked-codes_marks c (block_marks b (handlers_marks h ms)) ∙ after (unmarked-block_marks b (handlers_marks h ms) ∙ after (unmarked-handlers_marks h ms)))

  unmarked-block_marks : (b : Block) (ms : List Mark) → unmarked (block_marks b ms) ≡ block b ∷ unmarked ms
  unmarked-block_marks Tree.no_statement ms = refl
  unmarked-block_marks (Tree.then s b) ms =
      ap (from_statement_and_block (λ s b. block (Tree.then s b))) (unmarked-statement_marks s (block_marks b ms) ∙ after (unmarked-block_marks b ms))

abbrev first_block : List Part → Block
first_block (block b ∷ ps) = b
first_block _ = Tree.no_statement

pub first_block-marks : (b : Block) → first_block (unmarked (block_marks b [])) ≡ b
first_block-marks b = ap first_block (unmarked-block_marks b [])

-- a code of blocks, from one of marks
abbrev pub block_code : Coded (List Mark) → Coded Block
block_code c = code_by (List Mark) c (λ b. block_marks b []) (λ ms. first_block (unmarked ms)) first_block-marks
