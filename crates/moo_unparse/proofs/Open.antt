-- How many brackets are open in a listing: no more than there are nodes on a path.
use Rattle.std.proofs.Common.{ℕ, ◌+◌, ◌≤◌, List, [], ◌∷◌, ◌≡◌, refl, Bool, true, false, Option, Some, None, pos, negsuc, arith}
use Rattle.moo_syntax_token.specs.declared.sign.Sign.{Sign}
use Rattle.moo_syntax_token.specs.declared.sign.Sign.TheVariants as sign
use Rattle.moo_syntax_token.specs.declared.token.Token.{Token}
use Rattle.moo_syntax_token.specs.declared.token.Token.TheVariants as token
use Rattle.moo_syntax_ast.specs.declared.operator.UnaryOperator.{UnaryOperator}
use Rattle.moo_syntax_ast.specs.declared.operator.UnaryOperator.TheVariants.{Not, Negate}
use Rattle.moo_syntax_ast.specs.declared.operator.BinaryOperator.{BinaryOperator}
use Rattle.moo_syntax_ast.specs.declared.operator.BinaryOperator.TheVariants.{Add, Subtract, Multiply, Divide, Remainder, Power, Equal, NotEqual, Less, LessOrEqual, Greater, GreaterOrEqual, In}
use Rattle.moo_syntax_ast.specs.declared.operator.LogicOperator.{LogicOperator}
use Rattle.moo_syntax_ast.specs.declared.operator.LogicOperator.TheVariants.{And, Or}
use Rattle.moo_syntax_ast.specs.declared.tree.Literal.{Literal}
use Rattle.moo_syntax_ast.specs.declared.tree.Literal.TheVariants as literal
use Rattle.moo_syntax_ast.specs.Tree
use Rattle.moo_syntax_ast.specs.Tree.{Expr, Items, Codes, Stmt, Arms, Handlers, Block}
use Rattle.moo_syntax_ast.specs.Listing.{is_compound, is_compound_base, constant_name, is_system_object}
use Rattle.moo_syntax_ast.specs.Limits.{height, items_height, codes_height, statement_height, arms_height, handlers_height, block_height}
use Rattle.moo_syntax_grammar.specs.Brackets.{open_after, most_open_after, most_open}
use Rattle.moo_unparse.specs.declared.form.Parentheses.{Parentheses}
use Rattle.moo_unparse.specs.declared.form.Part.TheVariants as part
use Rattle.moo_unparse.specs.Parts.{operator_part, left_of, right_of, needs}
use Rattle.moo_unparse.proofs.Listed.{unary_mark, binary_token, logic_mark, literal_tokens, parens, selected, further, spell, spell_items, spell_codes, spell_label, spell_statement, spell_arms, spell_handlers, spell_block}

-- at most m brackets are open at one place of the tokens, where n are open before them
pub record Within (m n : ℕ) (ts : List Token) : Type 0 where
  pub most : most_open_after n ts ≤ m

-- the text of f closes the brackets that it opens, and opens few enough, if n are open before it
abbrev Closed : ℕ → ℕ → (List Token → List Token) → Type 0
Closed m n f = (r : List Token) → Within m n r → Within m n (f r)

module _ {m : ℕ} where
  -- a token that is no bracket
  plain : (x : Token) (n : ℕ) (ts : List Token) → open_after n x ≡ n → n ≤ m → Within m n ts → Within m n (x ∷ ts)
  plain x n ts same h w = record { most = rw same (omega (arith, h, w.most)) }

  opening : (x : Token) (n : ℕ) (ts : List Token) → open_after n x ≡ n + 1 → n ≤ m → Within m (n + 1) ts → Within m n (x ∷ ts)
  opening x n ts more h w = record { most = rw more (omega (arith, h, w.most)) }

  closing : (x : Token) (n : ℕ) (ts : List Token) → open_after (n + 1) x ≡ n → n + 1 ≤ m → Within m n ts → Within m (n + 1) (x ∷ ts)
  closing x n ts less h w = record { most = rw less (omega (arith, h, w.most)) }

  -- each pair of brackets, round what f writes
  in_round : (f : List Token → List Token) (n : ℕ) (r : List Token) → Closed m (n + 1) f → n + 1 ≤ m → Within m n r → Within m n (token.Sign sign.LeftParen ∷ f (token.Sign sign.RightParen ∷ r))
  in_round f n r c h w = opening (token.Sign sign.LeftParen) n _ refl (omega (arith, h)) (c _ (closing (token.Sign sign.RightParen) n r (omega arith) h w))

  in_square : (f : List Token → List Token) (n : ℕ) (r : List Token) → Closed m (n + 1) f → n + 1 ≤ m → Within m n r → Within m n (token.Sign sign.LeftBracket ∷ f (token.Sign sign.RightBracket ∷ r))
  in_square f n r c h w = opening (token.Sign sign.LeftBracket) n _ refl (omega (arith, h)) (c _ (closing (token.Sign sign.RightBracket) n r (omega arith) h w))

  in_braces : (f : List Token → List Token) (n : ℕ) (r : List Token) → Closed m (n + 1) f → n + 1 ≤ m → Within m n r → Within m n (token.Sign sign.LeftBrace ∷ f (token.Sign sign.RightBrace ∷ r))
  in_braces f n r c h w = opening (token.Sign sign.LeftBrace) n _ refl (omega (arith, h)) (c _ (closing (token.Sign sign.RightBrace) n r (omega arith) h w))

  -- in parentheses or bare
  in_parens : (b : Bool) (f : List Token → List Token) (n : ℕ) (r : List Token) → ((k : ℕ) → k ≤ n + 1 → Closed m k f) → n + 1 ≤ m → Within m n r → Within m n (parens b f r)
  in_parens true f n r c h w = in_round f n r (c (n + 1) (omega arith)) h w
  in_parens false f n r c h w = c n (omega arith) r w

  in_selected : (x : Sign) → ((k : ℕ) → open_after k (token.Sign x) ≡ k) → (s : Option (List ℕ)) (system : Bool) (f g : List Token → List Token) (n : ℕ) (r : List Token) → Closed m n f → Closed m (n + 1) g → n + 1 ≤ m → Within m n r → Within m n (selected x s system f g r)
  in_selected x same (Some s) true f g n r c d h w = plain (token.Sign sign.Dollar) n _ refl (omega (arith, h)) (plain (token.Name s) n r refl (omega (arith, h)) w)
  in_selected x same (Some s) false f g n r c d h w = c _ (plain (token.Sign x) n _ (same n) (omega (arith, h)) (plain (token.Name s) n r refl (omega (arith, h)) w))
  in_selected x same None system f g n r c d h w = c _ (plain (token.Sign x) n _ (same n) (omega (arith, h)) (in_round g n r d h w))

  unary_plain : (o : UnaryOperator) (n : ℕ) (ts : List Token) → n ≤ m → Within m n ts → Within m n (token.Sign (unary_mark o) ∷ ts)
  unary_plain Not n ts h w = plain _ n ts refl h w
  unary_plain Negate n ts h w = plain _ n ts refl h w

  binary_plain : (o : BinaryOperator) (n : ℕ) (ts : List Token) → n ≤ m → Within m n ts → Within m n (binary_token o ∷ ts)
  binary_plain Add n ts h w = plain _ n ts refl h w
  binary_plain Subtract n ts h w = plain _ n ts refl h w
  binary_plain Multiply n ts h w = plain _ n ts refl h w
  binary_plain Divide n ts h w = plain _ n ts refl h w
  binary_plain Remainder n ts h w = plain _ n ts refl h w
  binary_plain Power n ts h w = plain _ n ts refl h w
  binary_plain Equal n ts h w = plain _ n ts refl h w
  binary_plain NotEqual n ts h w = plain _ n ts refl h w
  binary_plain Less n ts h w = plain _ n ts refl h w
  binary_plain LessOrEqual n ts h w = plain _ n ts refl h w
  binary_plain Greater n ts h w = plain _ n ts refl h w
  binary_plain GreaterOrEqual n ts h w = plain _ n ts refl h w
  binary_plain In n ts h w = plain _ n ts refl h w

  logic_plain : (o : LogicOperator) (n : ℕ) (ts : List Token) → n ≤ m → Within m n ts → Within m n (token.Sign (logic_mark o) ∷ ts)
  logic_plain And n ts h w = plain _ n ts refl h w
  logic_plain Or n ts h w = plain _ n ts refl h w

  literal_plain : (l : Literal) (n : ℕ) (r : List Token) → n ≤ m → Within m n r → Within m n (literal_tokens l r)
  literal_plain (literal.Integer (pos k)) n r h w = plain _ n r refl h w
  literal_plain (literal.Integer (negsuc k)) n r h w = plain _ n _ refl h (plain _ n r refl h w)
  literal_plain (literal.Object k) n r h w = plain _ n r refl h w
  literal_plain (literal.Error e) n r h w = plain _ n r refl h w
  literal_plain (literal.Str s) n r h w = plain _ n r refl h w

  comma_plain : (xs : Items) (n : ℕ) (ts : List Token) → n ≤ m → Within m n ts → Within m n (further xs ts)
  comma_plain Tree.no_items n ts h w = w
  comma_plain (Tree.element a xs) n ts h w = plain _ n ts refl h w
  comma_plain (Tree.splice a xs) n ts h w = plain _ n ts refl h w
  comma_plain (Tree.optional s xs) n ts h w = plain _ n ts refl h w
  comma_plain (Tree.defaulted s a xs) n ts h w = plain _ n ts refl h w

  label_plain : (l : Option (List ℕ)) (n : ℕ) (r : List Token) → n ≤ m → Within m n r → Within m n (spell_label l r)
  label_plain None n r h w = w
  label_plain (Some s) n r h w = plain _ n r refl h w

module _ (p : Parentheses) {m : ℕ} where
  mutual
    fits : (e : Expr) (n : ℕ) (r : List Token) → n + height e ≤ m → Within m n r → Within m n (spell p e r)
    fits (Tree.literal l) n r h w = literal_plain l n r (omega (arith, h)) w
    fits (Tree.variable s) n r h w = plain _ n r refl (omega (arith, h)) w
    fits Tree.length_mark n r h w = plain _ n r refl (omega (arith, h)) w
    fits (Tree.unary o a) n r h w =
        unary_plain o n _ (omega (arith, h))
        (in_parens (needs p part.Sign a) (spell p a) n r (λ k i s v. fits a k s (omega (arith, h, i)) v) (omega (arith, h)) w)
    fits (Tree.binary o a b) n r h w =
        in_parens (needs p (left_of (operator_part o)) a) (spell p a) n _ (λ k i s v. fits a k s (omega (arith, h, i)) v) (omega (arith, h))
        (binary_plain o n _ (omega (arith, h))
        (in_parens (needs p (right_of (operator_part o)) b) (spell p b) n r (λ k i s v. fits b k s (omega (arith, h, i)) v) (omega (arith, h)) w))
    fits (Tree.logic o a b) n r h w =
        in_parens (needs p (left_of part.Logic) a) (spell p a) n _ (λ k i s v. fits a k s (omega (arith, h, i)) v) (omega (arith, h))
        (logic_plain o n _ (omega (arith, h))
        (in_parens (needs p (right_of part.Logic) b) (spell p b) n r (λ k i s v. fits b k s (omega (arith, h, i)) v) (omega (arith, h)) w))
    fits (Tree.conditional a b c) n r h w =
        in_parens (needs p part.Logic a) (spell p a) n _ (λ k i s v. fits a k s (omega (arith, h, i)) v) (omega (arith, h))
        (plain _ n _ refl (omega (arith, h))
        (in_parens (needs p part.Assignment b) (spell p b) n _ (λ k i s v. fits b k s (omega (arith, h, i)) v) (omega (arith, h))
        (plain _ n _ refl (omega (arith, h))
        (in_parens (needs p part.Conditional c) (spell p c) n r (λ k i s v. fits c k s (omega (arith, h, i)) v) (omega (arith, h)) w))))
    fits (Tree.index a b) n r h w =
        in_parens (is_compound_base a) (spell p a) n _ (λ k i s v. fits a k s (omega (arith, h, i)) v) (omega (arith, h))
        (in_square (spell p b) n r (λ s v. fits b (n + 1) s (omega (arith, h)) v) (omega (arith, h)) w)
    fits (Tree.range a b c) n r h w =
        in_parens (is_compound_base a) (spell p a) n _ (λ k i s v. fits a k s (omega (arith, h, i)) v) (omega (arith, h))
        (in_square (λ s. spell p b (token.Sign sign.DotDot ∷ spell p c s)) n r (λ s v. fits b (n + 1) _ (omega (arith, h)) (plain _ (n + 1) _ refl (omega (arith, h)) (fits c (n + 1) s (omega (arith, h)) v))) (omega (arith, h)) w)
    fits (Tree.list xs) n r h w = in_braces (spell_items p xs) n r (λ s v. fits_items xs (n + 1) s (omega (arith, h)) v) (omega (arith, h)) w
    fits (Tree.property a b) n r h w =
        in_selected sign.Dot (λ k. refl) (constant_name b) (is_system_object a) (λ ts. parens (is_compound_base a) (spell p a) ts) (spell p b) n r
        (λ s v. in_parens (is_compound_base a) (spell p a) n s (λ k i t u. fits a k t (omega (arith, h, i)) u) (omega (arith, h)) v)
        (λ s v. fits b (n + 1) s (omega (arith, h)) v) (omega (arith, h)) w
    fits (Tree.verb_call a b xs) n r h w =
        in_selected sign.Colon (λ k. refl) (constant_name b) (is_system_object a) (λ ts. parens (is_compound_base a) (spell p a) ts) (spell p b) n _
        (λ s v. in_parens (is_compound_base a) (spell p a) n s (λ k i t u. fits a k t (omega (arith, h, i)) u) (omega (arith, h)) v)
        (λ s v. fits b (n + 1) s (omega (arith, h)) v) (omega (arith, h))
        (in_round (spell_items p xs) n r (λ s v. fits_items xs (n + 1) s (omega (arith, h)) v) (omega (arith, h)) w)
    fits (Tree.call f xs) n r h w =
        plain _ n _ refl (omega (arith, h))
        (in_round (spell_items p xs) n r (λ s v. fits_items xs (n + 1) s (omega (arith, h)) v) (omega (arith, h)) w)
    fits (Tree.assign a b) n r h w =
        in_parens (is_compound a) (spell p a) n _ (λ k i s v. fits a k s (omega (arith, h, i)) v) (omega (arith, h))
        (plain _ n _ refl (omega (arith, h)) (fits b n r (omega (arith, h)) w))
    fits (Tree.catch a c) n r h w =
        plain _ n _ refl (omega (arith, h)) (fits a n _ (omega (arith, h))
        (plain _ n _ refl (omega (arith, h)) (fits_codes c n _ (omega (arith, h)) (plain _ n r refl (omega (arith, h)) w))))
    fits (Tree.catch_or a c b) n r h w =
        plain _ n _ refl (omega (arith, h)) (fits a n _ (omega (arith, h))
        (plain _ n _ refl (omega (arith, h)) (fits_codes c n _ (omega (arith, h))
        (plain _ n _ refl (omega (arith, h)) (fits b n _ (omega (arith, h)) (plain _ n r refl (omega (arith, h)) w))))))

    fits_items : (xs : Items) (n : ℕ) (r : List Token) → n + items_height xs ≤ m → Within m n r → Within m n (spell_items p xs r)
    fits_items Tree.no_items n r h w = w
    fits_items (Tree.element a xs) n r h w = fits a n _ (omega (arith, h)) (comma_plain xs n _ (omega (arith, h)) (fits_items xs n r (omega (arith, h)) w))
    fits_items (Tree.splice a xs) n r h w = plain _ n _ refl (omega (arith, h)) (fits a n _ (omega (arith, h)) (comma_plain xs n _ (omega (arith, h)) (fits_items xs n r (omega (arith, h)) w)))
    fits_items (Tree.optional s xs) n r h w = plain _ n _ refl (omega (arith, h)) (plain _ n _ refl (omega (arith, h)) (comma_plain xs n _ (omega (arith, h)) (fits_items xs n r (omega (arith, h)) w)))
    fits_items (Tree.defaulted s a xs) n r h w = plain _ n _ refl (omega (arith, h)) (plain _ n _ refl (omega (arith, h)) (plain _ n _ refl (omega (arith, h)) (fits a n _ (omega (arith, h)) (comma_plain xs n _ (omega (arith, h)) (fits_items xs n r (omega (arith, h)) w)))))

    fits_codes : (c : Codes) (n : ℕ) (r : List Token) → n + codes_height c ≤ m → Within m n r → Within m n (spell_codes p c r)
    fits_codes Tree.any_error n r h w = plain _ n r refl (omega (arith, h)) w
    fits_codes (Tree.listed_errors xs) n r h w = fits_items xs n r h w

  -- the condition of a statement
  condition : (a : Expr) (n : ℕ) (r : List Token) → n + 1 + height a ≤ m → Within m n r → Within m n (token.Sign sign.LeftParen ∷ spell p a (token.Sign sign.RightParen ∷ r))
  condition a n r h w = in_round (spell p a) n r (λ s v. fits a (n + 1) s h v) (omega (arith, h)) w

  mutual
    fits_statement : (s : Stmt) (n : ℕ) (r : List Token) → n + statement_height s ≤ m → Within m n r → Within m n (spell_statement p s r)
    fits_statement Tree.return_nothing n r h w = plain _ n _ refl (omega (arith, h)) (plain _ n r refl (omega (arith, h)) w)
    fits_statement (Tree.returns a) n r h w = plain _ n _ refl (omega (arith, h)) (fits a n _ (omega (arith, h)) (plain _ n r refl (omega (arith, h)) w))
    fits_statement (Tree.performs a) n r h w = fits a n _ (omega (arith, h)) (plain _ n r refl (omega (arith, h)) w)
    fits_statement (Tree.branches a b c) n r h w =
        plain _ n _ refl (omega (arith, h)) (condition a n _ (omega (arith, h))
        (fits_block b n _ (omega (arith, h)) (fits_arms c n _ (omega (arith, h)) (plain _ n r refl (omega (arith, h)) w))))
    fits_statement (Tree.for_list s a b) n r h w =
        plain _ n _ refl (omega (arith, h)) (plain _ n _ refl (omega (arith, h)) (plain _ n _ refl (omega (arith, h)) (condition a n _ (omega (arith, h))
        (fits_block b n _ (omega (arith, h)) (plain _ n r refl (omega (arith, h)) w)))))
    fits_statement (Tree.for_range s a b c) n r h w =
        plain _ n _ refl (omega (arith, h)) (plain _ n _ refl (omega (arith, h)) (plain _ n _ refl (omega (arith, h))
        (in_square (λ t. spell p a (token.Sign sign.DotDot ∷ spell p b t)) n _ (λ t v. fits a (n + 1) _ (omega (arith, h)) (plain _ (n + 1) _ refl (omega (arith, h)) (fits b (n + 1) t (omega (arith, h)) v))) (omega (arith, h))
        (fits_block c n _ (omega (arith, h)) (plain _ n r refl (omega (arith, h)) w)))))
    fits_statement (Tree.while_loop l a b) n r h w =
        plain _ n _ refl (omega (arith, h)) (label_plain l n _ (omega (arith, h)) (condition a n _ (omega (arith, h))
        (fits_block b n _ (omega (arith, h)) (plain _ n r refl (omega (arith, h)) w))))
    fits_statement (Tree.breaks l) n r h w = plain _ n _ refl (omega (arith, h)) (label_plain l n _ (omega (arith, h)) (plain _ n r refl (omega (arith, h)) w))
    fits_statement (Tree.continues l) n r h w = plain _ n _ refl (omega (arith, h)) (label_plain l n _ (omega (arith, h)) (plain _ n r refl (omega (arith, h)) w))
    fits_statement (Tree.try_except b c) n r h w =
        plain _ n _ refl (omega (arith, h)) (fits_block b n _ (omega (arith, h)) (fits_handlers c n _ (omega (arith, h)) (plain _ n r refl (omega (arith, h)) w)))
    fits_statement (Tree.try_finally b c) n r h w =
        plain _ n _ refl (omega (arith, h)) (fits_block b n _ (omega (arith, h)) (plain _ n _ refl (omega (arith, h)) (fits_block c n _ (omega (arith, h)) (plain _ n r refl (omega (arith, h)) w))))

    fits_arms : (c : Arms) (n : ℕ) (r : List Token) → n + 1 + arms_height c ≤ m → Within m n r → Within m n (spell_arms p c r)
    fits_arms Tree.no_else n r h w = w
    fits_arms (Tree.otherwise b) n r h w = plain _ n _ refl (omega (arith, h)) (fits_block b n r (omega (arith, h)) w)
    fits_arms (Tree.elseif a b c) n r h w =
        plain _ n _ refl (omega (arith, h)) (condition a n _ (omega (arith, h))
        (fits_block b n _ (omega (arith, h)) (fits_arms c n r (omega (arith, h)) w)))

    fits_handlers : (c : Handlers) (n : ℕ) (r : List Token) → n + 1 + handlers_height c ≤ m → Within m n r → Within m n (spell_handlers p c r)
    fits_handlers Tree.no_handler n r h w = w
    fits_handlers (Tree.handler l c b d) n r h w =
        plain _ n _ refl (omega (arith, h)) (label_plain l n _ (omega (arith, h))
        (in_round (spell_codes p c) n _ (λ s v. fits_codes c (n + 1) s (omega (arith, h)) v) (omega (arith, h))
        (fits_block b n _ (omega (arith, h)) (fits_handlers d n r (omega (arith, h)) w))))

    fits_block : (b : Block) (n : ℕ) (r : List Token) → n + block_height b ≤ m → Within m n r → Within m n (spell_block p b r)
    fits_block Tree.no_statement n r h w = w
    fits_block (Tree.then s ss) n r h w = fits_statement s n _ (omega (arith, h)) (fits_block ss n r (omega (arith, h)) w)

-- the brackets that are open are no more than the nodes on a path
pub open_by_height : (p : Parentheses) (b : Block) → most_open (spell_block p b []) ≤ block_height b
open_by_height p b = (fits_block p {m = block_height b} b 0 [] (omega arith) (record { most = omega arith })).most
