-- After each token that a reading takes, the loose grammar can bring it to an end.
use Rattle.std.proofs.Common.{ℕ, List, [], ◌≡◌, refl, Bool, true, false, Option}
use Rattle.moo_syntax_token.specs.declared.sign.Sign.TheVariants as sign
use Rattle.moo_syntax_token.specs.declared.keyword.Keyword.TheVariants as keyword
use Rattle.moo_syntax_token.specs.declared.token.Token.{Token}
use Rattle.moo_syntax_token.specs.declared.token.Token.TheVariants.{Name, Keyword, Sign}
use Rattle.moo_syntax_ast.specs.Tree.{Expr, Stmt, breaks, continues}
use Rattle.moo_syntax_grammar.specs.declared.level.Level.TheVariants.{Logic, Relation, Sum, Product}
use Rattle.moo_syntax_grammar.specs.Tokens.{is_sign, next_passes}
use Rattle.moo_syntax_grammar.specs.Rules.{loose}
use Rattle.moo_syntax_grammar.specs.Grammar
use Rattle.moo_syntax_grammar.specs.Grammar.{Sort, Of, Kind, sort, has_optional}
use Rattle.moo_syntax_grammar.specs.Machine.{Reading, give, refuse, forbid, take, peek, phrase}
use Rattle.moo_syntax_grammar.specs.Predictive.{grammar, mark, after_brace, after_in, after_jump}
use Rattle.moo_syntax_grammar.proofs.Endings.{after}
use Rattle.moo_syntax.specs.Outgrown.{CanEnd, can_give, can_read, can_take, can_miss}

-- Some tokens bring the reading to an end: its own, or an `=` that comes after it.
pub data CanGoOn (close : List Token → List Token) : (s : Sort) → Reading s → Type 0 where
  by_tokens : {s : Sort} {p : Reading s} {o : Option Token} → CanEnd s p o → CanGoOn close s p
  by_assign : {e : Expr} → ((r : List Token) → next_passes (is_sign sign.Assign) (close r) ≡ true) → CanGoOn close Sort.expr (peek (is_sign sign.Assign) (give e) refuse)

-- The reading can go on after each token that it takes.
abbrev pub Opens : (s : Sort) → (List Token → List Token) → Reading s → Type 0
Opens s close (give e) = Unit {0}
Opens s close refuse = Unit {0}
Opens s close forbid = Unit {0}
Opens s close (take p) = (x : Token) → CanGoOn close s (p x) × Opens s close (p x)
Opens s close (peek f p q) = Opens s close p × Opens s close q
Opens s close (phrase k p) = (a : Of (sort k)) → Opens s close (p a)

mark_opens : (i : Bool) (close : List Token → List Token) → Opens Sort.expr close (mark i)
mark_opens true close = tt
mark_opens false close = tt

brace_opens : (b : Bool) (e : Expr) (close : List Token → List Token) → ((r : List Token) → next_passes (is_sign sign.Assign) (close r) ≡ true) → CanGoOn close Sort.expr (after_brace b e) × Opens Sort.expr close (after_brace b e)
brace_opens true e close w = (by_assign w, (tt, tt))
brace_opens false e close w = (by_tokens can_give, tt)

in_opens : (ls : List (Option (List ℕ))) (x : List ℕ) (close : List Token → List Token) → CanGoOn close Sort.stmt (after_in ls x) × Opens Sort.stmt close (after_in ls x)
in_opens ls x close = (
  by_tokens (can_take (Sign sign.LeftBracket) refl can_read),
  (
    (λ w. (by_tokens can_read, λ a. ((λ v. (by_tokens can_read, λ b. ((λ u. (by_tokens can_read, λ c. ((λ t. (by_tokens can_give, tt)), tt))), tt))), tt))),
    λ a b. ((λ v. (by_tokens can_give, tt)), tt),
  ),
)

jump_opens : (ls : List (Option (List ℕ))) (f : Option (List ℕ) → Stmt) (close : List Token → List Token) → CanGoOn close Sort.stmt (after_jump loose ls f) × Opens Sort.stmt close (after_jump loose ls f)
jump_opens ls f close = (
  by_tokens (can_miss {x = Sign sign.Semicolon} refl (can_miss refl (can_take (Sign sign.Semicolon) refl can_give))),
  ((λ y. (by_tokens (can_take (Sign sign.Semicolon) refl can_give), ((λ z. (by_tokens can_give, tt)), tt))), (tt, ((λ z. (by_tokens can_give, tt)), tt))),
)

pub all_open : (k : Kind) → Opens (sort k) (after k) (grammar loose k)
unfolding grammar
all_open (Grammar.expression i) = λ a. ((λ x. (by_tokens can_read, λ b. tt)), tt)
all_open (Grammar.conditional i) = λ a. ((λ x. (by_tokens can_read, λ b. ((λ y. (by_tokens can_read, λ c. tt)), tt))), tt)
all_open (Grammar.chain i l) = λ a e. tt
all_open (Grammar.more i l a) = ((λ x. (by_tokens can_read, λ b e. tt)), tt)
all_open (Grammar.operand i Logic) = λ e. tt
all_open (Grammar.operand i Relation) = λ e. tt
all_open (Grammar.operand i Sum) = λ e. tt
all_open (Grammar.operand i Product) = λ e. tt
all_open (Grammar.power i) = λ a. ((λ x. (by_tokens can_read, λ b. tt)), tt)
all_open (Grammar.unary i) = ((λ x. (by_tokens can_read, λ a. tt)), ((λ x. (by_tokens can_read, λ a. tt)), λ a. tt))
all_open (Grammar.postfix i) = λ a e. tt
all_open (Grammar.suffixes i a) = (
  (λ x. (
    by_tokens (can_take (Name []) refl can_read),
    ((λ y. (by_tokens can_read, λ e. tt)), ((λ y. (by_tokens can_read, λ b. ((λ z. (by_tokens can_read, λ e. tt)), tt))), tt)),
  )),
  (
    (λ x. (
      by_tokens (can_take (Name []) refl (can_take (Sign sign.LeftParen) refl can_read)),
      (
        (λ y. (by_tokens (can_take (Sign sign.LeftParen) refl can_read), ((λ z. (by_tokens can_read, λ xs. ((λ w. (by_tokens can_read, λ e. tt)), tt))), tt))),
        (
          (λ y. (
            by_tokens can_read,
            λ b. ((λ z. (by_tokens (can_take (Sign sign.LeftParen) refl can_read), ((λ w. (by_tokens can_read, λ xs. ((λ v. (by_tokens can_read, λ e. tt)), tt))), tt))), tt),
          )),
          tt,
        ),
      ),
    )),
    (
      (λ x. (by_tokens can_read, λ b. ((λ y. (by_tokens can_read, λ c. ((λ z. (by_tokens can_read, λ e. tt)), tt))), ((λ y. (by_tokens can_read, λ e. tt)), tt)))),
      tt,
    ),
  ),
)
all_open (Grammar.primary i) = (
  (λ x. (by_tokens can_give, tt)),
  (
    (λ x. (by_tokens (can_take (Sign sign.LeftParen) refl can_read), ((λ y. (by_tokens can_read, λ xs. ((λ z. (by_tokens can_give, tt)), tt))), tt))),
    (
      (λ x. (by_tokens can_read, λ a. ((λ y. (by_tokens can_give, tt)), tt))),
      (
        (λ x. (by_tokens can_read, λ xs. ((λ y. brace_opens (has_optional xs) _ _ (λ r. refl)), tt))),
        (
          (λ x. (
            by_tokens (can_take (Name []) refl (can_take (Sign sign.LeftParen) refl can_read)),
            (
              (λ y. (by_tokens (can_take (Sign sign.LeftParen) refl can_read), ((λ z. (by_tokens can_read, λ xs. ((λ w. (by_tokens can_give, tt)), tt))), tt))),
              mark_opens i _,
            ),
          )),
          (
            (λ x. (
              by_tokens can_read,
              λ a. ((λ y. (by_tokens can_read, λ c. ((λ z. (by_tokens can_read, λ b. ((λ w. (by_tokens can_give, tt)), tt))), ((λ z. (by_tokens can_give, tt)), tt)))), tt),
            )),
            tt,
          ),
        ),
      ),
    ),
  ),
)
all_open (Grammar.codes i) = ((λ x. (by_tokens can_give, tt)), λ xs. tt)
all_open (Grammar.arguments i o) = (tt, λ xs. tt)
all_open (Grammar.members i true) = (
  (λ x. (by_tokens can_read, λ a. ((λ y. (by_tokens can_read, λ xs. tt)), tt))),
  (
    (λ x. (
      by_tokens (can_take (Name []) refl (can_take (Sign sign.Assign) refl can_read)),
      (
        (λ y. (
          by_tokens (can_take (Sign sign.Assign) refl can_read),
          ((λ z. (by_tokens can_read, λ a. ((λ w. (by_tokens can_read, λ xs. tt)), tt))), ((λ z. (by_tokens can_read, λ xs. tt)), tt)),
        )),
        tt,
      ),
    )),
    λ a. ((λ y. (by_tokens can_read, λ xs. tt)), tt),
  ),
)
all_open (Grammar.members i false) = (
  (λ x. (by_tokens can_read, λ a. ((λ y. (by_tokens can_read, λ xs. tt)), tt))),
  λ a. ((λ y. (by_tokens can_read, λ xs. tt)), tt),
)
all_open (Grammar.statement ls) = (
  (λ x. (by_tokens can_read, λ a b c. ((λ y. (by_tokens can_give, tt)), tt))),
  (
    (λ x. (
      by_tokens (can_take (Name []) refl (can_take (Keyword keyword.In) refl (can_take (Sign sign.LeftBracket) refl can_read))),
      ((λ y. (by_tokens (can_take (Keyword keyword.In) refl (can_take (Sign sign.LeftBracket) refl can_read)), ((λ z. in_opens ls _ _), tt))), tt),
    )),
    (
      (λ x. (by_tokens can_read, λ l a b. ((λ y. (by_tokens can_give, tt)), tt))),
      (
        (λ x. jump_opens ls breaks _),
        (
          (λ x. jump_opens ls continues _),
          (
            (λ x. (by_tokens (can_take (Sign sign.Semicolon) refl can_give), ((λ y. (by_tokens can_give, tt)), λ a. ((λ y. (by_tokens can_give, tt)), tt)))),
            (
              (λ x. (by_tokens can_read, λ b. ((λ y. (by_tokens can_read, λ c. ((λ z. (by_tokens can_give, tt)), tt))), λ h. ((λ z. (by_tokens can_give, tt)), tt)))),
              λ a. ((λ y. (by_tokens can_give, tt)), tt),
            ),
          ),
        ),
      ),
    ),
  ),
)
all_open (Grammar.statements ls) = (((λ x. (by_tokens can_read, λ ss. tt)), λ s ss. tt), tt)
all_open (Grammar.arms ls) = ((λ x. (by_tokens can_read, λ a b c. tt)), ((λ x. (by_tokens can_read, λ b. tt)), tt))
all_open (Grammar.handlers ls) = ((λ x. (by_tokens can_read, λ l. ((λ y. (by_tokens can_read, λ c. ((λ z. (by_tokens can_read, λ b. ((λ h. tt), tt))), tt))), tt))), tt)
all_open Grammar.in_parens = ((λ x. (by_tokens can_read, λ a. ((λ y. (by_tokens can_give, tt)), tt))), tt)
all_open Grammar.label = ((λ x. (by_tokens can_give, tt)), tt)
