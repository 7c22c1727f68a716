-- If only a rule stops a reading, tokens after the next one bring it to an end in the loose grammar.
use Rattle.std.proofs.Common.{ℕ, List, [], ◌∷◌, ◌≡◌, refl, sym, subst, Bool, true, false, Option, Some, None, is_some, unwrap_or}
use Rattle.moo_syntax_token.specs.declared.sign.Sign.{Sign}
use Rattle.moo_syntax_token.specs.declared.sign.Sign.TheVariants as sign
use Rattle.moo_syntax_token.specs.declared.keyword.Keyword.{Keyword}
use Rattle.moo_syntax_token.specs.declared.token.Token.{Token}
use Rattle.moo_syntax_token.specs.declared.token.Token.TheVariants as token
use Rattle.moo_syntax_ast.specs.Tree as tree
use Rattle.moo_syntax_grammar.specs.Tokens.{is_sign, is_keyword, name_at, next_passes}
use Rattle.moo_syntax_grammar.specs.Rules.{loose}
use Rattle.moo_syntax_grammar.specs.Grammar.{Sort, Of, Kind, Derives, sort, expression, conditional, chain, more, operand, power, unary, postfix, suffixes, primary, arguments, members, codes, statement, statements, arms, handlers, label, in_parens}
use Rattle.moo_syntax_grammar.specs.Machine.{Reading, give, refuse, forbid, take, peek, phrase}
use Rattle.moo_syntax_grammar.specs.Predictive.{allowed, if_sign, expect, if_keyword, expect_keyword, if_name}
use Rattle.moo_syntax_grammar.proofs.Leads.{Fact, sign_is, keyword_is}

-- Tokens that may follow a phrase of the kind, before any rest. An `=` follows a phrase that may be before one, since
-- only there braces may have `?` pieces.
abbrev pub after : Kind → List Token → List Token
after (expression i) r = r
after (conditional i) r = token.Sign sign.Assign ∷ r
after (chain i l) r = token.Sign sign.Assign ∷ r
after (more i l a) r = token.Sign sign.Assign ∷ r
after (operand i l) r = token.Sign sign.Assign ∷ r
after (power i) r = token.Sign sign.Assign ∷ r
after (unary i) r = token.Sign sign.Assign ∷ r
after (postfix i) r = token.Sign sign.Assign ∷ r
after (suffixes i a) r = token.Sign sign.Assign ∷ r
after (primary i) r = token.Sign sign.Assign ∷ r
after (arguments i o) r = r
after (members i o) r = r
after (codes i) r = r
after (statement ls) r = r
after (statements ls) r = r
after (arms ls) r = r
after (handlers ls) r = r
after label r = r
after in_parens r = r

-- tokens before each rest that have the tree, and the fact
pub record Ending (s : Sort) (close : List Token → List Token) (Q : Fact s) : Type 0 where
  pub tokens : List Token → List Token
  pub given : Of s
  pub holds : (r : List Token) → Q (tokens r) given (close r)

-- an ending of the reading after a phrase
pub record Tail (s : Sort) (k : Kind) (a : Of (sort k)) (close : List Token → List Token) (Q : Fact s) : Type 0 where
  pub rest : List Token → List Token
  pub given : Of s
  pub holds : (r ts : List Token) → Derives loose k ts a (after k (rest r)) → Q ts given (close r)

-- wherever the reading is stopped by a rule, or within a phrase, it can be brought to an end
abbrev pub Ends : (s : Sort) → (List Token → List Token) → Reading s → Fact s → Type 0
Ends s close (give e) Q = Unit {0}
Ends s close refuse Q = Unit {0}
Ends s close forbid Q = (x : Token) → Ending s close (λ ts e r. Q (x ∷ ts) e r)
Ends s close (take p) Q = (x : Token) → Ends s close (p x) (λ ts e r. Q (x ∷ ts) e r)
Ends s close (peek f p q) Q = Ends s close p (λ ts e r. next_passes f ts ≡ true → Q ts e r) × Ends s close q (λ ts e r. next_passes f ts ≡ false → Q ts e r)
Ends s close (phrase k p) Q = ((a : Of (sort k)) → Tail s k a close Q) × ((a : Of (sort k)) → Ends s close (p a) (λ m e r. (ts : List Token) → Derives loose k ts a m → Q ts e r))

pub ending : {s : Sort} {close : List Token → List Token} {Q : Fact s} (tokens : List Token → List Token) (e : Of s) → ((r : List Token) → Q (tokens r) e (close r)) → Ending s close Q
ending tokens e h = record { tokens = tokens; given = e; holds = h }

pub tail : {s : Sort} {k : Kind} {a : Of (sort k)} {close : List Token → List Token} {Q : Fact s} (rest : List Token → List Token) (e : Of s) → ((r ts : List Token) → Derives loose k ts a (after k (rest r)) → Q ts e (close r)) → Tail s k a close Q
tail rest e h = record { rest = rest; given = e; holds = h }

pub ends_with_more : (s : Sort) (close : List Token → List Token) (p : Reading s) (Q R : Fact s) → ((ts : List Token) (e : Of s) (r : List Token) → Q ts e r → R ts e r) → Ends s close p Q → Ends s close p R
ends_with_more s close (give e) Q R h m = tt
ends_with_more s close refuse Q R h m = tt
ends_with_more s close forbid Q R h m = λ x. let t = m x in ending t.tokens t.given (λ r. h (x ∷ t.tokens r) t.given (close r) (t.holds r))
ends_with_more s close (take p) Q R h m = λ x. ends_with_more s close (p x) _ _ (λ ts e r. h (x ∷ ts) e r) (m x)
ends_with_more s close (peek f p q) Q R h m = (ends_with_more s close p _ _ (λ ts e r n y. h ts e r (n y)) m.0, ends_with_more s close q _ _ (λ ts e r n y. h ts e r (n y)) m.1)
ends_with_more s close (phrase k p) Q R h m = (
  λ a. let t = m.0 a in tail t.rest t.given (λ r ts d. h ts t.given (close r) (t.holds r ts d)),
  λ a. ends_with_more s close (p a) _ _ (λ ts e r n us d. h us e r (n us d)) (m.1 a),
)

-- a tree of the sort
any_tree : (s : Sort) → Of s
any_tree Sort.expr = tree.length_mark
any_tree Sort.items = tree.no_items
any_tree Sort.errors = tree.any_error
any_tree Sort.stmt = tree.return_nothing
any_tree Sort.block = tree.no_statement
any_tree Sort.arm_list = tree.no_else
any_tree Sort.handler_list = tree.no_handler
any_tree Sort.label_name = None

ends_with_all : (s : Sort) (close : List Token → List Token) (p : Reading s) (Q : Fact s) → ((ts : List Token) (e : Of s) (r : List Token) → Q ts e r) → Ends s close p Q
ends_with_all s close (give e) Q h = tt
ends_with_all s close refuse Q h = tt
ends_with_all s close forbid Q h = λ x. ending (λ r. r) (any_tree s) (λ r. h (x ∷ r) (any_tree s) (close r))
ends_with_all s close (take p) Q h = λ x. ends_with_all s close (p x) _ (λ ts e r. h (x ∷ ts) e r)
ends_with_all s close (peek f p q) Q h = (ends_with_all s close p _ (λ ts e r y. h ts e r), ends_with_all s close q _ (λ ts e r y. h ts e r))
ends_with_all s close (phrase k p) Q h = (
  λ a. tail (λ r. r) (any_tree s) (λ r ts d. h ts (any_tree s) (close r)),
  λ a. ends_with_all s close (p a) _ (λ ts e r us d. h us e r),
)

pub record End (s : Sort) (close : List Token → List Token) (p : Reading s) (Q : Fact s) : Type 0 where
  pub ends : Ends s close p Q

module _ {s : Sort} {close : List Token → List Token} where
  pub gives_end : {e : Of s} {Q : Fact s} → End s close (give e) Q
  gives_end = record { ends = tt }

  pub refuses_end : {Q : Fact s} → End s close refuse Q
  refuses_end = record { ends = tt }

  pub phrase_end : {k : Kind} {p : Of (sort k) → Reading s} {Q : Fact s} → ((a : Of (sort k)) → Tail s k a close Q) → ((a : Of (sort k)) → End s close (p a) (λ m e r. (ts : List Token) → Derives loose k ts a m → Q ts e r)) → End s close (phrase k p) Q
  phrase_end m n = record { ends = (m, λ a. (n a).ends) }

  -- a phrase at the end
  pub last_end : {k : Kind} {Q : Fact s} (f : Of (sort k) → Of s) → ((a : Of (sort k)) (r ts : List Token) → Derives loose k ts a (after k r) → Q ts (f a) (close r)) → End s close (phrase k (λ a. give (f a))) Q
  last_end f m = phrase_end (λ a. tail (λ r. r) (f a) (m a)) (λ a. gives_end)

  pub peek_end : {f : Token → Bool} {p q : Reading s} {Q : Fact s} → End s close p (λ ts e r. next_passes f ts ≡ true → Q ts e r) → End s close q Q → End s close (peek f p q) Q
  peek_end {q = q} m n = record { ends = (m.ends, ends_with_more s close q _ _ (λ ts e r w y. w) n.ends) }

  pub taken_end : (m : Sign) {p : Reading s} {Q : Fact s} → End s close p (λ ts e r. Q (token.Sign m ∷ ts) e r) → End s close (take (λ _. p)) (λ ts e r. next_passes (is_sign m) ts ≡ true → Q ts e r)
  taken_end m {p} {Q} n = record { ends = λ x. ends_with_more s close p _ _ (λ ts e r w y. subst (λ v. Q (v ∷ ts) e r) (sym (sign_is m x y)) w) n.ends }

  pub sign_end : (m : Sign) {p q : Reading s} {Q : Fact s} → End s close p (λ ts e r. Q (token.Sign m ∷ ts) e r) → End s close q Q → End s close (if_sign m p q) Q
  sign_end m n o = peek_end (taken_end m n) o

  pub expect_end : (m : Sign) {p : Reading s} {Q : Fact s} → End s close p (λ ts e r. Q (token.Sign m ∷ ts) e r) → End s close (expect m p) Q
  expect_end m n = sign_end m n refuses_end

  pub keyword_taken_end : (k : Keyword) {p : Reading s} {Q : Fact s} → End s close p (λ ts e r. Q (token.Keyword k ∷ ts) e r) → End s close (take (λ _. p)) (λ ts e r. next_passes (is_keyword k) ts ≡ true → Q ts e r)
  keyword_taken_end k {p} {Q} n = record { ends = λ x. ends_with_more s close p _ _ (λ ts e r w y. subst (λ v. Q (v ∷ ts) e r) (sym (keyword_is k x y)) w) n.ends }

  pub keyword_end : (k : Keyword) {p q : Reading s} {Q : Fact s} → End s close p (λ ts e r. Q (token.Keyword k ∷ ts) e r) → End s close q Q → End s close (if_keyword k p q) Q
  keyword_end k n o = peek_end (keyword_taken_end k n) o

  pub needed_end : (k : Keyword) {p : Reading s} {Q : Fact s} → End s close p (λ ts e r. Q (token.Keyword k ∷ ts) e r) → End s close (expect_keyword k p) Q
  needed_end k n = keyword_end k n refuses_end

  -- a sign that a rule may stop
  pub ruled_end : (m : Sign) (b : Bool) {p : Reading s} {Q : Fact s} → Ending s close (λ ts e r. Q (token.Sign m ∷ ts) e r) → End s close p (λ ts e r. next_passes (is_sign m) ts ≡ true → Q ts e r) → End s close (allowed b p) (λ ts e r. next_passes (is_sign m) ts ≡ true → Q ts e r)
  ruled_end m true t o = o
  ruled_end m false {Q = Q} t o = record { ends = λ x. ending t.tokens t.given (λ r y. subst (λ v. Q (v ∷ t.tokens r) t.given (close r)) (sym (sign_is m x y)) (t.holds r)) }

  pub ruled_keyword_end : (k : Keyword) (b : Bool) {p : Reading s} {Q : Fact s} → Ending s close (λ ts e r. Q (token.Keyword k ∷ ts) e r) → End s close p (λ ts e r. next_passes (is_keyword k) ts ≡ true → Q ts e r) → End s close (allowed b p) (λ ts e r. next_passes (is_keyword k) ts ≡ true → Q ts e r)
  ruled_keyword_end k true t o = o
  ruled_keyword_end k false {Q = Q} t o = record { ends = λ x. ending t.tokens t.given (λ r y. subst (λ v. Q (v ∷ t.tokens r) t.given (close r)) (sym (keyword_is k x y)) (t.holds r)) }

  forbidden : (Q : Fact s) → ((n : List ℕ) → Ending s close (λ ts e r. Q (token.Name n ∷ ts) e r)) → (x : Token) → Ending s close (λ ts e r. next_passes (λ x. is_some (name_at x)) (x ∷ ts) ≡ true → Q (x ∷ ts) e r)
  forbidden Q m (token.Name n) = let t = m n in ending t.tokens t.given (λ r y. t.holds r)
  forbidden Q m _ = ending (λ r. r) (any_tree s) (λ r y. absurd cc)

  -- a name that a rule stops
  pub forbidden_name_end : {q : Reading s} {Q : Fact s} → ((n : List ℕ) → Ending s close (λ ts e r. Q (token.Name n ∷ ts) e r)) → End s close q Q → End s close (peek (λ x. is_some (name_at x)) forbid q) Q
  forbidden_name_end {Q = Q} m o = peek_end (record { ends = forbidden Q m }) o

  name_taken : (p : List ℕ → Reading s) (Q : Fact s) → ((n : List ℕ) → End s close (p n) (λ ts e r. Q (token.Name n ∷ ts) e r)) → (x : Token) → Ends s close (p (unwrap_or (name_at x) [])) (λ ts e r. next_passes (λ x. is_some (name_at x)) (x ∷ ts) ≡ true → Q (x ∷ ts) e r)
  name_taken p Q m (token.Name n) = ends_with_more s close (p n) _ _ (λ ts e r w y. w) (m n).ends
  name_taken p Q m _ = ends_with_all s close (p []) _ (λ ts e r y. absurd cc)

  pub name_end : {p : List ℕ → Reading s} {q : Reading s} {Q : Fact s} → ((n : List ℕ) → End s close (p n) (λ ts e r. Q (token.Name n ∷ ts) e r)) → End s close q Q → End s close (if_name p q) Q
  name_end {p} {Q = Q} m o = peek_end (record { ends = name_taken p Q m }) o

  option_taken : {A : Type 0} (f : Token → Option A) (d : A) (p : A → Reading s) (Q : Fact s) → ((x : Token) (l : A) → f x ≡ Some l → End s close (p l) (λ ts e r. Q (x ∷ ts) e r)) → (x : Token) (o : Option A) → f x ≡ o → Ends s close (p (unwrap_or o d)) (λ ts e r. is_some o ≡ true → Q (x ∷ ts) e r)
  option_taken f d p Q m x (Some l) is = ends_with_more s close (p l) _ _ (λ ts e r w y. w) (m x l is).ends
  option_taken f d p Q m x None is = ends_with_all s close (p d) _ (λ ts e r y. absurd cc)

  pub option_end : {A : Type 0} {f : Token → Option A} (d : A) {p : A → Reading s} {q : Reading s} {Q : Fact s} → ((x : Token) (l : A) → f x ≡ Some l → End s close (p l) (λ ts e r. Q (x ∷ ts) e r)) → End s close q Q → End s close (peek (λ x. is_some (f x)) (take (λ x. p (unwrap_or (f x) d))) q) Q
  option_end {f = f} d {p = p} {Q = Q} m o = peek_end (record { ends = λ x. option_taken f d p Q m x (f x) refl }) o
