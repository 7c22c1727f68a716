-- Readings of the grammar, with what the tokens before each place say of it, up to where a rule isn't kept.
use Rattle.std.proofs.Common.{ℕ, List, [], ◌∷◌, ◌++◌, ◌≡◌, refl, sym, ◌∙◌, ap, subst, Bool, true, false, Option, Some, None, is_some, unwrap_or}
use Rattle.std.proofs.lemmas.List.{append_assoc}
use Rattle.moo_syntax_token.specs.declared.sign.Sign.{Sign}
use Rattle.moo_syntax_token.specs.declared.keyword.Keyword.{Keyword}
use Rattle.moo_syntax_token.specs.declared.token.Token.{Token}
use Rattle.moo_syntax_token.specs.declared.token.Token.TheVariants as token
use Rattle.moo_syntax_ast.specs.Tree.{Expr}
use Rattle.moo_syntax_grammar.specs.Rules.{Rules, may_assign, may_jump}
use Rattle.moo_syntax_grammar.specs.Tokens.{is_sign, is_keyword, name_at, next_passes}
use Rattle.moo_syntax_grammar.specs.Grammar.{Sort, Of, Kind, Derives, sort, expression, conditional, chain, more, operand, power, unary, postfix, suffixes, primary, arguments, members, codes, statement, statements, arms, handlers, label, in_parens}
use Rattle.moo_syntax_grammar.specs.Machine.{Reading, give, refuse, forbid, take, peek, phrase}
use Rattle.moo_syntax_grammar.specs.Predictive.{allowed, if_sign, expect, if_keyword, expect_keyword, if_name}
use Rattle.moo_syntax_grammar.proofs.Leads.{sign_is, keyword_is}
use Rattle.moo_syntax.specs.Places.{is_jump}
use Rattle.moo_syntax.specs.Ground.{Ground, of_value, outside, naming_after, loops_after, ground_after}

-- a place among the tokens
pub record Place (all : List Token) : Type 0 where
  pub front : List Token
  pub rest : List Token
  pub whole : front ++ rest ≡ all

abbrev pub ground : {all : List Token} → Place all → Ground
ground p = ground_after outside p.front

-- an expression may begin
abbrev pub IsFree : Ground → Type 0
IsFree g = g.naming ≡ of_value

-- the place after the next token
abbrev pub after : {all : List Token} (p : Place all) (x : Token) (r : List Token) → p.rest ≡ x ∷ r → Place all
after p x r e = record { front = p.front ++ x ∷ []; rest = r; whole = append_assoc p.front (x ∷ []) r ∙ ap (λ v. p.front ++ v) (sym e) ∙ p.whole }

-- the ground after a token
abbrev pub stepped : Ground → Token → Ground
stepped g x = record { naming = naming_after x; loops = loops_after g x }

ground_push : (g : Ground) (ts : List Token) (x : Token) → ground_after g (ts ++ x ∷ []) ≡ stepped (ground_after g ts) x
ground_push g [] x = refl
ground_push g (y ∷ ts) x = ground_push (stepped g y) ts x

-- a rule isn't kept at the place
pub data Wrong (g : Rules) (all : List Token) (p : Place all) : Type 0 where
  at_target : (b : Place all) (i : Bool) (a : Expr) → IsFree (ground b) → Derives g (conditional i) b.rest a p.rest → may_assign g a ≡ false → Wrong g all p
  at_call : (b : Place all) (s : List ℕ) → IsFree (ground b) → b.rest ≡ token.Name s ∷ p.rest → g.functions s ≡ false → Wrong g all p
  at_jump : next_passes is_jump p.rest ≡ true → may_jump g (ground p).loops None ≡ false → Wrong g all p
  at_label : (b : Place all) (x : Token) (s : List ℕ) (r : List Token) → is_jump x ≡ true → b.rest ≡ x ∷ p.rest → p.rest ≡ token.Name s ∷ r → may_jump g (ground p).loops (Some s) ≡ false → Wrong g all p

-- the ground at the beginning of a phrase
abbrev pub Enters : Kind → Ground → Type 0
Enters (expression i) h = IsFree h
Enters (conditional i) h = IsFree h
Enters (chain i l) h = IsFree h
Enters (more i l a) h = Unit {0}
Enters (operand i l) h = IsFree h
Enters (power i) h = IsFree h
Enters (unary i) h = IsFree h
Enters (postfix i) h = IsFree h
Enters (suffixes i a) h = Unit {0}
Enters (primary i) h = IsFree h
Enters (arguments i o) h = IsFree h
Enters (members i o) h = IsFree h
Enters (codes i) h = IsFree h
Enters (statement ls) h = IsFree h × (h.loops ≡ ls)
Enters (statements ls) h = IsFree h × (h.loops ≡ ls)
Enters (arms ls) h = IsFree h × (h.loops ≡ ls)
Enters (handlers ls) h = IsFree h × (h.loops ≡ ls)
Enters label h = Unit {0}
Enters in_parens h = Unit {0}

-- the ground after a label
abbrev pub labelled : Ground → Option (List ℕ) → Ground
labelled g None = g
labelled g (Some x) = stepped g (token.Name x)

-- the ground after a phrase
abbrev pub Leaves : (k : Kind) → Ground → Of (sort k) → Ground → Type 0
Leaves (expression i) h e j = j.loops ≡ h.loops
Leaves (conditional i) h e j = j.loops ≡ h.loops
Leaves (chain i l) h e j = j.loops ≡ h.loops
Leaves (more i l a) h e j = j.loops ≡ h.loops
Leaves (operand i l) h e j = j.loops ≡ h.loops
Leaves (power i) h e j = j.loops ≡ h.loops
Leaves (unary i) h e j = j.loops ≡ h.loops
Leaves (postfix i) h e j = j.loops ≡ h.loops
Leaves (suffixes i a) h e j = j.loops ≡ h.loops
Leaves (primary i) h e j = j.loops ≡ h.loops
Leaves (arguments i o) h e j = j.loops ≡ h.loops
Leaves (members i o) h e j = j.loops ≡ h.loops
Leaves (codes i) h e j = j.loops ≡ h.loops
Leaves (statement ls) h e j = IsFree j × (j.loops ≡ h.loops)
Leaves (statements ls) h e j = IsFree j × (j.loops ≡ h.loops)
Leaves (arms ls) h e j = IsFree j × (j.loops ≡ h.loops)
Leaves (handlers ls) h e j = IsFree j × (j.loops ≡ h.loops)
Leaves label h e j = j ≡ labelled h e
Leaves in_parens h e j = IsFree j × (j.loops ≡ h.loops)

-- wherever the reading ends, the fact holds, and where a rule stops it, that rule isn't kept
abbrev pub Walks : (g : Rules) (all : List Token) (s : Sort) → Reading s → (Of s → Place all → Type 0) → Place all → Type 0
Walks g all s (give e) q p = q e p
Walks g all s refuse q p = Unit {0}
Walks g all s forbid q p = Wrong g all p
Walks g all s (take f) q p = (x : Token) (r : List Token) (e : p.rest ≡ x ∷ r) → Walks g all s (f x) q (after p x r e)
Walks g all s (peek f a b) q p = (next_passes f p.rest ≡ true → Walks g all s a q p) × (next_passes f p.rest ≡ false → Walks g all s b q p)
Walks g all s (phrase k f) q p = Enters k (ground p) × ((a : Of (sort k)) (n : Place all) → Derives g k p.rest a n.rest → Leaves k (ground p) a (ground n) → Walks g all s (f a) q n)

pub record Walk (g : Rules) (all : List Token) (s : Sort) (f : Reading s) (q : Of s → Place all → Type 0) (p : Place all) : Type 0 where
  pub walk : Walks g all s f q p

module _ {g : Rules} {all : List Token} {s : Sort} where
  pub gives_walk : {e : Of s} {q : Of s → Place all → Type 0} {p : Place all} → q e p → Walk g all s (give e) q p
  gives_walk m = record { walk = m }

  pub refuses_walk : {q : Of s → Place all → Type 0} {p : Place all} → Walk g all s refuse q p
  refuses_walk = record { walk = tt }

  pub phrase_walk : {k : Kind} {f : Of (sort k) → Reading s} {q : Of s → Place all → Type 0} {p : Place all} → Enters k (ground p) → ((a : Of (sort k)) (n : Place all) → Derives g k p.rest a n.rest → Leaves k (ground p) a (ground n) → Walk g all s (f a) q n) → Walk g all s (phrase k f) q p
  phrase_walk h m = record { walk = (h, λ a n d l. (m a n d l).walk) }

  pub peek_walk : {f : Token → Bool} {a b : Reading s} {q : Of s → Place all → Type 0} {p : Place all} → (next_passes f p.rest ≡ true → Walk g all s a q p) → (next_passes f p.rest ≡ false → Walk g all s b q p) → Walk g all s (peek f a b) q p
  peek_walk m n = record { walk = (λ h. (m h).walk, λ h. (n h).walk) }

  pub allowed_walk : (b : Bool) {f : Reading s} {q : Of s → Place all → Type 0} {p : Place all} → (b ≡ true → Walk g all s f q p) → (b ≡ false → Wrong g all p) → Walk g all s (allowed b f) q p
  allowed_walk true m n = m refl
  allowed_walk false m n = record { walk = n refl }

  -- a token was taken
  taken : (f : Reading s) (q : Of s → Place all → Type 0) (p : Place all) (y : Token) → ((n : Place all) → p.rest ≡ y ∷ n.rest → ground n ≡ stepped (ground p) y → Walk g all s f q n) → (x : Token) (r : List Token) (e : p.rest ≡ x ∷ r) → x ≡ y → Walks g all s f q (after p x r e)
  taken f q p y m x r e is = (m (after p x r e) (e ∙ ap (λ v. v ∷ r) is) (ground_push outside p.front x ∙ ap (stepped (ground p)) is)).walk

  pub taken_walk : (m : Sign) {f : Reading s} {q : Of s → Place all → Type 0} {p : Place all} → next_passes (is_sign m) p.rest ≡ true → ((n : Place all) → (ground n).naming ≡ naming_after (token.Sign m) → (ground n).loops ≡ (ground p).loops → Walk g all s f q n) → Walk g all s (take (λ _. f)) q p
  taken_walk m {f} {q} {p} h k = record { walk = λ x r e. taken f q p (token.Sign m) (λ n t is. k n (ap (λ v. v.naming) is) (ap (λ v. v.loops) is)) x r e (sign_is m x (subst (λ v. next_passes (is_sign m) v ≡ true) e h)) }

  pub sign_walk : (m : Sign) {a b : Reading s} {q : Of s → Place all → Type 0} {p : Place all} → ((n : Place all) → (ground n).naming ≡ naming_after (token.Sign m) → (ground n).loops ≡ (ground p).loops → Walk g all s a q n) → Walk g all s b q p → Walk g all s (if_sign m a b) q p
  sign_walk m k o = peek_walk (λ h. taken_walk m h k) (λ h. o)

  pub expect_walk : (m : Sign) {a : Reading s} {q : Of s → Place all → Type 0} {p : Place all} → ((n : Place all) → (ground n).naming ≡ naming_after (token.Sign m) → (ground n).loops ≡ (ground p).loops → Walk g all s a q n) → Walk g all s (expect m a) q p
  expect_walk m k = sign_walk m k refuses_walk

  pub keyword_taken_walk : (m : Keyword) {f : Reading s} {q : Of s → Place all → Type 0} {p : Place all} → next_passes (is_keyword m) p.rest ≡ true → ((n : Place all) → p.rest ≡ token.Keyword m ∷ n.rest → ground n ≡ stepped (ground p) (token.Keyword m) → Walk g all s f q n) → Walk g all s (take (λ _. f)) q p
  keyword_taken_walk m {f} {q} {p} h k = record { walk = λ x r e. taken f q p (token.Keyword m) k x r e (keyword_is m x (subst (λ v. next_passes (is_keyword m) v ≡ true) e h)) }

  pub keyword_walk : (m : Keyword) {a b : Reading s} {q : Of s → Place all → Type 0} {p : Place all} → ((n : Place all) → (ground n).naming ≡ naming_after (token.Keyword m) → (ground n).loops ≡ loops_after (ground p) (token.Keyword m) → Walk g all s a q n) → Walk g all s b q p → Walk g all s (if_keyword m a b) q p
  keyword_walk m k o = peek_walk (λ h. keyword_taken_walk m h (λ n t is. k n (ap (λ v. v.naming) is) (ap (λ v. v.loops) is))) (λ h. o)

  pub needed_walk : (m : Keyword) {a : Reading s} {q : Of s → Place all → Type 0} {p : Place all} → ((n : Place all) → (ground n).naming ≡ naming_after (token.Keyword m) → (ground n).loops ≡ loops_after (ground p) (token.Keyword m) → Walk g all s a q n) → Walk g all s (expect_keyword m a) q p
  needed_walk m k = keyword_walk m k refuses_walk

  -- a token that is something was taken
  option_taken : {A : Type 0} (f : Token → Option A) (d : A) (a : A → Reading s) (q : Of s → Place all → Type 0) (p : Place all) → ((x : Token) (l : A) → f x ≡ Some l → (n : Place all) → p.rest ≡ x ∷ n.rest → ground n ≡ stepped (ground p) x → Walk g all s (a l) q n) → (x : Token) (r : List Token) (e : p.rest ≡ x ∷ r) (o : Option A) → f x ≡ o → is_some o ≡ true → Walks g all s (a (unwrap_or o d)) q (after p x r e)
  option_taken f d a q p m x r e (Some l) is h = taken (a l) q p x (λ n t i. m x l is n t i) x r e refl
  option_taken f d a q p m x r e None is h = absurd cc

  pub option_walk : {A : Type 0} {f : Token → Option A} (d : A) {a : A → Reading s} {b : Reading s} {q : Of s → Place all → Type 0} {p : Place all} → ((x : Token) (l : A) → f x ≡ Some l → (n : Place all) → p.rest ≡ x ∷ n.rest → ground n ≡ stepped (ground p) x → Walk g all s (a l) q n) → (next_passes (λ x. is_some (f x)) p.rest ≡ false → Walk g all s b q p) → Walk g all s (peek (λ x. is_some (f x)) (take (λ x. a (unwrap_or (f x) d))) b) q p
  option_walk {f = f} d {a = a} {q = q} {p = p} m o = peek_walk (λ h. record { walk = λ x r e. option_taken f d a q p m x r e (f x) refl (subst (λ v. next_passes (λ x. is_some (f x)) v ≡ true) e h) }) o

  name_taken : (a : List ℕ → Reading s) (q : Of s → Place all → Type 0) (p : Place all) → ((x : List ℕ) (n : Place all) → p.rest ≡ token.Name x ∷ n.rest → ground n ≡ stepped (ground p) (token.Name x) → Walk g all s (a x) q n) → (x : Token) (r : List Token) (e : p.rest ≡ x ∷ r) → is_some (name_at x) ≡ true → Walks g all s (a (unwrap_or (name_at x) [])) q (after p x r e)
  name_taken a q p m (token.Name y) r e h = taken (a y) q p (token.Name y) (m y) (token.Name y) r e refl
  name_taken a q p m _ r e h = absurd cc

  pub name_walk : {a : List ℕ → Reading s} {b : Reading s} {q : Of s → Place all → Type 0} {p : Place all} → ((x : List ℕ) (n : Place all) → p.rest ≡ token.Name x ∷ n.rest → ground n ≡ stepped (ground p) (token.Name x) → Walk g all s (a x) q n) → Walk g all s b q p → Walk g all s (if_name a b) q p
  name_walk {a} {q = q} {p = p} m o = peek_walk (λ h. record { walk = λ x r e. name_taken a q p m x r e (subst (λ v. next_passes (λ x. is_some (name_at x)) v ≡ true) e h) }) (λ h. o)
