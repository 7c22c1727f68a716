-- The facts that a reading leads to: of each list of tokens that it reads, its result, and the tokens that it leaves.
use Rattle.std.proofs.Common.{ℕ, List, [], ◌∷◌, ◌≡◌, refl, sym, subst, Bool, true, false, Option, Some, None, is_some, unwrap_or}
use denote.Enum.Bare.{same_true}
use Rattle.moo_syntax_token.specs.contracts.sign.Sign as sign_type
use Rattle.moo_syntax_token.specs.declared.sign.Sign.{Sign}
use Rattle.moo_syntax_token.specs.contracts.keyword.Keyword as keyword_type
use Rattle.moo_syntax_token.specs.declared.keyword.Keyword.{Keyword}
use Rattle.moo_syntax_token.specs.declared.token.Token.{Token}
use Rattle.moo_syntax_token.specs.declared.token.Token.TheVariants as token
use Rattle.moo_syntax_grammar.specs.Rules.{Rules}
use Rattle.moo_syntax_grammar.specs.Tokens.{is_sign, is_keyword, name_at, next_passes}
use Rattle.moo_syntax_grammar.specs.Grammar.{Sort, Of, Kind, Derives, sort}
use Rattle.moo_syntax_grammar.specs.Machine.{Reading, give, refuse, forbid, take, peek, phrase}
use Rattle.moo_syntax_grammar.specs.Predictive.{allowed, if_sign, expect, if_keyword, if_name}

-- a fact of tokens, a tree of them, and the tokens that are left
abbrev pub Fact : Sort → Type 1
Fact s = List Token → Of s → List Token → Type 0

-- each phrase within the reading being derived
abbrev pub Leads : Rules → (s : Sort) → Reading s → Fact s → Type 0
Leads g s (give e) Q = (r : List Token) → Q r e r
Leads g s refuse Q = Unit {0}
Leads g s forbid Q = Unit {0}
Leads g s (take p) Q = (x : Token) → Leads g s (p x) (λ ts e r. Q (x ∷ ts) e r)
Leads g s (peek f p q) Q = Leads g s p (λ ts e r. next_passes f ts ≡ true → Q ts e r) × Leads g s q (λ ts e r. next_passes f ts ≡ false → Q ts e r)
Leads g s (phrase k p) Q = (a : Of (sort k)) → Leads g s (p a) (λ m e r. (ts : List Token) → Derives g k ts a m → Q ts e r)

pub leads_to_more : (g : Rules) (s : Sort) (p : Reading s) (Q R : Fact s) → ((ts : List Token) (e : Of s) (r : List Token) → Q ts e r → R ts e r) → Leads g s p Q → Leads g s p R
leads_to_more g s (give e) Q R h m = λ r. h r e r (m r)
leads_to_more g s refuse Q R h m = tt
leads_to_more g s forbid Q R h m = tt
leads_to_more g s (take p) Q R h m = λ x. leads_to_more g s (p x) _ _ (λ ts e r. h (x ∷ ts) e r) (m x)
leads_to_more g s (peek f p q) Q R h m = (leads_to_more g s p _ _ (λ ts e r n y. h ts e r (n y)) m.0, leads_to_more g s q _ _ (λ ts e r n y. h ts e r (n y)) m.1)
leads_to_more g s (phrase k p) Q R h m = λ a. leads_to_more g s (p a) _ _ (λ ts e r n us d. h us e r (n us d)) (m a)

pub leads_to_all : (g : Rules) (s : Sort) (p : Reading s) (Q : Fact s) → ((ts : List Token) (e : Of s) (r : List Token) → Q ts e r) → Leads g s p Q
leads_to_all g s (give e) Q h = λ r. h r e r
leads_to_all g s refuse Q h = tt
leads_to_all g s forbid Q h = tt
leads_to_all g s (take p) Q h = λ x. leads_to_all g s (p x) _ (λ ts e r. h (x ∷ ts) e r)
leads_to_all g s (peek f p q) Q h = (leads_to_all g s p _ (λ ts e r y. h ts e r), leads_to_all g s q _ (λ ts e r y. h ts e r))
leads_to_all g s (phrase k p) Q h = λ a. leads_to_all g s (p a) _ (λ ts e r us d. h us e r)

pub record Lead (g : Rules) (s : Sort) (p : Reading s) (Q : Fact s) : Type 0 where
  pub lead : Leads g s p Q

pub sign_is : (m : Sign) (x : Token) → is_sign m x ≡ true → x ≡ token.Sign m
sign_is m (token.Sign n) h = let e = same_true sign_type.the_type tt n m h in subst (λ v. token.Sign n ≡ token.Sign v) e refl
sign_is m _ h = absurd cc

pub keyword_is : (k : Keyword) (x : Token) → is_keyword k x ≡ true → x ≡ token.Keyword k
keyword_is k (token.Keyword n) h = let e = same_true keyword_type.the_type tt n k h in subst (λ v. token.Keyword n ≡ token.Keyword v) e refl
keyword_is k _ h = absurd cc

module _ {g : Rules} {s : Sort} where
  pub gives_lead : {e : Of s} {Q : Fact s} → ((r : List Token) → Q r e r) → Lead g s (give e) Q
  gives_lead m = record { lead = m }

  pub refuses_lead : {Q : Fact s} → Lead g s refuse Q
  refuses_lead = record { lead = tt }

  pub forbids_lead : {Q : Fact s} → Lead g s forbid Q
  forbids_lead = record { lead = tt }

  pub phrase_lead : {k : Kind} {p : Of (sort k) → Reading s} {Q : Fact s} → ((a : Of (sort k)) → Lead g s (p a) (λ m e r. (ts : List Token) → Derives g k ts a m → Q ts e r)) → Lead g s (phrase k p) Q
  phrase_lead m = record { lead = λ a. (m a).lead }

  pub peek_lead : {f : Token → Bool} {p q : Reading s} {Q : Fact s} → Lead g s p (λ ts e r. next_passes f ts ≡ true → Q ts e r) → Lead g s q Q → Lead g s (peek f p q) Q
  peek_lead {q = q} m n = record { lead = (m.lead, leads_to_more g s q _ _ (λ ts e r w y. w) n.lead) }

  pub taken_lead : (m : Sign) {p : Reading s} {Q : Fact s} → Lead g s p (λ ts e r. Q (token.Sign m ∷ ts) e r) → Lead g s (take (λ _. p)) (λ ts e r. next_passes (is_sign m) ts ≡ true → Q ts e r)
  taken_lead m {p} {Q} n = record { lead = λ x. leads_to_more g s p _ _ (λ ts e r w y. subst (λ v. Q (v ∷ ts) e r) (sym (sign_is m x y)) w) n.lead }

  pub sign_lead : (m : Sign) {p q : Reading s} {Q : Fact s} → Lead g s p (λ ts e r. Q (token.Sign m ∷ ts) e r) → Lead g s q Q → Lead g s (if_sign m p q) Q
  sign_lead m n o = peek_lead (taken_lead m n) o

  pub expect_lead : (m : Sign) {p : Reading s} {Q : Fact s} → Lead g s p (λ ts e r. Q (token.Sign m ∷ ts) e r) → Lead g s (expect m p) Q
  expect_lead m n = sign_lead m n refuses_lead

  pub keyword_taken_lead : (k : Keyword) {p : Reading s} {Q : Fact s} → Lead g s p (λ ts e r. Q (token.Keyword k ∷ ts) e r) → Lead g s (take (λ _. p)) (λ ts e r. next_passes (is_keyword k) ts ≡ true → Q ts e r)
  keyword_taken_lead k {p} {Q} n = record { lead = λ x. leads_to_more g s p _ _ (λ ts e r w y. subst (λ v. Q (v ∷ ts) e r) (sym (keyword_is k x y)) w) n.lead }

  pub keyword_lead : (k : Keyword) {p q : Reading s} {Q : Fact s} → Lead g s p (λ ts e r. Q (token.Keyword k ∷ ts) e r) → Lead g s q Q → Lead g s (if_keyword k p q) Q
  keyword_lead k n o = peek_lead (keyword_taken_lead k n) o

  pub allowed_lead : (b : Bool) {p : Reading s} {Q : Fact s} → (b ≡ true → Lead g s p Q) → Lead g s (allowed b p) Q
  allowed_lead true m = m refl
  allowed_lead false m = forbids_lead

  name_taken : (p : List ℕ → Reading s) (Q : Fact s) → ((n : List ℕ) → Lead g s (p n) (λ ts e r. Q (token.Name n ∷ ts) e r)) → (x : Token) → Leads g s (p (unwrap_or (name_at x) [])) (λ ts e r. next_passes (λ x. is_some (name_at x)) (x ∷ ts) ≡ true → Q (x ∷ ts) e r)
  name_taken p Q m (token.Name n) = leads_to_more g s (p n) _ _ (λ ts e r w y. w) (m n).lead
  name_taken p Q m _ = leads_to_all g s (p []) _ (λ ts e r y. absurd cc)

  pub name_lead : {p : List ℕ → Reading s} {q : Reading s} {Q : Fact s} → ((n : List ℕ) → Lead g s (p n) (λ ts e r. Q (token.Name n ∷ ts) e r)) → Lead g s q Q → Lead g s (if_name p q) Q
  name_lead {p} {Q = Q} m o = peek_lead (record { lead = name_taken p Q m }) o

  option_taken : {A : Type 0} (f : Token → Option A) (d : A) (p : A → Reading s) (Q : Fact s) → ((x : Token) (l : A) → f x ≡ Some l → Lead g s (p l) (λ ts e r. Q (x ∷ ts) e r)) → (x : Token) (o : Option A) → f x ≡ o → Leads g s (p (unwrap_or o d)) (λ ts e r. is_some o ≡ true → Q (x ∷ ts) e r)
  option_taken f d p Q m x (Some l) is = leads_to_more g s (p l) _ _ (λ ts e r w y. w) (m x l is).lead
  option_taken f d p Q m x None is = leads_to_all g s (p d) _ (λ ts e r y. absurd cc)

  pub option_lead : {A : Type 0} {f : Token → Option A} (d : A) {p : A → Reading s} {q : Reading s} {Q : Fact s} → ((x : Token) (l : A) → f x ≡ Some l → Lead g s (p l) (λ ts e r. Q (x ∷ ts) e r)) → Lead g s q Q → Lead g s (peek (λ x. is_some (f x)) (take (λ x. p (unwrap_or (f x) d))) q) Q
  option_lead {f = f} d {p = p} {Q = Q} m o = peek_lead (record { lead = λ x. option_taken f d p Q m x (f x) refl }) o
