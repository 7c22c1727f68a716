-- Outcomes and states that come out alike.
use Rattle.std.proofs.Common.{◌≡◌, List, Result, sym, ap, ◌∙◌, subst}
use Rattle.moo_value.specs.declared.error_code.ErrorCode.{ErrorCode}
use Rattle.moo_value.specs.Tree.{Tree}
use Rattle.moo_eval_frame.specs.Outcome.{Stop, Failure, Flow}
use Rattle.moo_eval_control.specs.Catching.{coded}
use Rattle.moo_eval_control.specs.Leading.{no_turn}
use Rattle.moo_eval_frame.specs.State.{Context}
use Rattle.moo_eval_access.specs.State.{State, trace}

-- two outcomes are the same, and so are the states after them
abbrev pub Same : {O : Type 0} → O → State → O → State → Type 0
Same o s p t = (o ≡ p) × (s ≡ t)

-- a fact at the same places
pub moved : {A : Type 0} (P : A → State → Type 0) {a b : A} {s t : State} → a ≡ b → s ≡ t → P b t → P a s
moved P {s = s} p q h = subst (λ x. P x s) (sym p) (subst (P _) (sym q) h)

pub moved_twice : {A B : Type 0} (P : A → B → State → Type 0) {a b : A} {x y : B} {s t : State} → a ≡ b → x ≡ y → s ≡ t → P b y t → P a x s
moved_twice P {b = b} {x = x} {y = y} {s = s} p r q h = subst (λ u. P u x s) (sym p) (subst (λ u. P b u s) (sym r) (subst (λ u. P b y u) (sym q) h))

pub at_state : (P : State → Type 0) {s t : State} → s ≡ t → P t → P s
at_state P q h = subst P (sym q) h

-- the codes of handlers that come out alike
pub one_code : (c : Context) (s t : State) {o p : Result (List Tree) Failure} {r q : Result (List Tree) Stop} → coded c.frame.d (trace c s) o ≡ r → coded c.frame.d (trace c t) p ≡ q → Same o s p t → r ≡ q
one_code c s t {o = o} f g h = sym f ∙ ap (λ x. coded c.frame.d (trace c x) o) h.1 ∙ ap (coded c.frame.d (trace c t)) h.0 ∙ g

-- a `for` with nothing to visit
pub one_refusal : (c : Context) (s t : State) {code code' : ErrorCode} {r q : Result Flow Stop} → no_turn c.frame.d (trace c s) code ≡ r → no_turn c.frame.d (trace c t) code' ≡ q → code ≡ code' → s ≡ t → r ≡ q
one_refusal c s t {code = code} f g p q = sym f ∙ ap (λ x. no_turn c.frame.d (trace c x) code) q ∙ ap (no_turn c.frame.d (trace c t)) p ∙ g
