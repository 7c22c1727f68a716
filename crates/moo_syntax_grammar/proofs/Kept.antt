-- Where a rule is kept, and where it is broken.
use Rattle.std.proofs.Common.{ℕ, List, ◌≡◌, refl, Bool, true, false, not, ◌||◌}
use Rattle.moo_syntax_token.specs.declared.token.Token.{Token}
use Rattle.moo_syntax_ast.specs.Tree.{Expr}
use Rattle.moo_syntax_ast.specs.Target.{is_target}
use Rattle.moo_syntax_grammar.specs.declared.names.Names.{Names}
use Rattle.moo_syntax_grammar.specs.Rules.{Rules, Admits, strict, may_call, may_assign}
use Rattle.moo_syntax_grammar.specs.Grammar.{Sort, Kind, sort}
use Rattle.moo_syntax_grammar.specs.Machine.{Reading, Why, by_rule, Fails, forbids}
use Rattle.moo_syntax_grammar.specs.Predictive.{allowed}

or_true : (b t : Bool) → t ≡ true → (b || t) ≡ true
or_true true t h = refl
or_true false t h = h

or_false : (b t : Bool) → b ≡ true → t ≡ false → (not b || t) ≡ false
or_false true t h e = e
or_false false t h e = absurd cc

pub target_may_be_assigned : (g : Rules) (a : Expr) → is_target a ≡ true → may_assign g a ≡ true
target_may_be_assigned g a h = or_true (not g.targets) (is_target a) h

pub no_target : (g : Rules) (a : Expr) → g.targets ≡ true → is_target a ≡ false → may_assign g a ≡ false
no_target g a h e = or_false g.targets (is_target a) h e

-- a name that a program may call
pub name_may_be_called : (g : Rules) (names : Names) (s : List ℕ) → Admits g (strict names) → may_call names s ≡ true → g.functions s ≡ true
name_may_be_called g names s a h = a.functions s h

module _ {f : (k : Kind) → Reading (sort k)} {s : Sort} where
  pub allowed_fails : {w : Why} {b : Bool} {p : Reading s} {ts r : List Token} → b ≡ true → Fails f w s p ts r → Fails f w s (allowed b p) ts r
  allowed_fails is d = rw is d

  pub refused_fails : {b : Bool} (p : Reading s) {ts : List Token} → b ≡ false → Fails f by_rule s (allowed b p) ts ts
  refused_fails p is = rw is forbids
