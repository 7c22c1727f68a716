-- Conditional expressions, by what their parts give.
use Rattle.std.proofs.Common.{◌≡◌, ◌<◌, true, false, Result, Ok, Err, refl}
use Rattle.moo_value.specs.Tree.{Tree}
use Rattle.moo_syntax_ast.specs.Tree.{Expr, conditional}
use Rattle.moo_builtin_operator.specs.Truth.{is_true}
use Rattle.moo_eval_frame.specs.Outcome.{Stop}
use Rattle.moo_eval_frame.specs.State.{Context}
use Rattle.moo_eval_access.specs.State.{State, ticked}
use Rattle.moo_builtin.specs.Telling.{Telling}
use Rattle.moo_eval_semantics.specs.Meaning.{Evaluates, begins, applies, operands_end, no_more, element_stops, element_then, conditional_true, conditional_false}

module _ {T : Telling} {c : Context} {test a b : Expr} {s s' : State} (z : 0 < s.ticks) where
  -- the test stops
  pub test_stopped : {stop : Stop} → Evaluates T c test (ticked s) (Err stop) s' → Evaluates T c (conditional test a b) s (Err stop) s'
  test_stopped d = begins z (operands_end (element_stops d)) refl

  -- the first expression is the result
  pub first_chosen : {t : State} {x : Tree} {o : Result Tree Stop} → Evaluates T c test (ticked s) (Ok x) s' → is_true x ≡ true → Evaluates T c a s' o t → Evaluates T c (conditional test a b) s o t
  first_chosen {o = Ok v} d h g = begins z (applies (element_then d no_more refl) no_more (conditional_true h g refl)) refl
  first_chosen {o = Err stop} d h g = begins z (applies (element_then d no_more refl) no_more (conditional_true h g refl)) refl

  -- the second one is
  pub second_chosen : {t : State} {x : Tree} {o : Result Tree Stop} → Evaluates T c test (ticked s) (Ok x) s' → is_true x ≡ false → Evaluates T c b s' o t → Evaluates T c (conditional test a b) s o t
  second_chosen {o = Ok v} d h g = begins z (applies (element_then d no_more refl) no_more (conditional_false h g refl)) refl
  second_chosen {o = Err stop} d h g = begins z (applies (element_then d no_more refl) no_more (conditional_false h g refl)) refl
