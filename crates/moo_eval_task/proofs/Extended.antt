-- Variables that a sum is set to.
use Rattle.std.proofs.Common.{◌≡◌, ℕ, ℤ, ◌<◌, ◌-◌, List, [], ◌∷◌, ◌++◌, Option, Some, Ok, Err, refl, sym, ap, arith}
use Rattle.moo_value.specs.Tree.{Tree, string}
use Rattle.moo_value.specs.Compare.{folded}
use Rattle.moo_value.specs.Size.{IsWithinLimits}
use Rattle.moo_value.specs.declared.error_code.ErrorCode.TheVariants.{VariableNotFound}
use Rattle.moo_syntax_ast.specs.declared.operator.BinaryOperator.TheVariants.{Add}
use Rattle.moo_syntax_ast.specs.Tree.{Expr, variable, binary, assign, performs}
use Rattle.moo_builtin_operator.specs.Operators.{added}
use Rattle.moo_builtin_operator.proofs.Lawful.{limited_within}
use Rattle.moo_eval_slot.specs.Bindings.{bind, with_variable}
use Rattle.moo_eval_frame.specs.Outcome.{Failure, next, or_error, answers}
use Rattle.moo_eval_frame.specs.State.{Context}
use Rattle.moo_eval_access.specs.State.{State, bound}
use Rattle.moo_builtin.specs.Telling.{Telling, Faults}
use Rattle.moo_eval_integer.specs.Integers.{with_ticks, GivesValue}
use Rattle.moo_eval_task.specs.SetTo.{IsSetTo}
use Rattle.moo_eval_semantics.specs.Meaning.{Evaluates, Computes, Does, applies, no_more, element_then, binary_is}
use Rattle.moo_eval_task.proofs.Direct.{variable_read}
use Rattle.moo_eval_task.proofs.Exits.{same_state}
use Rattle.moo_eval_task.proofs.Lengthened.{set_longer}

-- the value of the variable with another added
pub extended : {T : Telling} {c : Context} {x : List ℕ} {e : Expr} {s s1 s2 t : State} {v u w : Tree} → Evaluates T c (variable x) s (Ok v) s1 → Evaluates T c e s1 (Ok u) s2 → added v u ≡ Ok w → bound (bind x w ∷ []) s2 ≡ t → IsSetTo T c x (binary Add (variable x) e) s t
extended {s2 = s2} {w = w} d g made sets = record {
  value = w;
  between = s2;
  computes = applies (element_then d (element_then g no_more refl) refl) no_more (binary_is (ap answers made));
  sets = sets;
}

-- a sum that is an error
pub unextended : {T : Telling} {c : Context} {x : List ℕ} {e : Expr} {s s1 s2 : State} {v u : Tree} {failure : Failure} → Evaluates T c (variable x) s (Ok v) s1 → Evaluates T c e s1 (Ok u) s2 → answers (added v u) ≡ Err failure → Computes T c (binary Add (variable x) e) s (Err failure) s2
unextended d g made = applies (element_then d (element_then g no_more refl) refl) no_more (binary_is made)

-- a string that is given at once, after the one in the variable
pub extended_at_once : {name : List ℕ} {e : Expr} {n m : ℕ} {text last : List ℕ} {after : List ℕ → Option Tree} {programmer : ℤ} (c : Context) (s : State) → s.programmer ≡ programmer → 2 < n → s.variables (folded name) ≡ Some (string text) → GivesValue s.variables (n - 1 - 1 - 1) e (string last) m → IsWithinLimits (string (text ++ last)) → after ≡ with_variable s.variables (bind name (string (text ++ last))) → Does Faults c (performs (assign (variable name) (binary Add (variable name) e))) (with_ticks n s) (Ok next) (record { ticks = m; world = s.world; variables = after; programmer = programmer; notices = s.notices })
extended_at_once {text = text} {last = last} c s same z held g limits sets =
    set_longer (omega (arith, z)) (omega (arith, z)) (extended (variable_read (omega (arith, z)) (ap (λ o. answers (or_error o VariableNotFound)) held) refl) (g c s refl) (limited_within (string (text ++ last)) limits) (same_state (sym sets) same))
