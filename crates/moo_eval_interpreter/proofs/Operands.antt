-- The second operand of `&&` and `||`, if it runs as a statement does.
use Rattle.std.proofs.Common.{◌≡◌, ◌<◌, Bool, false, List, Result, Ok, Err, refl}
use Rattle.moo_value.specs.Tree.{Tree}
use Rattle.moo_syntax_ast.specs.declared.operator.LogicOperator.{LogicOperator}
use Rattle.moo_syntax_ast.specs.Tree.{Expr, logic, performs}
use Rattle.moo_builtin_operator.specs.Truth.{is_decided}
use Rattle.moo_builtin.specs.Telling.{Telling}
use Rattle.moo_eval_frame.specs.declared.frame.TraceEntry.{TraceEntry}
use Rattle.moo_eval_frame.specs.Outcome.{Flow, Stop, passes, settled}
use Rattle.moo_eval_frame.specs.State.{Context}
use Rattle.moo_eval_access.specs.State.{State, ticked, trace}
use Rattle.moo_eval_semantics.specs.Meaning.{Evaluates, Does, applies, begins, element_then, evaluates, logic_goes_on, no_more}

-- what stops an operand stops the operator
settled_passes : (d : Bool) (entries : List TraceEntry) (o : Result Tree Stop) → settled d entries (passes o) ≡ o
settled_passes d entries (Ok v) = refl
settled_passes d entries (Err stop) = refl

-- an operator as a statement, if its first operand doesn't decide
pub goes_on : {T : Telling} {c : Context} {op : LogicOperator} {a b : Expr} {s s' s'' : State} {x : Tree} {r : Result Flow Stop} → 0 < s.ticks → Evaluates T c a (ticked s) (Ok x) s' → is_decided op x ≡ false → Does T c (performs b) s' r s'' → Does T c (performs (logic op a b)) s r s''
goes_on {c = c} {s'' = s''} z d f (evaluates {o = o} g same) =
    evaluates (begins z (applies (element_then d no_more refl) no_more (logic_goes_on f g refl)) (settled_passes c.frame.d (trace c s'') o)) same
