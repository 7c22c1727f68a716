-- Conditions, by what their operands give.
use Rattle.std.proofs.Common.{◌≡◌, ◌<◌, Bool, true, false, not, Result, Ok, Err, IfErr, refl}
use Rattle.moo_value.specs.Tree.{Tree}
use Rattle.moo_syntax_ast.specs.declared.operator.LogicOperator.{LogicOperator}
use Rattle.moo_syntax_ast.specs.declared.operator.UnaryOperator.TheVariants.{Not}
use Rattle.moo_syntax_ast.specs.Tree.{Expr, unary, logic}
use Rattle.moo_builtin_operator.specs.Truth.{is_true, is_decided, truth_value}
use Rattle.moo_eval_frame.specs.Outcome.{Stop}
use Rattle.moo_eval_frame.specs.State.{Context}
use Rattle.moo_eval_access.specs.State.{State, ticked}
use Rattle.moo_builtin.specs.Telling.{Telling}
use Rattle.moo_eval_semantics.specs.Meaning.{Evaluates, begins, applies, operands_end, no_more, element_stops, element_then, unary_is, logic_decides, logic_goes_on}

pub decided : {T : Telling} {c : Context} {op : LogicOperator} {a b : Expr} {s s' : State} {x : Tree} → 0 < s.ticks → Evaluates T c a (ticked s) (Ok x) s' → is_decided op x ≡ true → Evaluates T c (logic op a b) s (Ok x) s'
decided z d h = begins z (applies (element_then d no_more refl) no_more (logic_decides h)) refl

pub undecided : {T : Telling} {c : Context} {op : LogicOperator} {a b : Expr} {s s' s'' : State} {x : Tree} {o : Result Tree Stop} → 0 < s.ticks → Evaluates T c a (ticked s) (Ok x) s' → is_decided op x ≡ false → Evaluates T c b s' o s'' → Evaluates T c (logic op a b) s o s''
undecided {o = Ok v} z d h e = begins z (applies (element_then d no_more refl) no_more (logic_goes_on h e refl)) refl
undecided {o = Err stop} z d h e = begins z (applies (element_then d no_more refl) no_more (logic_goes_on h e refl)) refl

-- the first operand stops
pub operand_stops : {T : Telling} {c : Context} {op : LogicOperator} {a b : Expr} {s s' : State} {stop : Stop} → 0 < s.ticks → Evaluates T c a (ticked s) (Err stop) s' → Evaluates T c (logic op a b) s (Err stop) s'
operand_stops z d = begins z (operands_end (element_stops d)) refl

pub negated : {T : Telling} {c : Context} {a : Expr} {s s' : State} {x : Tree} → 0 < s.ticks → Evaluates T c a (ticked s) (Ok x) s' → Evaluates T c (unary Not a) s (Ok (truth_value (not (is_true x)))) s'
negated z d = begins z (applies (element_then d no_more refl) no_more (unary_is refl)) refl

pub not_stops : {T : Telling} {c : Context} {a : Expr} {s s' : State} {stop : Stop} → 0 < s.ticks → Evaluates T c a (ticked s) (Err stop) s' → Evaluates T c (unary Not a) s (Err stop) s'
not_stops z d = begins z (operands_end (element_stops d)) refl

pub truth_of : (b : Bool) → is_true (truth_value b) ≡ b
truth_of true = refl
truth_of false = refl

pub if_err : {A E : Type 0} {P Q : E → Type 0} (r : Result A E) → ((e : E) → P e → Q e) → IfErr r P → IfErr r Q
if_err (Ok x) f h = tt
if_err (Err e) f h = f e h
