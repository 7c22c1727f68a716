-- A catch, with or without what it goes on to.
use Rattle.std.proofs.Common.{◌≡◌, Box, Option, Some, None, List, Result, Ok, Err, refl, sym, ap, subst}
use Rattle.std.specs.Global.{Global}
use Rattle.moo_value.specs.Tree.{Tree, error}
use Rattle.moo_value.specs.declared.error_code.ErrorCode.{ErrorCode}
use Rattle.moo_syntax_ast.specs.Tree.{Expr, Codes, catch, catch_or}
use Rattle.moo_syntax_node.specs.declared.node.Node.{Node}
use Rattle.moo_eval_frame.specs.Outcome.{Stop, Failure, passes, out_of_ticks}
use Rattle.moo_eval_frame.specs.State.{Context}
use Rattle.moo_eval_access.specs.State.{State, trace}
use Rattle.moo_builtin.specs.Telling.{Telling}
use Rattle.moo_eval_control.specs.Catching.{guards, caught}
use Rattle.moo_eval_semantics.specs.Meaning.{Evaluates, EvaluatesAll, Computes, spent, operands_end, applies, no_more, catch_passes, catch_or_passes, catch_gives, catch_or_goes_on}
use Rattle.moo_value.specs.declared.value.Value.{Value}
use Rattle.moo_value.specs.View.{tree}
use Rattle.moo_eval_frame.specs.declared.outcome.Failure as code_failure
use Rattle.moo_eval_frame.specs.declared.outcome.Failure.TheVariants as failure_case
use Rattle.moo_eval_frame.specs.declared.outcome.Stop as code_stop
use Rattle.moo_eval_frame.specs.Seen.{failure_of, stop_of}
use Rattle.moo_eval_control.specs.SeenCatching.{catch_of}
use Rattle.moo_eval_task.specs.declared.catching.Attempt.TheVariants as attempt
use Rattle.moo_eval_task.specs.Attempts.{Attempts}

pub guards_end : {T : Telling} {c : Context} {s s' : State} {failure : Failure} (a : Expr) (codes : Codes) (o : Option (Box Node Global)) → EvaluatesAll T c (guards codes) s (Err failure) s' → Computes T c (catch_of a codes o) s (Err failure) s'
guards_end a codes None d = operands_end d
guards_end a codes (Some b) d = operands_end d

passes_on : {T : Telling} {c : Context} {a : Expr} {s s' s'' : State} {vs : List Tree} {o : Result Tree Stop} {r : Result Tree Failure} (codes : Codes) (x : Option (Box Node Global)) → EvaluatesAll T c (guards codes) s (Ok vs) s' → Evaluates T c a s' o s'' → caught codes vs o ≡ None → passes o ≡ r → Computes T c (catch_of a codes x) s r s''
passes_on codes None g d f e = applies g no_more (catch_passes d f e)
passes_on codes (Some b) g d f e = applies g no_more (catch_or_passes d f e)

-- the body stops
pub attempt_stops : {T : Telling} {c : Context} {a : Expr} {s s' s'' : State} {vs : List Tree} {failure : code_failure.Failure} (codes : Codes) (x : Option (Box Node Global)) → EvaluatesAll T c (guards codes) s (Ok vs) s' → Attempts T c codes vs a s' (Err failure) s'' → Computes T c (catch_of a codes x) s (Err (failure_of failure)) s''
attempt_stops codes x g a = passes_on codes x g a.evaluates a.seen.0 a.seen.1

-- the body gives a value
pub attempt_gives : {T : Telling} {c : Context} {a : Expr} {s s' s'' : State} {vs : List Tree} {v : Value} (codes : Codes) (x : Option (Box Node Global)) → EvaluatesAll T c (guards codes) s (Ok vs) s' → Attempts T c codes vs a s' (Ok (attempt.Value v)) s'' → Computes T c (catch_of a codes x) s (Ok (tree v)) s''
attempt_gives codes x g a = passes_on codes x g a.evaluates a.seen.0 a.seen.1

-- an error that the codes name is the value, if the catch goes on to nothing
pub attempt_caught : {T : Telling} {c : Context} {a : Expr} {codes : Codes} {s s' s'' : State} {vs : List Tree} {code : ErrorCode} → EvaluatesAll T c (guards codes) s (Ok vs) s' → Attempts T c codes vs a s' (Ok (attempt.Caught code)) s'' → Computes T c (catch a codes) s (Ok (error code)) s''
attempt_caught g a = applies g no_more (catch_gives a.evaluates a.seen)

-- else the catch goes on to another expression
pub attempt_goes_on : {T : Telling} {c : Context} {a b : Expr} {codes : Codes} {s s' s'' t : State} {vs : List Tree} {code : ErrorCode} {p : Result Tree Stop} {r : Result Tree Failure} → EvaluatesAll T c (guards codes) s (Ok vs) s' → Attempts T c codes vs a s' (Ok (attempt.Caught code)) s'' → Evaluates T c b s'' p t → passes p ≡ r → Computes T c (catch_or a codes b) s r t
attempt_goes_on g a d e = applies g no_more (catch_or_goes_on a.evaluates a.seen d e)

-- the body has no tick
pub attempt_spent : {T : Telling} {c : Context} {codes : Codes} {vs : List Tree} {e : Expr} {s : State} {stop : code_stop.Stop} → stop_of stop ≡ out_of_ticks (trace c s) → s.ticks ≡ 0 → Attempts T c codes vs e s (Err (failure_case.Stops stop)) s
attempt_spent {T = T} {c = c} {codes = codes} {vs = vs} {e = e} {s = s} {stop = stop} h z = record {
  outcome = Err (stop_of stop);
  evaluates = subst (λ x. Evaluates T c e s (Err x) s) (sym h) (spent z);
  seen = (ap (λ x. caught codes vs (Err x)) h, refl);
}
