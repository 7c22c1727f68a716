-- Codes that are literal errors.
use Rattle.std.proofs.Common.{◌≡◌, Result, ◌≤◌, ◌<◌, ◌-◌, ℕ, zero, suc, List, [], ◌∷◌, length, map, Ok, Err, refl, sym, ap, subst, arith}
use Rattle.moo_value.specs.declared.error_code.ErrorCode.{ErrorCode}
use Rattle.moo_value.specs.Tree.{error}
use Rattle.moo_syntax_node.specs.Source.{error_items}
use Rattle.std.specs.declared.vec.Vec.{Vec}
use Rattle.std.specs.declared.alloc.Global.{Global}
use Rattle.moo_value.specs.declared.value.Value.{Value}
use Rattle.moo_value.specs.View.{trees}
use Rattle.moo_syntax_node.specs.declared.node.NodeCodes.{NodeCodes}
use Rattle.moo_eval_frame.specs.declared.outcome.Failure as code_failure
use Rattle.moo_eval_frame.specs.declared.outcome.Stop as code_stop
use Rattle.moo_eval_frame.specs.Seen.{seen_by, seen_answers}
use Rattle.moo_eval_control.specs.SeenCatching.{seen_codes, code_values}
use Rattle.moo_eval_interpreter.specs.Codes.{seen_values}
use Rattle.moo_eval_frame.specs.Outcome.{Failure, stops, out_of_ticks}
use Rattle.moo_eval_frame.specs.State.{Context}
use Rattle.moo_eval_access.specs.State.{State, ticked, trace}
use Rattle.moo_builtin.specs.Telling.{Telling}
use Rattle.moo_eval_semantics.specs.Meaning.{EvaluatesAll, spent, no_more, element_stops, element_then}
use Rattle.moo_eval_task.proofs.Direct.{literal_read}

-- each takes a tick
pub errors_given : {T : Telling} {c : Context} (es : List ErrorCode) (s : State) (left : ℕ) → length es ≤ s.ticks → left ≡ s.ticks - length es → EvaluatesAll T c (error_items es) s (Ok (map (λ e. error e) es)) (record s { ticks = left })
errors_given [] s left h l = let t : left ≡ s.ticks = omega (arith, l) in rw t no_more
errors_given (e ∷ es) s left h l = element_then (literal_read (omega (arith, h))) (errors_given es (ticked s) left (omega (arith, h)) (omega (arith, l, h))) refl

-- one of them has no tick
pub errors_end : {T : Telling} {c : Context} (es : List ErrorCode) (s : State) (n : ℕ) → s.ticks ≡ n → n < length es → EvaluatesAll T c (error_items es) s (Err (stops (out_of_ticks (trace c s)))) (record s { ticks = 0 })
errors_end [] s n z h = absurd (omega (arith, h))
errors_end {T = T} {c = c} (e ∷ es) s zero z h =
    subst (λ n. EvaluatesAll T c (error_items (e ∷ es)) s (Err (stops (out_of_ticks (trace c s)))) (record s { ticks = n })) z (element_stops (spent z))
errors_end (e ∷ es) s (suc n) z h = element_then (literal_read (omega (arith, z))) (errors_end es (ticked s) n (omega (arith, z)) (omega (arith, h))) refl

-- what codes give that were evaluated
pub seen_listed : (r : Result (Vec Value Global) code_failure.Failure) → seen_by (λ vs. trees vs.items) r ≡ seen_answers r
seen_listed (Ok vs) = refl
seen_listed (Err failure) = refl

-- codes that have the values that were evaluated
pub codes_given : (codes : NodeCodes) → ((vs : List Value) → code_values codes vs ≡ trees vs) → (r : Result (Vec Value Global) code_stop.Stop) → seen_codes r ≡ seen_values codes r
codes_given codes h (Ok vs) = ap Ok (sym (h vs.items))
codes_given codes h (Err stop) = refl
