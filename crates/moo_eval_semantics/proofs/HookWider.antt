-- A call that calls verbs begins in the same way if more faults may be reported for texts.
use Rattle.std.proofs.Common.{ℕ, List, [], ◌∷◌}
use Rattle.moo_value.specs.Tree.{Tree, string}
use Rattle.moo_syntax_function.specs.declared.function.Function.{Function}
use Rattle.moo_syntax_function.specs.declared.function.Function.TheVariants as function
use Rattle.moo_world_table.specs.World.{World}
use Rattle.moo_eval_frame.specs.State.{Context}
use Rattle.moo_eval_access.specs.State.{State}
use Rattle.moo_builtin.specs.Telling.{Telling}
use Rattle.moo_eval_semantics.proofs.CallWider.{Wider}
use Rattle.moo_eval_semantics.specs.Progressing.{Calling, calling, Progress}
use Rattle.moo_eval_semantics.specs.Evaluating.{EvaluatesText, forbidden, faulty, parsed, EvalBegins}
use Rattle.moo_eval_semantics.specs.VerbCalls.{Begins, Starts, refused, starts}

wider_text : {T U : Telling} → Wider T U → {k : Calling} {w : World} {text : List ℕ} {step : Progress} → EvaluatesText T k w text step → EvaluatesText U k w text step
wider_text wider (forbidden may) = forbidden may
wider_text wider {text = text} (faulty may f h) = faulty may f (wider (text ∷ []) f h)
wider_text wider (parsed may p) = parsed may p

wider_eval : {T U : Telling} → Wider T U → (k : Calling) (w : World) (vs : List Tree) (step : Progress) → EvalBegins T k w vs step → EvalBegins U k w vs step
wider_eval wider k w (string text ∷ []) step h = wider_text wider h
wider_eval wider k w vs step h = h

wider_begin : {T U : Telling} → Wider T U → (f : Function) (k : Calling) (w : World) (vs : List Tree) (step : Progress) (after : World) → Begins T f k w vs step after → Begins U f k w vs step after
wider_begin wider function.Eval k w vs step after h = (wider_eval wider k w vs step h.0, h.1)
wider_begin wider f k w vs step after h = h

pub wider_start : {T U : Telling} → Wider T U → {c : Context} {f : Function} {vs : List Tree} {s s' : State} {p : Progress} → Starts T c f vs s p s' → Starts U c f vs s p s'
wider_start wider (refused q) = refused q
wider_start wider (starts {c = c} {f = f} {vs = vs} {s = s} {step = step} {w = w} q e u) = starts q (wider_begin wider f (calling c s) s.world vs step w e) u
