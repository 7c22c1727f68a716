-- For one input a call that calls verbs has at most one first step, by two ways to report faults that agree.
use Rattle.std.proofs.Common.{◌≡◌, ℕ, List, [], ◌∷◌, refl, sym, ap, ◌∙◌}
use Rattle.moo_value.specs.Tree.{Tree, string}
use Rattle.moo_syntax_function.specs.declared.function.Function.{Function}
use Rattle.moo_syntax_function.specs.declared.function.Function.TheVariants as function
use Rattle.moo_world_table.specs.World.{World}
use Rattle.moo_eval_frame.specs.Outcome.{answers}
use Rattle.moo_eval_frame.specs.State.{Context}
use Rattle.moo_eval_access.specs.State.{State}
use Rattle.moo_builtin.specs.Telling.{Telling}
use Rattle.moo_builtin.proofs.CodeOnce.{same_program}
use Rattle.moo_eval_semantics.proofs.Agreed.{Agree}
use Rattle.moo_eval_semantics.specs.Progressing.{Calling, Progress, done, refuses}
use Rattle.moo_eval_semantics.specs.Evaluating.{program_next, no_program, EvaluatesText, forbidden, faulty, parsed, EvalBegins}
use Rattle.moo_eval_semantics.specs.VerbCalls.{Begins, Starts, refused, starts}

one_evaluation : (T U : Telling) → Agree T U → (k : Calling) (w : World) (text : List ℕ) (a b : Progress) → EvaluatesText T k w text a → EvaluatesText U k w text b → a ≡ b
one_evaluation T U agree k w text a b (forbidden q) (forbidden r) = refl
one_evaluation T U agree k w text a b (forbidden q) (faulty may f h) = absurd cc
one_evaluation T U agree k w text a b (forbidden q) (parsed may p) = absurd cc
one_evaluation T U agree k w text a b (faulty may f h) (forbidden q) = absurd cc
one_evaluation T U agree k w text a b (faulty may f h) (faulty may' g i) = ap (λ x. done (answers (no_program x))) (agree.same (text ∷ []) f g h i)
one_evaluation T U agree k w text a b (faulty may f h) (parsed may' {program = q} p) = absurd (agree.none (text ∷ []) q f p h)
one_evaluation T U agree k w text a b (parsed may p) (forbidden q) = absurd cc
one_evaluation T U agree k w text a b (parsed may {program = q} p) (faulty may' f h) = absurd (agree.neither (text ∷ []) q f p h)
one_evaluation T U agree k w text a b (parsed may {program = x} p) (parsed may' {program = y} q) = ap (program_next k) (same_program (text ∷ []) x y p q)

one_eval : (T U : Telling) → Agree T U → (k : Calling) (w : World) (vs : List Tree) (a b : Progress) → EvalBegins T k w vs a → EvalBegins U k w vs b → a ≡ b
one_eval T U agree k w (string text ∷ []) a b p q = one_evaluation T U agree k w text a b p q
one_eval T U agree k w vs a b p q = p ∙ sym q

one_begin : (T U : Telling) → Agree T U → (f : Function) (k : Calling) (w u v : World) (vs : List Tree) (a b : Progress) → Begins T f k w vs a u → Begins U f k w vs b v → (a ≡ b) × (u ≡ v)
one_begin T U agree function.Eval k w u v vs a b p q = (one_eval T U agree k w vs a b p.0 q.0, p.1 ∙ sym q.1)
one_begin T U agree f k w u v vs a b p q = let h = sym p ∙ q in (ap (λ x. x.0) h, ap (λ x. x.1) h)

abbrev with_world : State → World → State
with_world s w = record s { world = w }

pub one_start : (T U : Telling) → Agree T U → {c : Context} {f : Function} {vs : List Tree} {s s' t : State} {a b : Progress} → Starts T c f vs s a s' → Starts U c f vs s b t → (a ≡ b) × (s' ≡ t)
one_start T U agree (refused {s = s} {code = e} p) (refused {code = e'} q) = let same : e ≡ e' = cc in (ap refuses same, refl)
one_start T U agree (refused p) (starts q e u) = absurd cc
one_start T U agree (starts p e u) (refused q) = absurd cc
one_start T U agree {f = f} {vs = vs} {a = a} {b = b} (starts {s = s} {w = w} p e u) (starts {w = w'} q e' u') =
    let h = one_begin T U agree f _ s.world w w' vs a b e e' in
    (h.0, sym u ∙ ap (with_world s) h.1 ∙ u')
