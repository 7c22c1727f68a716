-- For one input a call that calls verbs has at most one first step, if at most one fault is reported for each text,
-- and none for a program.
use Rattle.std.proofs.Common.{◌≡◌, ℕ, List, [], ◌∷◌, refl, sym, ap, ◌∙◌}
use Rattle.moo_value.specs.Tree.{Tree, string}
use Rattle.moo_syntax_function.specs.declared.function.Function.{Function}
use Rattle.moo_syntax_function.specs.declared.function.Function.TheVariants as function
use Rattle.moo_world_table.specs.World.{World}
use Rattle.moo_eval_frame.specs.Outcome.{answers}
use Rattle.moo_eval_frame.specs.State.{Context}
use Rattle.moo_eval_access.specs.State.{State}
use Rattle.moo_builtin.specs.Telling.{Telling}
use Rattle.moo_builtin.proofs.CodeOnce.{same_program}
use Rattle.moo_eval_semantics.proofs.CallUnique.{TellsOne}
use Rattle.moo_eval_semantics.specs.Progressing.{Calling, Progress, done, refuses}
use Rattle.moo_eval_semantics.specs.Evaluating.{program_next, no_program, EvaluatesText, forbidden, faulty, parsed, EvalBegins}
use Rattle.moo_eval_semantics.specs.VerbCalls.{Begins, Starts, refused, starts}

one_evaluation : (T : Telling) → TellsOne T → (k : Calling) (w : World) (text : List ℕ) (a b : Progress) → EvaluatesText T k w text a → EvaluatesText T k w text b → a ≡ b
one_evaluation T told k w text a b (forbidden q) (forbidden r) = refl
one_evaluation T told k w text a b (forbidden q) (faulty may f h) = absurd cc
one_evaluation T told k w text a b (forbidden q) (parsed may p) = absurd cc
one_evaluation T told k w text a b (faulty may f h) (forbidden q) = absurd cc
one_evaluation T told k w text a b (faulty may f h) (faulty may' g i) = ap (λ x. done (answers (no_program x))) (told.one (text ∷ []) f g h i)
one_evaluation T told k w text a b (faulty may f h) (parsed may' {program = q} p) = absurd (told.none (text ∷ []) q f p h)
one_evaluation T told k w text a b (parsed may p) (forbidden q) = absurd cc
one_evaluation T told k w text a b (parsed may {program = q} p) (faulty may' f h) = absurd (told.none (text ∷ []) q f p h)
one_evaluation T told k w text a b (parsed may {program = x} p) (parsed may' {program = y} q) = ap (program_next k) (same_program (text ∷ []) x y p q)

one_eval : (T : Telling) → TellsOne T → (k : Calling) (w : World) (vs : List Tree) (a b : Progress) → EvalBegins T k w vs a → EvalBegins T k w vs b → a ≡ b
one_eval T told k w (string text ∷ []) a b p q = one_evaluation T told k w text a b p q
one_eval T told k w vs a b p q = p ∙ sym q

one_begin : (T : Telling) → TellsOne T → (f : Function) (k : Calling) (w u v : World) (vs : List Tree) (a b : Progress) → Begins T f k w vs a u → Begins T f k w vs b v → (a ≡ b) × (u ≡ v)
one_begin T told function.Eval k w u v vs a b p q = (one_eval T told k w vs a b p.0 q.0, p.1 ∙ sym q.1)
one_begin T told f k w u v vs a b p q = let h = sym p ∙ q in (ap (λ x. x.0) h, ap (λ x. x.1) h)

abbrev with_world : State → World → State
with_world s w = record s { world = w }

pub one_start : (T : Telling) → TellsOne T → {c : Context} {f : Function} {vs : List Tree} {s s' t : State} {a b : Progress} → Starts T c f vs s a s' → Starts T c f vs s b t → (a ≡ b) × (s' ≡ t)
one_start T told (refused {s = s} {code = e} p) (refused {code = e'} q) = let same : e ≡ e' = cc in (ap refuses same, refl)
one_start T told (refused p) (starts q e u) = absurd cc
one_start T told (starts p e u) (refused q) = absurd cc
one_start T told {f = f} {vs = vs} {a = a} {b = b} (starts {s = s} {w = w} p e u) (starts {w = w'} q e' u') =
    let h = one_begin T told f _ s.world w w' vs a b e e' in
    (h.0, sym u ∙ ap (with_world s) h.1 ∙ u')
