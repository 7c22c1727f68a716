-- Verbs that a function calls and that have nothing to run.
use Rattle.std.proofs.Common.{◌≡◌, pos, List, [], ◌∷◌, length, ◌==◌, false, Result, Ok, Err, OnOk, IsTrue, is_ok, refl, sym, subst}
use Rattle.std.proofs.lemmas.Bool.{false≢true}
use Rattle.moo_value.specs.Tree.{Tree, integer}
use Rattle.moo_syntax_ast.specs.declared.tree.Stmt.{Stmt}
use Rattle.moo_syntax_ast.specs.Tree.{no_statement}
use Rattle.moo_syntax_ast.specs.View.{block}
use Rattle.moo_eval_frame.specs.Outcome.{Failure}
use Rattle.moo_eval_frame.specs.State.{Context}
use Rattle.moo_eval_access.specs.State.{State}
use Rattle.moo_builtin.specs.Telling.{Telling}
use Rattle.moo_eval_semantics.specs.declared.stage.Stage.{Stage}
use Rattle.moo_eval_hook.specs.declared.progress.Progress as code_progress
use Rattle.moo_eval_hook.specs.declared.progress.Progress.TheVariants as progress_case
use Rattle.moo_eval_semantics.specs.Progressing.{Progress}
use Rattle.moo_eval_hook.specs.SeenByHooks.{progress_of}
use Rattle.moo_eval_semantics.specs.Stages.{resumed}
use Rattle.moo_eval_task.specs.Hooks.{IsIdle}
use Rattle.moo_eval_semantics.specs.Meaning.{Proceeds, ends, hook_then, at_once}
use Rattle.moo_eval_task.proofs.Exits.{runs_at}

-- a program with a statement is not an empty one
pub not_empty : (ss : List Stmt) → (length ss == 0) ≡ false → block ss ≡ no_statement → ⊥
not_empty [] h e = absurd (false≢true (sym h))
not_empty (s ∷ ss) h e = absurd cc

-- a verb without a statement answers 0 and changes nothing
pub passed_over : {T : Telling} {c : Context} {s : State} (p : code_progress.Progress) (at : Stage) (r : Result Tree Failure) (s' : State) → IsIdle p at → Proceeds T c (resumed c at (integer (pos 0)) s).0 (resumed c at (integer (pos 0)) s).1 r s' → Proceeds T c (progress_of p) s r s'
passed_over (progress_case.Done v) at r s' h d = absurd h
passed_over {T = T} {c = c} {s = s} (progress_case.VerbNext called other) at r s' h d =
    hook_then (runs_at (sym h.0) ends) refl refl refl (subst (λ x. Proceeds T c (resumed c x (integer (pos 0)) s).0 (resumed c x (integer (pos 0)) s).1 r s') (sym h.1) d)
passed_over {T = T} {c = c} {s = s} (progress_case.StageNext other) at r s' h d = at_once refl (subst (λ x. Proceeds T c (resumed c x (integer (pos 0)) s).0 (resumed c x (integer (pos 0)) s).1 r s') (sym h) d)

-- what holds if one comes to its end holds if the other does, which comes to its end only then
pub comes_on : {A B E F : Type 0} (P : Type 0) (r : Result A E) (o : Result B F) → OnOk r (IsTrue (is_ok o)) → OnOk o P → OnOk r P
comes_on P (Ok x) (Ok y) c h = h
comes_on P (Ok x) (Err f) c h = absurd (false≢true c)
comes_on P (Err e) o c h = tt

-- what follows from a step follows from the same step
pub same_step : {T : Telling} {c : Context} {s : State} {r : Result Tree Failure} {s' : State} {p q : Progress} → p ≡ q → Proceeds T c p s r s' → Proceeds T c q s r s'
same_step {T = T} {c = c} {s = s} {r = r} {s' = s'} e d = subst (λ x. Proceeds T c x s r s') e d
