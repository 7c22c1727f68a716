-- Calls of functions that change a list.
use Rattle.std.proofs.Common.{◌≡◌, ℕ, List, Some, None, Ok, refl, sym, ap, ◌∙◌}
use Rattle.moo_value.specs.Tree.{Tree}
use Rattle.moo_syntax_ast.specs.Tree.{Items, call}
use Rattle.moo_syntax_function.specs.declared.function.Function.{Function}
use Rattle.moo_syntax_function.specs.Names.{function_of}
use Rattle.moo_builtin_value.specs.Calls.{simply}
use Rattle.moo_builtin.specs.Calls.{follows, given}
use Rattle.moo_builtin.specs.Telling.{Faults}
use Rattle.moo_eval_frame.specs.State.{Context}
use Rattle.moo_eval_access.specs.State.{State}
use Rattle.moo_eval_semantics.specs.VerbCalls.{verb_caller}
use Rattle.moo_eval_deferred.specs.ListCall.{MakesList, appends, inserts, appends_at, inserts_at, adds, sets, deletes, removes}
use Rattle.moo_eval_semantics.specs.Calls.{CallsFunction}
use Rattle.moo_eval_semantics.specs.Meaning.{EvaluatesAll, Computes, applies, no_more, call_is}

-- such a function calls no verb
calls_none : {f : Function} {args : List Tree} {w : Tree} → MakesList f args w → verb_caller (Some f) ≡ None
calls_none (appends e) = refl
calls_none (inserts e) = refl
calls_none (appends_at e) = refl
calls_none (inserts_at e) = refl
calls_none (adds e) = refl
calls_none (sets e) = refl
calls_none (deletes e) = refl
calls_none (removes e) = refl

-- a call of such a function changes nothing
list_calls : {f : Function} {args : List Tree} {w : Tree} (name : List ℕ) (c : Context) (s : State) → function_of name ≡ Some f → MakesList f args w → CallsFunction Faults c name args s (Ok w) s
list_calls {w = w} name c s f (appends e) = rw f (Ok w, s.world, follows f refl (ap (λ o. given (simply (Some o))) (sym e), refl), refl, refl)
list_calls {w = w} name c s f (inserts e) = rw f (Ok w, s.world, follows f refl (ap (λ o. given (simply (Some o))) (sym e), refl), refl, refl)
list_calls {w = w} name c s f (appends_at e) = rw f (Ok w, s.world, follows f refl (ap (λ o. given (simply (Some o))) (sym e), refl), refl, refl)
list_calls {w = w} name c s f (inserts_at e) = rw f (Ok w, s.world, follows f refl (ap (λ o. given (simply (Some o))) (sym e), refl), refl, refl)
list_calls {w = w} name c s f (adds e) = rw f (Ok w, s.world, follows f refl (ap (λ o. given (simply (Some o))) (sym e), refl), refl, refl)
list_calls {w = w} name c s f (sets e) = rw f (Ok w, s.world, follows f refl (ap (λ o. given (simply (Some o))) (sym e), refl), refl, refl)
list_calls {w = w} name c s f (deletes e) = rw f (Ok w, s.world, follows f refl (ap (λ o. given (simply (Some o))) (sym e), refl), refl, refl)
list_calls {w = w} name c s f (removes e) = rw f (Ok w, s.world, follows f refl (ap (λ o. given (simply (Some o))) (sym e), refl), refl, refl)

-- the arguments are evaluated, and a list is made of them
pub list_called : {c : Context} {name : List ℕ} {items : Items} {f : Function} {s s1 : State} {vs args : List Tree} {w : Tree} → EvaluatesAll Faults c items s (Ok vs) s1 → args ≡ vs → function_of name ≡ Some f → MakesList f args w → Computes Faults c (call name items) s (Ok w) s1
list_called {name = name} d same f h = applies d no_more (call_is (ap verb_caller f ∙ calls_none h) (list_calls name _ _ f (rw same at h)))
