-- For one input a call of a function has at most one result, if at most one fault is reported for each text, and none
-- for a program.
use Rattle.std.proofs.Common.{◌≡◌, ℕ, List, Option, None, Some, Result, sym, ap, ◌∙◌}
use Rattle.moo_value.specs.Tree.{Tree}
use Rattle.moo_syntax_function.specs.declared.function.Function.{Function}
use Rattle.moo_syntax_function.specs.Names.{function_of}
use Rattle.moo_world_table.specs.World.{World}
use Rattle.moo_eval_frame.specs.Outcome.{Failure}
use Rattle.moo_eval_frame.specs.State.{Context}
use Rattle.moo_eval_access.specs.State.{State, trace}
use Rattle.moo_builtin.specs.Telling.{Telling}
use Rattle.moo_builtin.proofs.Once.{plain_once}
pub use Rattle.moo_builtin.proofs.Once.{TellsOne, chosen_once}
use Rattle.moo_eval_semantics.specs.Tasks.{replied}
use Rattle.moo_eval_semantics.specs.Calls.{task_function, caller, CallsAs, CallsFunction}

same_reply : {A B : Type 0} {x : A × B} {a b : A} {c d : B} → x ≡ (a, c) → x ≡ (b, d) → (a ≡ b) × (c ≡ d)
same_reply f f' = let p = sym f ∙ f' in (ap (λ x. x.0) p, ap (λ x. x.1) p)

one_as : (T : Telling) → TellsOne T → (f : Option Function) (c : Context) (name : List ℕ) (args : List Tree) (s s' t : State) (r q : Result Tree Failure) → CallsAs T f c name args s r s' → CallsAs T f c name args s q t → (r ≡ q) × (s' ≡ t)
one_as T tells (Some f) c name args s s' t r q h k = same_reply h k
one_as T tells None c name args s s' t r q h k =
    let same = plain_once T tells name args s.world h.1 k.1 (caller c s) h.0 k.0 h.2 k.2 in
    (h.3 ∙ ap (replied c.frame.d (trace c s)) same.0 ∙ sym k.3, h.4 ∙ ap (λ (w : World). record s { world = w }) same.1 ∙ sym k.4)

pub one_call : (T : Telling) → TellsOne T → (c : Context) (name : List ℕ) (args : List Tree) (s s' t : State) (r q : Result Tree Failure) → CallsFunction T c name args s r s' → CallsFunction T c name args s q t → (r ≡ q) × (s' ≡ t)
one_call T tells c name args s s' t r q h k = one_as T tells (task_function (function_of name)) c name args s s' t r q h k
