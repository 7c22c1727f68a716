-- By two ways to report faults that agree, a call of a function has the same result.
use Rattle.std.proofs.Common.{◌≡◌, ℕ, List, [], ◌∷◌, Option, None, Some, Result, Ok, Err, refl, sym, ap, ◌∙◌, subst}
use Rattle.std.specs.Prelude.{ℤ}
use Rattle.moo_value.specs.declared.error_code.ErrorCode.{ErrorCode}
use Rattle.moo_value.specs.declared.error_code.ErrorCode.TheVariants.{TypeMismatch}
use Rattle.moo_value.specs.Tree.{Tree, object}
use Rattle.moo_syntax_ast.specs.Tree.{Block}
use Rattle.moo_syntax_grammar.specs.declared.names.Names.TheVariants.{Known}
use Rattle.moo_syntax_grammar.specs.Texts.{IsParsed}
use Rattle.moo_syntax.specs.declared.syntax_fault.SyntaxFault.{SyntaxFault}
use Rattle.moo_syntax_function.specs.declared.function.Function.{Function}
use Rattle.moo_syntax_function.specs.declared.function.Function.TheVariants.{VerbCode, SetVerbCode}
use Rattle.moo_syntax_function.specs.Names.{function_of}
use Rattle.moo_builtin_value.specs.Calls.{Raised}
use Rattle.moo_world_table.specs.World.{World}
use Rattle.moo_builtin_world.specs.Calls.{answer as world_answer}
use Rattle.moo_eval_frame.specs.Outcome.{Failure}
use Rattle.moo_eval_frame.specs.State.{Context}
use Rattle.moo_eval_access.specs.State.{State, trace}
use Rattle.moo_builtin.specs.Telling.{Telling}
use Rattle.moo_builtin.specs.Answers.{Outcomes, Then}
use Rattle.moo_builtin.specs.Setting.{told_fault, with_code, verb_to_set, given_lines, IsSet, SetsText, SetsCode}
use Rattle.moo_builtin.specs.CodeCalls.{Answers}
use Rattle.moo_builtin.proofs.CodeOnce.{TellsOne, only_once, same_program}
use Rattle.moo_builtin.specs.declared.call.Caller.{Caller}
use Rattle.moo_builtin.specs.Calls.{Field, values, objects, code, field, raising, Leaves, IsOf, Follows, CallsPlain, unknown, refused, follows}
use Rattle.moo_eval_semantics.specs.Tasks.{replied}
use Rattle.moo_eval_semantics.specs.Calls.{task_function, caller, CallsAs, CallsFunction}

-- if both report a fault of a text it is the same, and neither reports one of a program
pub record Agree (T U : Telling) : Type 0 where
  pub same : (lines : List (List ℕ)) (f g : SyntaxFault) → T lines f → U lines g → f ≡ g
  pub none : (lines : List (List ℕ)) (b : Block) (f : SyntaxFault) → IsParsed Known lines b → T lines f → ⊥
  pub neither : (lines : List (List ℕ)) (b : Block) (f : SyntaxFault) → IsParsed Known lines b → U lines f → ⊥

pub alike : (T : Telling) → TellsOne T → Agree T T
alike T tells = record { same = tells.one; none = tells.none; neither = tells.none }

-- an outcome of the one is one of the other, with the world after it
abbrev Agreed : Outcomes → Outcomes → Type 0
Agreed Such Other = (r q : Result Tree ErrorCode) (w v : World) → Such r w → Other q v → (r ≡ q) × (w ≡ v)

then_agreed : {X : Type 0} (x : Result X ErrorCode) (w : World) (next other : X → Outcomes) → ((y : X) → Agreed (next y) (other y)) → Agreed (Then x w next) (Then x w other)
then_agreed (Err e) w next other agreed = only_once (Err e) w
then_agreed (Ok y) w next other agreed = agreed y

set_agreed : (T U : Telling) → Agree T U → (w : World) (o : ℤ) (i : ℕ) (lines : List (List ℕ)) → Agreed (IsSet T w o i lines) (IsSet U w o i lines)
set_agreed T U agree w o i lines r q u v (IsSet.set {b = b} p) (IsSet.set {b = c} p') = (refl, ap (with_code w o i) (same_program lines b c p p'))
set_agreed T U agree w o i lines r q u v (IsSet.set {b = b} p) (IsSet.told f h) = absurd (agree.neither lines b f p h)
set_agreed T U agree w o i lines r q u v (IsSet.told f h) (IsSet.set {b = b} p) = absurd (agree.none lines b f p h)
set_agreed T U agree w o i lines r q u v (IsSet.told f h) (IsSet.told g k) = (ap told_fault (agree.same lines f g h k), refl)

sets_agreed : (T U : Telling) → Agree T U → (w : World) (p : ℤ) (args : List Tree) → Agreed (SetsCode T w p args) (SetsCode U w p args)
sets_agreed T U agree w p (object o ∷ t ∷ text ∷ []) = then_agreed (verb_to_set w p o t) w (SetsText T w o text) (SetsText U w o text) (λ i. then_agreed (given_lines text) w (IsSet T w o i) (IsSet U w o i) (set_agreed T U agree w o i))
sets_agreed T U agree w p _ = only_once (Err TypeMismatch) w

one_left : (a : Result (Tree × World) ErrorCode) (w v u : World) (r q : Result Tree Raised) → Leaves a w r v → Leaves a w q u → (r ≡ q) × (v ≡ u)
one_left (Ok p) w v u r q h k = (h.0 ∙ sym k.0, h.1 ∙ sym k.1)
one_left (Err e) w v u r q h k = (h.0 ∙ sym k.0, h.1 ∙ sym k.1)

-- the functions on code
answers_agreed : (T U : Telling) → Agree T U → (f : Function) (args : List Tree) (w : World) (p : ℤ) → Agreed (Answers T f w p args) (Answers U f w p args)
answers_agreed T U agree VerbCode args w p = only_once _ w
answers_agreed T U agree SetVerbCode args w p = sets_agreed T U agree w p args
answers_agreed T U agree _ args w p = λ r q v u h k. absurd h

one_of : (Such Other : Outcomes) → Agreed Such Other → (v u : World) (r q : Result Tree Raised) → IsOf Such r v → IsOf Other q u → (r ≡ q) × (v ≡ u)
one_of Such Other agreed v u r q h k =
    let same = agreed h.0 k.0 v u h.1 k.1 in
    (h.2 ∙ ap raising same.0 ∙ sym k.2, same.1)

one_followed : (T U : Telling) → Agree T U → (at : Field) (f : Function) (args : List Tree) (w v u : World) (c : Caller) (r q : Result Tree Raised) → Follows at T f args w c r v → Follows at U f args w c q u → (r ≡ q) × (v ≡ u)
one_followed T U agree values f args w v u c r q h k = (h.0 ∙ sym k.0, h.1 ∙ sym k.1)
one_followed T U agree objects f args w v u c r q h k = one_left (world_answer f w c.programmer args) w v u r q h k
one_followed T U agree code f args w v u c r q h k = one_of (Answers T f w c.programmer args) (Answers U f w c.programmer args) (answers_agreed T U agree f args w c.programmer) v u r q h k

same_function : {o : Option Function} {f g : Function} → o ≡ Some f → o ≡ Some g → f ≡ g
same_function p q = let h = sym p ∙ q in cc

plain_agreed : (T U : Telling) → Agree T U → (name : List ℕ) (args : List Tree) (w v u : World) (c : Caller) (r q : Result Tree Raised) → CallsPlain T name args w c r v → CallsPlain U name args w c q u → (r ≡ q) × (v ≡ u)
plain_agreed T U agree name args w v u c r q (unknown n) (unknown m) = (refl, refl)
plain_agreed T U agree name args w v u c r q (unknown n) (refused m e) = absurd (cc)
plain_agreed T U agree name args w v u c r q (unknown n) (follows m fits k) = absurd (cc)
plain_agreed T U agree name args w v u c r q (refused n d) (unknown m) = absurd (cc)
plain_agreed T U agree name args w v u c r q (refused n d) (refused m e) = (cc, refl)
plain_agreed T U agree name args w v u c r q (refused n d) (follows m fits k) = absurd (cc)
plain_agreed T U agree name args w v u c r q (follows n fits h) (unknown m) = absurd (cc)
plain_agreed T U agree name args w v u c r q (follows n fits h) (refused m e) = absurd (cc)
plain_agreed T U agree name args w v u c r q (follows {f = f} n fits h) (follows {f = g} m fits' k) =
    let same : g ≡ f = same_function m n in
    one_followed T U agree (field f) f args w v u c r q h (subst (λ (x : Function). Follows (field x) U x args w c q u) same k)

same_reply : {A B : Type 0} {x : A × B} {a b : A} {c d : B} → x ≡ (a, c) → x ≡ (b, d) → (a ≡ b) × (c ≡ d)
same_reply f f' = let p = sym f ∙ f' in (ap (λ x. x.0) p, ap (λ x. x.1) p)

agreed_as : (T U : Telling) → Agree T U → (f : Option Function) (c : Context) (name : List ℕ) (args : List Tree) (s s' t : State) (r q : Result Tree Failure) → CallsAs T f c name args s r s' → CallsAs U f c name args s q t → (r ≡ q) × (s' ≡ t)
agreed_as T U agree (Some f) c name args s s' t r q h k = same_reply h k
agreed_as T U agree None c name args s s' t r q h k =
    let same = plain_agreed T U agree name args s.world h.1 k.1 (caller c s) h.0 k.0 h.2 k.2 in
    (h.3 ∙ ap (replied c.frame.d (trace c s)) same.0 ∙ sym k.3, h.4 ∙ ap (λ (w : World). record s { world = w }) same.1 ∙ sym k.4)

pub agreed_call : (T U : Telling) → Agree T U → (c : Context) (name : List ℕ) (args : List Tree) (s s' t : State) (r q : Result Tree Failure) → CallsFunction T c name args s r s' → CallsFunction U c name args s q t → (r ≡ q) × (s' ≡ t)
agreed_call T U agree c name args s s' t r q h k = agreed_as T U agree (task_function (function_of name)) c name args s s' t r q h k
