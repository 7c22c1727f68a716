-- For one input a plain call has at most one result, and a raise leaves the world as it is.
use Rattle.std.proofs.Common.{◌≡◌, ℕ, ℤ, List, [], ◌∷◌, Option, None, Some, Result, Ok, Err, refl, sym, ap, ◌∙◌, subst}
use Rattle.moo_value.specs.declared.error_code.ErrorCode.{ErrorCode}
use Rattle.moo_value.specs.Tree.{Tree, object}
use Rattle.moo_syntax_function.specs.declared.function.Function.{Function}
use Rattle.moo_syntax_function.specs.declared.function.Function.TheVariants.{VerbCode, SetVerbCode}
use Rattle.moo_syntax.specs.declared.syntax_fault.SyntaxFault.{SyntaxFault}
use Rattle.moo_builtin_value.specs.Calls.{Raised}
use Rattle.moo_world_table.specs.World.{World}
use Rattle.moo_builtin_world.specs.Calls.{answer as world_answer}
use Rattle.moo_builtin.specs.Telling.{Telling, Faults, Choice, PassesPrograms, chosen_by}
use Rattle.moo_builtin.specs.Answers.{Outcomes, Then}
use Rattle.moo_builtin.specs.Setting.{verb_to_set, given_lines, IsSet, SetsText}
use Rattle.moo_builtin.specs.CodeCalls.{Answers}
use Rattle.moo_builtin.proofs.CodeOnce.{Once, sets_once, only_once}
pub use Rattle.moo_builtin.proofs.CodeOnce.{TellsOne}
use Rattle.moo_builtin.specs.declared.call.Caller.{Caller}
use Rattle.moo_builtin.specs.Calls.{Field, values, objects, code, field, raising, Leaves, IsOf, Follows, CallsPlain, unknown, refused, follows}
use Rattle.moo_builtin.specs.Laws.{OneResult, RaisesChangeNothing}

same_fault : {o : Option SyntaxFault} {f g : SyntaxFault} → o ≡ Some f → o ≡ Some g → f ≡ g
same_fault p q = let h = sym p ∙ q in cc

no_fault : {o : Option SyntaxFault} {f : SyntaxFault} → o ≡ None → o ≡ Some f → ⊥
no_fault p q = let h = sym p ∙ q in cc

-- a choice has one fault at most
pub chosen_once : (choice : Choice) → PassesPrograms choice → TellsOne (chosen_by choice)
chosen_once choice passes = record { one = λ lines f g p q. same_fault p q; none = λ lines b f parsed p. no_fault (passes lines b parsed) p }

one_left : (a : Result (Tree × World) ErrorCode) (w v u : World) (r q : Result Tree Raised) → Leaves a w r v → Leaves a w q u → (r ≡ q) × (v ≡ u)
one_left (Ok p) w v u r q h k = (h.0 ∙ sym k.0, h.1 ∙ sym k.1)
one_left (Err e) w v u r q h k = (h.0 ∙ sym k.0, h.1 ∙ sym k.1)

-- the functions on code
answers_once : (T : Telling) → TellsOne T → (f : Function) (args : List Tree) (w : World) (p : ℤ) → Once (Answers T f w p args)
answers_once T told VerbCode args w p = only_once _ w
answers_once T told SetVerbCode args w p = sets_once T told w p args
answers_once T told _ args w p = λ r q v u h k. absurd h

one_of : (Such : Outcomes) → Once Such → (v u : World) (r q : Result Tree Raised) → IsOf Such r v → IsOf Such q u → (r ≡ q) × (v ≡ u)
one_of Such once v u r q h k =
    let same = once h.0 k.0 v u h.1 k.1 in
    (h.2 ∙ ap raising same.0 ∙ sym k.2, same.1)

one_followed : (T : Telling) → TellsOne T → (at : Field) (f : Function) (args : List Tree) (w v u : World) (c : Caller) (r q : Result Tree Raised) → Follows at T f args w c r v → Follows at T f args w c q u → (r ≡ q) × (v ≡ u)
one_followed T told values f args w v u c r q h k = (h.0 ∙ sym k.0, h.1 ∙ sym k.1)
one_followed T told objects f args w v u c r q h k = one_left (world_answer f w c.programmer args) w v u r q h k
one_followed T told code f args w v u c r q h k = one_of (Answers T f w c.programmer args) (answers_once T told f args w c.programmer) v u r q h k

same_function : {o : Option Function} {f g : Function} → o ≡ Some f → o ≡ Some g → f ≡ g
same_function p q = let h = sym p ∙ q in cc

pub plain_once : (T : Telling) → TellsOne T → (name : List ℕ) (args : List Tree) (w v u : World) (c : Caller) (r q : Result Tree Raised) → CallsPlain T name args w c r v → CallsPlain T name args w c q u → (r ≡ q) × (v ≡ u)
plain_once T told name args w v u c r q (unknown n) (unknown m) = (refl, refl)
plain_once T told name args w v u c r q (unknown n) (refused m e) = absurd (cc)
plain_once T told name args w v u c r q (unknown n) (follows m fits k) = absurd (cc)
plain_once T told name args w v u c r q (refused n d) (unknown m) = absurd (cc)
plain_once T told name args w v u c r q (refused n d) (refused m e) = (cc, refl)
plain_once T told name args w v u c r q (refused n d) (follows m fits k) = absurd (cc)
plain_once T told name args w v u c r q (follows n fits h) (unknown m) = absurd (cc)
plain_once T told name args w v u c r q (follows n fits h) (refused m e) = absurd (cc)
plain_once T told name args w v u c r q (follows {f = f} n fits h) (follows {f = g} m fits' k) =
    let same : g ≡ f = same_function m n in
    one_followed T told (field f) f args w v u c r q h (subst (λ (x : Function). Follows (field x) T x args w c q u) same k)

pub one_result : OneResult
one_result choice passes name args w v u c r q h k = plain_once (chosen_by choice) (chosen_once choice passes) name args w v u c r q h k

raise_left : (a : Result (Tree × World) ErrorCode) (w v : World) (e : Raised) → Leaves a w (Err e) v → v ≡ w
raise_left (Ok p) w v e h = absurd (let apart = h.0 in cc)
raise_left (Err raises) w v e h = h.1

raise_set : (T : Telling) (w v : World) (o : ℤ) (i : ℕ) (lines : List (List ℕ)) (r : Result Tree ErrorCode) (e : ErrorCode) → IsSet T w o i lines r v → r ≡ Err e → v ≡ w
raise_set T w v o i lines r e (IsSet.set p) is = absurd (cc)
raise_set T w v o i lines r e (IsSet.told f h) is = refl

raise_then : {X : Type 0} (x : Result X ErrorCode) (w v : World) (next : X → Outcomes) (e : ErrorCode) → ((y : X) → next y (Err e) v → v ≡ w) → Then x w next (Err e) v → v ≡ w
raise_then (Err raises) w v next e each h = h.1
raise_then (Ok y) w v next e each h = each y h

raise_coded : (T : Telling) (f : Function) (w v : World) (p : ℤ) (args : List Tree) (e : ErrorCode) → Answers T f w p args (Err e) v → v ≡ w
raise_coded T VerbCode w v p args e h = h.1
raise_coded T SetVerbCode w v p (object o ∷ t ∷ text ∷ []) e h = raise_then (verb_to_set w p o t) w v (SetsText T w o text) e (λ i k. raise_then (given_lines text) w v (IsSet T w o i) e (λ lines set. raise_set T w v o i lines (Err e) e set refl) k) h
raise_coded T SetVerbCode w v p _ e h = h.1
raise_coded T _ w v p args e h = absurd h

raise_of : (T : Telling) (f : Function) (w v : World) (p : ℤ) (args : List Tree) (reply : Result Tree ErrorCode) (e : Raised) → Answers T f w p args reply v → Err e ≡ raising reply → v ≡ w
raise_of T f w v p args (Ok t) e h is = absurd (cc)
raise_of T f w v p args (Err raises) e h is = raise_coded T f w v p args raises h

raise_followed : (T : Telling) (at : Field) (f : Function) (args : List Tree) (w v : World) (c : Caller) (e : Raised) → Follows at T f args w c (Err e) v → v ≡ w
raise_followed T values f args w v c e h = h.1
raise_followed T objects f args w v c e h = raise_left (world_answer f w c.programmer args) w v e h
raise_followed T code f args w v c e h = raise_of T f w v c.programmer args h.0 e h.1 h.2

-- a reply that raises leaves the world
pub raised : (T : Telling) (name : List ℕ) (args : List Tree) (w v : World) (c : Caller) (r : Result Tree Raised) (e : Raised) → CallsPlain T name args w c r v → r ≡ Err e → v ≡ w
raised T name args w v c r e (unknown n) is = refl
raised T name args w v c r e (refused n d) is = refl
raised T name args w v c r e (follows {f = f} n fits h) is = raise_followed T (field f) f args w v c e (subst (λ (x : Result Tree Raised). Follows (field f) T f args w c x v) is h)

pub raises_change_nothing : RaisesChangeNothing
raises_change_nothing name args w v c e h = raised Faults name args w v c (Err e) e h refl
