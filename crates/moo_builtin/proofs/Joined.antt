-- How the answers of the fields' functions join those of a call by name.
use Rattle.std.proofs.Common.{◌≡◌, ℕ, ℤ, Bool, true, false, List, Option, None, Some, Result, Ok, Err, refl, sym, ap, ◌∙◌, subst}
use Rattle.std.specs.Prelude.{cond, IfSome}
use Rattle.moo_value.specs.declared.error_code.ErrorCode.{ErrorCode}
use Rattle.moo_value.specs.declared.error_code.ErrorCode.TheVariants.{InvalidArgument}
use Rattle.moo_value.specs.declared.value.Value.{Value}
use Rattle.moo_value.specs.Tree.{Tree}
use Rattle.moo_value.specs.View.{tree}
use Rattle.moo_builtin_operator.specs.declared.fault.OperationFault.{OperationFault}
use Rattle.moo_builtin_operator.specs.declared.fault.OperationFault.TheVariants.{Raise, Memory}
use Rattle.moo_syntax_function.specs.declared.function.Function.{Function}
use Rattle.moo_syntax_function.specs.declared.function.Function.TheVariants as function
use Rattle.moo_syntax_function.specs.Table.{row}
use Rattle.moo_syntax_function.specs.Names.{function_of}
use Rattle.moo_syntax_function.specs.Check.{refusal}
use Rattle.moo_builtin_value.specs.declared.call.Outcome.{Outcome}
use Rattle.moo_builtin_value.specs.declared.call.Outcome.TheVariants as outcome
use Rattle.moo_builtin_value.specs.Calls.{Raised, plainly, plain_answer, simply, answer, Shows, GivesSome, Raises, Tells}
use Rattle.moo_world_table.specs.World.{World}
use Rattle.moo_builtin_world.specs.Answers.{Does, DoesSome}
use Rattle.moo_builtin_world.specs.Objects.{is_valid}
use Rattle.moo_builtin_world.specs.Calls.{is_of_world, answer as objects_answer, world_answer}
use Rattle.moo_builtin.specs.Telling.{Telling}
use Rattle.moo_builtin.specs.Answers.{Outcomes, Comes, ComesSome}
use Rattle.moo_builtin.specs.CodeCalls.{is_of_code, Answers}
use Rattle.moo_builtin.specs.declared.call.Caller.{Caller}
use Rattle.moo_builtin.specs.Calls.{Field, values, objects, code, field, raising, Leaves, given, Follows, CallsPlain, unknown, refused, follows}
use Rattle.moo_builtin.specs.Outcomes.{Replies, IsReply, IsAnswer, Unless}

-- an outcome that raises an error
pub raises_reply : (o : Outcome) (r : Raised) (old new : World) (Such : Replies) → Raises o r → Such (Err r) new → new ≡ old → IsReply o old new Such
raises_reply (outcome.Value v) r old new Such raises is same = absurd raises
raises_reply (outcome.Raise e message v) r old new Such raises is same = (subst (λ (x : Raised). Such (Err x) new) raises is, same)
raises_reply outcome.Memory r old new Such raises is same = same

-- an outcome that carries a result
tells_reply : (a : Result Value OperationFault) (o : Outcome) (old new : World) (Such : Replies) → Tells o a → IsAnswer a old new Such → IsReply o old new Such
tells_reply (Ok v) o old new Such tells is = subst (λ (x : Outcome). IsReply x old new Such) (sym tells) is
tells_reply (Err (Raise e)) o old new Such tells is = raises_reply o (plainly e) old new Such tells is.0 is.1
tells_reply (Err Memory) o old new Such tells is = subst (λ (x : Outcome). IsReply x old new Such) (sym tells) is

-- an outcome that shows an answer
shows_reply : (f : Function) (args : List Tree) (o : Outcome) (r : Result Tree Raised) (w : World) (Such : Replies) → Shows f args o r → Such r w → IsReply o w w Such
shows_reply f args (outcome.Value v) r w Such shows is = subst (λ (x : Result Tree Raised). Such x w) shows is
shows_reply f args (outcome.Raise e message v) r w Such shows is = (subst (λ (x : Result Tree Raised). Such x w) shows is, refl)
shows_reply f args outcome.Memory r w Such shows is = refl

-- what the world's function does is what the call leaves
leaves : (a : Result Value OperationFault) (w new : World) (r : Result (Tree × World) ErrorCode) → Does a w new r → IsAnswer a w new (Leaves r w)
leaves (Ok v) w new r does = rw does (refl, refl)
leaves (Err (Raise e)) w new r does = (rw does.0 (refl, does.1), does.1)
leaves (Err Memory) w new r does = does

replied : (a : Result Value OperationFault) (w new : World) (Such Wider : Replies) → ((r : Result Tree Raised) (v : World) → Such r v → Wider r v) → IsAnswer a w new Such → IsAnswer a w new Wider
replied (Ok v) w new Such Wider wider is = wider _ _ is
replied (Err (Raise e)) w new Such Wider wider is = (wider _ _ is.0, is.1)
replied (Err Memory) w new Such Wider wider is = is

pub field_objects : (f : Function) → is_of_world f ≡ true → field f ≡ objects
field_objects f is = ap (λ b. cond b objects (cond (is_of_code f) code values)) is

pub field_code : (f : Function) → is_of_world f ≡ false → is_of_code f ≡ true → field f ≡ code
field_code f other is = ap (λ b. cond b objects (cond (is_of_code f) code values)) other ∙ ap (λ b. cond b code values) is

pub field_values : (f : Function) → is_of_world f ≡ false → is_of_code f ≡ false → field f ≡ values
field_values f other another = ap (λ b. cond b objects (cond (is_of_code f) code values)) other ∙ ap (λ b. cond b code values) another

some_of : (b : Bool) (a : Result Value OperationFault) (w new : World) (r : Result (Tree × World) ErrorCode) → DoesSome (Some a) w new (cond b (Some r) None) → (b ≡ true) × Does a w new r
some_of true a w new r does = (refl, does)
some_of false a w new r does = absurd does

pub some_of_world : (f : Function) (a : Result Value OperationFault) (w new : World) (p : ℤ) (args : List Tree) → DoesSome (Some a) w new (world_answer f w p args) → (is_of_world f ≡ true) × Does a w new (objects_answer f w p args)
some_of_world f a w new p args does = some_of (is_of_world f) a w new _ does

none_of : (b : Bool) (r : Result (Tree × World) ErrorCode) → cond b (Some r) None ≡ None → b ≡ false
none_of true r none = cc
none_of false r none = refl

pub not_of_world : (f : Function) (w : World) (p : ℤ) (args : List Tree) → world_answer f w p args ≡ None → is_of_world f ≡ false
not_of_world f w p args none = none_of (is_of_world f) _ none

-- a function over the world
pub world_answered : (T : Telling) (f : Function) (args : List Tree) (w new : World) (c : Caller) (a : Result Value OperationFault) → DoesSome (Some a) w new (world_answer f w c.programmer args) → IsAnswer a w new (Follows (field f) T f args w c)
world_answered T f args w new c a does =
    let is = some_of_world f a w new c.programmer args does in
    let answer = objects_answer f w c.programmer args in
    let left : IsAnswer a w new (Follows objects T f args w c) = replied a w new (Leaves answer w) (Follows objects T f args w c) (λ r v h. h) (leaves a w new answer is.1) in
    subst (λ (x : Field). IsAnswer a w new (Follows x T f args w c)) (sym (field_objects f is.0)) left

pub world_followed : (T : Telling) (f : Function) (args : List Tree) (w new : World) (c : Caller) (a : Result Value OperationFault) (o : Outcome) → DoesSome (Some a) w new (world_answer f w c.programmer args) → Tells o a → IsReply o w new (Follows (field f) T f args w c)
world_followed T f args w new c a o does tells = tells_reply a o w new (Follows (field f) T f args w c) tells (world_answered T f args w new c a does)

-- one on the code of a verb
coded : (a : Result Value OperationFault) (w new : World) (Such : Outcomes) (Wider : Replies) → ((r : Result Tree ErrorCode) (v : World) → Such r v → Wider (raising r) v) → Comes a w new Such → IsAnswer a w new Wider
coded (Ok v) w new Such Wider wider comes = wider (Ok (tree v)) new comes
coded (Err (Raise e)) w new Such Wider wider comes = (wider (Err e) new comes.0, comes.1)
coded (Err Memory) w new Such Wider wider comes = comes

pub code_answered : (T : Telling) (f : Function) (args : List Tree) (w new : World) (c : Caller) (a : Result Value OperationFault) → is_of_world f ≡ false → ComesSome (Some a) w new (is_of_code f) (Answers T f w c.programmer args) → IsAnswer a w new (Follows (field f) T f args w c)
code_answered T f args w new c a other comes =
    let come : IsAnswer a w new (Follows code T f args w c) = coded a w new (Answers T f w c.programmer args) (Follows code T f args w c) (λ r v such. (r, such, refl)) comes.1 in
    subst (λ (x : Field). IsAnswer a w new (Follows x T f args w c)) (sym (field_code f other comes.0)) come

pub code_followed : (T : Telling) (f : Function) (args : List Tree) (w new : World) (c : Caller) (a : Result Value OperationFault) (o : Outcome) → is_of_world f ≡ false → ComesSome (Some a) w new (is_of_code f) (Answers T f w c.programmer args) → Tells o a → IsReply o w new (Follows (field f) T f args w c)
code_followed T f args w new c a o other comes tells = tells_reply a o w new (Follows (field f) T f args w c) tells (code_answered T f args w new c a other comes)

-- one over values
pub value_followed : (T : Telling) (f : Function) (args : List Tree) (w : World) (c : Caller) (o : Outcome) → is_of_world f ≡ false → is_of_code f ≡ false → Shows f args o (given (answer f c.moment args)) → IsReply o w w (Follows (field f) T f args w c)
value_followed T f args w c o other another shows =
    subst (λ (x : Field). IsReply o w w (Follows x T f args w c)) (sym (field_values f other another)) (shows_reply f args o _ w (Follows values T f args w c) shows (refl, refl))

answer_of : (f : Function) (moment : ℕ) (args : List Tree) (r : Result Tree ErrorCode) → plain_answer f moment args ≡ Some r → answer f moment args ≡ simply (Some r)
answer_of function.Raise moment args r is = absurd cc
answer_of f moment args r is = ap simply is

as_given : (r : Result Tree ErrorCode) → given (simply (Some r)) ≡ raising r
as_given (Ok t) = refl
as_given (Err e) = refl

given_of : (f : Function) (moment : ℕ) (args : List Tree) (r x : Result Tree ErrorCode) → plain_answer f moment args ≡ Some r → r ≡ x → raising x ≡ given (answer f moment args)
given_of f moment args r x is same = sym (ap given (answer_of f moment args r is) ∙ as_given r ∙ ap raising same)

-- one over values whose errors have their own messages
plain_of : (T : Telling) (f : Function) (args : List Tree) (w : World) (c : Caller) (a : Result Value OperationFault) (r : Option (Result Tree ErrorCode)) → plain_answer f c.moment args ≡ r → GivesSome f args (Some a) r → IsAnswer a w w (Follows values T f args w c)
plain_of T f args w c a None is gives = absurd gives
plain_of T f args w c (Ok v) (Some r) is gives = (given_of f c.moment args r (Ok (tree v)) is gives, refl)
plain_of T f args w c (Err (Raise e)) (Some r) is gives = ((given_of f c.moment args r (Err e) is gives, refl), refl)
plain_of T f args w c (Err Memory) (Some r) is gives = refl

pub plain_answered : (T : Telling) (f : Function) (args : List Tree) (w : World) (c : Caller) (o : Option (Result Value OperationFault)) → is_of_world f ≡ false → is_of_code f ≡ false → GivesSome f args o (plain_answer f c.moment args) → IfSome o (λ a. IsAnswer a w w (Follows (field f) T f args w c))
plain_answered T f args w c None other another gives = tt
plain_answered T f args w c (Some a) other another gives =
    subst (λ (x : Field). IsAnswer a w w (Follows x T f args w c)) (sym (field_values f other another)) (plain_of T f args w c a (plain_answer f c.moment args) refl gives)

-- what a function gives is what the call comes to, unless its arguments are refused
widened : (o : Outcome) (old new : World) (Such Wider : Replies) → ((r : Result Tree Raised) (v : World) → Such r v → Wider r v) → IsReply o old new Such → IsReply o old new Wider
widened (outcome.Value v) old new Such Wider wider is = wider _ _ is
widened (outcome.Raise e message v) old new Such Wider wider is = (wider _ _ is.0, is.1)
widened outcome.Memory old new Such Wider wider is = is

by_rule : (T : Telling) (name : List ℕ) (f : Function) (args : List Tree) (w : World) (c : Caller) (e : Option ErrorCode) (r : Result Tree Raised) (v : World) → function_of name ≡ Some f → refusal (is_valid w) (row f) args ≡ e → Unless e w (Follows (field f) T f args w c) r v → CallsPlain T name args w c r v
by_rule T name f args w c (Some e) r v named found unless = rw (unless.0, unless.1) (refused named found)
by_rule T name f args w c None r v named found unless = follows named found unless

pub function_called : (T : Telling) (name : List ℕ) (f : Function) (args : List Tree) (w new : World) (c : Caller) (e : Option ErrorCode) (o : Outcome) → function_of name ≡ Some f → refusal (is_valid w) (row f) args ≡ e → IsReply o w new (Unless e w (Follows (field f) T f args w c)) → IsReply o w new (CallsPlain T name args w c)
function_called T name f args w new c e o named found is = widened o w new (Unless e w (Follows (field f) T f args w c)) (CallsPlain T name args w c) (λ r v unless. by_rule T name f args w c e r v named found unless) is

-- an answer for arguments that are not refused
pub answer_called : (T : Telling) (f : Function) (args : List Tree) (w new : World) (c : Caller) (o : Option (Result Value OperationFault)) → refusal (is_valid w) (row f) args ≡ None → IfSome o (λ a. IsAnswer a w new (Follows (field f) T f args w c)) → IfSome o (λ a. (name : List ℕ) → function_of name ≡ Some f → IsAnswer a w new (CallsPlain T name args w c))
answer_called T f args w new c None none is = tt
answer_called T f args w new c (Some a) none is = λ name named. replied a w new (Follows (field f) T f args w c) (CallsPlain T name args w c) (λ r v h. follows named none h) is

-- a name of no function
pub unknown_called : (T : Telling) (name : List ℕ) (args : List Tree) (w : World) (c : Caller) (o : Outcome) → function_of name ≡ None → Raises o (plainly InvalidArgument) → IsReply o w w (CallsPlain T name args w c)
unknown_called T name args w c o none raises = raises_reply o (plainly InvalidArgument) w w _ raises (unknown none) refl
