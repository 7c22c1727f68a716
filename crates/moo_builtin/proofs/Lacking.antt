-- Memory runs out for a plain call only where it may.
use Rattle.std.proofs.Common.{inl, inr, ◌≡◌, List, false, Some, Result, Ok, Err, refl, sym, subst}
use Rattle.moo_value.specs.declared.error_code.ErrorCode.{ErrorCode}
use Rattle.moo_value.specs.declared.value.Value.{Value}
use Rattle.moo_value.specs.Tree.{Tree}
use Rattle.moo_builtin_operator.specs.declared.fault.OperationFault.{OperationFault}
use Rattle.moo_builtin_operator.specs.declared.fault.OperationFault.TheVariants.{Raise, Memory}
use Rattle.moo_syntax_function.specs.declared.function.Function.{Function}
use Rattle.moo_builtin_value.specs.declared.call.Outcome.{Outcome}
use Rattle.moo_builtin_value.specs.declared.call.Outcome.TheVariants as outcome
use Rattle.moo_builtin_value.specs.Calls.{answer, Shows, Tells}
use Rattle.moo_world_table.specs.World.{World}
use Rattle.moo_builtin_world.specs.Answers.{Does, DoesSome, LacksOnly as AnswerLacksOnly, LacksOnlySome}
use Rattle.moo_builtin_world.specs.Calls.{is_of_world, answer as objects_answer, world_answer, MayLack as WorldMayLack}
use Rattle.moo_builtin.specs.Telling.{Faults}
use Rattle.moo_builtin.specs.Answers.{Comes, ComesSome}
use Rattle.moo_builtin.specs.CodeCalls.{is_of_code, Answers, MayLack as CodeMayLack}
use Rattle.moo_builtin.specs.declared.call.Caller.{Caller}
use Rattle.moo_builtin.specs.Calls.{Field, objects, code, field, given}
use Rattle.moo_builtin.specs.Lacking.{RaisesOr, CodeRaisesOr, AnswerMayLack, LacksOnly}
use Rattle.moo_builtin.proofs.Joined.{field_objects, field_code, field_values, some_of_world}

may_lack : (o : Outcome) (May : Type 0) → May → LacksOnly o May
may_lack (outcome.Value v) May may = tt
may_lack (outcome.Raise e message v) May may = tt
may_lack outcome.Memory May may = may

-- an outcome of a result lacks memory if the result does, and if it raises an error
tells_lacks : (a : Result Value OperationFault) (o : Outcome) (May : Type 0) → Tells o a → ((e : ErrorCode) → a ≡ Err (Raise e) → May) → (a ≡ Err Memory → May) → LacksOnly o May
tells_lacks (Ok v) o May tells raises lacks = subst (λ (x : Outcome). LacksOnly x May) (sym tells) tt
tells_lacks (Err (Raise e)) o May tells raises lacks = may_lack o May (raises e refl)
tells_lacks (Err Memory) o May tells raises lacks = may_lack o May (lacks refl)

or_may : {X : Type 0} (r : Result X ErrorCode) (May : Type 0) → May → RaisesOr r May
or_may (Ok x) May may = may
or_may (Err e) May may = tt

raises_or : (r : Result (Tree × World) ErrorCode) (raised : ErrorCode) (w new : World) (May : Type 0) → Does (Err (Raise raised)) w new r → RaisesOr r May
raises_or (Ok p) raised w new May does = absurd (let apart = does.0 in cc)
raises_or (Err e) raised w new May does = tt

pub world_lacks : (f : Function) (args : List Tree) (w new : World) (c : Caller) (a : Result Value OperationFault) (o : Outcome) → DoesSome (Some a) w new (world_answer f w c.programmer args) → LacksOnlySome (Some a) (WorldMayLack f w c.programmer args) → Tells o a → LacksOnly o (AnswerMayLack (field f) f args w c)
world_lacks f args w new c a o does lacks tells =
    let is = some_of_world f a w new c.programmer args does in
    let answer = objects_answer f w c.programmer args in
    subst (λ (x : Field). LacksOnly o (AnswerMayLack x f args w c)) (sym (field_objects f is.0)) (tells_lacks a o (AnswerMayLack objects f args w c) tells
    (λ e raised. raises_or answer e w new _ (subst (λ (x : Result Value OperationFault). Does x w new answer) raised is.1))
    (λ lacking. or_may answer _ (subst (λ (x : Result Value OperationFault). AnswerLacksOnly x (WorldMayLack f w c.programmer args)) lacking lacks)))

code_raises : (f : Function) (args : List Tree) (w new : World) (c : Caller) (e : ErrorCode) → Comes (Err (Raise e)) w new (Answers Faults f w c.programmer args) → CodeRaisesOr f w c args
code_raises f args w new c e comes = inl (e, subst (λ (x : World). Answers Faults f w c.programmer args (Err e) x) comes.1 comes.0)

pub code_lacks : (f : Function) (args : List Tree) (w new : World) (c : Caller) (a : Result Value OperationFault) (o : Outcome) → is_of_world f ≡ false → ComesSome (Some a) w new (is_of_code f) (Answers Faults f w c.programmer args) → LacksOnlySome (Some a) (CodeMayLack f w c.programmer args) → Tells o a → LacksOnly o (AnswerMayLack (field f) f args w c)
code_lacks f args w new c a o other comes lacks tells =
    let May = AnswerMayLack code f args w c in
    subst (λ (x : Field). LacksOnly o (AnswerMayLack x f args w c)) (sym (field_code f other comes.0)) (tells_lacks a o May tells
    (λ e raised. code_raises f args w new c e (subst (λ (x : Result Value OperationFault). Comes x w new (Answers Faults f w c.programmer args)) raised comes.1))
    (λ lacking. inr (subst (λ (x : Result Value OperationFault). AnswerLacksOnly x (CodeMayLack f w c.programmer args)) lacking lacks)))

pub value_lacks : (f : Function) (args : List Tree) (w : World) (c : Caller) (o : Outcome) → is_of_world f ≡ false → is_of_code f ≡ false → Shows f args o (given (answer f c.moment args)) → LacksOnly o (AnswerMayLack (field f) f args w c)
value_lacks f args w c (outcome.Value v) other another shows = tt
value_lacks f args w c (outcome.Raise raised message v) other another shows = tt
value_lacks f args w c outcome.Memory other another shows = subst (λ (x : Field). AnswerMayLack x f args w c) (sym (field_values f other another)) shows
