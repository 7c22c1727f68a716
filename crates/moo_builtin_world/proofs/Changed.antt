-- A change of the world that was tested and is permitted, and one that isn't.
use Rattle.std.proofs.Common.{◌≡◌, Bool, true, false, refl, sym, ap, ◌∙◌, subst}
use Rattle.std.specs.Prelude.{Option, None, Some, Result, Ok, Err, IsOk}
use Rattle.moo_value.specs.declared.error_code.ErrorCode.{ErrorCode}
use Rattle.moo_value.specs.declared.error_code.ErrorCode.TheVariants.{Permission}
use Rattle.moo_value.specs.declared.value.Value.{Value}
use Rattle.moo_value.specs.Tree.{Tree}
use Rattle.moo_builtin_operator.specs.declared.fault.OperationFault.{OperationFault}
use Rattle.moo_builtin_operator.specs.declared.fault.OperationFault.TheVariants.{Raise, Memory}
use Rattle.moo_world_table.specs.World.{World}
use Rattle.moo_world.specs.Calls.{Changes, Tests, TakesNoMemory, RaisesFirst}
use Rattle.moo_world.specs.declared.fault.WorldFault.{WorldFault}
use Rattle.moo_world.specs.declared.fault.WorldFault.TheVariants as world
use Rattle.moo_builtin_world.specs.Answers.{Does, Reads, IsNeverLacking, LacksOnly, permitted, refused as refused_by, changed}
use Rattle.moo_builtin_world.specs.Order.{changes, given}

refused_as : {T : Type 0} (tested : Result T WorldFault) (raises : Option ErrorCode) (allowed : Bool) (e : OperationFault) (w after : World)
    → Tests tested raises → permitted tested allowed ≡ Err e → Does (Err e) w w (changes raises allowed after)
refused_as (Ok v) raises true e w after tests is = absurd (cc)
refused_as (Ok v) raises false e w after tests is =
    let same : Raise Permission ≡ e = cc in
    subst (λ (x : OperationFault). Does (Err x) w w (changes raises false after)) same (rw tests.0 (refl, refl))
refused_as (Err (world.Raise c)) raises allowed e w after tests is =
    let same : Raise c ≡ e = cc in
    subst (λ (x : OperationFault). Does (Err x) w w (changes raises allowed after)) same (rw tests (refl, refl))
refused_as (Err world.Memory) raises allowed e w after tests is =
    let same : Memory ≡ e = cc in
    subst (λ (x : OperationFault). Does (Err x) w w (changes raises allowed after)) same refl

done_as : {S T : Type 0} (tested : Result T WorldFault) (u : T) (raises : Option ErrorCode) (allowed : Bool) (made : Result S WorldFault) (old new after : World)
    → Tests tested raises → permitted tested allowed ≡ Ok u → Changes made old new raises after
    → Does (changed made) old new (changes raises allowed after)
done_as (Ok v) u raises true (Ok s) old new after tests is made = rw (tests.0, made.1) refl
done_as (Ok v) u raises true (Err (world.Raise e)) old new after tests is made = let none : raises ≡ None = tests.0 in let some = made.0 in absurd (cc)
done_as (Ok v) u raises true (Err world.Memory) old new after tests is made = made
done_as (Ok v) u raises false made old new after tests is changes = absurd (cc)
done_as (Err (world.Raise c)) u raises allowed made old new after tests is changes = absurd (cc)
done_as (Err world.Memory) u raises allowed made old new after tests is changes = absurd (cc)

-- what isn't permitted changes nothing
pub refused : {T : Type 0} (tested : Result T WorldFault) (raises : Option ErrorCode) (is_allowed allowed : Bool) (e : OperationFault) (w after : World)
    → Tests tested raises → is_allowed ≡ allowed → Err e ≡ permitted tested is_allowed → Does (Err e) w w (changes raises allowed after)
refused tested raises is_allowed allowed e w after tests right is =
    refused_as tested raises allowed e w after tests (ap (permitted tested) (sym right) ∙ sym is)

-- what is permitted is done
pub done : {S T : Type 0} (tested : Result T WorldFault) (u : T) (raises : Option ErrorCode) (is_allowed allowed : Bool) (made : Result S WorldFault) (old new after : World)
    → Tests tested raises → is_allowed ≡ allowed → Ok u ≡ permitted tested is_allowed → Changes made old new raises after
    → Does (changed made) old new (changes raises allowed after)
done tested u raises is_allowed allowed made old new after tests right is changes =
    done_as tested u raises allowed made old new after tests (ap (permitted tested) (sym right) ∙ sym is) changes

-- a programmer without the right to a change gets the error of its test, and else that of the right
pub untried : {T : Type 0} (tested : Result T WorldFault) (raises : Option ErrorCode) (allowed : Bool) (a : Result Value OperationFault) (w after : World)
    → Tests tested raises → allowed ≡ false → a ≡ refused_by tested → Does a w w (changes raises allowed after)
untried (Ok v) raises allowed a w after tests right is = rw (is, right, tests.0) (refl, refl)
untried (Err (world.Raise e)) raises allowed a w after tests right is = rw (is, tests) (refl, refl)
untried (Err world.Memory) raises allowed a w after tests right is = rw is refl

-- a programmer with the right makes the change, which returns its own error
pub tried : {T : Type 0} (made : Result T WorldFault) (raises : Option ErrorCode) (allowed : Bool) (a : Result Value OperationFault) (old new after : World)
    → Changes made old new raises after → allowed ≡ true → a ≡ changed made → Does a old new (changes raises allowed after)
tried (Ok v) raises allowed a old new after made right is = rw (is, right, made.0, made.1) refl
tried (Err (world.Raise e)) raises allowed a old new after made right is = rw (is, made.0) (refl, made.1)
tried (Err world.Memory) raises allowed a old new after made right is = rw is made

-- its answer is that of the change
pub answered : (a b : Result Value OperationFault) (old new : World) (r : Result (Tree × World) ErrorCode) → a ≡ b → Does b old new r → Does a old new r
answered a b old new r same does = subst (λ (x : Result Value OperationFault). Does x old new r) (sym same) does

-- an argument that gives nothing
pub misread : {X : Type 0} (a : OperationFault) (r : Result X ErrorCode) (f : X → Result (Tree × World) ErrorCode) (w : World) → Reads (Err a) r → Does (Err a) w w (given r f)
misread (Raise e) r f w reads = rw reads (refl, refl)
misread Memory r f w reads = refl

-- and one that gives something
pub read : {X : Type 0} (x : X) (r : Result X ErrorCode) (f : X → Result (Tree × World) ErrorCode) (a : Result Value OperationFault) (old new : World) → Reads (Ok x) r → Does a old new (f x) → Does a old new (given r f)
read x r f a old new reads does = rw reads does

-- what raises isn't short of memory
raised_never : (c : ErrorCode) (a : Result Value OperationFault) → a ≡ Err (Raise c) → IsNeverLacking a
raised_never c a is = rw is tt

-- what is refused by a test that takes no memory, or by a right, isn't short of memory
pub refused_never : {T : Type 0} (tested : Result T WorldFault) (allowed : Bool) (e : OperationFault) (a : Result Value OperationFault)
    → TakesNoMemory tested → Err e ≡ permitted tested allowed → a ≡ Err e → IsNeverLacking a
refused_never (Ok v) true e a takes is same = absurd (cc)
refused_never (Ok v) false e a takes is same = raised_never Permission a (cc)
refused_never (Err (world.Raise c)) allowed e a takes is same = raised_never c a (cc)
refused_never (Err world.Memory) allowed e a takes is same = absurd takes

-- nor does a change that allocates nothing
pub changed_never : {T : Type 0} (made : Result T WorldFault) (a : Result Value OperationFault) → TakesNoMemory made → a ≡ changed made → IsNeverLacking a
changed_never (Ok v) a takes is = rw is tt
changed_never (Err (world.Raise e)) a takes is = rw is tt
changed_never (Err world.Memory) a takes is = absurd takes

pub never_lacks : (a : Result Value OperationFault) (May : Type 0) → IsNeverLacking a → LacksOnly a May
never_lacks (Ok v) May never = tt
never_lacks (Err (Raise e)) May never = tt
never_lacks (Err Memory) May never = absurd never

is_permitted : {T : Type 0} (tested : Result T WorldFault) (u : T) (allowed : Bool) → Ok u ≡ permitted tested allowed → allowed ≡ true
is_permitted (Ok v) u true is = refl
is_permitted (Ok v) u false is = absurd (cc)
is_permitted (Err (world.Raise e)) u allowed is = absurd (cc)
is_permitted (Err world.Memory) u allowed is = absurd (cc)

is_due : (raises : Option ErrorCode) (allowed : Bool) (after : World) → raises ≡ None → allowed ≡ true → IsOk (changes raises allowed after)
is_due None true after none is = refl
is_due None false after none is = absurd (cc)
is_due (Some e) allowed after none is = absurd (cc)

-- a change that allocates once nothing is to be raised runs out of memory only if it is due
pub lacks_due : {S T : Type 0} (tested : Result T WorldFault) (u : T) (raises : Option ErrorCode) (is_allowed allowed : Bool) (made : Result S WorldFault) (a : Result Value OperationFault) (after : World)
    → is_allowed ≡ allowed → Ok u ≡ permitted tested is_allowed → RaisesFirst made raises → a ≡ changed made → LacksOnly a (IsOk (changes raises allowed after))
lacks_due tested u raises is_allowed allowed (Ok s) a after right is first made = rw made tt
lacks_due tested u raises is_allowed allowed (Err (world.Raise e)) a after right is first made = rw made tt
lacks_due tested u raises is_allowed allowed (Err world.Memory) a after right is first made =
    rw made (is_due raises allowed after first (sym right ∙ is_permitted tested u is_allowed is))
