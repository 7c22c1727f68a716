-- How answers of the program join what functions give.
use Rattle.std.proofs.Common.{◌≡◌, ℕ, refl, subst}
use Rattle.std.specs.Prelude.{Option, None, Some, Result, Ok, Err}
use Rattle.moo_value.specs.declared.error_code.ErrorCode.{ErrorCode}
use Rattle.moo_value.specs.declared.value.Value.{Value}
use Rattle.moo_value.specs.Tree.{Tree}
use Rattle.moo_builtin_operator.specs.declared.fault.OperationFault.{OperationFault}
use Rattle.moo_builtin_operator.specs.declared.fault.OperationFault.TheVariants.{Raise, Memory}
use Rattle.moo_builtin_value.specs.TextAnswers.{Gives}
use Rattle.moo_world_table.specs.World.{World}
use Rattle.moo_builtin_world.specs.Answers.{Does, GivesSome, LacksOnly}
use Rattle.moo_builtin_world.specs.Calls.{looked_or, LookMayLack}
use Rattle.moo_builtin_world.specs.Verbs.{on_verb}

-- a function that looks does what it gives, and leaves the world
pub looked : (a : Result Value OperationFault) (r : Option (Result Tree ErrorCode)) (w : World) (changed : Result (Tree × World) ErrorCode) → GivesSome (Some a) r → Does a w w (looked_or w r changed)
looked a None w changed gives = absurd gives
looked (Ok v) (Some r) w changed gives = rw gives refl
looked (Err (Raise e)) (Some r) w changed gives = rw gives (refl, refl)
looked (Err Memory) (Some r) w changed gives = refl

-- a verb that was found
pub on_found : (a : Result Value OperationFault) (place : Option ℕ) (i : ℕ) (f : ℕ → Result Tree ErrorCode) → Some i ≡ place → Gives a (f i) → Gives a (on_verb place f)
on_found a place i f found gives = subst (λ (x : Option ℕ). Gives a (on_verb x f)) found gives

-- one that doesn't look does what the change does
pub unlooked : (a : Result Value OperationFault) (r : Option (Result Tree ErrorCode)) (old new : World) (changed : Result (Tree × World) ErrorCode) → r ≡ None → Does a old new changed → Does a old new (looked_or old r changed)
unlooked a r old new changed none does = rw none does

-- a function that looks is short of memory for a list or a string alone
pub looked_lacks : (a : Result Value OperationFault) (r : Option (Result Tree ErrorCode)) (Change : Type 0) → GivesSome (Some a) r → LacksOnly a (LookMayLack r Change)
looked_lacks a None Change gives = absurd gives
looked_lacks (Ok v) (Some r) Change gives = tt
looked_lacks (Err (Raise e)) (Some r) Change gives = tt
looked_lacks (Err Memory) (Some r) Change gives = gives

-- another as its change is
pub unlooked_lacks : (a : Result Value OperationFault) (r : Option (Result Tree ErrorCode)) (Change : Type 0) → r ≡ None → LacksOnly a Change → LacksOnly a (LookMayLack r Change)
unlooked_lacks a r Change none lacks = rw none lacks
