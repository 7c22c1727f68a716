-- How a result of the program relates to what a function gives.
use Rattle.std.specs.Prelude.{◌≡◌, pos, Bool, if◌then◌else◌, Option, None, Some, Result, Ok, Err, ⊤}
use Rattle.moo_value.specs.declared.error_code.ErrorCode.{ErrorCode}
use Rattle.moo_value.specs.declared.error_code.ErrorCode.TheVariants.{Permission}
use Rattle.moo_value.specs.declared.value.Value.{Value}
use Rattle.moo_value.specs.declared.value.Value.TheVariants.{Int}
use Rattle.moo_value.specs.Tree.{Tree}
use Rattle.moo_value.specs.View.{tree}
use Rattle.moo_builtin_operator.specs.declared.fault.OperationFault.{OperationFault}
use Rattle.moo_builtin_operator.specs.declared.fault.OperationFault.TheVariants.{Raise, Memory}
use Rattle.moo_builtin_value.specs.TextAnswers.{Gives}
use Rattle.moo_world_table.specs.World.{World}
use Rattle.moo_world.specs.declared.fault.WorldFault.{WorldFault}
use Rattle.moo_world.specs.declared.fault.WorldFault.TheVariants as world

-- the result and the world after it are what the function gives; an error and lack of memory leave the world as it
-- was
abbrev pub Does : Result Value OperationFault → World → World → Result (Tree × World) ErrorCode → Type 0
Does (Ok v) old new r = r ≡ Ok (tree v, new)
Does (Err (Raise e)) old new r = (r ≡ Err e) × (new ≡ old)
Does (Err Memory) old new r = new ≡ old

-- the result of a function that may be another crate's: that one leaves the world as it was
abbrev pub DoesSome : Option (Result Value OperationFault) → World → World → Option (Result (Tree × World) ErrorCode) → Type 0
DoesSome None old new r = (r ≡ None) × (new ≡ old)
DoesSome (Some a) old new None = ⊥
DoesSome (Some a) old new (Some r) = Does a old new r

-- the result of a function that only reads, and that may be another crate's
abbrev pub GivesSome : Option (Result Value OperationFault) → Option (Result Tree ErrorCode) → Type 0
GivesSome None r = r ≡ None
GivesSome (Some a) None = ⊥
GivesSome (Some a) (Some r) = Gives a r

-- memory runs out only if it may
abbrev pub LacksOnly : Result Value OperationFault → Type 0 → Type 0
LacksOnly (Ok v) May = ⊤
LacksOnly (Err (Raise e)) May = ⊤
LacksOnly (Err Memory) May = May

abbrev pub LacksOnlySome : Option (Result Value OperationFault) → Type 0 → Type 0
LacksOnlySome None May = ⊤
LacksOnlySome (Some a) May = LacksOnly a May

-- what takes no memory
abbrev pub IsNeverLacking : {T : Type 0} → Result T OperationFault → Type 0
IsNeverLacking (Ok v) = ⊤
IsNeverLacking (Err (Raise e)) = ⊤
IsNeverLacking (Err Memory) = ⊥

-- what was read of an argument is what it gives
abbrev pub Reads : {T : Type 0} → Result T OperationFault → Result T ErrorCode → Type 0
Reads (Ok x) r = r ≡ Ok x
Reads (Err (Raise e)) r = r ≡ Err e
Reads (Err Memory) r = Unit {0}

-- For private clauses: a result of the world, as a result of a function.
abbrev pub told : {T : Type 0} → Result T WorldFault → Result T OperationFault
told (Ok v) = Ok v
told (Err (world.Raise e)) = Err (Raise e)
told (Err world.Memory) = Err Memory

-- For private clauses: a test of the world and a right, before a change.
abbrev pub permitted : {T : Type 0} → Result T WorldFault → Bool → Result T OperationFault
permitted (Ok v) allowed = if allowed then Ok v else Err (Raise Permission)
permitted (Err (world.Raise e)) allowed = Err (Raise e)
permitted (Err world.Memory) allowed = Err Memory

-- For private clauses: a test of the world, for a programmer without the right to the change.
abbrev pub refused : {T : Type 0} → Result T WorldFault → Result Value OperationFault
refused (Ok v) = Err (Raise Permission)
refused (Err (world.Raise e)) = Err (Raise e)
refused (Err world.Memory) = Err Memory

-- For private clauses: a result of a change of the world, as that of a function.
abbrev pub changed : {T : Type 0} → Result T WorldFault → Result Value OperationFault
changed (Ok v) = Ok (Int (pos 0))
changed (Err (world.Raise e)) = Err (Raise e)
changed (Err world.Memory) = Err Memory
