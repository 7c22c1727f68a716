-- How a result of the program relates to the result of a call.
use Rattle.std.specs.Prelude.{◌≡◌, Bool, true, false, Option, None, Some, Result, Ok, Err}
use Rattle.moo_value.specs.declared.error_code.ErrorCode.{ErrorCode}
use Rattle.moo_value.specs.declared.value.Value.{Value}
use Rattle.moo_value.specs.Tree.{Tree}
use Rattle.moo_value.specs.View.{tree}
use Rattle.moo_builtin_operator.specs.declared.fault.OperationFault.{OperationFault}
use Rattle.moo_builtin_operator.specs.declared.fault.OperationFault.TheVariants.{Raise, Memory}
use Rattle.moo_world_table.specs.World.{World}

-- what a call may result in: a result or an error, and the world after it
abbrev pub Outcomes : Type 1
Outcomes = Result Tree ErrorCode → World → Type 0

-- the result and the world after it are such; an error and lack of memory leave the world as it was
abbrev pub Comes : Result Value OperationFault → World → World → Outcomes → Type 0
Comes (Ok v) old new Such = Such (Ok (tree v)) new
Comes (Err (Raise e)) old new Such = Such (Err e) new × (new ≡ old)
Comes (Err Memory) old new Such = new ≡ old

-- the result of a function that may be another crate's: that one leaves the world as it was
abbrev pub ComesSome : Option (Result Value OperationFault) → World → World → Bool → Outcomes → Type 0
ComesSome None old new is Such = (is ≡ false) × (new ≡ old)
ComesSome (Some a) old new is Such = (is ≡ true) × Comes a old new Such

-- this result, of a function that only reads
abbrev pub Only : Result Tree ErrorCode → World → Outcomes
Only answer w r after = (r ≡ answer) × (after ≡ w)

-- what comes first raises, or its value is passed on
abbrev pub Then : {X : Type 0} → Result X ErrorCode → World → (X → Outcomes) → Outcomes
Then (Err e) w next r after = Only (Err e) w r after
Then (Ok x) w next r after = next x r after

-- for private clauses: a result or an error
abbrev pub IsAnswered : Result Value OperationFault → Type 0
IsAnswered (Ok v) = Unit {0}
IsAnswered (Err (Raise e)) = Unit {0}
IsAnswered (Err Memory) = ⊥
