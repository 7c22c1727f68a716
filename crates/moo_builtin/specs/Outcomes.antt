-- How an outcome of the program relates to the result of a call.
use Rattle.std.specs.Prelude.{◌≡◌, Option, None, Some, Result, Ok, Err}
use Rattle.moo_value.specs.declared.error_code.ErrorCode.{ErrorCode}
use Rattle.moo_value.specs.Tree.{Tree}
use Rattle.moo_value.specs.View.{tree}
use Rattle.moo_value.specs.declared.value.Value.{Value}
use Rattle.moo_builtin_operator.specs.declared.fault.OperationFault.{OperationFault}
use Rattle.moo_builtin_operator.specs.declared.fault.OperationFault.TheVariants as fault
use Rattle.moo_builtin_value.specs.declared.call.Outcome.{Outcome}
use Rattle.moo_builtin_value.specs.declared.call.Outcome.TheVariants as outcome
use Rattle.moo_builtin_value.specs.Calls.{Raised, plainly}
use Rattle.moo_world_table.specs.World.{World}

-- what a call may result in: a result or an error, and the world after it
abbrev pub Replies : Type 1
Replies = Result Tree Raised → World → Type 0

-- the outcome and the world after it are such; an error and lack of memory leave the world as it was
abbrev pub IsReply : Outcome → World → World → Replies → Type 0
IsReply (outcome.Value v) old new Such = Such (Ok (tree v)) new
IsReply (outcome.Raise e message v) old new Such = Such (Err (record { code = e; message = message; value = tree v })) new × (new ≡ old)
IsReply outcome.Memory old new Such = new ≡ old

-- the result, an error with its own message and 0, and the world after it are such; an error and lack of memory leave
-- the world as it was
abbrev pub IsAnswer : Result Value OperationFault → World → World → Replies → Type 0
IsAnswer (Ok v) old new Such = Such (Ok (tree v)) new
IsAnswer (Err (fault.Raise e)) old new Such = Such (Err (plainly e)) new × (new ≡ old)
IsAnswer (Err fault.Memory) old new Such = new ≡ old

-- For private clauses: what a call is refused for comes before what the function gives.
abbrev pub Unless : Option ErrorCode → World → Replies → Replies
Unless (Some e) w Such r after = (r ≡ Err (plainly e)) × (after ≡ w)
Unless None w Such r after = Such r after
