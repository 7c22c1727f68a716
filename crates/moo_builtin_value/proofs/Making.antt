-- When memory may run out for what a function makes.
use Rattle.std.proofs.Common.{Bool, true, false, refl, cond}
use Rattle.std.specs.Prelude.{Result, Ok, Err, nat_le, ◌&&◌}
use Rattle.moo_value.specs.declared.error_code.ErrorCode.{ErrorCode}
use Rattle.moo_value.specs.declared.error_code.ErrorCode.TheVariants.{Quota}
use Rattle.moo_value.specs.declared.value.Value.{Value}
use Rattle.moo_value.specs.Faults.{TakesMemory}
use Rattle.moo_value.specs.Size.{weight, depth, weight_limit, depth_limit}
use Rattle.moo_value.specs.Tree.{Tree}
use Rattle.moo_builtin_operator.specs.declared.fault.OperationFault.{OperationFault}
use Rattle.moo_builtin_operator.specs.declared.fault.OperationFault.TheVariants.{Raise, Memory}
use Rattle.moo_builtin_operator.specs.Answer as operation
use Rattle.moo_builtin_operator.specs.Answer.{limited}
use Rattle.moo_builtin_value.specs.TextAnswers.{IsMade, Gives}

made_within : (t : Tree) (b : Bool) → TakesMemory t → IsMade (cond b (Ok t) (Err Quota))
made_within t true takes = takes
made_within t false takes = refl

-- a string or a list within the limits is made, or E_QUOTA comes
pub limited_made : (t : Tree) → TakesMemory t → IsMade (limited t)
limited_made t takes = made_within t (nat_le (weight t) weight_limit && nat_le (depth t) depth_limit) takes

lacking : (r : Result Tree ErrorCode) → operation.Gives (Err Memory) r → IsMade r
lacking (Ok t) gives = gives
lacking (Err e) gives = absurd gives

-- an operation that gives an answer gives it as a function
pub weaker : (a : Result Value OperationFault) (r : Result Tree ErrorCode) → operation.Gives a r → Gives a r
weaker (Ok v) r gives = gives
weaker (Err (Raise e)) r gives = gives
weaker (Err Memory) r gives = lacking r gives
