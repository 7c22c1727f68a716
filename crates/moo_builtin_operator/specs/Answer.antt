-- How a result of the program relates to the value or the error that an operation gives.
use Rattle.std.specs.Prelude.{◌≡◌, Result, Ok, Err, IsOkAnd, nat_le, ◌&&◌, if◌then◌else◌}
use Rattle.moo_value.specs.declared.value.Value.{Value}
use Rattle.moo_value.specs.declared.error_code.ErrorCode.{ErrorCode}
use Rattle.moo_value.specs.declared.error_code.ErrorCode.TheVariants.{Quota}
use Rattle.moo_value.specs.Tree.{Tree}
use Rattle.moo_value.specs.Size.{weight, depth, weight_limit, depth_limit}
use Rattle.moo_value.specs.View.{tree}
use Rattle.moo_value.specs.Faults.{TakesMemory}
use Rattle.moo_builtin_operator.specs.declared.fault.OperationFault.{OperationFault}
use Rattle.moo_builtin_operator.specs.declared.fault.OperationFault.TheVariants.{Raise, Memory}

-- the value, or E_QUOTA if it is too heavy or too deep
abbrev pub limited : Tree → Result Tree ErrorCode
limited t = if nat_le (weight t) weight_limit && nat_le (depth t) depth_limit then Ok t else Err Quota

-- the operation gives this error, or a value for which memory ran out
abbrev pub IsRefused : OperationFault → Result Tree ErrorCode → Type 0
IsRefused (Raise e) r = r ≡ Err e
IsRefused Memory r = IsOkAnd r TakesMemory

-- the result is what the operation gives
abbrev pub Gives : Result Value OperationFault → Result Tree ErrorCode → Type 0
Gives (Ok v) r = r ≡ Ok (tree v)
Gives (Err f) r = IsRefused f r
