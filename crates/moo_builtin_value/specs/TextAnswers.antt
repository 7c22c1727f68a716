-- How a result of the program relates to the value or the error that a function gives.
use Rattle.std.specs.Prelude.{◌≡◌, ◌≤◌, ℕ, Bool, false, List, length, Result, Ok, Err}
use Rattle.moo_value.specs.declared.error_code.ErrorCode.{ErrorCode}
use Rattle.moo_value.specs.declared.error_code.ErrorCode.TheVariants.{Quota}
use Rattle.moo_value.specs.declared.value.Value.{Value}
use Rattle.moo_value.specs.Faults.{TakesMemory}
use Rattle.moo_value.specs.Size.{weight_limit}
use Rattle.moo_value.specs.Tree.{Tree}
use Rattle.moo_value.specs.View.{tree}
use Rattle.moo_builtin_operator.specs.declared.fault.OperationFault.{OperationFault}
use Rattle.moo_builtin_operator.specs.declared.fault.OperationFault.TheVariants.{Raise, Memory}

-- the result is what the function gives, or memory runs out, which happens only where it may
abbrev pub GivesUnless : Type 0 → Result Value OperationFault → Result Tree ErrorCode → Type 0
GivesUnless Lacks (Ok v) r = r ≡ Ok (tree v)
GivesUnless Lacks (Err (Raise e)) r = r ≡ Err e
GivesUnless Lacks (Err Memory) r = Lacks

-- a string or a list is made, which may turn out to be past the limits
abbrev pub IsMade : Result Tree ErrorCode → Type 0
IsMade (Ok t) = TakesMemory t
IsMade (Err e) = e ≡ Quota

-- memory is needed only for a string or a list
abbrev pub Gives : Result Value OperationFault → Result Tree ErrorCode → Type 0
Gives answer r = GivesUnless (IsMade r) answer r

-- memory runs out only if letters are folded, which is done in copies
abbrev pub Finds : Bool → Result Value OperationFault → Result Tree ErrorCode → Type 0
Finds exact answer r = GivesUnless (exact ≡ false) answer r

-- E_QUOTA comes for a text that is longer than a string may be; for any text memory may run out
abbrev pub IsRefusedText : OperationFault → List ℕ → Type 0
IsRefusedText (Raise e) text = (e ≡ Quota) × (weight_limit ≤ length text)
IsRefusedText Memory text = Unit {0}
