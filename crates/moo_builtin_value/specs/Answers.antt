-- For private clauses: how a result of the program relates to a list that was made.
use Rattle.std.specs.Prelude.{◌≡◌, List, Result, Ok, Err}
use Rattle.moo_value.specs.declared.error_code.ErrorCode.TheVariants.{Quota}
use Rattle.moo_value.specs.declared.list.ListLimit.{ListLimit}
use Rattle.moo_value.specs.declared.list.ListLimit.TheVariants.{TooLarge, Memory as ListMemory}
use Rattle.moo_value.specs.declared.value.Value.{Value}
use Rattle.moo_value.specs.declared.value.Value.TheVariants.{List as ListOf}
use Rattle.moo_value.specs.Tree.{Tree}
use Rattle.moo_builtin_operator.specs.declared.fault.OperationFault.{OperationFault}
use Rattle.moo_builtin_operator.specs.declared.fault.OperationFault.TheVariants.{Raise, Memory}

-- making a list has this result
abbrev pub Follows : Result (List Tree) ListLimit → Result Value OperationFault → Type 0
Follows (Ok ts) a = a ≡ Ok (ListOf ts)
Follows (Err TooLarge) a = a ≡ Err (Raise Quota)
Follows (Err ListMemory) a = a ≡ Err Memory
