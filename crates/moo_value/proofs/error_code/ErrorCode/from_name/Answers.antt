use Rattle.std.proofs.Common.{arith, sym}
use Rattle.moo_value.proofs.Naming.{short_is_unmarked, unmarked_is_none}
use Rattle.moo_value.proofs.error_code.ErrorCode.from_name.Goals as goal
use Rattle.moo_value.proofs.error_code.ErrorCode.from_name.Goals.{then-name-lt2-via-then-name-lt2, then-name-lt2-via-else-name-lt2+then-name-ne95}

pub returns-then-name-lt2 : goal.returns-then-name-lt2
returns-then-name-lt2 c =
    elim c.then-name-lt2.branch [
      | then-name-lt2-via-then-name-lt2 w ↦ sym (unmarked_is_none _ (short_is_unmarked _ w.if-name-lt2.true))
      | then-name-lt2-via-else-name-lt2+then-name-ne95 w ↦ sym (unmarked_is_none _ (λ is. omega arith))
    ]
