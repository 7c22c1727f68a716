use Rattle.std.proofs.Common.{◌≢◌, take, All}
use Rattle.moo_cli_script.proofs.address.blank_at.Given as goal

abbrev pub invariant-loop-i : goal.invariant-loop-i
invariant-loop-i l = All (λ b. b ≢ 32) (take l.i l.bytes)
