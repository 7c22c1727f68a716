use Rattle.std.proofs.Common.{◌≡◌, take, ◌%◌, ◌^◌}
use Rattle.moo_value.specs.Digits.{number}
use Rattle.moo_value.proofs.digits.wrapping_number.Given as goal

abbrev pub invariant-loop-digit : goal.invariant-loop-digit
invariant-loop-digit l = l.number ≡ number (take l.digit-index l.digits) % 2 ^ 32
