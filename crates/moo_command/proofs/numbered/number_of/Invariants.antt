use Rattle.std.proofs.Common.{◌≡◌, min, take}
use Rattle.moo_value.specs.Digits.{number}
use Rattle.moo_world_table.specs.World.{most}
use Rattle.moo_command.proofs.numbered.number_of.Given as goal

abbrev pub invariant-loop-digit : goal.invariant-loop-digit
invariant-loop-digit l = l.number ≡ min (number (take l.digit-index l.digits)) most
