use Rattle.std.proofs.Common.{◌≡◌, take}
use Rattle.std.specs.List.{flat_map}
use Rattle.moo_cli_io.specs.Told.{fault_line}
use Rattle.moo_cli_check.proofs.told.fault_lines.Given as goal

abbrev pub invariant-loop-fault : goal.invariant-loop-fault
invariant-loop-fault l = l.text.items ≡ flat_map fault_line (take l.fault-index l.faults)
