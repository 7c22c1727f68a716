-- What is printed at the end of a script, and the exit status.
use Rattle.std.specs.Prelude.{ℕ, List, codes}
use Rattle.moo_cli_script.specs.Printed.{bad_line}
use Rattle.moo_cli_script.specs.declared.telling.Stop.{Stop}
use Rattle.moo_cli_script.specs.declared.telling.Stop.TheVariants as stopping
use Rattle.moo_checkpoint.specs.declared.open_fault.OpenFault.{OpenFault}
use Rattle.moo_checkpoint.specs.declared.open_fault.OpenFault.TheVariants.{Device, Db, Memory}
use Rattle.moo_server_core.specs.declared.event.Cause.{Cause}
use Rattle.moo_server_core.specs.declared.event.Cause.TheVariants as cause
use Rattle.moo_cli_io.specs.Told.{fault_line}
use Rattle.moo_cli_script.specs.declared.script.Refused.{Refused}
use Rattle.moo_cli_script.specs.declared.script.Refused.TheVariants as refusing

-- of an event
abbrev pub cause_line : Cause → List ℕ
cause_line cause.NoSuchConnection = codes "refused: NoSuchConnection\n"
cause_line cause.ConnectionInUse = codes "refused: ConnectionInUse\n"
cause_line cause.ClockBack = codes "refused: ClockBack\n"
cause_line cause.Memory = codes "refused: Memory\n"
cause_line cause.Halted = codes "refused: Halted\n"
cause_line cause.Closed = codes "refused: Closed\n"

abbrev pub cause_status : Cause → ℕ
cause_status cause.Memory = 4
cause_status other = 5

-- of a server that isn't opened
abbrev pub opening_line : OpenFault → List ℕ
opening_line Device = codes "refused: Device\n"
opening_line (Db fault) = fault_line fault
opening_line Memory = codes "refused: Memory\n"

abbrev pub opening_status : OpenFault → ℕ
opening_status Device = 3
opening_status (Db fault) = 1
opening_status Memory = 4

-- of what a line asks for
abbrev pub refused_line : Refused → List ℕ
refused_line (refusing.Event cause) = cause_line cause
refused_line (refusing.Opening fault) = opening_line fault
refused_line refusing.NoSuchImage = codes "refused: NoSuchImage\n"

abbrev pub refused_status : Refused → ℕ
refused_status (refusing.Event cause) = cause_status cause
refused_status (refusing.Opening fault) = opening_status fault
refused_status refusing.NoSuchImage = 5

-- of a line, by its number
abbrev pub stop_line : ℕ → Stop → List ℕ
stop_line number stopping.BadLine = bad_line number
stop_line number (stopping.Refused refused) = refused_line refused

abbrev pub stop_status : Stop → ℕ
stop_status stopping.BadLine = 5
stop_status (stopping.Refused refused) = refused_status refused
