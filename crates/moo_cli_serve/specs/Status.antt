-- The exit status of a server that ended for a fault.
use Rattle.std.specs.Prelude.{ℕ}
use Rattle.moo_checkpoint.specs.declared.open_fault.OpenFault.{OpenFault}
use Rattle.moo_checkpoint.specs.declared.open_fault.OpenFault.TheVariants as opening
use Rattle.moo_cli_sockets.specs.declared.fault.SocketsFault.{SocketsFault}
use Rattle.moo_cli_sockets.specs.declared.fault.SocketsFault.TheVariants as listening
use Rattle.moo_server_core.specs.declared.event.Cause.{Cause}
use Rattle.moo_server_core.specs.declared.event.Cause.TheVariants as cause
use Rattle.moo_cli_serve.specs.declared.fault.ServeFault.{ServeFault}
use Rattle.moo_cli_serve.specs.declared.fault.ServeFault.TheVariants as the

-- 1 if the database is refused, 3 for a device, 4 for memory
abbrev pub opening_status : OpenFault → ℕ
opening_status (opening.Db fault) = 1
opening_status opening.Device = 3
opening_status opening.Memory = 4

abbrev pub sockets_status : SocketsFault → ℕ
sockets_status (listening.Device error) = 3
sockets_status (listening.Web error) = 3
sockets_status listening.Memory = 4

-- of an event that is refused
abbrev pub cause_status : Cause → ℕ
cause_status cause.Memory = 4
cause_status other = 5

abbrev pub fault_status : ServeFault → ℕ
fault_status (the.Open fault) = opening_status fault
fault_status (the.Sockets fault) = sockets_status fault
fault_status (the.Output error) = 3
fault_status (the.Refused cause) = cause_status cause
fault_status the.Memory = 4
