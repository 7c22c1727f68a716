-- The lines that `moo serve` prints.
use Rattle.std.specs.Prelude.{◌≡◌, ◌⊎◌, ℕ, List, [], ◌++◌, codes, Option, Bool, not, ◌&&◌, if◌then◌else◌}
use Rattle.std.specs.Io.KnownBytes.{Appends}
use Rattle.std.specs.Net.Text.{socket_text}
use Rattle.std.specs.declared.net.socket_addr.SocketAddr.{SocketAddr}
use Rattle.moo_checkpoint.specs.declared.open_fault.OpenFault.{OpenFault}
use Rattle.moo_checkpoint.specs.declared.open_fault.OpenFault.TheVariants as opening
use Rattle.moo_cli_io.specs.Told.{fault_line}
use Rattle.moo_cli_io.specs.Watching.{HasFailed}
use Rattle.moo_cli_io.specs.declared.watch.Watch.{Watch}
use Rattle.moo_cli_sockets.specs.declared.fault.SocketsFault.{SocketsFault}
use Rattle.moo_cli_sockets.specs.declared.fault.SocketsFault.TheVariants as listening
use Rattle.moo_server_core.specs.declared.event.Cause.{Cause}
use Rattle.moo_server_core.specs.declared.event.Cause.TheVariants as cause
use Rattle.moo_cli_serve.specs.declared.fault.ServeFault.{ServeFault}
use Rattle.moo_cli_serve.specs.declared.fault.ServeFault.TheVariants as the

-- The output grew by this text, unless a write has failed.
abbrev pub Prints : Option (List ℕ) → Option (List ℕ) → Watch → List ℕ → Type 0
Prints old new watch text = HasFailed watch ⊎ Appends old new text

-- the address on which it listens
abbrev pub listening_line : SocketAddr → List ℕ
listening_line address = codes "listening on " ++ (socket_text address ++ codes "\n")

-- perhaps that line
abbrev pub MayListen : List ℕ → Type 0
MayListen text = (text ≡ []) ⊎ ((address : SocketAddr) × (text ≡ listening_line address))

-- the end of a server that must be saved and isn't
abbrev pub end_line : Bool → Bool → List ℕ
end_line must saved = if must && not saved then codes "refused: Device\n" else []

abbrev pub opening_line : OpenFault → List ℕ
opening_line (opening.Db fault) = fault_line fault
opening_line opening.Device = codes "refused: Device\n"
opening_line opening.Memory = codes "refused: Memory\n"

abbrev pub sockets_line : SocketsFault → List ℕ
sockets_line (listening.Device error) = codes "refused: Device\n"
sockets_line (listening.Web error) = codes "refused: Device\n"
sockets_line listening.Memory = codes "refused: Memory\n"

-- of an event that is refused
abbrev pub cause_line : Cause → List ℕ
cause_line cause.NoSuchConnection = codes "refused: NoSuchConnection\n"
cause_line cause.ConnectionInUse = codes "refused: ConnectionInUse\n"
cause_line cause.ClockBack = codes "refused: ClockBack\n"
cause_line cause.Memory = codes "refused: Memory\n"
cause_line cause.Halted = codes "refused: Halted\n"
cause_line cause.Closed = codes "refused: Closed\n"

-- of a fault
abbrev pub line_of : ServeFault → List ℕ
line_of (the.Open fault) = opening_line fault
line_of (the.Sockets fault) = sockets_line fault
line_of (the.Output error) = codes "refused: Device\n"
line_of (the.Refused cause) = cause_line cause
line_of the.Memory = codes "refused: Memory\n"

-- A fault is reported as itself, or as memory, which ran out for the line of a database that is refused.
abbrev pub IsToldAs : ServeFault → ServeFault → Type 0
IsToldAs fault told = (told ≡ fault) ⊎ (told ≡ the.Memory)
