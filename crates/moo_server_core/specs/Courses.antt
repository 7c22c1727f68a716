-- The phases of a server.
use Rattle.std.specs.Prelude.{Bool, true, false}
use Rattle.moo_server_core.specs.declared.event.Course.{Course}
use Rattle.moo_server_core.specs.declared.event.Course.TheVariants.{Running, Closing, Closed}
use Rattle.moo_server_core.specs.declared.event.Phase.{Phase}
use Rattle.moo_server_core.specs.declared.event.Phase.TheVariants as phase

abbrev pub is_closing : Course → Bool
is_closing Closing = true
is_closing course = false

abbrev pub is_closed : Course → Bool
is_closed Closed = true
is_closed course = false

-- the phase of a server, halted or not
abbrev pub phase_of : Bool → Course → Phase
phase_of true course = phase.Halted
phase_of false Running = phase.Running
phase_of false Closing = phase.Closing
phase_of false Closed = phase.Closed
