-- The status and the line if the program gives up.
use Rattle.std.specs.Prelude.{ℕ, List, codes}
use Rattle.moo_cli_io.specs.declared.watch.Watch.{Watch}
use Rattle.moo_cli_io.specs.Watching.{HasFailed, HasLacked}
use Rattle.moo_cli_io.specs.declared.exit_reason.ExitReason.{ExitReason}
use Rattle.moo_cli_io.specs.declared.exit_reason.ExitReason.TheVariants.{Device, Memory}

-- the exit status
abbrev pub refusal_status : ExitReason → ℕ
refusal_status Device = 3
refusal_status Memory = 4

-- the line
abbrev pub refusal_line : ExitReason → List ℕ
refusal_line Device = codes "refused: Device\n"
refusal_line Memory = codes "refused: Memory\n"

abbrev pub without_memory : ExitReason
without_memory = Memory

-- a device has failed, if the refusal says so, or memory ran out
abbrev pub IsEarned : Watch → ExitReason → Type 0
IsEarned w Device = HasFailed w
IsEarned w Memory = HasLacked w
