-- When the program gives up, and why.
use Rattle.std.specs.Prelude.{◌≡◌, ◌⊎◌, ℕ, List, Option}
use Rattle.std.specs.Io.KnownBytes.{Appends}
use Rattle.moo_cli_io.specs.Watching.{HasFailed, HasLacked}
use Rattle.moo_cli_io.specs.Refused.{refusal_status, refusal_line}
use Rattle.moo_cli_io.specs.declared.exit_reason.ExitReason.{ExitReason}
use Rattle.moo_cli_io.specs.declared.exit_reason.ExitReason.TheVariants as giving
use Rattle.moo_cli_io.specs.declared.watch.Watch.{Watch}

-- The program gave up: the status says so, and the output grew by its line only, unless an input or output has
-- failed. If a device is reported, a call of one has returned an error, or the most reads were made. If memory is
-- reported, memory ran out in a call.
pub record HasGivenUp (old new : Option (List ℕ)) (watch : Watch) (status : ℕ) : Type 0 where
  pub refusal : ExitReason
  pub is : status ≡ refusal_status refusal
  pub device : refusal ≡ giving.Device → HasFailed watch
  pub memory : refusal ≡ giving.Memory → HasLacked watch
  pub told : HasFailed watch ⊎ Appends old new (refusal_line refusal)

-- the status is that of a refusal
abbrev pub IsGivenUp : ℕ → Type 0
IsGivenUp status = (r : ExitReason) × (status ≡ refusal_status r)
