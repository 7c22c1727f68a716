-- The record of failures of an input, an output and memory.
use Rattle.std.specs.Prelude.{◌≡◌, ◌≤◌, ◌⊎◌, ℕ, true}
use Rattle.moo_cli_io.specs.declared.watch.Watch.{Watch}

-- the most reads of one input
abbrev pub most_reads : ℕ
most_reads = 4294967296

-- A call of the input or of the output has returned an error, or the input was asked for the most reads.
abbrev pub HasFailed : Watch → Type 0
HasFailed w = (w.failed ≡ true) ⊎ (most_reads ≤ w.reads)

-- Memory ran out in a call.
abbrev pub HasLacked : Watch → Type 0
HasLacked w = w.lacked ≡ true

-- what was recorded stays recorded
pub record Remembers (old new : Watch) : Type 0 where
  pub failed : HasFailed old → HasFailed new
  pub lacked : HasLacked old → HasLacked new
