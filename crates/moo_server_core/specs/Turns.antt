-- The turns that an open checkpoint still takes, its report, and the failures of the device.
use Rattle.std.specs.Prelude.{◌≡◌, ◌≢◌, ◌⊎◌, ℕ, ◌+◌, ◌-◌, List, [], ◌∷◌, length, Option, Some, None, Bool, true, false}
use Rattle.moo_disk.specs.Disk.{HasRisen}
use Rattle.moo_checkpoint.specs.Checkpoint.{pieces}
use Rattle.moo_server_core.specs.Traces.{Report, Done, Failed, Trace}

-- the turns of a checkpoint of this text
abbrev pub turns_for : List ℕ → ℕ
turns_for text = pieces (length text) + 4

-- a `Flush` takes one
abbrev pub flush_takes : Bool → ℕ → ℕ
flush_takes true left = left - 1
flush_takes false left = left

abbrev pub turns_unmarked : ℕ → Bool → Option Report → ℕ
turns_unmarked left flush None = flush_takes flush left
turns_unmarked left flush (Some report) = 0

abbrev pub turns_marked : Option (List ℕ) → ℕ → ℕ
turns_marked None left = left
turns_marked (Some text) left = turns_for text

-- the turns that are left after an event: each `Flush` takes one, a report ends the checkpoint, and a mark begins one
abbrev pub turns_after : ℕ → Trace → ℕ
turns_after left trace = turns_marked trace.mark (turns_unmarked left trace.flush trace.report)

abbrev pub turns_left_after : ℕ → List Trace → ℕ
turns_left_after left [] = left
turns_left_after left (trace ∷ traces) = turns_left_after (turns_after left trace) traces

-- With so many turns left, the `Flush` that takes the last one has the report, and no other event reports a checkpoint done.
abbrev pub IsInTime : ℕ → List Trace → Type 0
IsInTime left [] = Unit {0}
IsInTime left (trace ∷ traces) =
    (left ≡ 1 → trace.flush ≡ true → trace.report ≢ None) × (trace.report ≡ Some Done → left ≡ 1) × IsInTime (turns_after left trace) traces

-- The device failed in an event with this report if it is a failure, and not otherwise.
abbrev pub CountsReport : Option Report → ℕ → ℕ → Type 0
CountsReport None before now = now ≡ before
CountsReport (Some Done) before now = now ≡ before
CountsReport (Some Failed) before now = HasRisen before now

-- The device failed at most once.
abbrev pub FailsAtMostOnce : ℕ → ℕ → Type 0
FailsAtMostOnce before now = (now ≡ before) ⊎ HasRisen before now

-- there is a report
abbrev pub HasReport : List Trace → Type 0
HasReport [] = ⊥
HasReport (trace ∷ traces) = (trace.report ≢ None) ⊎ HasReport traces

abbrev pub flush_count : Bool → ℕ
flush_count true = 1
flush_count false = 0

-- how many of the events are `Flush`
abbrev pub flushes : List Trace → ℕ
flushes [] = 0
flushes (trace ∷ traces) = flush_count trace.flush + flushes traces
