-- Definitions that only private clauses use.
use Rattle.std.specs.Prelude.{ℕ, Bool, ◌==◌, ◌&&◌, List, length}

-- whether a CR comes right before what follows these bytes, given whether one comes right before them
abbrev pub is_still_after : Bool → List ℕ → Bool
is_still_after after bytes = after && length bytes == 0
