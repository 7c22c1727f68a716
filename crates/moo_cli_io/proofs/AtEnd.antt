-- A reader that has nothing at hand.
use Rattle.std.proofs.Common.{◌≡◌, ℕ, List, [], Some, None, IfSome, length}
use Rattle.std.specs.Prelude.{Option}
use Rattle.std.specs.Io.KnownBytes.{IsAtEnd}

-- it is at its end
pub at_end : (known : Option (List ℕ)) (shown : List ℕ) → length shown ≡ 0 → IfSome known (λ xs. length shown ≡ 0 → xs ≡ []) → IsAtEnd known
at_end None shown none end = tt
at_end (Some xs) shown none end = end none
