-- The line ends of the first bytes.
use Rattle.std.proofs.Common.{◌≡◌, ℕ, ◌+◌, ◌<◌, ◌≤◌, true, false, List, length, take, get_or, count_by, arith}
use Rattle.std.proofs.lemmas.List.Sums.{count_by_more_no, count_by_more_yes}
use Rattle.moo_cli_sockets.specs.Waiting.{is_end}

-- a byte more that ends no line
pub no_end_more : (bytes : List ℕ) (i d most : ℕ) → i < length bytes → is_end (get_or bytes i d) ≡ false → count_by is_end (take i bytes) ≤ most → count_by is_end (take (i + 1) bytes) ≤ most
no_end_more bytes i d most within isnt few = omega (arith, count_by_more_no is_end bytes i d within isnt, few)

-- a byte more that ends a line
pub end_more : (bytes : List ℕ) (i d most : ℕ) → i < length bytes → is_end (get_or bytes i d) ≡ true → count_by is_end (take i bytes) ≤ most → count_by is_end (take (i + 1) bytes) ≤ most + 1
end_more bytes i d most within is few = omega (arith, count_by_more_yes is_end bytes i d within is, few)
