-- The number that digits write, modulo 2^32.
use Rattle.std.proofs.Common.{ℕ, List, ◌≡◌, ◌+◌, ◌*◌, ◌-◌, ◌%◌, ◌<◌, length, get_or, take, arith}
use Rattle.std.proofs.lemmas.List.Sums.{fold_more}
use Rattle.moo_value.specs.Digits.{number}

step : (n d : ℕ) → ((n % 4294967296) * 10 % 4294967296 + d) % 4294967296 ≡ (n * 10 + d) % 4294967296
step n d = omega arith

pub number_more : (m i x : ℕ) (ds : List ℕ) → i < length ds → m ≡ number (take i ds) % 4294967296 → x ≡ get_or ds i 0 - 48 → (m * 10 % 4294967296 + x) % 4294967296 ≡ number (take (i + 1) ds) % 4294967296
number_more m i x ds h e f = rw (e, f, fold_more (λ n d. n * 10 + (d - 48)) 0 ds i 0) (step (number (take i ds)) (get_or ds i 0 - 48))
