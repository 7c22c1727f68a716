-- Rows of connections in which a number is searched for.
use Rattle.std.specs.Prelude.{◌≡◌, ℕ, ◌<◌, ◌≤◌, List, length, None, slice_index_or}
use Rattle.moo_eval_frame.specs.declared.surroundings.Connection.{Connection}

-- the entry past the end of a row
abbrev pub no_connection : Connection
no_connection = record { number = 0; login = None; opened = 0; heard = None }

abbrev pub number_at : List Connection → ℕ → ℕ
number_at row i = (slice_index_or row i no_connection).number

-- the numbers rise
abbrev pub IsRising : List Connection → Type 0
IsRising row = (i j : ℕ) → i < j → j < length row → number_at row i < number_at row j

-- the connection at index i has the number
pub record IsAt (row : List Connection) (n i : ℕ) : Type 0 where
  pub in_range : i < length row
  pub has_number : number_at row i ≡ n

-- No connection has the number: those before index i have lower ones, and those from it on higher ones.
pub record IsGap (row : List Connection) (n i : ℕ) : Type 0 where
  pub in_range : i ≤ length row
  pub below : (j : ℕ) → j < i → number_at row j < n
  pub above : (j : ℕ) → i ≤ j → j < length row → n < number_at row j
