-- The lines of a connection, defined on all the bytes that it sends.
use Rattle.std.specs.Prelude.{ℕ, Bool, ◌==◌, ◌||◌, ◌&&◌, nat_le, List, [], ◌∷◌, take, filter, map, if◌then◌else◌}
use Rattle.std.specs.List.{slice_split}
use Rattle.moo_session_line.specs.Rest.{Rest}
pub use Rattle.moo_session_line.specs.Rest.{line_limit}

-- CR or LF
abbrev pub is_end : ℕ → Bool
is_end b = b == 13 || b == 10

-- an LF right after a CR, which with it is one end
abbrev pub is_second : ℕ → ℕ → Bool
is_second before b = before == 13 && b == 10

-- a stream that follows the byte `before`, without each LF right after a CR
abbrev pub with_single_ends : ℕ → List ℕ → List ℕ
with_single_ends before [] = []
with_single_ends before (b ∷ bs) = if is_second before b then with_single_ends b bs else b ∷ with_single_ends b bs

abbrev pub all_but_last : List (List ℕ) → List (List ℕ)
all_but_last [] = []
all_but_last (a ∷ []) = []
all_but_last (a ∷ b ∷ rest) = a ∷ all_but_last (b ∷ rest)

abbrev pub last : List (List ℕ) → List ℕ
last [] = []
last (a ∷ []) = a
last (a ∷ b ∷ rest) = last (b ∷ rest)

-- the last byte of a stream that follows the byte `before`
abbrev pub last_byte : ℕ → List ℕ → ℕ
last_byte before [] = before
last_byte before (b ∷ bs) = last_byte b bs

-- the stretches between the ends; nothing ends the last of these
abbrev pub stretches : List ℕ → List (List ℕ)
stretches stream = slice_split is_end (with_single_ends 0 stream)

-- tabs and printable ASCII
abbrev pub is_kept : ℕ → Bool
is_kept b = b == 9 || (nat_le 32 b && nat_le b 126)

-- what a line keeps of the bytes between two ends
abbrev pub kept : List ℕ → List ℕ
kept stretch = take line_limit (filter is_kept stretch)

-- the ended lines of a stream
abbrev pub lines : List ℕ → List (List ℕ)
lines stream = map kept (all_but_last (stretches stream))

-- what follows the last end
abbrev pub rest : List ℕ → Rest
rest stream = record { line = kept (last (stretches stream)); after_return = last_byte 0 stream == 13 }
