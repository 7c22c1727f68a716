-- The bytes that wait for a socket, and the result of a read.
use Rattle.std.specs.Prelude.{◌≡◌, ℕ, ◌<◌, ◌≤◌, ◌==◌, Bool, ◌||◌, nat_lt, List, ◌++◌, drop, length, count_by, Vec, vec_len}
use Rattle.std.specs.Global.{Global}
use Rattle.moo_cli_sockets.specs.declared.socket.Came.{Came}
use Rattle.moo_cli_sockets.specs.declared.socket.Came.TheVariants as came
use Rattle.moo_cli_sockets.specs.declared.socket.Socket.{Socket}
use Rattle.moo_cli_sockets.specs.declared.waiting.Waiting.{Waiting}

-- the bytes that are written next
abbrev pub front_of : Waiting → List ℕ
front_of w = drop w.gone w.going.items

-- the bytes that wait, in the order in which they are written
abbrev pub bytes_of : Waiting → List ℕ
bytes_of w = front_of w ++ w.following.items

-- the bytes that wait for a socket
abbrev pub waits_of : Socket → List ℕ
waits_of socket = bytes_of socket.waiting

-- CR or LF
abbrev pub is_end : ℕ → Bool
is_end byte = byte == 13 || byte == 10

-- a read of it may return something
abbrev pub is_readable : Socket → Bool
is_readable socket = socket.may_read || nat_lt 0 (length socket.input.items)

-- a piece of input, with at most 4,096 bytes and 128 line ends
abbrev pub IsPiece : Vec ℕ Global → Type 0
IsPiece piece = (0 < vec_len piece) × (vec_len piece ≤ 4096) × (count_by is_end piece.items ≤ 128)

abbrev pub IsCame : Came → Type 0
IsCame (came.Bytes piece) = IsPiece piece
IsCame came.NothingYet = Unit {0}
IsCame came.End = Unit {0}

-- these bytes are the front of the input, and the others are left
abbrev pub IsNext : Came → (was left : List ℕ) → Type 0
IsNext (came.Bytes piece) was left = was ≡ piece.items ++ left
IsNext came.NothingYet was left = ⊥
IsNext came.End was left = ⊥
