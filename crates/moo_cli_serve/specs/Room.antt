-- The bytes that may wait for sockets.
use Rattle.std.specs.Prelude.{ℕ, ◌<◌, ◌≤◌, List, [], length, Option, Some, None}
use Rattle.slab.specs.Slab.{Slab}
use Rattle.moo_cli_sockets.specs.declared.socket.Socket.{Socket}
use Rattle.moo_cli_sockets.specs.Coming.{held}

-- the bytes that wait for a socket, and no bytes if there is none
abbrev pub bytes_held : Option (List ℕ) → List ℕ
bytes_held None = []
bytes_held (Some waits) = waits

-- no more bytes wait for connection c's socket than may
abbrev pub HasRoom : ℕ → Slab Socket → ℕ → Type 0
HasRoom most sockets c = length (bytes_held (held sockets c)) ≤ most

abbrev pub HaveRoom : ℕ → Slab Socket → Type 0
HaveRoom most sockets = (c : ℕ) → c < 65536 → HasRoom most sockets c
