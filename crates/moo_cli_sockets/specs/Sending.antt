-- The output of the socket of a connection.
use Rattle.std.specs.Prelude.{◌≡◌, ◌⊎◌, ◌<◌, ℕ, List, ◌++◌, length, Option, Some, IsSome, true}
use Rattle.moo_cli_sockets.specs.Waiting.{waits_of}
use Rattle.moo_cli_sockets.specs.declared.socket.Socket.{Socket}

-- These bytes were appended to those that waited for a socket, and some of them all, from the front, were written:
-- the rest still waits.
pub record Sends (bytes : List ℕ) (was is : Option (List ℕ)) (waiting : ℕ) : Type 0 where
  pub before : List ℕ
  pub out : List ℕ
  pub rest : List ℕ
  pub had : was ≡ Some before
  pub has : is ≡ Some rest
  pub all : before ++ bytes ≡ out ++ rest
  pub count : waiting ≡ length rest

-- A write of these bytes after those that wait may fail: there are some, and the system may take them. That of a WebSocket always may,
-- since frames may wait, and memory may run out.
abbrev pub MayFail : List ℕ → Socket → Type 0
MayFail bytes socket = ((socket.may_write ≡ true) × (0 < length (waits_of socket ++ bytes))) ⊎ IsSome socket.channel
