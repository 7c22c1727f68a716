-- Connections to which nothing happens as output is written.
use Rattle.std.specs.Prelude.{◌≡◌, ◌⊎◌, ℕ, List, [], None, Bool, true, false}
use Rattle.slab.specs.Slab.{Slab}
use Rattle.moo_cli_sockets.specs.declared.socket.Socket.{Socket}
use Rattle.moo_cli_sockets.specs.Coming.{held}
use Rattle.moo_dbtext_read.specs.Saved.{Saved}
use Rattle.moo_server_core.specs.Application.{Layer}
use Rattle.moo_server_core.specs.Server.{waiting_of}
use Rattle.moo_server_core.specs.declared.server_core.ServerCore.{ServerCore}
use Rattle.moo_cli_serve.specs.Strangers.{leaves}
use Rattle.moo_cli_serve.specs.Writing.{is_among}

module _ {S Application : Type 0} (l : Layer S Application Saved) where
  -- Connection c has no socket. Or the last round ended well, nothing waits for the connection in the server, and it neither
  -- leaves nor is late.
  abbrev pub IsIdle : Bool → List ℕ → ServerCore S → Slab Socket → ℕ → Type 0
  IsIdle settled late server sockets c =
      (held sockets c ≡ None)
      ⊎ ((settled ≡ true) × ((waiting_of l server).sent c ≡ []) × (leaves l server c ≡ false) × (is_among late c ≡ false))
