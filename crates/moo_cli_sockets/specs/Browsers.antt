-- The listener for browsers.
use Rattle.std.specs.Prelude.{ℕ, List, IsSomeAnd}
use Rattle.std.specs.declared.net.ip_addr.IpAddr.{IpAddr}
use Rattle.moo_cli_web_listener.specs.Names.{AllowsNamesAt}
use Rattle.moo_cli_sockets.specs.declared.sockets.Sockets.{Sockets}

-- Browsers are served. No other names are allowed than those of this machine and of this address, and these origins with
-- their hosts.
abbrev pub ServesWeb : IpAddr → List (List ℕ) → Sockets → Type 0
ServesWeb host origins sockets = IsSomeAnd sockets.web (λ web. AllowsNamesAt host origins web.allowed)
