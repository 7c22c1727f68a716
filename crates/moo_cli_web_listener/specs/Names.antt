-- The hosts and the origins that a listener allows.
use Rattle.std.specs.Prelude.{◌≡◌, ◌⊎◌, ℕ, List, [], ◌∷◌, ◌++◌, All, Contains, codes}
use Rattle.std.specs.Fmt.{decimal}
use Rattle.std.specs.declared.net.ip_addr.IpAddr.{IpAddr}
use Rattle.std.specs.declared.net.socket_addr.SocketAddr.{SocketAddr}
use Rattle.std.specs.Net.Addr.{MatchIp, IsUnspecifiedV4, IsUnspecifiedV6}
use Rattle.std.specs.Net.Socket.{socket_ip, socket_port}
use Rattle.std.specs.Net.Text.{socket_text}
use Rattle.moo_cli_web_request.specs.declared.allowed.Allowed.{Allowed}

-- the names of this machine
abbrev pub local_names : List (List ℕ)
local_names = codes "127.0.0.1" ∷ (codes "localhost" ∷ (codes "[::1]" ∷ []))

-- 0.0.0.0 or ::
abbrev pub IsOfAllNetworks : IpAddr → Type 0
IsOfAllNetworks ip = MatchIp ip IsUnspecifiedV4 IsUnspecifiedV6

-- the address itself, unless it is that of all networks
abbrev pub IsOwnHost : SocketAddr → List ℕ → Type 0
IsOwnHost address host = (IsOfAllNetworks (socket_ip address) → ⊥) × (host ≡ socket_text address)

-- a name of this machine with the port of the address, or the address itself
abbrev pub IsLocalHost : SocketAddr → List ℕ → Type 0
IsLocalHost address host =
    ((name : List ℕ) × Contains local_names name × (host ≡ name ++ (codes ":" ++ decimal (socket_port address)))) ⊎ IsOwnHost address host

-- one of the given origins, without the slash at its end
abbrev pub IsGiven : List (List ℕ) → List ℕ → Type 0
IsGiven given origin = (text : List ℕ) × Contains given text × ((text ≡ origin) ⊎ (text ≡ origin ++ codes "/"))

-- what follows the scheme of an origin, or all of it if it has none
abbrev pub IsHostOf : List ℕ → List ℕ → Type 0
IsHostOf origin host = (host ≡ origin) ⊎ ((scheme : List ℕ) × (origin ≡ scheme ++ (codes "//" ++ host)))

-- a host of this machine, or one of a given origin
abbrev pub IsAllowedHost : SocketAddr → List (List ℕ) → List ℕ → Type 0
IsAllowedHost address given host = IsLocalHost address host ⊎ ((origin : List ℕ) × IsGiven given origin × IsHostOf origin host)

-- a page of this machine, or a given origin
abbrev pub IsAllowedOrigin : SocketAddr → List (List ℕ) → List ℕ → Type 0
IsAllowedOrigin address given origin = ((host : List ℕ) × IsLocalHost address host × (origin ≡ codes "http://" ++ host)) ⊎ IsGiven given origin

-- No other host and no other origin is allowed.
pub record AllowsNames (address : SocketAddr) (given : List (List ℕ)) (allowed : Allowed) : Type 0 where
  pub hosts : All (λ host. IsAllowedHost address given host.items) allowed.hosts.items
  pub origins : All (λ origin. IsAllowedOrigin address given origin.items) allowed.origins.items

-- No other names are allowed than for a server that listens at a port of this address.
abbrev pub AllowsNamesAt : IpAddr → List (List ℕ) → Allowed → Type 0
AllowsNamesAt ip given allowed = (address : SocketAddr) × (socket_ip address ≡ ip) × AllowsNames address given allowed
