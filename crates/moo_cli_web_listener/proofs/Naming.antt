-- Names that are allowed besides others.
use Rattle.std.proofs.Common.{◌≡◌, ◌⊎◌, ℕ, List, [], ◌∷◌, ◌++◌, Contains, inl, inr, refl, sym, subst, arith}
use Rattle.std.specs.Prelude.{All, codes}
use Rattle.std.specs.Global.{Vec}
use Rattle.std.proofs.lemmas.List.Elements.{All-push}
use Rattle.std.specs.declared.net.socket_addr.SocketAddr.{SocketAddr}
use Rattle.moo_cli_web_request.specs.declared.allowed.Allowed.{Allowed}
use Rattle.moo_cli_web_listener.specs.Names.{AllowsNames, IsLocalHost, IsAllowedHost, IsAllowedOrigin, IsHostOf, local_names}

all_more : (P : Vec ℕ → Type 0) (old new : List (Vec ℕ)) (x : Vec ℕ) → new ≡ old ++ x ∷ [] → All P old → P x → All P new
all_more P old new x is all here = subst (λ (xs : List (Vec ℕ)). All P xs) (sym is) (All-push P old x all here)

pub first_name : Contains local_names (codes "127.0.0.1")
first_name = (0, omega arith, refl)

pub second_name : Contains local_names (codes "localhost")
second_name = (1, omega arith, refl)

pub third_name : Contains local_names (codes "[::1]")
third_name = (2, omega arith, refl)

-- nothing is allowed yet
pub none_allowed : (address : SocketAddr) (given : List (List ℕ)) (allowed : Allowed) → allowed.hosts.items ≡ [] → allowed.origins.items ≡ [] → AllowsNames address given allowed
none_allowed address given allowed hosts origins = record {
  hosts = subst (λ (xs : List (Vec ℕ)). All (λ host. IsAllowedHost address given host.items) xs) (sym hosts) (λ k d less. absurd (omega (arith, less)));
  origins = subst (λ (xs : List (Vec ℕ)). All (λ origin. IsAllowedOrigin address given origin.items) xs) (sym origins) (λ k d less. absurd (omega (arith, less)));
}

-- a name of this machine, or the address itself
pub local_allowed : (address : SocketAddr) (given : List (List ℕ)) (old new : Allowed) (host origin : Vec ℕ)
    → new.hosts.items ≡ old.hosts.items ++ host ∷ [] → new.origins.items ≡ old.origins.items ++ origin ∷ []
    → IsLocalHost address host.items → origin.items ≡ codes "http://" ++ host.items
    → AllowsNames address given old → AllowsNames address given new
local_allowed address given old new host origin hosts origins is origin_is allows = record {
  hosts = all_more (λ h. IsAllowedHost address given h.items) old.hosts.items new.hosts.items host hosts allows.hosts (inl is);
  origins = all_more (λ o. IsAllowedOrigin address given o.items) old.origins.items new.origins.items origin origins allows.origins (inl (host.items, is, origin_is));
}

-- a given origin
pub origin_allowed : (address : SocketAddr) (given : List (List ℕ)) (old new : Allowed) (text : List ℕ) (host origin : Vec ℕ)
    → new.hosts.items ≡ old.hosts.items ++ host ∷ [] → new.origins.items ≡ old.origins.items ++ origin ∷ []
    → Contains given text → (text ≡ origin.items) ⊎ (text ≡ origin.items ++ codes "/") → IsHostOf origin.items host.items
    → AllowsNames address given old → AllowsNames address given new
origin_allowed address given old new text host origin hosts origins is without host_is allows = record {
  hosts = all_more (λ h. IsAllowedHost address given h.items) old.hosts.items new.hosts.items host hosts allows.hosts (inr (origin.items, (text, is, without), host_is));
  origins = all_more (λ o. IsAllowedOrigin address given o.items) old.origins.items new.origins.items origin origins allows.origins (inr (text, is, without));
}
