-- The connections that have sent nothing for long.
use Rattle.std.specs.Prelude.{◌≡◌, ℕ, ◌-◌, List, get_or, Bool, false, ◌&&◌, not, eqb, nat_lt, if◌then◌else◌}
use Rattle.std.specs.List.{list_any}
use Rattle.moo_server_core.specs.declared.event.Event.{Event}
use Rattle.moo_server_core.specs.declared.event.Event.TheVariants as the
use Rattle.moo_cli_serve.specs.declared.silence.Silence.{Silence}

-- connection c is opened or sends bytes in this event
abbrev pub is_sign_of : ℕ → Event → Bool
is_sign_of c (the.Open k) = eqb k c
is_sign_of c (the.Bytes k piece) = eqb k c
is_sign_of c event = false

-- connection c is opened or sends bytes in one of these events
abbrev pub is_heard : List Event → ℕ → Bool
is_heard events c = list_any (is_sign_of c) events

-- the second in which connection c was opened or last sent bytes, or 0 if it never was
abbrev pub heard_in : Silence → ℕ → ℕ
heard_in silence c = get_or silence.heard.items c 0

-- There is a limit, and connection c has sent nothing for more seconds than that. The console is never silent.
abbrev pub is_silent : Silence → ℕ → ℕ → Bool
is_silent silence now c = (not (eqb c 65535) && not (eqb silence.limit 0)) && nat_lt silence.limit (now - heard_in silence c)

-- These events came in the second `now`.
pub record Listens (now : ℕ) (events : List Event) (old new : Silence) : Type 0 where
  pub limit : new.limit ≡ old.limit
  pub heard : (c : ℕ) → heard_in new c ≡ (if is_heard events c then now else heard_in old c)
