-- What comes from the console, the connection of number 65,535, and what is handed out to it.
use Rattle.std.specs.Prelude.{◌≡◌, ◌<◌, ◌≤◌, ◌⊎◌, List, ◌++◌, vec_len, Option, Some, None, is_some, Bool, true, false, ◌&&◌, ◌||◌, not, if◌then◌else◌}
use Rattle.moo_cli_sockets.specs.Coming.{only}
use Rattle.moo_dbtext_read.specs.Saved.{Saved}
use Rattle.moo_server_core.specs.Application.{Layer}
use Rattle.moo_server_core.specs.declared.event.Event.{Event}
use Rattle.moo_server_core.specs.declared.event.Event.TheVariants as the
use Rattle.moo_server_core.specs.declared.server_core.ServerCore.{ServerCore}
use Rattle.moo_cli_serve.specs.Strangers.{leaves}
use Rattle.moo_cli_serve.specs.declared.console.Console.{Console}

-- a console before its first bytes, or none
abbrev pub new_console : Bool → Console
new_console on = record { is_on = on; is_open = false; is_leaving = false; has_ended = false; is_busy = false }

-- its connection is open, and the server doesn't end it
abbrev pub stays_open : Console → Bool
stays_open console = not console.is_leaving && console.is_open

-- its hang-up, if the server ends the connection
abbrev pub end_of : Console → Option Event
end_of console = if console.is_leaving then Some (the.Hangup 65535) else None

-- its opening, if bytes come and the connection isn't open
abbrev pub opening_of : Bool → Bool → Option Event
opening_of is_open comes = if not is_open && comes then Some (the.Open 65535) else None

-- the bytes of one read, at most 256, or none
abbrev pub IsConsolesInput : Option Event → Type 0
IsConsolesInput None = Unit {0}
IsConsolesInput (Some (the.Bytes c piece)) = (c ≡ 65535) × (0 < vec_len piece) × (vec_len piece ≤ 256)
IsConsolesInput (Some event) = ⊥

-- These events came, and then, from a console that is on, its hang-up, its opening and its bytes: `all` in this order.
pub record IsTyped (old new : Console) (events all : List Event) : Type 0 where
  pub on : old.is_on ≡ true
  pub input : Option Event
  pub reads : IsConsolesInput input
  pub all_is : all ≡ ((events ++ only (end_of old)) ++ only (opening_of (stays_open old) (is_some input))) ++ only input
  pub new_is : new ≡ record old { is_open = stays_open old || is_some input; is_leaving = false; has_ended = new.has_ended; is_busy = is_some input }
  -- after the end of standard input nothing comes
  pub ended : old.has_ended ≡ true → (input ≡ None) × (new.has_ended ≡ true)

-- Without a console nothing is typed.
abbrev pub Types : Console → Console → List Event → List Event → Type 0
Types old new events all =
    ((old.is_on ≡ false) × (new ≡ record old { is_busy = false }) × (all ≡ events)) ⊎ IsTyped old new events all

module _ {S Application : Type 0} (l : Layer S Application Saved) where
  -- the console after a round: if its connection is open and the server ends it, the next round begins with its hang-up
  abbrev pub shown : ServerCore S → Console → Console
  shown server console = record console { is_leaving = if console.is_on then console.is_open && leaves l server 65535 else console.is_leaving }
