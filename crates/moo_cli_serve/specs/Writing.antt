-- What goes out in one round, and who is hung up.
use Rattle.std.specs.Prelude.{◌≡◌, ℕ, ◌<◌, ◌≤◌, List, [], ◌++◌, length, Option, Some, None, IfSome, Bool, true, ◌&&◌, ◌||◌, eqb, nat_lt, All, if◌then◌else◌}
use Rattle.std.specs.List.{list_any}
use Rattle.std.specs.Option.{option_map}
use Rattle.slab.specs.Slab.{Slab, get}
use Rattle.moo_cli_sockets.specs.declared.socket.Socket.{Socket}
use Rattle.moo_cli_sockets.specs.Coming.{Each, held}
use Rattle.moo_cli_sockets.specs.Reading.{Keeps}
use Rattle.moo_cli_sockets.specs.Sending.{MayFail}
use Rattle.moo_cli_sockets.specs.Waiting.{waits_of}
use Rattle.moo_dbtext_read.specs.Saved.{Saved}
use Rattle.moo_server_core.specs.Application.{Layer}
use Rattle.moo_server_core.specs.Server.{waiting_of}
use Rattle.moo_server_core.specs.declared.event.Event.{Event}
use Rattle.moo_server_core.specs.declared.event.Event.TheVariants as the
use Rattle.moo_server_core.specs.declared.server_core.ServerCore.{ServerCore}
use Rattle.moo_cli_serve.specs.Strangers.{leaves, may_be_late}

-- A connection that was written to is hung up if the socket failed, if the connection leaves and nothing waits for it any
-- more, if more waits than may, and if it is late: a stranger whose time is over, or one that has been silent for too long. So many bytes still wait; None is for a
-- socket that failed.
abbrev pub is_parted : ℕ → Bool → Bool → Option ℕ → Bool
is_parted most leaving late None = true
is_parted most leaving late (Some waiting) = ((leaving && eqb waiting 0) || nat_lt most waiting) || late

-- a connection is one of these
abbrev pub is_among : List ℕ → ℕ → Bool
is_among numbers c = list_any (λ k. eqb k c) numbers

-- These bytes went to the end of what waited for connection c's socket, and some of all that, from the front, went out: the rest still waits.
-- If the socket counts as failed there is no rest, and a write of them may fail. Who is hung up has no socket then; another's socket keeps what it has.
pub record Wrote (most : ℕ) (leaving late : Bool) (bytes : List ℕ) (was : Socket) (is : Option Socket) (c : ℕ) (event : Option Event) : Type 0 where
  pub rest : Option (List ℕ)
  pub out : IfSome rest (λ waits. (out : List ℕ) × (waits_of was ++ bytes ≡ out ++ waits))
  pub fails : rest ≡ None → MayFail bytes was
  pub stays : option_map (λ (socket : Socket). waits_of socket) is ≡ (if is_parted most leaving late (option_map (λ (w : List ℕ). length w) rest) then None else rest)
  pub keeps : IfSome is (Keeps was)
  pub parts : event ≡ (if is_parted most leaving late (option_map (λ (w : List ℕ). length w) rest) then Some (the.Hangup c) else None)

-- What one write to connection c's socket does, if it has one: `bytes` waited for it in the server, and `left` does then.
abbrev pub IsWritten : ℕ → Bool → Bool → List ℕ → List ℕ → Option Socket → Option Socket → ℕ → Option Event → Type 0
IsWritten most leaving late bytes left None is c event = (left ≡ bytes) × (is ≡ None) × (event ≡ None)
IsWritten most leaving late bytes left (Some was) is c event = (left ≡ []) × Wrote most leaving late bytes was is c event

module _ {S Application : Type 0} (l : Layer S Application Saved) where
  abbrev pub IsWrittenTo : ℕ → Bool → ServerCore S → ServerCore S → Slab Socket → Slab Socket → ℕ → Option Event → Type 0
  IsWrittenTo most late before after old new c event =
      IsWritten most (leaves l before c) late ((waiting_of l before).sent c) ((waiting_of l after).sent c) (get old c) (get new c) c event

  -- connection c's socket is what it was, and the server holds what it held for c
  pub record IsLeft (c : ℕ) (before after : ServerCore S) (old new : Slab Socket) : Type 0 where
    pub socket : get new c ≡ get old c
    pub waiting : (waiting_of l after).sent c ≡ (waiting_of l before).sent c

  -- One write to each socket, by rising number, with the hang-ups that come of it. Those that are late are strangers or
  -- silent. No line for the log is handed out.
  pub record Writes (most : ℕ) (silent : ℕ → Bool) (before after : ServerCore S) (old new : Slab Socket) (events : List Event) : Type 0 where
    pub below : ℕ
    pub late : List ℕ
    pub late_are : All (λ c. may_be_late l silent before c ≡ true) late
    pub each : Each (λ c event. IsWrittenTo most (is_among late c) before after old new c event) below events
    -- there are no others, and what waits in the server for their numbers stays there
    pub beyond : (c : ℕ) → below ≤ c → c < 65536 → (held old c ≡ None) × (held new c ≡ None)
    pub untaken : (c : ℕ) → below ≤ c → (waiting_of l after).sent c ≡ (waiting_of l before).sent c
    pub log : (waiting_of l after).logged ≡ (waiting_of l before).logged
