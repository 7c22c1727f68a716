-- The callers of a listener: what came of their requests, and how far the responses are.
use Rattle.std.specs.Prelude.{◌≡◌, ◌⊎◌, ℕ, ◌-◌, ◌<◌, ◌≤◌, nat_le, Bool, false, true, List, [], ◌++◌, drop, Option, None, Some, IfSome}
use Rattle.std.specs.Io.{StartsWith}
use Rattle.slab.specs.Slab.{SameValues, Slab, Updates, get, slab_len}
use Rattle.moo_cli_web_page.specs.declared.page.TheConstants.{PAGE}
use Rattle.moo_cli_web_request.specs.Requests.{AsksFor, status_line}
use Rattle.moo_cli_web_request.specs.declared.allowed.Allowed.{Allowed}
use Rattle.moo_cli_web_request.specs.declared.request.Request.{Request}
use Rattle.moo_cli_web_request.specs.declared.request.Request.TheVariants as the
use Rattle.moo_cli_web_listener.specs.declared.caller.Caller.{Caller}
use Rattle.moo_cli_web_listener.specs.declared.caller.Stage.{Stage}
use Rattle.moo_cli_web_listener.specs.declared.caller.Stage.TheVariants as stage
use Rattle.moo_cli_web_listener.specs.declared.caller.Upgrade.{Upgrade}
use Rattle.moo_cli_web_listener.specs.declared.listener.WebListener.{WebListener}

-- the whole response to a request: the page, or a refusal with its status line
abbrev pub IsResponse : Request → List ℕ → Type 0
IsResponse the.Page bytes = bytes ≡ PAGE.now
IsResponse (the.Refused refusal) bytes = StartsWith bytes (status_line refusal)
IsResponse asked bytes = ⊥

-- These bytes are the end of the response to what was asked for.
pub record IsRest (asked : Request) (rest : List ℕ) : Type 0 where
  pub response : List ℕ
  pub sent : List ℕ
  pub is_response : IsResponse asked response
  pub all : response ≡ sent ++ rest

-- how far the answer to the bytes is that have come
abbrev pub IsAt : Allowed → List ℕ → Stage → Type 0
IsAt allowed bytes stage.Reading = (bytes ≡ []) ⊎ AsksFor allowed bytes the.Incomplete
IsAt allowed bytes (stage.Writing rest) = (asked : Request) × AsksFor allowed bytes asked × IsRest asked rest.now
IsAt allowed bytes (stage.Upgrading accept n) = AsksFor allowed bytes (the.Upgrade accept n)
IsAt allowed bytes (stage.Lingering left since) = (asked : Request) × AsksFor allowed bytes asked × IsRest asked []

-- a caller is as far as its bytes ask for
abbrev pub IsCaller : Allowed → Caller → Type 0
IsCaller allowed caller = IsAt allowed caller.input.items caller.stage

-- There are at most 64 callers, and each is as far as its bytes ask for.
pub record AreCallers (allowed : Allowed) (callers : Slab Caller) : Type 0 where
  pub few : slab_len callers ≤ 64
  pub each : (key : ℕ) → IfSome (get callers key) (IsCaller allowed)

-- The browser's stream and the bytes after its head are handed on.
pub record HandsOn (caller : Caller) (length : ℕ) (upgrade : Upgrade) : Type 0 where
  pub stage : caller.stage ≡ stage.Upgrading upgrade.accept length
  pub stream : upgrade.stream ≡ caller.stream
  pub frames : upgrade.frames.items ≡ drop length caller.input.items

-- A caller whose head asks for a WebSocket is taken from the others, and handed on.
pub record Takes (old new : WebListener) (upgrade : Upgrade) : Type 0 where
  pub key : ℕ
  pub caller : Caller
  pub was : get old.callers key ≡ Some caller
  pub length : ℕ
  pub asks : AsksFor old.allowed caller.input.items (the.Upgrade upgrade.accept length)
  pub hands : HandsOn caller length upgrade
  pub taken : Updates old.callers new.callers key None

-- the place of a caller of this stage and arrival in the order in which callers make room
abbrev pub place_at : Stage → ℕ → ℕ
place_at (stage.Lingering left since) arrival = 0
place_at stage.Reading arrival = arrival
place_at (stage.Writing rest) arrival = arrival
place_at (stage.Upgrading accept n) arrival = arrival

-- Callers whose response is out make room first, and then the one that came first.
abbrev pub place_of : Caller → ℕ
place_of caller = place_at caller.stage caller.arrival

-- the place and the key of the caller that makes room first, among those with keys below n
abbrev pub IsFirst : Slab Caller → ℕ → Option (ℕ × ℕ) → Type 0
IsFirst callers n None = (k : ℕ) → k < n → get callers k ≡ None
IsFirst callers n (Some first) =
    (caller : Caller) × (get callers first.1 ≡ Some caller) × (place_of caller ≡ first.0)
    × ((k : ℕ) → k < n → IfSome (get callers k) (λ other. first.0 ≤ place_of other))

-- There is room for one more: there was, or the first caller of that order was taken out.
pub record MakesRoom (old new : Slab Caller) : Type 0 where
  pub room : slab_len new < 64
  pub kept : (new ≡ old) ⊎ ((64 ≤ slab_len old) × (first : ℕ × ℕ) × IsFirst old old.capacity (Some first) × Updates old new first.1 None)

-- Each caller stays as it is, and one more may be kept.
abbrev pub KeepsOne : Slab Caller → Slab Caller → Type 0
KeepsOne old new = SameValues old new ⊎ ((key : ℕ) × (caller : Caller) × (get old key ≡ None) × Updates old new key (Some caller))

-- Only if one more came, room was made for it; it may be kept.
abbrev pub Accepts : Slab Caller → Slab Caller → Type 0
Accepts old new = SameValues old new ⊎ ((room : Slab Caller) × MakesRoom old room × KeepsOne room new)

-- it waits to become a WebSocket
abbrev pub is_upgrading : Stage → Bool
is_upgrading stage.Reading = false
is_upgrading (stage.Writing rest) = false
is_upgrading (stage.Upgrading accept n) = true
is_upgrading (stage.Lingering left since) = false

-- its response has been out for two seconds
abbrev pub is_over : ℕ → Stage → Bool
is_over now (stage.Lingering left since) = nat_le 2 (now - since)
is_over now stage.Reading = false
is_over now (stage.Writing rest) = false
is_over now (stage.Upgrading accept n) = false

-- After a response at most 65,536 bytes are dropped, from this second on.
abbrev pub BeginsToLinger : ℕ → Stage → Type 0
BeginsToLinger now (stage.Lingering left since) = (left ≤ 65536) × (since ≡ now)
BeginsToLinger now new = Unit {0}

-- no more bytes are dropped than before, and the time doesn't begin anew
abbrev pub GoesOnLingering : ℕ → ℕ → Stage → Type 0
GoesOnLingering left since (stage.Lingering now_left now_since) = (now_left ≤ left) × (now_since ≡ since)
GoesOnLingering left since new = ⊥

-- what a step in this second does to one whose response is out, and when it begins to be one
abbrev pub Lingers : ℕ → Stage → Stage → Type 0
Lingers now (stage.Lingering left since) new = GoesOnLingering left since new
Lingers now stage.Reading new = BeginsToLinger now new
Lingers now (stage.Writing rest) new = BeginsToLinger now new
Lingers now (stage.Upgrading accept n) new = BeginsToLinger now new

-- A caller keeps its stream and its place in the order, or its connection is closed. One that waits to become a WebSocket stays as it is.
abbrev pub IsStepped : ℕ → Option Caller → Option Caller → Type 0
IsStepped now None is = is ≡ None
IsStepped now (Some was) is =
    (is_upgrading was.stage ≡ true → is ≡ Some was)
    × IfSome is (λ caller. (caller.stream ≡ was.stream) × (caller.arrival ≡ was.arrival) × Lingers now was.stage caller.stage)

-- One more may be accepted, and then each makes a step.
pub record Serves (now : ℕ) (old new : Slab Caller) : Type 0 where
  pub accepted : Slab Caller
  pub accepts : Accepts old accepted
  pub steps : (key : ℕ) → IsStepped now (get accepted key) (get new key)

-- if there is a caller, its response has not been out for two seconds
abbrev pub IsTimely : ℕ → Option Caller → Type 0
IsTimely now slot = IfSome slot (λ caller. is_over now caller.stage ≡ false)
