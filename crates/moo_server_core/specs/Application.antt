-- The meaning of a layer of sessions: the world with its connections.
use Rattle.std.specs.Prelude.{◌≡◌, ◌≢◌, ℕ, ℤ, List, [], ◌++◌, Bool, false, Option}
use Rattle.moo_server_core.specs.declared.application.Requests.{Requests}
use Rattle.moo_server_core.specs.declared.application.Input as given
use Rattle.moo_server_core.specs.declared.application.Input.TheVariants as the

-- the events of a layer, apart from the passing of time
pub data Input : Type 0 where
  -- connection c is opened
  Opens : ℕ → Input
  -- bytes come on connection c
  Receives : ℕ → List ℕ → Input
  -- connection c hangs up
  HangsUp : ℕ → Input
  -- a checkpoint is about to begin
  Starts : Input
  -- a checkpoint has ended, done or failed
  Finishes : Bool → Input

abbrev pub seen_happening : given.Input → Input
seen_happening (the.Opens c) = Opens c
seen_happening (the.Receives c piece) = Receives c piece.now
seen_happening (the.HangsUp c) = HangsUp c
seen_happening the.Starts = Starts
seen_happening (the.Finishes done) = Finishes done

-- the bytes that go out to each connection's number, and the lines that go to the log
pub record Output : Type 0 where
  pub sent : ℕ → List ℕ
  pub logged : List (List ℕ)

abbrev pub silence : Output
silence = record { sent = λ c. []; logged = [] }

-- one after the other
abbrev pub then_out : Output → Output → Output
then_out first second = record { sent = λ c. first.sent c ++ second.sent c; logged = first.logged ++ second.logged }

-- the result of an event: the output, whether a checkpoint was asked for, and whether a shutdown was
pub record Told : Type 0 where
  pub out : Output
  pub asks : Bool
  pub shuts : Bool

-- The meaning of a layer, over its states and the saved worlds that it starts from.
pub record Meaning (Application Saved : Type 0) : Type 1 where
  -- the effect of an event at a moment, its hooks included
  pub happens : Input → ℕ → Application → Told → Application → Type 0
  -- the effect of a start from a saved world at a moment, with its hooks
  pub starts : Saved → ℕ → Told → Application → Type 0
  -- the connection is open
  pub is_open : Application → ℕ → Bool
  -- it is open, and leaving
  pub is_leaving : Application → ℕ → Bool
  -- the player who is connected on it, if it is open and one is
  pub player_on : Application → ℕ → Option ℤ
  -- seconds from a checkpoint's beginning to the next one's, as the world has them
  pub interval : Application → ℕ
  -- the world and the connected players in order of their connections
  pub saved_of : Application → Saved
  -- the text of a saved world
  pub text_of : Saved → List ℕ
  -- bytes spell a saved world, within the limits
  pub Spells : List ℕ → Saved → Type 0

-- bytes for a connection that is leaving, which are dropped
abbrev pub is_dropped : {Application Saved : Type 0} → Meaning Application Saved → Application → Input → Bool
is_dropped m state (Receives c piece) = m.is_leaving state c
is_dropped m state happening = false

-- the event may apply: a connection opens under a number that none has
abbrev pub IsApt : {Application Saved : Type 0} → Meaning Application Saved → Application → Input → Type 0
IsApt m state (Opens c) = m.is_open state c ≡ false
IsApt m state happening = Unit {0}

-- A layer in the program: its meaning, the state of a value, the output that waits of the events that were kept, and
-- the output that is under way since.
pub record Layer (S Application Saved : Type 0) : Type 1 where
  pub meaning : Meaning Application Saved
  pub state : S → Application
  pub waiting : S → Output
  pub under_way : S → Output

-- An event happened to a layer, and this was asked for.
pub record Happens {S Application Saved : Type 0} (l : Layer S Application Saved) (happening : Input) (moment : ℕ) (old new : S) (asked : Requests) : Type 0 where
  pub told : Told
  pub happens : l.meaning.happens happening moment (l.state old) told (l.state new)
  pub goes_out : l.under_way new ≡ then_out (l.under_way old) told.out
  pub asks : asked.checkpoint ≡ told.asks
  pub shuts : asked.shutdown ≡ told.shuts

-- the bytes that waited for a number are taken, and none of them is left
pub record HandsOut {S Application Saved : Type 0} (l : Layer S Application Saved) (c : ℕ) (bytes : List ℕ) (old new : S) : Type 0 where
  pub all : bytes ≡ (l.waiting old).sent c
  pub nothing : (l.waiting new).sent c ≡ []
  pub others : (k : ℕ) → k ≢ c → (l.waiting new).sent k ≡ (l.waiting old).sent k
  pub log : (l.waiting new).logged ≡ (l.waiting old).logged
  pub state : l.state new ≡ l.state old
  pub under_way : l.under_way old ≡ silence → l.under_way new ≡ silence

-- the lines that waited for the log are taken, and none of them is left
pub record HandsOutLog {S Application Saved : Type 0} (l : Layer S Application Saved) (lines : List (List ℕ)) (old new : S) : Type 0 where
  pub all : lines ≡ (l.waiting old).logged
  pub nothing : (l.waiting new).logged ≡ []
  pub others : (l.waiting new).sent ≡ (l.waiting old).sent
  pub state : l.state new ≡ l.state old
  pub under_way : l.under_way old ≡ silence → l.under_way new ≡ silence

-- An application started from a saved world, and this was asked for.
pub record Started {S Application Saved : Type 0} (l : Layer S Application Saved) (saved : Saved) (moment : ℕ) (new : S) (asked : Requests) : Type 0 where
  pub told : Told
  pub starts : l.meaning.starts saved moment told (l.state new)
  pub out : then_out (l.waiting new) (l.under_way new) ≡ told.out
  pub asks : asked.checkpoint ≡ told.asks
  pub shuts : asked.shutdown ≡ told.shuts
