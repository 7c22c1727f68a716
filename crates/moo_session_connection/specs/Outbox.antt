-- The output that waits to be taken: the bytes for each connection, and the lines of the log. The output of an event
-- is under way, and doesn't wait until the event is kept.
use Rattle.std.specs.Prelude.{ℕ, List, [], slice_index_or}

-- bytes of one number
pub record Bytes : Type 0 where
  pub waiting : List ℕ
  pub under_way : List ℕ

abbrev pub no_bytes : Bytes
no_bytes = record { waiting = []; under_way = [] }

pub record Outbox : Type 0 where
  -- the bytes of the numbers from 0 on; the numbers past the last have none
  pub bytes : List Bytes
  pub log : List (List ℕ)
  pub log_under_way : List (List ℕ)

abbrev pub empty : Outbox
empty = record { bytes = []; log = []; log_under_way = [] }

abbrev pub bytes_of : Outbox → ℕ → Bytes
bytes_of o c = slice_index_or o.bytes c no_bytes

-- the bytes that wait for a number
abbrev pub sent_waiting : Outbox → ℕ → List ℕ
sent_waiting o c = (bytes_of o c).waiting

-- the bytes that the event under way has sent for it
abbrev pub sent_under_way : Outbox → ℕ → List ℕ
sent_under_way o c = (bytes_of o c).under_way

abbrev pub log_waiting : Outbox → List (List ℕ)
log_waiting o = o.log

abbrev pub log_under_way : Outbox → List (List ℕ)
log_under_way o = o.log_under_way
