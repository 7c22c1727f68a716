-- How the bytes of a connection are cut into events.
use Rattle.std.specs.Prelude.{◌≡◌, ℕ, List, [], ◌∷◌, ◌++◌, map, None}
use Rattle.moo_builtin.specs.Telling.{Faults}
use Rattle.moo_dbtext_read.specs.Saved.{Saved}
use Rattle.moo_session_task.specs.declared.world_state.WorldState.{WorldState}
use Rattle.moo_server_core.specs.Application.{Output, then_out}
use Rattle.moo_server_core.specs.Seen.{Bytes}
use Rattle.moo_server_core.specs.Meaning.{Begins, Entry, Run, State}
use Rattle.moo_server.specs.Live.{live_meaning}

-- the bytes a and then b of connection n, which two entries have, as one entry
abbrev pub joined : ℕ → List ℕ → List ℕ → Entry Saved → Entry Saved → Entry Saved
joined n a b first second = record { event = Bytes n (a ++ b); report = None; mark = second.mark; out = then_out first.out second.out }

-- a further entry, and the bytes that it has
pub record Piece : Type 0 where
  pub bytes : List ℕ
  pub entry : Entry Saved

-- The first entry and those after it are events with these bytes of connection n. None but the last has a mark.
abbrev pub ArePieces : ℕ → List ℕ → Entry Saved → List Piece → Type 0
ArePieces n a first [] = first.event ≡ Bytes n a
ArePieces n a first (next ∷ pieces) = (first.event ≡ Bytes n a) × (first.mark ≡ None) × ArePieces n next.bytes next.entry pieces

-- all their bytes
abbrev pub bytes_of : List ℕ → List Piece → List ℕ
bytes_of a [] = a
bytes_of a (next ∷ pieces) = a ++ bytes_of next.bytes pieces

-- all of them as one entry, with the output of all and the mark of the last
abbrev pub all_joined : ℕ → List ℕ → Entry Saved → List Piece → Entry Saved
all_joined n a first [] = first
all_joined n a first (next ∷ pieces) = joined n a (bytes_of next.bytes pieces) first (all_joined n next.bytes next.entry pieces)

-- Any number of events in a row with bytes of one connection do what one event with all these bytes does, unless a mark is made between
-- them. The output, the mark, and all that follows are the same.
abbrev pub CuttingChangesOnlyMarks : Type 0
CuttingChangesOnlyMarks = (saved : Saved) (moment : ℕ) (out : Output) (start end : State WorldState) (before after : List (Entry Saved)) (n : ℕ) (a : List ℕ) (first : Entry Saved) (pieces : List Piece)
    → Begins (live_meaning Faults) saved moment out start → Run (live_meaning Faults) start (before ++ first ∷ (map (λ piece. piece.entry) pieces ++ after)) end
    → ArePieces n a first pieces
    → Run (live_meaning Faults) start (before ++ all_joined n a first pieces ∷ after) end
