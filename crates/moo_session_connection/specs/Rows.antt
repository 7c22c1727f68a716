-- Rows of bytes of which some are touched.
use Rattle.std.specs.Prelude.{◌≡◌, ℕ, ◌==◌, nat_lt, Bool, false, List, [], ◌∷◌, ◌++◌, length, slice_index_or, slice_set, if◌then◌else◌}
use Rattle.std.specs.BTreeSet.{BTreeSet, contains}
use Rattle.std.specs.List.{list_any}
use Rattle.std.specs.Ordering.{nat_cmp}
use Rattle.moo_session_connection.specs.Streams.{ended}
use Rattle.moo_session_connection.specs.Outbox.{Bytes, no_bytes}

-- only touched numbers have bytes under way
abbrev pub OnlyTouched : List Bytes → List ℕ → Type 0
OnlyTouched rows touched = (c : ℕ) → list_any (λ n. n == c) touched ≡ false → (slice_index_or rows c no_bytes).under_way ≡ []

-- only these numbers have bytes
abbrev pub OnlyFilled : List Bytes → BTreeSet ℕ → Type 0
OnlyFilled rows filled = (c : ℕ) → contains nat_cmp filled c ≡ false → slice_index_or rows c no_bytes ≡ no_bytes

-- bytes wait for a number
abbrev pub has_waiting : List Bytes → ℕ → Bool
has_waiting rows c = nat_lt 0 (length (slice_index_or rows c no_bytes).waiting)

-- the bytes that are under way wait
abbrev pub committed : Bytes → Bytes
committed b = record { waiting = b.waiting ++ b.under_way; under_way = [] }

-- the bytes that are under way are dropped
abbrev pub rolled_back : Bytes → Bytes
rolled_back b = record { waiting = b.waiting; under_way = [] }

-- the row of a number changed, if there is one
abbrev pub changed_at : (Bytes → Bytes) → ℕ → List Bytes → List Bytes
changed_at f n rows = slice_set rows n (f (slice_index_or rows n no_bytes))

-- the rows of these numbers, one after another
abbrev pub all_changed : (Bytes → Bytes) → List ℕ → List Bytes → List Bytes
all_changed f [] rows = rows
all_changed f (n ∷ ns) rows = all_changed f ns (changed_at f n rows)

-- the bytes that a line for the number n gives the number c
abbrev pub sent_for : ℕ → ℕ → List ℕ → List ℕ
sent_for c n line = if n == c then ended line else []
