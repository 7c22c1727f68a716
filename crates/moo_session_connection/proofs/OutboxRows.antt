-- Rows of which some are changed.
use Rattle.std.proofs.Common.{◌≡◌, ℕ, suc, zero, Bool, true, false, cond, ◌||◌, List, [], ◌∷◌, ◌++◌, get_or, refl, sym, ◌∙◌, ap, subst, arith}
use Rattle.std.specs.Prelude.{slice_set, ◌==◌, filter}
use Rattle.std.specs.List.{list_any, flat_map}
use Rattle.std.proofs.lemmas.Bool.{cond-true, cond-false}
use Rattle.std.proofs.lemmas.List.{append-nil}
use Rattle.moo_session_connection.specs.Streams.{Sent, stream, ended}
use Rattle.moo_session_connection.specs.Outbox.{Bytes, no_bytes}
use Rattle.moo_session_connection.specs.Rows.{OnlyTouched, committed, rolled_back, changed_at, all_changed, sent_for}

abbrev pub row : List Bytes → ℕ → Bytes
row rows c = get_or rows c no_bytes

-- of one number
same_at : (f : Bytes → Bytes) → f no_bytes ≡ no_bytes → (rows : List Bytes) (n : ℕ) → row (changed_at f n rows) n ≡ f (row rows n)
same_at f e [] n = sym e
same_at f e (r ∷ rs) zero = refl
same_at f e (r ∷ rs) (suc n) = same_at f e rs n

other_at : (b : Bytes) (rows : List Bytes) (n c : ℕ) → (n == c) ≡ false → row (slice_set rows n b) c ≡ row rows c
other_at b [] n c e = refl
other_at b (r ∷ rs) zero zero e = cc
other_at b (r ∷ rs) zero (suc c) e = refl
other_at b (r ∷ rs) (suc n) zero e = refl
other_at b (r ∷ rs) (suc n) (suc c) e = other_at b rs n c (grind (arith, e))

here : (n c : ℕ) (b : Bool) → (n == c) ≡ b → b ≡ true → n ≡ c
here n c b e f = grind (arith, e, f)

-- what every change leaves as it is stays
whole_step : {Y : Type 0} (g : Bytes → Y) (f : Bytes → Bytes) → f no_bytes ≡ no_bytes → ((b : Bytes) → g (f b) ≡ g b) → (n : ℕ) (rows : List Bytes) (c : ℕ) (b : Bool) → (n == c) ≡ b →
    g (row (changed_at f n rows) c) ≡ g (row rows c)
whole_step g f e h n rows c true i =
    let at : n ≡ c = here n c true i refl in
    subst (λ k. g (row (changed_at f n rows) k) ≡ g (row rows k)) at (ap g (same_at f e rows n) ∙ h (row rows n))
whole_step g f e h n rows c false i = ap g (other_at (f (row rows n)) rows n c i)

pub whole : {Y : Type 0} (g : Bytes → Y) (f : Bytes → Bytes) → f no_bytes ≡ no_bytes → ((b : Bytes) → g (f b) ≡ g b) → (ns : List ℕ) (rows : List Bytes) (c : ℕ) →
    g (row (all_changed f ns rows) c) ≡ g (row rows c)
whole g f e h [] rows c = refl
whole g f e h (n ∷ ns) rows c = whole g f e h ns (changed_at f n rows) c ∙ whole_step g f e h n rows c (n == c) refl

touched_step : (f : Bytes → Bytes) → f no_bytes ≡ no_bytes → ((b : Bytes) → (f b).under_way ≡ []) → (n : ℕ) (ns : List ℕ) (rows : List Bytes) → OnlyTouched rows (n ∷ ns) → (c : ℕ) (b : Bool) → (n == c) ≡ b →
    list_any (λ m. m == c) ns ≡ false → (row (changed_at f n rows) c).under_way ≡ []
touched_step f e h n ns rows only c true i j =
    let at : n ≡ c = here n c true i refl in
    subst (λ k. (row (changed_at f n rows) k).under_way ≡ []) at (ap (λ (b : Bytes). b.under_way) (same_at f e rows n) ∙ h (row rows n))
touched_step f e h n ns rows only c false i j =
    ap (λ (b : Bytes). b.under_way) (other_at (f (row rows n)) rows n c i) ∙ only c (ap (λ (b : Bool). b || list_any (λ m. m == c) ns) i ∙ j)

-- nothing is under way once all that was touched is changed
pub none_under_way : (f : Bytes → Bytes) → f no_bytes ≡ no_bytes → ((b : Bytes) → (f b).under_way ≡ []) → (ns : List ℕ) (rows : List Bytes) → OnlyTouched rows ns → (c : ℕ) →
    (row (all_changed f ns rows) c).under_way ≡ []
none_under_way f e h [] rows only c = only c refl
none_under_way f e h (n ∷ ns) rows only c =
    none_under_way f e h ns (changed_at f n rows) (λ d j. touched_step f e h n ns rows only d (n == d) refl j) c

committed-whole : (b : Bytes) → (committed b).waiting ++ (committed b).under_way ≡ b.waiting ++ b.under_way
committed-whole b = append-nil (b.waiting ++ b.under_way)

pub committed_waits : (ns : List ℕ) (rows : List Bytes) → OnlyTouched rows ns → (c : ℕ) → (row (all_changed committed ns rows) c).waiting ≡ (row rows c).waiting ++ (row rows c).under_way
committed_waits ns rows only c =
    let after : Bytes = row (all_changed committed ns rows) c in
    sym (append-nil after.waiting)
    ∙ ap (λ (u : List ℕ). after.waiting ++ u) (sym (none_under_way committed refl (λ b. refl) ns rows only c))
    ∙ whole (λ b. b.waiting ++ b.under_way) committed refl committed-whole ns rows c

pub committed_none : (ns : List ℕ) (rows : List Bytes) → OnlyTouched rows ns → (c : ℕ) → (row (all_changed committed ns rows) c).under_way ≡ []
committed_none ns rows only c = none_under_way committed refl (λ b. refl) ns rows only c

pub rolled_back_waits : (ns : List ℕ) (rows : List Bytes) (c : ℕ) → (row (all_changed rolled_back ns rows) c).waiting ≡ (row rows c).waiting
rolled_back_waits ns rows c = whole (λ b. b.waiting) rolled_back refl (λ b. refl) ns rows c

pub rolled_back_none : (ns : List ℕ) (rows : List Bytes) → OnlyTouched rows ns → (c : ℕ) → (row (all_changed rolled_back ns rows) c).under_way ≡ []
rolled_back_none ns rows only c = none_under_way rolled_back refl (λ b. refl) ns rows only c

none_step : (f : Bytes → Bytes) → f no_bytes ≡ no_bytes → (n : ℕ) (rows : List Bytes) (c : ℕ) (b : Bool) → (n == c) ≡ b → row rows c ≡ no_bytes → row (changed_at f n rows) c ≡ no_bytes
none_step f e n rows c true i none =
    let at : n ≡ c = here n c true i refl in
    subst (λ k. row (changed_at f n rows) k ≡ no_bytes) at (same_at f e rows n ∙ ap f (ap (row rows) at ∙ none) ∙ e)
none_step f e n rows c false i none = other_at (f (row rows n)) rows n c i ∙ none

-- a number without bytes gets none
pub still_none : (f : Bytes → Bytes) → f no_bytes ≡ no_bytes → (ns : List ℕ) (rows : List Bytes) (c : ℕ) → row rows c ≡ no_bytes → row (all_changed f ns rows) c ≡ no_bytes
still_none f e [] rows c none = none
still_none f e (n ∷ ns) rows c none = still_none f e ns (changed_at f n rows) c (none_step f e n rows c (n == c) refl none)

-- one line
stream_step : (b : Bool) (c : ℕ) (s : Sent) (ss : List Sent) → (s.to == c) ≡ b → stream c (s ∷ ss) ≡ cond b (ended s.line) [] ++ stream c ss
stream_step true c s ss e =
    ap (λ (committed : List Sent). flat_map (λ x. ended x.line) committed) (cond-true (s.to == c) (s ∷ filter (λ x. x.to == c) ss) (filter (λ x. x.to == c) ss) e)
stream_step false c s ss e =
    ap (λ (committed : List Sent). flat_map (λ x. ended x.line) committed) (cond-false (s.to == c) (s ∷ filter (λ x. x.to == c) ss) (filter (λ x. x.to == c) ss) e)

pub stream-cons : (c : ℕ) (s : Sent) (ss : List Sent) → stream c (s ∷ ss) ≡ sent_for c s.to s.line ++ stream c ss
stream-cons c s ss = stream_step (s.to == c) c s ss refl
