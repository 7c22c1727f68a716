-- Connections to which nothing happens as output is written.
use Rattle.std.proofs.Common.{◌≡◌, ◌≢◌, ◌⊎◌, ℕ, suc, get_or, Contains, ◌+◌, ◌<◌, ◌≤◌, List, [], ◌∷◌, ◌++◌, length, Option, Some, None, Bool, true, false, inl, inr, refl, sym, ◌∙◌, ap, subst, arith}
use Rattle.std.specs.Prelude.{eqb, ◌||◌, if◌then◌else◌}
use Rattle.std.specs.List.{AllPairs}
use Rattle.std.proofs.lemmas.Bool.{cases_eq, cases_lt, eqb-true, le-ltb, true≢false}
use Rattle.std.proofs.lemmas.List.{append-nil}
use Rattle.std.proofs.lemmas.List.Elements.{Contains-append_left, Contains-append_right}
use Rattle.std.specs.Option.{option_map}
use Rattle.slab.specs.Slab.{Slab, get}
use Rattle.moo_cli_sockets.specs.declared.socket.Socket.{Socket}
use Rattle.moo_cli_sockets.specs.Coming.{Follow, held, held_after, held_through}
use Rattle.moo_cli_sockets.specs.Waiting.{waits_of}
use Rattle.moo_cli_sockets.proofs.Keeping.{keeps_same}
use Rattle.moo_dbtext_read.specs.Saved.{Saved}
use Rattle.moo_server_core.specs.Application.{Layer}
use Rattle.moo_server_core.specs.Server.{waiting_of}
use Rattle.moo_server_core.specs.declared.event.Event.{Event}
use Rattle.moo_server_core.specs.declared.event.Event.TheVariants as the
use Rattle.moo_server_core.specs.declared.server_core.ServerCore.{ServerCore}
use Rattle.moo_cli_serve.specs.Idle.{IsIdle}
use Rattle.moo_cli_serve.specs.Room.{HasRoom, HaveRoom, bytes_held}
use Rattle.moo_cli_serve.specs.Strangers.{leaves}
use Rattle.moo_cli_serve.specs.Writing.{IsLeft, IsWritten, IsWrittenTo, is_among, is_parted}
use Rattle.moo_cli_serve.proofs.Carrying.{carried}

-- nothing is written to a socket for which there is no output, and it stays
rests : (most : ℕ) (socket : Socket) (c : ℕ) → length (waits_of socket) ≤ most → IsWritten most false false [] [] (Some socket) (Some socket) c None
rests most socket c few = (
  refl,
  record {
    rest = Some (waits_of socket);
    out = ([], append-nil (waits_of socket));
    fails = λ no. absurd cc;
    stays = sym (ap (λ (b : Bool). if b then None else Some (waits_of socket)) goes_on);
    keeps = keeps_same socket socket (refl, refl, refl, refl);
    parts = sym (ap (λ (b : Bool). if b then Some (the.Hangup c) else None) goes_on);
  },
)
  where
    goes_on : is_parted most false false (Some (length (waits_of socket))) ≡ false
    goes_on = rw (le-ltb most (length (waits_of socket)) few) refl

-- a connection for which nothing is held has no socket
pub no_socket : (slot : Option Socket) → option_map (λ (socket : Socket). waits_of socket) slot ≡ None → slot ≡ None
no_socket None none = refl
no_socket (Some socket) none = absurd cc

-- what was read or closed leaves room
room_through : (most c : ℕ) (was : Option (List ℕ)) (event : Event) → length (bytes_held was) ≤ most → length (bytes_held (held_through c was event)) ≤ most
room_through most c was (the.Open k) few = by_test (eqb k c)
  where
    by_test : (b : Bool) → length (bytes_held (if b then Some [] else was)) ≤ most
    by_test true = omega arith
    by_test false = few
room_through most c was (the.Hangup k) few = by_test (eqb k c)
  where
    by_test : (b : Bool) → length (bytes_held (if b then None else was)) ≤ most
    by_test true = omega arith
    by_test false = few
room_through most c was (the.Bytes k piece) few = few
room_through most c was (the.Moment moment) few = few
room_through most c was the.Flush few = few

room_after : (most c : ℕ) (was : Option (List ℕ)) (events : List Event) → length (bytes_held was) ≤ most → length (bytes_held (held_after c was events)) ≤ most
room_after most c was [] few = few
room_after most c was (event ∷ events) few = room_after most c (held_through c was event) events (room_through most c was event few)

pub room_follows : (most : ℕ) (events : List Event) (old new : Slab Socket) → HaveRoom most old → Follow events old new → HaveRoom most new
room_follows most events old new room follow c below =
    subst (λ (w : Option (List ℕ)). length (bytes_held w) ≤ most) (sym (follow c)) (room_after most c (held old c) events (room c below))

pub room_same : (most : ℕ) (old new : Slab Socket) → HaveRoom most old → ((c : ℕ) → held new c ≡ held old c) → HaveRoom most new
room_same most old new room same c below = subst (λ (w : Option (List ℕ)). length (bytes_held w) ≤ most) (sym (same c)) (room c below)

module _ {S Application : Type 0} (l : Layer S Application Saved) where
  -- what a write would do to an idle connection is nothing
  pub idle_writes : (most : ℕ) (settled : Bool) (late : List ℕ) (before after : ServerCore S) (old new : Slab Socket) (c : ℕ) → c < 65536 → IsIdle l settled late before old c
      → (settled ≡ true → HaveRoom most old) → IsLeft l c before after old new → IsWrittenTo l most (is_among late c) before after old new c None
  idle_writes most settled late before after old new c below idle room left = by_case idle
    where
      without : get old c ≡ None → IsWrittenTo l most (is_among late c) before after old new c None
      without none =
          carried most (is_among late c) (leaves l before c) (leaves l before c) ((waiting_of l before).sent c) ((waiting_of l before).sent c) ((waiting_of l after).sent c) ((waiting_of l after).sent c)
          None (get old c) None (get new c) c None refl refl refl none (left.socket ∙ none) (left.waiting, refl, refl)

      by_slot : (slot : Option Socket) → get old c ≡ slot → HaveRoom most old → (waiting_of l before).sent c ≡ [] → leaves l before c ≡ false → is_among late c ≡ false
          → IsWrittenTo l most (is_among late c) before after old new c None
      by_slot None is fits nothing goes early = without is
      by_slot (Some socket) is fits nothing goes early =
          subst (λ (b : Bool). IsWrittenTo l most b before after old new c None) (sym early)
          (carried most false false (leaves l before c) [] ((waiting_of l before).sent c) [] ((waiting_of l after).sent c)
          (Some socket) (get old c) (Some socket) (get new c) c None goes nothing (left.waiting ∙ nothing) is (left.socket ∙ is)
          (rests most socket c (subst (λ (slot : Option Socket). length (bytes_held (option_map (λ (s : Socket). waits_of s) slot)) ≤ most) is (fits c below))))

      by_case : IsIdle l settled late before old c → IsWrittenTo l most (is_among late c) before after old new c None
      by_case (inl none) = without (no_socket (get old c) none)
      by_case (inr rest) = by_slot (get old c) refl (room rest.0) rest.1 rest.2 rest.3

  -- an idle connection has room
  pub idle_room : (most : ℕ) (settled : Bool) (late : List ℕ) (server : ServerCore S) (old : Slab Socket) (c : ℕ) → c < 65536 → IsIdle l settled late server old c
      → (settled ≡ true → HaveRoom most old) → HasRoom most old c
  idle_room most settled late server old c below (inl none) room = subst (λ (w : Option (List ℕ)). length (bytes_held w) ≤ most) (sym none) (omega arith)
  idle_room most settled late server old c below (inr rest) room = room rest.0 c below

-- a number between two that are due, one after the other, isn't due
pub between_due : (due : List ℕ) (i n c : ℕ) → AllPairs (λ a b. a < b) due → ((j d : ℕ) → j < i → get_or due j d < n) → i < length due → n ≤ c → c < get_or due i c → Contains due c → ⊥
between_due due i n c rising before within from below there = by_cases (cases_eq there.0 i)
  where
    by_order : (there.0 < i) ⊎ (i ≤ there.0) → there.0 ≢ i → ⊥
    by_order (inl low) differs = omega (arith, from, there.2, before there.0 c low)
    by_order (inr high) differs = omega (arith, below, there.2, rising i there.0 c (omega (arith, high, differs)) there.1)

    by_cases : (there.0 ≡ i) ⊎ (there.0 ≢ i) → ⊥
    by_cases (inl same) = omega (arith, below, there.2, ap (λ (k : ℕ). get_or due k c) same)
    by_cases (inr differs) = by_order (cases_lt there.0 i) differs

-- a number past all that are due isn't due
pub past_due : (due : List ℕ) (i n c : ℕ) → ((j d : ℕ) → j < i → get_or due j d < n) → length due ≤ i → n ≤ c → Contains due c → ⊥
past_due due i n c before end from there = omega (arith, from, there.2, before there.0 c (omega (arith, end, there.1)))

-- a number of a list is in it
among_step : (k : ℕ) (numbers : List ℕ) (c : ℕ) (b : Bool) → eqb k c ≡ b → (b || is_among numbers c) ≡ true → (is_among numbers c ≡ true → Contains numbers c) → Contains (k ∷ numbers) c
among_step k numbers c true here is below = (0, omega arith, eqb-true k c here)
among_step k numbers c false other is below = let rest = below is in (suc rest.0, omega (arith, rest.1), rest.2)

among_contains : (numbers : List ℕ) (c : ℕ) → is_among numbers c ≡ true → Contains numbers c
among_contains [] c is = absurd (true≢false (sym is))
among_contains (k ∷ numbers) c is = among_step k numbers c (eqb k c) refl is (among_contains numbers c)

pub not_among : (numbers : List ℕ) (c : ℕ) → (Contains numbers c → ⊥) → is_among numbers c ≡ false
not_among numbers c none = by_test (is_among numbers c) refl
  where
    by_test : (b : Bool) → is_among numbers c ≡ b → b ≡ false
    by_test true there = absurd (none (among_contains numbers c there))
    by_test false other = refl

-- the numbers below one more
pub listed_more : (numbers : List ℕ) (n : ℕ) → ((c : ℕ) → c < n → Contains numbers c) → (c : ℕ) → c < n + 1 → Contains (numbers ++ n ∷ []) c
listed_more numbers n below c less =
    elim (cases_eq c n) [
      | inl same ↦ Contains-append_right numbers (n ∷ []) c (0, omega arith, sym same)
      | inr differs ↦ Contains-append_left numbers (n ∷ []) c (below c (omega (arith, less, differs)))
    ]

module _ {S Application : Type 0} (l : Layer S Application Saved) where
  -- a connection is idle if it isn't among those for which there is something to do
  pub idle_of : (settled : Bool) (late : List ℕ) (server : ServerCore S) (sockets : Slab Socket) (c : ℕ) (pending writable others all : List ℕ) → all ≡ ((pending ++ late) ++ writable) ++ others
      → (Contains all c → ⊥) → ((Contains pending c → ⊥) → ((waiting_of l server).sent c ≡ []) × (leaves l server c ≡ false))
      → (settled ≡ false → (Contains others c → ⊥) → held sockets c ≡ None) → IsIdle l settled late server sockets c
  idle_of settled late server sockets c pending writable others all is none quiet free = by_test settled refl
    where
      among : Contains (((pending ++ late) ++ writable) ++ others) c → ⊥
      among there = none (subst (λ (ns : List ℕ). Contains ns c) (sym is) there)

      first : Contains (pending ++ late) c → ⊥
      first there = among (Contains-append_left ((pending ++ late) ++ writable) others c (Contains-append_left (pending ++ late) writable c there))

      by_test : (b : Bool) → settled ≡ b → IsIdle l settled late server sockets c
      by_test false is = inl (free is (λ there. among (Contains-append_right ((pending ++ late) ++ writable) others c there)))
      by_test true is =
          let calm = quiet (λ there. first (Contains-append_left pending late c there)) in
          inr (is, calm.0, calm.1, not_among late c (λ there. first (Contains-append_right pending late c there)))
