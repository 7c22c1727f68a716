-- What waits for the sockets of a slab.
use Rattle.std.proofs.Common.{◌≡◌, ℕ, ◌≤◌, Bool, true, false, List, [], ◌∷◌, ◌++◌, length, take, drop, Option, Some, None, refl, sym, ◌∙◌, ap, subst, arith}
use Rattle.std.specs.Prelude.{IsSome, eqb, if◌then◌else◌}
use Rattle.std.specs.Option.{option_map}
use Rattle.std.proofs.lemmas.Bool.{eqb-false, eqb-true}
use Rattle.std.proofs.lemmas.List.{get_or_past, take-append-drop}
use Rattle.slab.specs.Slab.{Slab, Updates, get, with_value}
use Rattle.slab.proofs.SlabLemmas.{Updates-with_value}
use Rattle.moo_cli_sockets.specs.Waiting.{waits_of}
use Rattle.moo_cli_sockets.specs.declared.socket.Socket.{Socket}
use Rattle.moo_server_core.specs.declared.event.Event.{Event}
use Rattle.moo_server_core.specs.declared.event.Event.TheVariants as the
use Rattle.moo_cli_sockets.specs.Coming.{Closes, Follow, IsOpening, held, held_after, only}
use Rattle.moo_cli_sockets.proofs.Counting.{after_append}
use Rattle.moo_cli_sockets.specs.Sending.{Sends}

abbrev waits : Option Socket → Option (List ℕ)
waits slot = option_map (λ (socket : Socket). waits_of socket) slot

-- there is none beyond the slots
pub held_past : (sockets : Slab Socket) (c : ℕ) → length sockets.slots ≤ c → held sockets c ≡ None
held_past sockets c past = ap waits (get_or_past sockets.slots c None past)

-- a slab with no slots has none
pub held_none : (sockets : Slab Socket) (c : ℕ) → sockets.slots ≡ [] → held sockets c ≡ None
held_none sockets c none = held_past sockets c (omega (arith, ap (λ (slots : List (Option Socket)). length slots) none))

-- a socket that is written to
pub sends : (c key : ℕ) (bytes : List ℕ) (old : Slab Socket) (before mid after : Socket) (out waiting : ℕ) → key ≡ c → Some before ≡ get old key
    → waits_of mid ≡ waits_of before ++ bytes → (out ≤ length (waits_of mid)) × (waits_of after ≡ drop out (waits_of mid))
    → waiting ≡ length (waits_of after) → Sends bytes (held old c) (held (with_value old key after) c) waiting
sends c key bytes old before mid after out waiting is found gave went count = record {
  before = waits_of before;
  out = take out (waits_of mid);
  rest = waits_of after;
  had = ap (λ (k : ℕ). held old k) (sym is) ∙ ap waits (sym found);
  has = ap (λ (k : ℕ). held (with_value old key after) k) (sym is)
      ∙ ap waits (Updates-with_value old key after (subst (λ (o : Option Socket). IsSome o) found refl)).changed;
  all = sym gave ∙ sym (take-append-drop out (waits_of mid)) ∙ ap (λ (w : List ℕ). take out (waits_of mid) ++ w) (sym went.1);
  count = count;
}

-- a socket is taken out, and the others are kept
pub closes : (c key : ℕ) (old mid new : Slab Socket) → key ≡ c → Updates old mid key None → ((k : ℕ) → held new k ≡ held mid k) → Closes c old new
closes c key old mid new is updates same k = same k ∙ by_test (eqb c k) refl
  where
    by_test : (b : Bool) → eqb c k ≡ b → held mid k ≡ (if b then None else held old k)
    by_test true here = ap (λ (j : ℕ). held mid j) (sym (is ∙ eqb-true c k here)) ∙ ap waits updates.changed
    by_test false other = ap waits (updates.others k (λ e. eqb-false c k other (sym (e ∙ is))))

-- the close of a WebSocket goes out before that
pub closes_after : (c key : ℕ) (old sent mid new : Slab Socket) → ((k : ℕ) → held sent k ≡ held old k) → key ≡ c → Updates sent mid key None
    → ((k : ℕ) → held new k ≡ held mid k) → Closes c old new
closes_after c key old sent mid new before is updates same k =
    closes c key sent mid new is updates same k ∙ ap (λ (w : Option (List ℕ)). held_after k w (the.Hangup c ∷ [])) (before k)

-- a connection opens over sockets that hold what they held
pub opens_after : (event : Option Event) (old mid new : Slab Socket) → ((k : ℕ) → held mid k ≡ held old k)
    → IsOpening mid event × Follow (only event) mid new → IsOpening old event × Follow (only event) old new
opens_after event old mid new same opens = (
  opening event opens.0,
  λ k. opens.1 k ∙ ap (λ (w : Option (List ℕ)). held_after k w (only event)) (same k),
)
  where
    opening : (event : Option Event) → IsOpening mid event → IsOpening old event
    opening None is = tt
    opening (Some (the.Open c)) is = (sym (same c) ∙ is.0, is.1)
    opening (Some (the.Bytes c piece)) is = absurd is
    opening (Some (the.Hangup c)) is = absurd is
    opening (Some (the.Moment moment)) is = absurd is
    opening (Some the.Flush) is = absurd is

-- events, and others after them
pub follow_append : (first second all : List Event) (old mid new : Slab Socket) → all ≡ first ++ second → Follow first old mid → Follow second mid new → Follow all old new
follow_append first second all old mid new is f s c =
    s c ∙ ap (λ (w : Option (List ℕ)). held_after c w second) (f c) ∙ sym (after_append c (held old c) first second) ∙ ap (λ (es : List Event). held_after c (held old c) es) (sym is)
