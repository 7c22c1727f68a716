-- Events by rising number.
use Rattle.std.proofs.Common.{◌≡◌, ℕ, zero, suc, ◌+◌, ◌-◌, ◌<◌, ◌≤◌, List, [], ◌∷◌, ◌++◌, Option, Some, None, Bool, true, false, refl, sym, ◌∙◌, ap, subst, add-one, add-zero, arith}
use Rattle.std.specs.Prelude.{eqb, if◌then◌else◌}
use Rattle.std.proofs.lemmas.Bool.{eqb-true}
use Rattle.std.proofs.lemmas.List.{append-nil}
use Rattle.moo_server_core.specs.declared.event.Event.{Event}
use Rattle.moo_server_core.specs.declared.event.Event.TheVariants as the
use Rattle.moo_cli_sockets.specs.Coming.{Each, IsRead, held_after, held_through, only}

module _ (P : ℕ → Option Event → Type 0) where
  pub each_none : Each P 0 []
  each_none = refl

  pub each_more : (n : ℕ) (events all : List Event) (event : Option Event) → Each P n events → P n event → all ≡ events ++ only event → Each P (n + 1) all
  each_more n events all event each is all_is = subst (λ (k : ℕ). Each P k all) (sym (add-one n)) (events, event, each, is, all_is)

  -- nothing comes of k numbers more
  each_on : (n k : ℕ) (events : List Event) → ((c : ℕ) → n ≤ c → c < n + k → P c None) → Each P n events → Each P (n + k) events
  each_on n zero events none each = subst (λ (m : ℕ). Each P m events) (sym (add-zero n)) each
  each_on n (suc k) events none each =
      let more : n + k + 1 ≡ n + suc k = omega arith in
      subst (λ (m : ℕ). Each P m events) more
      (each_more (n + k) events events None (each_on n k events (λ c from below. none c from (omega (arith, below))) each) (none (n + k) (omega arith) (omega arith)) (sym (append-nil events)))

  -- nothing comes of the numbers up to a higher one
  pub each_gap : (n m : ℕ) (events : List Event) → n ≤ m → ((c : ℕ) → n ≤ c → c < m → P c None) → Each P n events → Each P m events
  each_gap n m events up none each =
      let end : n + (m - n) ≡ m = omega (arith, up) in
      subst (λ (k : ℕ). Each P k events) end (each_on n (m - n) events (λ c from below. none c from (omega (arith, up, below))) each)

  -- what holds of each implies another thing of it
  pub each_map : (Q : ℕ → Option Event → Type 0) (n : ℕ) (events : List Event) → ((c : ℕ) → c < n → (event : Option Event) → P c event → Q c event)
      → Each P n events → Each Q n events
  each_map Q zero events carries each = each
  each_map Q (suc n) events carries each =
      (each.0, each.1, each_map Q n each.0 (λ c less. carries c (omega (arith, less))) each.2, carries n (omega arith) each.1 each.3, each.4)

-- events, and others after them
pub after_append : (c : ℕ) (was : Option (List ℕ)) (first second : List Event) → held_after c was (first ++ second) ≡ held_after c (held_after c was first) second
after_append c was [] second = refl
after_append c was (event ∷ first) second = after_append c (held_through c was event) first second

-- a read of one socket leaves the others
read_leaves : (c n : ℕ) (was waits : Option (List ℕ)) (event : Option Event) → n < c → IsRead was n event → held_after c waits (only event) ≡ waits
read_leaves c n was waits None less is = refl
read_leaves c n was waits (Some (the.Bytes k piece)) less is = refl
read_leaves c n was waits (Some (the.Hangup k)) less is = by_test (eqb k c) refl
  where
    by_test : (b : Bool) → eqb k c ≡ b → (if b then None else waits) ≡ waits
    by_test true here = absurd (omega (arith, less, is.1, eqb-true k c here))
    by_test false other = refl
read_leaves c n was waits (Some (the.Open k)) less is = absurd is
read_leaves c n was waits (Some (the.Moment moment)) less is = absurd is
read_leaves c n was waits (Some the.Flush) less is = absurd is

-- reads of those before it leave a socket
pub reads_leave : (of : ℕ → Option (List ℕ)) (c n : ℕ) (waits : Option (List ℕ)) (reads : List Event) → n ≤ c
    → Each (λ k event. IsRead (of k) k event) n reads → held_after c waits reads ≡ waits
reads_leave of c zero waits reads less each = ap (λ (es : List Event). held_after c waits es) each
reads_leave of c (suc n) waits reads less each =
    ap (λ (es : List Event). held_after c waits es) each.4 ∙ after_append c waits each.0 (only each.1)
    ∙ ap (λ (w : Option (List ℕ)). held_after c w (only each.1)) (reads_leave of c n waits each.0 (omega (arith, less)) each.2)
    ∙ read_leaves c n (of n) waits each.1 (omega (arith, less)) each.3
