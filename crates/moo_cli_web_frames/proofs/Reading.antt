-- A run of frames, a frame at a time.
use Rattle.std.proofs.Common.{◌≡◌, inl, inr, ℕ, suc, ◌+◌, ◌-◌, ◌<◌, ◌≤◌, List, [], ◌∷◌, ◌++◌, length, drop, true, false, Result, Ok, Err, refl, sym, ap, subst, ◌∙◌, append_assoc, append-nil, arith}
use Rattle.websocket.specs.declared.error.Error.{Error}
use Rattle.websocket.specs.declared.protocol.frame.codec.FrameStatus.{FrameStatus}
use Rattle.websocket.specs.declared.protocol.frame.codec.FrameStatus.TheVariants.{Partial, Complete}
use Rattle.websocket.specs.Connection.{Connection, Effect, read_step}
use Rattle.websocket.specs.Stream.{Trace, prepend, after_read, read_times, read_all}
use Rattle.moo_cli_web_frames.specs.Frames.{Appends, FailsFor, Replies, StepFails, Steps, Receives, payload_of, payload_in}

pub payload_in-append : (a b : List Effect) → payload_in (a ++ b) ≡ payload_in a ++ payload_in b
payload_in-append [] b = refl
payload_in-append (e ∷ a) b = ap (λ rest. payload_of e.message ++ rest) (payload_in-append a b) ∙ sym (append_assoc (payload_of e.message) (payload_in a) (payload_in b))

pub Replies-append : (a b : List Effect) (x y z : List ℕ) → Replies a x y → Replies b y z → Replies (a ++ b) x z
Replies-append [] b x y z p q = rw p at q
Replies-append (e ∷ a) b x y z p q = (p.0, p.1, Replies-append a b p.0 y z p.2 q)

pub prepend-prepend : (a b : List Effect) (t : Trace) → prepend a (prepend b t) ≡ prepend (a ++ b) t
prepend-prepend a b t = ap (λ effects. record { effects = effects; end = t.end }) (sym (append_assoc a b t.effects))

-- After these effects of a run of n reads, `left` reads are left.
pub record Progress (n : ℕ) (conn : Connection) (bytes payload output : List ℕ) (left : ℕ) (conn' : Connection) (input payload' output' : List ℕ) : Type 0 where
  pub effects : List Effect
  pub trace : read_times n conn bytes ≡ prepend effects (read_times left conn' input)
  pub does : Appends effects payload payload' output output'

-- at the beginning
progress_base_begun : (n : ℕ) (conn : Connection) (bytes payload output : List ℕ) → Progress n conn bytes payload output n conn bytes payload output
progress_base_begun n conn bytes payload output = record { effects = []; trace = refl; does = (sym (append-nil payload), refl) }

-- a frame more
progress_base_more : (n : ℕ) (conn : Connection) (bytes payload output : List ℕ) (left : ℕ) (conn1 conn2 : Connection) (input1 input2 payload1 payload2 output1 output2 : List ℕ)
    (r : Result (FrameStatus (ℕ × Effect)) Error) → read_step conn1 input1 ≡ r
    → Progress n conn bytes payload output (suc left) conn1 input1 payload1 output1
    → Steps r true conn1 conn2 input1 input2 payload1 payload2 output1 output2
    → Progress n conn bytes payload output left conn2 input2 payload2 output2
unfolding read_times
progress_base_more n conn bytes payload output left conn1 conn2 input1 input2 payload1 payload2 output1 output2 (Err e) is so_far s = absurd s
progress_base_more n conn bytes payload output left conn1 conn2 input1 input2 payload1 payload2 output1 output2 (Ok (Partial k)) is so_far s = absurd (cc s.0)
progress_base_more n conn bytes payload output left conn1 conn2 input1 input2 payload1 payload2 output1 output2 (Ok (Complete p)) is so_far s =
    rw (s.1, s.2) record {
      effects = so_far.effects ++ p.1 ∷ [];
      trace = so_far.trace ∙ ap (λ t. prepend so_far.effects (after_read (read_times left) conn1 input1 t)) is ∙ prepend-prepend so_far.effects (p.1 ∷ []) (read_times left p.1.next (drop p.0 input1));
      does = (
        s.3 ∙ ap (λ x. x ++ payload_of p.1.message) so_far.does.0 ∙ append_assoc payload (payload_in so_far.effects) (payload_of p.1.message)
            ∙ ap (λ x. payload ++ x) (ap (λ x. payload_in so_far.effects ++ x) (sym (append-nil (payload_of p.1.message))) ∙ sym (payload_in-append so_far.effects (p.1 ∷ []))),
        Replies-append so_far.effects (p.1 ∷ []) output output1 output2 so_far.does.1 (output2, s.4, refl),
      );
    }

-- it waits: the run is over
progress_base_waits : (n : ℕ) (conn : Connection) (bytes payload output : List ℕ) (left : ℕ) (conn1 conn2 : Connection) (input1 input2 payload1 payload2 output1 output2 : List ℕ)
    (r : Result (FrameStatus (ℕ × Effect)) Error) → read_step conn1 input1 ≡ r
    → Progress n conn bytes payload output (suc left) conn1 input1 payload1 output1
    → Steps r false conn1 conn2 input1 input2 payload1 payload2 output1 output2
    → Receives (read_times n conn bytes) (Ok (conn2, input2)) payload payload2 output output2
unfolding read_times
progress_base_waits n conn bytes payload output left conn1 conn2 input1 input2 payload1 payload2 output1 output2 (Err e) is so_far s = absurd s
progress_base_waits n conn bytes payload output left conn1 conn2 input1 input2 payload1 payload2 output1 output2 (Ok (Complete p)) is so_far s = absurd (cc s.0)
progress_base_waits n conn bytes payload output left conn1 conn2 input1 input2 payload1 payload2 output1 output2 (Ok (Partial k)) is so_far s =
    let t : read_times n conn bytes ≡ prepend so_far.effects (record { effects = []; end = Ok (conn1, input1) }) =
    so_far.trace ∙ ap (λ t. prepend so_far.effects (after_read (read_times left) conn1 input1 t)) is in
    let u : read_times n conn bytes ≡ record { effects = so_far.effects; end = Ok (conn1, input1) } =
    t ∙ ap (λ effects. record { effects = effects; end = Ok (conn1, input1) }) (append-nil so_far.effects) in
    rw (u, s.1, s.2, s.3, s.4) (refl, so_far.does)

-- it fails
progress_base_fails : (n : ℕ) (conn : Connection) (bytes payload output : List ℕ) (left : ℕ) (conn1 : Connection) (input1 payload1 payload2 output1 output2 : List ℕ) (e : Error)
    → Progress n conn bytes payload output (suc left) conn1 input1 payload1 output1
    → StepFails (read_step conn1 input1) e payload1 payload2 output1 output2
    → FailsFor (read_times n conn bytes) payload payload2 output output2 e
unfolding read_times
progress_base_fails n conn bytes payload output left conn1 input1 payload1 payload2 output1 output2 e so_far s =
    elim s [
      | inl memory ↦ inl memory
      | inr f ↦ inr (
          let t : read_times n conn bytes ≡ prepend so_far.effects (record { effects = []; end = Err e }) =
          so_far.trace ∙ ap (λ t. prepend so_far.effects (after_read (read_times left) conn1 input1 t)) f.0 in
          let u : read_times n conn bytes ≡ record { effects = so_far.effects; end = Err e } =
          t ∙ ap (λ effects. record { effects = effects; end = Err e }) (append-nil so_far.effects) in
          rw (u, f.1, f.2) (refl, so_far.does))
    ]

-- the reads are used up
progress_base_over : (n : ℕ) (conn : Connection) (bytes payload output : List ℕ) (conn1 : Connection) (input1 payload1 output1 : List ℕ)
    → Progress n conn bytes payload output 0 conn1 input1 payload1 output1
    → Receives (read_times n conn bytes) (Ok (conn1, input1)) payload payload1 output output1
unfolding read_times
progress_base_over n conn bytes payload output conn1 input1 payload1 output1 so_far =
    let u : read_times n conn bytes ≡ record { effects = so_far.effects; end = Ok (conn1, input1) } =
    so_far.trace ∙ ap (λ effects. record { effects = effects; end = Ok (conn1, input1) }) (append-nil so_far.effects) in
    rw u (refl, so_far.does)

-- ---- a loop that made so many of n rounds

pub progress_begun : (n : ℕ) (conn : Connection) (bytes input payload output : List ℕ) → input ≡ bytes → Progress n conn bytes payload output (n - 0) conn input payload output
progress_begun n conn bytes input payload output same =
    let none : n - 0 ≡ n = omega arith in
    subst (λ k. Progress n conn bytes payload output k conn input payload output) (sym none) (subst (λ i. Progress n conn bytes payload output n conn i payload output) (sym same) (progress_base_begun n conn bytes payload output))

pub progress_more : (n made : ℕ) (conn : Connection) (bytes payload output : List ℕ) (conn1 conn2 : Connection) (input1 input2 payload1 payload2 output1 output2 : List ℕ)
    → made < n → Progress n conn bytes payload output (n - made) conn1 input1 payload1 output1
    → Steps (read_step conn1 input1) true conn1 conn2 input1 input2 payload1 payload2 output1 output2
    → Progress n conn bytes payload output (n - (made + 1)) conn2 input2 payload2 output2
progress_more n made conn bytes payload output conn1 conn2 input1 input2 payload1 payload2 output1 output2 less so_far s =
    let one : n - made ≡ suc (n - (made + 1)) = omega arith in
    progress_base_more n conn bytes payload output (n - (made + 1)) conn1 conn2 input1 input2 payload1 payload2 output1 output2 (read_step conn1 input1) refl
    (subst (λ k. Progress n conn bytes payload output k conn1 input1 payload1 output1) one so_far) s

pub progress_waits : (n made : ℕ) (conn : Connection) (bytes payload output : List ℕ) (conn1 conn2 : Connection) (input1 input2 payload1 payload2 output1 output2 : List ℕ)
    → n ≡ suc (length bytes) → made < n → Progress n conn bytes payload output (n - made) conn1 input1 payload1 output1
    → Steps (read_step conn1 input1) false conn1 conn2 input1 input2 payload1 payload2 output1 output2
    → Receives (read_all conn bytes) (Ok (conn2, input2)) payload payload2 output output2
progress_waits n made conn bytes payload output conn1 conn2 input1 input2 payload1 payload2 output1 output2 all less so_far s =
    let one : n - made ≡ suc (n - (made + 1)) = omega arith in
    subst (λ k. Receives (read_times k conn bytes) (Ok (conn2, input2)) payload payload2 output output2) all
    (progress_base_waits n conn bytes payload output (n - (made + 1)) conn1 conn2 input1 input2 payload1 payload2 output1 output2 (read_step conn1 input1) refl
    (subst (λ k. Progress n conn bytes payload output k conn1 input1 payload1 output1) one so_far) s)

pub progress_fails : (n made : ℕ) (conn : Connection) (bytes payload output : List ℕ) (conn1 : Connection) (input1 payload1 payload2 output1 output2 : List ℕ) (e : Error)
    → n ≡ suc (length bytes) → made < n → Progress n conn bytes payload output (n - made) conn1 input1 payload1 output1
    → StepFails (read_step conn1 input1) e payload1 payload2 output1 output2
    → FailsFor (read_all conn bytes) payload payload2 output output2 e
progress_fails n made conn bytes payload output conn1 input1 payload1 payload2 output1 output2 e all less so_far s =
    let one : n - made ≡ suc (n - (made + 1)) = omega arith in
    subst (λ k. FailsFor (read_times k conn bytes) payload payload2 output output2 e) all
    (progress_base_fails n conn bytes payload output (n - (made + 1)) conn1 input1 payload1 payload2 output1 output2 e
    (subst (λ k. Progress n conn bytes payload output k conn1 input1 payload1 output1) one so_far) s)

pub progress_over : (n made : ℕ) (conn : Connection) (bytes payload output : List ℕ) (conn1 : Connection) (input1 payload1 output1 : List ℕ)
    → n ≡ suc (length bytes) → n ≤ made → Progress n conn bytes payload output (n - made) conn1 input1 payload1 output1
    → Receives (read_all conn bytes) (Ok (conn1, input1)) payload payload1 output output1
progress_over n made conn bytes payload output conn1 input1 payload1 output1 all less so_far =
    let none : n - made ≡ 0 = omega arith in
    subst (λ k. Receives (read_times k conn bytes) (Ok (conn1, input1)) payload payload1 output output1) all
    (progress_base_over n conn bytes payload output conn1 input1 payload1 output1 (subst (λ k. Progress n conn bytes payload output k conn1 input1 payload1 output1) none so_far))
