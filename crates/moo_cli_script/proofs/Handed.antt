-- Output that is handed out between two calls.
use Rattle.std.proofs.Common.{◌≡◌, ◌≢◌, ℕ, suc, ◌+◌, ◌<◌, ◌≤◌, ⊎_elim, List, [], Option, refl, sym, ◌∙◌, ap, subst, append_assoc, arith}
use Rattle.moo_dbtext_read.specs.Saved.{Saved}
use Rattle.moo_server_core.specs.Application.{Layer, Output, silence, then_out}
use Rattle.moo_disk.specs.Disk.{DiskKind}
use Rattle.moo_server_core.specs.declared.server_core.Open.{Open}
use Rattle.moo_server_core.specs.declared.server_core.ServerCore.{ServerCore}
use Rattle.moo_server_core.specs.Meaning.{State}
use Rattle.moo_server_core.specs.Server.{Follows, Hands, OpenFollows, Same, waiting_of, with_disk}
use Rattle.std.specs.Prelude.{Result, Ok, Err, OnOk}
use Rattle.std.proofs.lemmas.Bool.{cases_lt}
use Rattle.std.proofs.KnownBytes.{Appends-trans}
use Rattle.std.specs.Io.KnownBytes.{Appends}
use Rattle.moo_cli_script.specs.Printed.{sent_lines}
use Rattle.moo_cli_script.specs.declared.script.Script.{Script}
use Rattle.moo_cli_script.specs.Script.{Fits, HandsOut, ScriptDisk, printed_below, script_kind}

-- what holds in any case holds if there is no error
pub on_ok_anyway : {T E P : Type 0} (result : Result T E) → P → OnOk result P
on_ok_anyway (Ok x) p = p
on_ok_anyway (Err e) p = tt

out_assoc : (a b c : Output) → then_out (then_out a b) c ≡ then_out a (then_out b c)
out_assoc a b c = λ i. record {
  sent = λ n. append_assoc (a.sent n) (b.sent n) (c.sent n) i;
  logged = append_assoc a.logged b.logged c.logged i;
}

module _ {S Application : Type 0} (l : Layer S Application Saved) where
  pub same_self : (server : ServerCore S) → Same l server server
  same_self server = record { state = refl; writing = refl; halted = refl; under_way = λ h. h }

  pub same_join : (a b c : ServerCore S) → Same l a b → Same l b c → Same l a c
  same_join a b c first second = record {
    state = second.state ∙ first.state;
    writing = second.writing ∙ first.writing;
    halted = second.halted ∙ first.halted;
    under_way = λ h. second.under_way (first.under_way h);
  }

  pub hands_none : (server : ServerCore S) → Hands l silence server server
  hands_none server = record { same = same_self server; waiting = refl }

  pub hands_join : (h h' : Output) (a b c : ServerCore S) → Hands l h a b → Hands l h' b c → Hands l (then_out h h') a c
  hands_join h h' a b c first second = record {
    same = same_join a b c first.same second.same;
    waiting = first.waiting ∙ ap (λ (o : Output). then_out h o) second.waiting ∙ sym (out_assoc h h' (waiting_of l c));
  }

  pub follows_same : {D : Type 0} (kind : DiskKind D) (one other : ServerCore S) (disk : D) → Same l one other
      → Follows l kind (with_disk one disk) → Follows l kind (with_disk other disk)
  follows_same kind one other disk same follows = record {
    still = same.under_way follows.still;
    continues = subst (λ (w : Option Open). OpenFollows kind w disk) (sym same.writing) follows.continues;
  }

  -- what was printed of a server so far: connections below a number
  pub record IsPrintedTo (first now : ServerCore S) (top : ℕ) : Type 0 where
    pub same : Same l first now
    pub hands : (handed : Output) × Hands l handed first now
    pub nothing : (c : ℕ) → c < top → (waiting_of l now).sent c ≡ []
    pub others : (c : ℕ) → top ≤ c → (waiting_of l now).sent c ≡ (waiting_of l first).sent c
    pub log : (waiting_of l now).logged ≡ (waiting_of l first).logged

  pub none_printed : (first : ServerCore S) → IsPrintedTo first first 0
  none_printed first = record { same = same_self first; hands = (silence, hands_none first); nothing = λ c below. absurd (omega (arith, below)); others = λ c above. refl; log = refl }

  pub one_printed : (first now next : ServerCore S) (c : ℕ) (h : Output) → IsPrintedTo first now c → Hands l h now next → (waiting_of l next).sent c ≡ []
      → ((k : ℕ) → k ≢ c → (waiting_of l next).sent k ≡ (waiting_of l now).sent k) → (waiting_of l next).logged ≡ (waiting_of l now).logged → IsPrintedTo first next (c + 1)
  one_printed first now next c h printed hands nothing others log = record {
    same = same_join first now next printed.same hands.same;
    hands = (then_out printed.hands.0 h, hands_join printed.hands.0 h first now next printed.hands.1 hands);
    nothing = λ k below. ⊎_elim (λ lt. others k (λ e. absurd (omega (arith, lt, e))) ∙ printed.nothing k lt)
        (λ ge. let is : k ≡ c = omega (arith, below, ge) in ap (λ n. (waiting_of l next).sent n) is ∙ nothing) (cases_lt k c);
    others = λ k above. others k (λ e. absurd (omega (arith, above, e))) ∙ printed.others k (omega (arith, above));
    log = log ∙ printed.log;
  }

  pub text_printed : (first now : ServerCore S) (c : ℕ) (old mid new : Option (List ℕ)) (bytes : List ℕ) → IsPrintedTo first now c → bytes ≡ (waiting_of l now).sent c
      → Appends old mid (printed_below c (waiting_of l first).sent) → Appends mid new (sent_lines c bytes) → Appends old new (printed_below (c + 1) (waiting_of l first).sent)
  text_printed first now c old mid new bytes printed is before following =
      let next : suc c ≡ c + 1 = omega arith in
      let all : bytes ≡ (waiting_of l first).sent c = is ∙ printed.others c (omega arith) in
      subst (λ (n : ℕ). Appends old new (printed_below n (waiting_of l first).sent)) next
      (Appends-trans old mid new (printed_below c (waiting_of l first).sent) (sent_lines c ((waiting_of l first).sent c)) before
      (subst (λ (bs : List ℕ). Appends mid new (sent_lines c bs)) all following))

  -- then the log is taken
  pub hands_out : (old new : Script S) (mid : ServerCore S) (h : Output) → IsPrintedTo old.server mid old.top → Hands l h mid new.server → (waiting_of l new.server).sent ≡ (waiting_of l mid).sent
      → (waiting_of l new.server).logged ≡ [] → new.disk ≡ old.disk → new.top ≡ old.top → HandsOut l old new
  hands_out old new mid h printed hands sent logged disk top = record {
    same = same_join old.server mid new.server printed.same hands.same;
    hands = (then_out printed.hands.0 h, hands_join printed.hands.0 h old.server mid new.server printed.hands.1 hands);
    nothing = λ c below. ap (λ (f : ℕ → List ℕ). f c) sent ∙ printed.nothing c below;
    others = λ c above. ap (λ (f : ℕ → List ℕ). f c) sent ∙ printed.others c above;
    logged = logged;
    disk = disk;
    top = top;
  }

  pub fits_handed : (old new : Script S) → Fits l old → HandsOut l old new → new.moment ≡ old.moment → Fits l new
  fits_handed old new fits hands moment = record {
    follows = subst (λ (d : ScriptDisk). Follows l script_kind (with_disk new.server d)) (sym hands.disk)
        (follows_same script_kind old.server new.server old.disk hands.same fits.follows);
    alive = hands.same.halted ∙ fits.alive;
    moment_is = moment ∙ fits.moment_is ∙ sym (ap (λ (s : State Application). s.moment) hands.same.state);
    top_fits = subst (λ (n : ℕ). n ≤ 65536) (sym hands.top) fits.top_fits;
  }
