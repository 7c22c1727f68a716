-- Who is silent was last heard so long ago.
use Rattle.std.proofs.Common.{◌≡◌, ◌≢◌, ℕ, zero, suc, ◌-◌, ◌<◌, Bool, true, false, inl, inr, refl, sym, ◌∙◌, ap, subst, arith}
use Rattle.std.specs.Prelude.{eqb, nat_lt, not, ◌&&◌, if◌then◌else◌}
use Rattle.std.proofs.lemmas.Bool.{and_parts, eq-eqb, ltb-true, not-true, true≢false}
use Rattle.moo_disk.specs.Disk.{DiskKind}
use Rattle.moo_dbtext_read.specs.Saved.{Saved}
use Rattle.moo_server_core.specs.Application.{Layer}
use Rattle.moo_cli_serve.specs.Hearing.{IsHeardLast}
use Rattle.moo_cli_serve.specs.Service.{Begun, Makes, Steps, Turns}
use Rattle.moo_cli_serve.specs.Silence.{heard_in, is_heard, is_silent}
use Rattle.moo_cli_serve.specs.declared.limits.Limits.{Limits}
use Rattle.moo_cli_serve.specs.declared.serving.Serving.{Serving}
use Rattle.moo_cli_serve.specs.declared.silence.Silence.{Silence}
use Rattle.moo_cli_serve.specs.declared.timeouts.Timeouts.{Timeouts}
use Rattle.moo_cli_serve.proofs.Serviced.{paused}

-- the parts of silence
record Parts (silence : Silence) (now c : ℕ) : Type 0 where
  other : c ≢ 65535
  limited : silence.limit ≢ 0
  long : silence.limit < now - heard_in silence c

parts : (silence : Silence) (now c : ℕ) → is_silent silence now c ≡ true → Parts silence now c
parts silence now c is =
    let both = and_parts (not (eqb c 65535) && not (eqb silence.limit 0)) (nat_lt silence.limit (now - heard_in silence c)) is in
    let first = and_parts (not (eqb c 65535)) (not (eqb silence.limit 0)) both.0 in
    record {
      other = λ same. true≢false (sym (eq-eqb c 65535 same) ∙ not-true (eqb c 65535) first.0);
      limited = λ none. true≢false (sym (eq-eqb silence.limit 0 none) ∙ not-true (eqb silence.limit 0) first.1);
      long = ltb-true silence.limit (now - heard_in silence c) both.1;
    }

module _ {S Application D : Type 0} (l : Layer S Application Saved) (kind : DiskKind D) where
  -- what was noted in a round stays
  kept : (old new : Serving S D) → (turns : Turns l kind old new) → new.timeouts ≡ turns.turned.timeouts
  kept old new turns = ap (λ (s : Serving S D). s.timeouts) turns.same

  heard_still : (c : ℕ) (old new : Serving S D) → (steps : Steps l kind old new) → heard_in new.timeouts.silence c ≡ heard_in steps.1.turned.timeouts.silence c
  heard_still c old new steps = ap (λ (t : Timeouts). heard_in t.silence c) ((paused l kind steps.2 steps.0 new steps.3).timeouts_are ∙ kept old steps.0 steps.1)

  -- the second that was noted is that of the last round in which it was heard
  noted : (c second rounds : ℕ) (old new : Serving S D) → (makes : Makes l kind rounds old new) → IsHeardLast l kind c second rounds old new makes
      → heard_in new.timeouts.silence c ≡ second
  noted c second zero old new same last = ap (λ (s : Serving S D). heard_in s.timeouts.silence c) same ∙ last
  noted c second (suc n) old new (mid, makes, steps) (inl here) =
      heard_still c mid new steps ∙ steps.1.rounds.listens.heard c
      ∙ ap (λ (b : Bool). if b then steps.1.rounds.second else heard_in mid.timeouts.silence c) here.0 ∙ here.1
  noted c second (suc n) old new (mid, makes, steps) (inr before) =
      heard_still c mid new steps ∙ steps.1.rounds.listens.heard c
      ∙ ap (λ (b : Bool). if b then steps.1.rounds.second else heard_in mid.timeouts.silence c) before.0 ∙ noted c second n old mid makes before.1

  -- the limit stays
  limit_stays : (rounds : ℕ) (old new : Serving S D) → Makes l kind rounds old new → new.timeouts.silence.limit ≡ old.timeouts.silence.limit
  limit_stays zero old new same = ap (λ (s : Serving S D). s.timeouts.silence.limit) same
  limit_stays (suc n) old new (mid, makes, steps) =
      ap (λ (t : Timeouts). t.silence.limit) ((paused l kind steps.2 steps.0 new steps.3).timeouts_are ∙ kept mid steps.0 steps.1) ∙ steps.1.rounds.listens.limit ∙ limit_stays n old mid makes

  -- nobody is silent in a round in which he was heard
  unheard : (b : Bool) (now was limit : ℕ) → limit < now - (if b then now else was) → b ≡ false
  unheard true now was limit long = absurd (omega (arith, long))
  unheard false now was limit long = refl

  pub silent_since : (disk : D) (limits : Limits) (start : Serving S D) → Begun l kind disk limits start → (rounds : ℕ) (mid new : Serving S D)
      → (makes : Makes l kind rounds start mid) → (turns : Turns l kind mid new) → (c : ℕ) → is_silent new.timeouts.silence turns.rounds.second c ≡ true
      → (c ≢ 65535) × (limits.idle_seconds ≢ 0) × (is_heard turns.rounds.first c ≡ false)
      × ((second : ℕ) → IsHeardLast l kind c second rounds start mid makes → limits.idle_seconds < turns.rounds.second - second)
  silent_since disk limits start begun rounds mid new makes turns c is =
      let p = parts new.timeouts.silence turns.rounds.second c is in
      let limit : new.timeouts.silence.limit ≡ limits.idle_seconds = ap (λ (t : Timeouts). t.silence.limit) (kept mid new turns) ∙ turns.rounds.listens.limit ∙ limit_stays rounds start mid makes ∙ begun.idle_is in
      let heard = ap (λ (t : Timeouts). heard_in t.silence c) (kept mid new turns) ∙ turns.rounds.listens.heard c in
      let none : is_heard turns.rounds.first c ≡ false = unheard (is_heard turns.rounds.first c) turns.rounds.second (heard_in mid.timeouts.silence c) new.timeouts.silence.limit
      (subst (λ (n : ℕ). new.timeouts.silence.limit < turns.rounds.second - n) heard p.long) in
      let same : heard_in new.timeouts.silence c ≡ heard_in mid.timeouts.silence c =
      heard ∙ ap (λ (b : Bool). if b then turns.rounds.second else heard_in mid.timeouts.silence c) none in (
        p.other,
        λ zero_is. p.limited (limit ∙ zero_is),
        none,
        λ second last.
            subst (λ (n : ℕ). n < turns.rounds.second - second) limit
            (subst (λ (n : ℕ). new.timeouts.silence.limit < turns.rounds.second - n) (same ∙ noted c second rounds start mid makes last) p.long),
      )
