-- The events of rounds, which make a course of the server.
use Rattle.std.proofs.Common.{◌≡◌, ◌⊎◌, inl, inr, ℕ, zero, suc, List, [], ◌∷◌, ◌++◌, take, map, Option, Some, Err, true, false, refl, sym, ◌∙◌, ap, subst}
use Rattle.std.specs.Prelude.{slice_get}
use Rattle.std.proofs.lemmas.Bool.{true≢false}
use Rattle.std.proofs.lemmas.List.{append-nil}
use Rattle.moo_disk.specs.Disk.{DiskKind}
use Rattle.moo_dbtext_read.specs.Saved.{Saved}
use Rattle.moo_server_core.specs.Application.{Layer, silence}
use Rattle.moo_server_core.specs.Courses.{phase_of}
use Rattle.moo_server_core.specs.Seen.{seen as seen_event}
use Rattle.moo_server_core.specs.Server.{EachDoes, HasCause, Runs, TakenEvent, WithDisk, entries_of, is_refused, wants_memory, was_halted, with_disk}
use Rattle.moo_server_core.specs.declared.event.Cause.{Cause}
use Rattle.moo_server_core.specs.declared.event.Event.{Event}
use Rattle.moo_server_core.specs.declared.event.Phase.{Phase}
use Rattle.moo_server_core.specs.declared.event.Phase.TheVariants as phase
use Rattle.moo_server_core.specs.declared.event.RunFault.{RunFault}
use Rattle.moo_server_core.specs.declared.server_core.ServerCore as inner
use Rattle.moo_cli_serve.specs.Course.{Course}
use Rattle.moo_cli_serve.specs.Rounds.{GivenIfOpen, given_in, unless_closed}
use Rattle.moo_cli_serve.specs.Service.{BreaksOff, CutsRound, EndsFor, IsRefused, Makes, RefusesParted, RefusesRound, StepFails, Steps, Turns, events_in}
use Rattle.moo_cli_serve.specs.declared.fault.ServeFault.{ServeFault}
use Rattle.moo_cli_serve.specs.declared.fault.ServeFault.TheVariants as the
use Rattle.moo_cli_serve.specs.declared.serving.Serving.{Serving}
use Rattle.moo_cli_serve.proofs.Coursing.{course_hands, course_join, course_none, course_refused, given_none, hands_none}
use Rattle.moo_cli_serve.proofs.Serviced.{paused}

-- a server that isn't closed is given all,
unless_open : (p : Phase) (events : List Event) → (p ≡ phase.Closed → ⊥) → unless_closed p events ≡ events
unless_open phase.Running events differs = refl
unless_open phase.Closing events differs = refl
unless_open phase.Closed events differs = absurd (differs refl)
unless_open phase.Halted events differs = refl

none_seen : (events : List Event) → map seen_event events ≡ [] → events ≡ []
none_seen [] is = refl
none_seen (event ∷ events) is = absurd cc

-- past its only event a list has none
past_one : (n : ℕ) (event next : Event) → slice_get (event ∷ []) n ≡ Some next → take n (event ∷ []) ≡ []
past_one zero event next is = refl
past_one (suc n) event next is = absurd cc

module _ {S Application D : Type 0} (l : Layer S Application Saved) (kind : DiskKind D) where
  -- a run ends at an event, or the server was halted before it
  cause_at : (before reached after : inner.ServerCore S) {next : Option Event} {cause : Cause} → HasCause l before reached after next cause
      → (before.halted ≡ true) ⊎ ((event : Event) × (next ≡ Some event))
  cause_at before reached after (was_halted next halted) = inl halted
  cause_at before reached after (wants_memory event alive halted may) = inr (event, refl)
  cause_at before reached after (is_refused event cause alive still is) = inr (event, refl)

  -- a halted server takes nothing
  none_taken : (from : WithDisk S D) (taken : List (TakenEvent S Saved D)) (to : WithDisk S D) → EachDoes l kind from taken to → from.server.halted ≡ true → taken ≡ []
  none_taken from [] to each halted = refl
  none_taken from (one ∷ taken) to each halted = absurd (true≢false (sym halted ∙ each.0.alive_before))

  -- a run that is refused at its only event takes nothing
  refused_none : (from to : WithDisk S D) (event : Event) (fault : RunFault) → Runs l kind from to (event ∷ []) (Err fault) → take fault.done (event ∷ []) ≡ []
  refused_none from to event fault runs = by_cause (cause_at from.server runs.ran.reached to.server runs.refused)
    where
      by_cause : (from.server.halted ≡ true) ⊎ ((next : Event) × (slice_get (event ∷ []) fault.done ≡ Some next)) → take fault.done (event ∷ []) ≡ []
      by_cause (inl halted) =
          none_seen (take fault.done (event ∷ []))
          (sym runs.ran.events_are ∙ ap (λ (taken : List (TakenEvent S Saved D)). map (λ entry. entry.event) (entries_of taken))
          (none_taken from runs.ran.taken (with_disk runs.ran.reached runs.ran.disk) runs.ran.each halted))
      by_cause (inr next) = past_one fault.done event next.0 next.1

  -- and a closed one nothing
  course_if_open : (before after : inner.ServerCore S) (old new : D) (events : List Event) → GivenIfOpen l kind before old events after new
      → Course l kind before old (unless_closed (phase_of before.halted before.course) events) after new
  course_if_open before after old new events (inl closed) =
      subst (λ (es : List Event). Course l kind before old es after new) (sym (ap (λ (p : Phase). unless_closed p events) closed.0))
      (subst (λ (s : inner.ServerCore S). Course l kind before old [] s new) (sym closed.1)
      (subst (λ (d : D). Course l kind before old [] before d) (sym closed.2) (course_none l kind before old)))
  course_if_open before after old new events (inr given) =
      subst (λ (es : List Event). Course l kind before old es after new) (sym (unless_open (phase_of before.halted before.course) events given.0)) given.1.course

  -- ---- what rounds give

  pub course_turned : (old new : Serving S D) → (turns : Turns l kind old new) → Course l kind old.server old.disk (given_in l kind turns.rounds) new.server new.disk
  course_turned old new turns =
      let r = turns.rounds in
      let mid = turns.turned in
      subst (λ (d : D). Course l kind old.server old.disk (given_in l kind r) new.server d) (sym (ap (λ (s : Serving S D). s.disk) turns.same))
      (course_hands l kind old.server mid.server new.server old.disk mid.disk (given_in l kind r) turns.logs.handed.0
      (course_join l kind old.server r.written mid.server old.disk r.between mid.disk r.first (unless_closed (phase_of r.written.halted r.written.course) r.parted)
      (course_hands l kind old.server r.given r.written old.disk r.between r.first r.handed.0 r.gives.course r.handed.1)
      (course_if_open r.written mid.server r.between mid.disk r.parted r.ends))
      turns.logs.handed.1)

  pub course_stepped : (old new : Serving S D) → (steps : Steps l kind old new) → Course l kind old.server old.disk (given_in l kind steps.1.rounds) new.server new.disk
  course_stepped old new steps =
      let waits = paused l kind steps.2 steps.0 new steps.3 in
      subst (λ (s : inner.ServerCore S). Course l kind old.server old.disk (given_in l kind steps.1.rounds) s new.disk) (sym waits.server_is)
      (subst (λ (d : D). Course l kind old.server old.disk (given_in l kind steps.1.rounds) steps.0.server d) (sym waits.disk_is) (course_turned old steps.0 steps.1))

  pub course_made : (rounds : ℕ) (old new : Serving S D) → (makes : Makes l kind rounds old new) → Course l kind old.server old.disk (events_in l kind rounds old new makes) new.server new.disk
  course_made zero old new same = subst (λ (s : Serving S D). Course l kind old.server old.disk [] s.server s.disk) (sym same) (course_none l kind old.server old.disk)
  course_made (suc n) old new (mid, makes, steps) =
      course_join l kind old.server mid.server new.server old.disk mid.disk new.disk (events_in l kind n old mid makes) (given_in l kind steps.1.rounds)
      (course_made n old mid makes) (course_stepped mid new steps)

  -- ---- what was given before a fault

  course_refusal : (cause : Cause) (events : List Event) (before after : inner.ServerCore S) (old new : D) → (refused : IsRefused l kind cause events before old after new)
      → Course l kind before old refused.taken after new
  course_refusal cause events before after old new r =
      course_hands l kind before r.left after old new r.taken r.handed.0
      (subst (λ (es : List Event). Course l kind before old es r.left new) (append-nil r.taken)
      (course_join l kind before r.mid r.left old r.between new r.taken [] r.gives.course
      (subst (λ (es : List Event). Course l kind r.mid r.between es r.left new) (refused_none (with_disk r.mid r.between) (with_disk r.left new) r.event r.fault r.runs)
      (course_refused l kind r.mid r.left r.between new r.event (r.event ∷ []) r.fault refl r.honest_still r.runs))))
      r.handed.1

  course_refused_round : (cause : Cause) (old : Serving S D) (moment : ℕ) (events : List Event) (after : inner.ServerCore S) (new : D)
      → RefusesRound l kind cause old moment events after new → Course l kind old.server old.disk events after new
  course_refused_round cause old moment events after new round = by_place round.refused
    where
      by_place : ((refused : IsRefused l kind cause round.first old.server old.disk after new) × (events ≡ refused.taken))
          ⊎ ((parted : RefusesParted l kind cause old.clients.most_waiting round.first old.server old.disk round.read.sockets old.timeouts.silence after new) × (events ≡ round.first ++ parted.refused.taken))
          → Course l kind old.server old.disk events after new
      by_place (inl (refused, is)) =
          subst (λ (es : List Event). Course l kind old.server old.disk es after new) (sym is) (course_refusal cause round.first old.server after old.disk new refused)
      by_place (inr (p, is)) =
          subst (λ (es : List Event). Course l kind old.server old.disk es after new) (sym is)
          (course_join l kind old.server p.written after old.disk p.between new round.first p.refused.taken
          (course_hands l kind old.server p.given p.written old.disk p.between round.first p.handed.0 p.gives.course p.handed.1)
          (course_refusal cause p.parted p.written after p.between new p.refused))

  course_cut : (old : Serving S D) (moment : ℕ) (events : List Event) (after : inner.ServerCore S) (new : D)
      → CutsRound l kind old moment events after new → Course l kind old.server old.disk events after new
  course_cut old moment events after new cuts = course_hands l kind old.server cuts.given after old.disk new events cuts.handed.0 cuts.gives.course cuts.handed.1

  pub course_ended : (fault : ServeFault) (old : Serving S D) (events : List Event) (new : Serving S D)
      → EndsFor l kind fault old events new → Course l kind old.server old.disk events new.server new.disk
  course_ended (the.Open fault) old events new ends = absurd ends
  course_ended (the.Sockets fault) old events new ends = course_cut old new.moment events new.server new.disk ends
  course_ended (the.Output fault) old events new ends = absurd ends
  course_ended (the.Refused cause) old events new ends = course_refused_round cause old new.moment events new.server new.disk ends
  course_ended the.Memory old events new ends = course_cut old new.moment events new.server new.disk ends

  course_failed : (fault : ServeFault) (old : Serving S D) (events : List Event) (new : Serving S D)
      → StepFails l kind fault old events new → Course l kind old.server old.disk events new.server new.disk
  course_failed fault old events new (inl ends) = course_ended fault old events new ends
  course_failed fault old events new (inr waits) =
      subst (λ (es : List Event). Course l kind old.server old.disk es new.server new.disk) (sym waits.1.1) (course_stepped old new waits.1.0)

  pub course_broken : (rounds : ℕ) (fault : ServeFault) (old : Serving S D) (events : List Event) (new : Serving S D)
      → BreaksOff l kind rounds fault old events new → Course l kind old.server old.disk events new.server new.disk
  course_broken rounds fault old events new b =
      subst (λ (es : List Event). Course l kind old.server old.disk es new.server new.disk) (sym b.all)
      (course_join l kind old.server b.mid.server new.server old.disk b.mid.disk new.disk (events_in l kind b.made old b.mid b.makes) b.last
      (course_made b.made old b.mid b.makes) (course_failed fault b.mid b.last new b.ends))

  -- nothing was given yet
  pub cuts_none : (old : Serving S D) (moment : ℕ) → CutsRound l kind old moment [] old.server old.disk
  cuts_none old moment = record {
    events_are = inl refl;
    given = old.server;
    gives = given_none l kind old.server old.disk;
    handed = (silence, hands_none l old.server);
  }
