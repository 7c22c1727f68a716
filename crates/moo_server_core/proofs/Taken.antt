-- One event, from its parts: its own effect or a turn of the open checkpoint, and then a mark.
use Rattle.std.proofs.Common.{◌≡◌, ◌≢◌, ◌⊎◌, inl, inr, ℕ, List, [], ◌∷◌, Option, Some, None, Bool, true, false, refl, sym, ◌∙◌, ap, subst}
use Rattle.std.specs.Prelude.{MatchBool, ◌&&◌, not}
use Rattle.std.specs.Option.{option_map}
use Rattle.moo_disk.specs.Disk.{DiskKind, Gains, HasRisen}
use Rattle.moo_checkpoint.specs.Checkpoint.{text_of}
use Rattle.moo_server_core.specs.Traces.{Report, Done, Failed}
use Rattle.moo_server_core.specs.Crash.{IsOneOf}
use Rattle.moo_server_core.specs.Turns.{flush_takes, turns_unmarked, turns_marked}
use Rattle.moo_server_core.specs.Courses.{is_closing}
use Rattle.moo_server_core.specs.Seen.{Event, Open, Bytes, Hangup, Moment, Flush, is_flush}
use Rattle.moo_server_core.specs.Application.{Meaning, Output, silence, then_out}
use Rattle.moo_server_core.specs.Meaning.{State, Entry, Acts, Reports, Marks, Steps, Passes, Takes, is_passed_over, refusal, trace_of}
use Rattle.moo_server_core.specs.declared.server_core.Open as declared
use Rattle.moo_server_core.specs.Server.{Does, MarkSpells, Opens, Turns, text_of_open, turns_of}
use Rattle.moo_server_core.proofs.Joining.{IsOneOrNone, survives_one, gains_none}

pub flush_is : (event : Event) → is_flush event ≡ true → event ≡ Flush
flush_is (Open c) is = absurd (cc)
flush_is (Bytes c piece) is = absurd (cc)
flush_is (Hangup c) is = absurd (cc)
flush_is (Moment moment) is = absurd (cc)
flush_is Flush is = refl

pub isnt_flush : (event : Event) → is_flush event ≡ false → event ≢ Flush
isnt_flush event is same = let flush : is_flush event ≡ true = ap is_flush same in cc

pub one_or_none : (o : Option declared.Open) → IsOneOrNone (text_of_open o)
one_or_none None = inl refl
one_or_none (Some o) = inr (text_of o.checkpoint, refl)

no_texts : (o : Option declared.Open) → text_of_open o ≡ [] → o ≡ None
no_texts None is = refl
no_texts (Some o) is = absurd (cc)

not_flush : (flush : Bool) (left : ℕ) → flush ≡ false → flush_takes flush left ≡ left
not_flush flush left is = subst (λ (b : Bool). flush_takes b left ≡ left) (sym is) refl

unmarked_turns : (report : Option Report) (flush : Bool) (left mid : ℕ) → (report ≡ None → mid ≡ flush_takes flush left) → (report ≢ None → mid ≡ 0)
    → mid ≡ turns_unmarked left flush report
unmarked_turns None flush left mid one_less closed = one_less refl
unmarked_turns (Some report) flush left mid one_less closed = closed (λ is. cc)

-- how the open checkpoint's turns go on
pub record Counted (was mid : Option declared.Open) (flush : Bool) (report : Option Report) : Type 0 where
  pub one_less : report ≡ None → turns_of mid ≡ flush_takes flush (turns_of was)
  pub not_last : report ≡ None → flush ≡ true → turns_of was ≢ 1
  pub last : report ≡ Some Done → turns_of was ≡ 1
  pub closed : report ≢ None → turns_of mid ≡ 0

module _ {Application Saved : Type 0} (m : Meaning Application Saved) where
  opens_none : (mark : Option Saved) (old new : Option declared.Open) → Opens m mark old new → option_map m.text_of mark ≡ None → text_of_open new ≡ text_of_open old
  opens_none None old new opens is = ap text_of_open opens
  opens_none (Some saved) old new opens is = absurd (cc)

  opens_some : (mark : Option Saved) (old new : Option declared.Open) → Opens m mark old new → (text : List ℕ) → option_map m.text_of mark ≡ Some text
      → text_of_open new ≡ text ∷ []
  opens_some None old new opens text is = absurd (cc)
  opens_some (Some saved) old new opens text is =
      let same : m.text_of saved ≡ text = cc in
      ap text_of_open opens.1 ∙ ap (λ (t : List ℕ). t ∷ []) (opens.3 ∙ same)

  opens_turns : (mark : Option Saved) (old new : Option declared.Open) → Opens m mark old new → turns_of new ≡ turns_marked (option_map m.text_of mark) (turns_of old)
  opens_turns None old new opens = ap turns_of opens
  opens_turns (Some saved) old new opens = ap turns_of opens.1 ∙ opens.4

  module _ {D : Type 0} (kind : DiskKind D) where
    -- if no checkpoint is open after a turn, the turn was the last of one, or the device failed in it
    pub over_if_none : (before after : State Application) (was is : Option declared.Open) (old new : D) (report : Option Report) (out : Output)
        → Turns m kind before after was is old new report out → is ≡ None → was ≢ None → (turns_of was ≡ 1) ⊎ HasRisen (kind.failures old) (kind.failures new)
    over_if_none before after was is old new None out turns none some = absurd (some (no_texts was (sym (turns.unreported refl) ∙ ap text_of_open none)))
    over_if_none before after was is old new (Some Done) out turns none some = inl (turns.last refl)
    over_if_none before after was is old new (Some Failed) out turns none some = inr turns.counts

    -- an event from its parts
    pub taken : (before reported after : State Application) (was mid is : Option declared.Open) (old new : D) (entry : Entry Saved)
        → Takes m before entry after
        → Opens m entry.mark mid is → MarkSpells m entry.mark
        → (kind.honest old → Gains (IsOneOf (text_of_open was)) (kind.view old) (kind.view new))
        → (entry.report ≡ Some Done → kind.honest old → (c : List ℕ) → (kind.view new).may_leave c → IsOneOf (text_of_open was) c)
        → (entry.report ≡ None → text_of_open mid ≡ text_of_open was) → (entry.report ≢ None → text_of_open mid ≡ [])
        → Counted was mid (is_flush entry.event) entry.report
        → Does m kind before after was is old new entry
    taken before reported after was mid is old new entry takes opens spelled gains done unreported reported_none counted = record {
      takes = takes;
      spelled = spelled;
      survives = λ h. survives_one kind old new (text_of_open was) (text_of_open mid) (text_of_open is) (trace_of m.text_of entry)
          (one_or_none was) (gains h) (λ done_is. done done_is h) unreported reported_none (opens_none entry.mark mid is opens) (opens_some entry.mark mid is opens);
      done = λ h done_is. done done_is h;
      in_time = ((λ one flush none. counted.not_last none flush one), counted.last, tt);
      turns = opens_turns entry.mark mid is opens
          ∙ ap (turns_marked (option_map m.text_of entry.mark))
          (unmarked_turns entry.report (is_flush entry.event) (turns_of was) (turns_of mid) counted.one_less counted.closed);
    }

    takes_steps : (before acted reported after : State Application) (entry : Entry Saved) (own finished started : Output)
        → refusal m before entry.event ≡ None → is_passed_over m before entry.event ≡ false
        → Acts m entry.event before own acted → Reports m entry.event entry.report acted finished reported → Marks m entry.mark reported started after
        → entry.out ≡ then_out own (then_out finished started) → Takes m before entry after
    takes_steps before acted reported after entry own finished started accepted counts acts reports marks out = record {
      accepted = accepted;
      takes = subst (λ (b : Bool). MatchBool b (Passes m before entry after) (Steps m before entry after)) (sym counts)
          (record { acted = acted; reported = reported; own = own; finished = finished; started = started; acts = acts; reports = reports; marks = marks; out = out });
    }

    -- a `Flush`
    pub flushed : (before mid_state after : State Application) (was mid is : Option declared.Open) (old new : D) (report : Option Report) (mark : Option Saved) (finished started : Output)
        → refusal m before Flush ≡ None → is_passed_over m before Flush ≡ false
        → Turns m kind before mid_state was mid old new report finished
        → Marks m mark mid_state started after → Opens m mark mid is → MarkSpells m mark
        → (kind.honest old → Gains (IsOneOf (text_of_open was)) (kind.view old) (kind.view new))
        → Does m kind before after was is old new (record { event = Flush; report = report; mark = mark; out = then_out finished started })
    flushed before mid_state after was mid is old new report mark finished started accepted counts turns marks opens spelled gains =
        let entry : Entry Saved = record { event = Flush; report = report; mark = mark; out = then_out finished started } in
        taken before mid_state after was mid is old new entry
        (takes_steps before before mid_state after entry silence finished started accepted counts (refl, refl) turns.reports marks refl)
        opens spelled gains turns.done turns.unreported (λ some. ap text_of_open (turns.reported some))
        (record { one_less = λ none. (turns.one_less none).0; not_last = λ none flush. (turns.one_less none).1; last = turns.last; closed = λ some. ap turns_of (turns.reported some) })

    -- another event
    pub acted : (before mid_state after : State Application) (was mid is : Option declared.Open) (old : D) (event : Event) (mark : Option Saved) (own started : Output)
        → is_flush event ≡ false → refusal m before event ≡ None → is_passed_over m before event ≡ false
        → Acts m event before own mid_state → mid ≡ was
        → Marks m mark mid_state started after → Opens m mark mid is → MarkSpells m mark
        → Does m kind before after was is old old (record { event = event; report = None; mark = mark; out = then_out own started })
    acted before mid_state after was mid is old event mark own started other accepted counts acts same marks opens spelled =
        let entry : Entry Saved = record { event = event; report = None; mark = mark; out = then_out own started } in
        taken before mid_state after was mid is old old entry
        (takes_steps before mid_state mid_state after entry own silence started accepted counts acts (refl, refl) marks refl)
        opens spelled (λ h. gains_none (kind.view old)) (λ is_done. absurd (cc)) (λ _. ap text_of_open same) (λ some. absurd (some refl))
        (record {
          one_less = λ _. ap turns_of same ∙ sym (not_flush (is_flush event) (turns_of was) other);
          not_last = λ _ flush. absurd (cc);
          last = λ is_done. absurd (cc);
          closed = λ some. absurd (some refl);
        })

    -- an event that the closing server passes over
    pub passed_over : (state : State Application) (was : Option declared.Open) (disk : D) (event : Event) → is_closing state.course ≡ true → is_flush event ≡ false
        → refusal m state event ≡ None
        → Does m kind state state was was disk disk (record { event = event; report = None; mark = None; out = silence })
    passed_over state was disk event closing other accepted =
        let entry : Entry Saved = record { event = event; report = None; mark = None; out = silence } in
        let passed : is_passed_over m state event ≡ true = ap (λ (b : Bool). b && not (is_flush event)) closing ∙ ap not other in
        taken state state state was was was disk disk entry
        (record {
          accepted = accepted;
          takes = subst (λ (b : Bool). MatchBool b (Passes m state entry state) (Steps m state entry state)) (sym passed)
              (record { same = refl; report = refl; mark = refl; out = refl });
        })
        refl tt (λ h. gains_none (kind.view disk)) (λ is_done. absurd (cc)) (λ _. refl) (λ some. absurd (some refl))
        (record {
          one_less = λ _. sym (not_flush (is_flush event) (turns_of was) other);
          not_last = λ _ flush. absurd (cc);
          last = λ is_done. absurd (cc);
          closed = λ some. absurd (some refl);
        })
